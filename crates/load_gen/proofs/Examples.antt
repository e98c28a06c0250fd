-- Small made bundles, computed: the kinds, the number of nodes and the text of the first rows.
use Rattle.std.proofs.Common.{◌≡◌, [], ◌∷◌, refl}
use Rattle.dioc_terms.specs.Terms.{nodes}
use Rattle.load_gen.specs.declared.draws.Kind.TheVariants.{Message, Choice, Loop, Scope}
use Rattle.load_gen.specs.Draws.{drawn, kinds}
use Rattle.load_gen.specs.Made.{choreography}

first_number : drawn 1 ≡ 7806831264735756412
first_number = refl

three_kinds : kinds 3 1 ≡ Loop ∷ Choice ∷ Message ∷ []
three_kinds = refl

three_blocks : nodes (choreography 1 3) ≡ 30
three_blocks = refl

one_kind : kinds 1 0 ≡ Scope ∷ []
one_kind = refl

one_block : nodes (choreography 0 1) ≡ 20
one_block = refl
