-- What a leader tells has the keys of its plan.
use Rattle.std.proofs.Common.{◌≡◌, List, [], ◌∷◌, map, refl, ap}
use Rattle.dioc_terms.specs.declared.names.Role.{Role}
use Rattle.dioc_terms.specs.declared.names.Index.{Index}
use Rattle.dioc_terms.specs.declared.processes.Tag.{Tag}
use Rattle.dioc_terms.specs.Processes.{Load}
use Rattle.process_steps.specs.Steps.{key, letters_to}
use Rattle.aux_messages.specs.Plans.{keys_of}

-- one key to each of the others, whatever is carried
pub plan_is_told : (leader : Role) (others : List Role) (i : Index) (tag : Tag) (carries : Role → Load)
    → map (λ other. key leader other i tag) others ≡ keys_of (letters_to leader others i tag carries)
plan_is_told leader [] i tag carries = refl
plan_is_told leader (other ∷ others) i tag carries =
    ap (λ ks. key leader other i tag ∷ ks) (plan_is_told leader others i tag carries)
