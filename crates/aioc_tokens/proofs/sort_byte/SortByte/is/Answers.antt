use Rattle.std.proofs.Common.{ap, sym, ◌∙◌}
use Rattle.std.proofs.lemmas.Bool.{eqb-true, eq-eqb}
use Rattle.aioc_tokens.specs.SortBytes.{sort_at}
use Rattle.aioc_tokens.proofs.SortPlaces.{one_byte}
use Rattle.aioc_tokens.proofs.sort_byte.SortByte.is.Goals as goal

pub returns : goal.returns
returns c =
    let byte = c.self.inside.byte in
    let other = c.byte_of.result in (
      (λ same. sym c.self.view_is ∙ ap sort_at (eqb-true byte other same) ∙ c.byte_of.ensures.value),
      (λ same. eq-eqb byte other (one_byte byte other c.self.invariant c.byte_of.ensures.within (c.self.view_is ∙ same ∙ sym c.byte_of.ensures.value))),
    )
