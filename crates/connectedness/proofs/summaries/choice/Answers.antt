-- The two branches side by side, of which one may be empty.
use Rattle.std.proofs.Common.{◌≡◌, ◌||◌, is_none, refl, sym, ap, ◌∙◌, zip, map}
use Rattle.dioc_terms.specs.Equality.{role_eq}
use Rattle.dioc_terms.specs.declared.names.Role.{Role}
use Rattle.connectedness.specs.Summaries.{in_choice}
use Rattle.connectedness.specs.declared.summaries.Presence.{Presence}
use Rattle.connectedness.proofs.SummaryLemmas.{if_roles}
use Rattle.connectedness.proofs.summaries.choice.Goals as goal
use Rattle.connectedness.proofs.summaries.choice.Goals.{then-is_empty, else-is_empty}

pub returns : goal.returns
returns c = λ g I J a b.
    let s = c.args.yes.now in
    let t = c.args.no.now in
    let cast = c.args.cast.now in
    let both = c.in_ok-both.ensures cast I J a b in
    let one_empty : c.if-is_empty.one_empty ≡ (is_none s.first || is_none t.first) = elim c.if-is_empty.branch [
      | then-is_empty w ↦ (w.one_empty-is ∙ w.if-is_empty.true) ∙ sym (ap (λ none. none || is_none t.first) (sym c.is_empty.ensures ∙ w.if-is_empty.true))
      | else-is_empty w ↦ (w.one_empty-is ∙ w.is_empty-one_empty.ensures) ∙ sym (ap (λ none. none || is_none t.first) (sym c.is_empty.ensures ∙ w.if-is_empty.false))
    ] in
    record {
      first = refl;
      roles = c.in_ok-roles.ensures
          ∙ (ap (λ one. map (λ (pair : Role × Presence). in_choice one (role_eq pair.0 c.args.leader.now) pair.1) (zip cast c.in_ok-both.both.roles.items)) one_empty
          ∙ if_roles cast c.args.index c.args.leader.now g I J s t c.in_ok-both.both a b both);
      gap = both.gap;
    }
