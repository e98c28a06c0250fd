use Rattle.std.proofs.Common.{refl, sym, ◌∙◌, subst}
use Rattle.std.specs.Option.{option_or}
use Rattle.dioc_terms.specs.Terms.{Par}
use Rattle.connectedness.specs.Connected.{first_index, first_gap}
use Rattle.connectedness.specs.Summaries.{IsGapOf}
use Rattle.connectedness.proofs.SummaryLemmas.{par_first, par_roles, kept_or}
use Rattle.connectedness.proofs.summaries.parallel.Goals as goal

pub returns : goal.returns
returns c = λ cast I J a b.
    let s = c.args.left.now in
    let t = c.args.right.now in
    record {
      first = c.or.ensures ∙ ((λ j. option_or (a.first j) (b.first j)) ∙ par_first I J (first_index I) refl);
      roles = c.in_ok-roles.ensures ∙ par_roles cast I J s t a b;
      gap = subst (λ kept. IsGapOf cast kept (first_gap cast (Par I J))) (sym c.or-2.ensures)
          (kept_or cast s.gap t.gap (first_gap cast I) (first_gap cast J) a.gap b.gap);
    }
