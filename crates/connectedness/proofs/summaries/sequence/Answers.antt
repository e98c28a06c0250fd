use Rattle.std.proofs.Common.{refl, sym, ap, ◌∙◌, subst}
use Rattle.std.specs.Option.{option_or}
use Rattle.dioc_terms.specs.Terms.{Seq}
use Rattle.connectedness.specs.Connected.{first_index, gap_at, earlier, first_gap}
use Rattle.connectedness.specs.Summaries.{IsGapOf}
use Rattle.connectedness.proofs.SummaryLemmas.{seq_first, seq_roles, kept_or}
use Rattle.connectedness.proofs.summaries.sequence.Goals as goal

pub returns : goal.returns
returns c = λ cast I J a b.
    let s = c.args.first.now in
    let t = c.args.second.now in
    record {
      first = c.or.ensures ∙ ((λ j. option_or (a.first j) (b.first j)) ∙ seq_first I J (first_index I) refl);
      roles = c.in_ok-roles.ensures ∙ seq_roles cast I J s t a b;
      gap = subst (λ kept. IsGapOf cast kept (first_gap cast (Seq I J))) (sym (c.or-3.ensures ∙ ap (λ rest. option_or c.gap_between-gap.result rest) c.or-2.ensures))
          (kept_or cast c.gap_between-gap.result (option_or s.gap t.gap) (gap_at cast I J) (earlier (first_gap cast I) (first_gap cast J))
          (c.gap_between-gap.ensures cast I J a b) (kept_or cast s.gap t.gap (first_gap cast I) (first_gap cast J) a.gap b.gap));
    }
