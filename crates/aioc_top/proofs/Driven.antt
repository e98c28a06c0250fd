-- What `drive` replies to a trace that was driven, and what its status tells.
use Rattle.std.proofs.Common.{◌≡◌, ℕ, suc, List, [], ◌∷◌, length, Bool, true, false, not, Option, Some, None, IsSome, IsSomeAnd, refl, sym, ap, ◌∙◌, subst, inl, inr}
use Rattle.std.specs.Prelude.{if◌then◌else◌, is_some, unwrap_or}
use Rattle.std.specs.List.{list_all}
use Rattle.std.proofs.lemmas.Bool.{and_from, cond-false, cond-true, ltb-false, ltb-true}
use Rattle.dioc_terms.specs.declared.entries.Entry.{Entry}
use Rattle.dioc_terms.specs.Messages.{is_aux, visible}
use Rattle.dioc_terms.specs.Plain.{PlainBundle}
use Rattle.command_words.specs.declared.commands.Options.{Options}
use Rattle.marked_laws.specs.Laws.{IsSound}
use Rattle.net_laws.specs.Headline.{EveryRun}
use Rattle.net_laws.specs.Laws.{AcceptedIsSound}
use Rattle.net_laws.proofs.MoveLemmas.{some_got}
use Rattle.net_drive.specs.Driven.{driven}
use Rattle.net_drive.specs.Laws.{DrivenExactly, DrivenRuns, Drives}
use Rattle.net_drive.specs.Strays.{DriveStraysAreExact}
use Rattle.rule_checks.specs.Refusals.{IsAccepted}
use Rattle.aioc_top.specs.declared.replies.End.TheVariants as end
use Rattle.aioc_top.specs.declared.status.Status.{Status}
use Rattle.aioc_top.specs.declared.status.Status.TheVariants as status
use Rattle.aioc_top.specs.Judging.{is_cut_short}
use Rattle.aioc_top.specs.Replies.{Reply, drive_history, drive_reply, driven_or_no, driven_reply, is_finished, is_too_long, last_of, no, section_number, trace_stray}
use Rattle.aioc_top.specs.Serve.{DriveTold, IsDrivenRun}
use Rattle.aioc_top.specs.Verdicts.{status_of_end}
use Rattle.trace_text.specs.Runs.{run_text}

-- what is visible is no auxiliary entry
pub all_shown : (es : List Entry) → list_all (λ e. not (is_aux e)) (visible es) ≡ true
all_shown [] = refl
all_shown (e ∷ es) = by_test (not (is_aux e)) refl (all_shown es)
  where
    by_test : (t : Bool) → not (is_aux e) ≡ t → list_all (λ x. not (is_aux x)) (visible es) ≡ true
        → list_all (λ x. not (is_aux x)) (if t then e ∷ visible es else visible es) ≡ true
    by_test true shown rest = and_from (not (is_aux e)) (list_all (λ x. not (is_aux x)) (visible es)) shown rest
    by_test false shown rest = rest

-- the reply to a trace that is too long, and to one that isn't
pub long_reply : (options : Options) (b : PlainBundle) → is_too_long options b ≡ true → drive_reply options b ≡ record { end = end.Limit; text = [] }
long_reply options b long = cond-true (is_too_long options b) (record { end = end.Limit; text = [] }) (driven_or_no b (trace_stray b)) long

pub short_reply : (options : Options) (b : PlainBundle) → is_too_long options b ≡ false → drive_reply options b ≡ driven_or_no b (trace_stray b)
short_reply options b short = cond-false (is_too_long options b) (record { end = end.Limit; text = [] }) (driven_or_no b (trace_stray b)) short

no_limit : status.Limit ≡ status.No → ⊥
no_limit is = cc

done_limit : status.Limit ≡ status.Done → ⊥
done_limit is = cc

-- only the reply to a trace that is too long tells the limit, and it has no text
module _ (options : Options) (b : PlainBundle) where
  cut_goes : (H : List Entry) (cut : Bool) → status.Limit ≡ status_of_end (if cut then no (suc (length b.trace.entries)) else record {
    end = end.Done;
    text = run_text true false H (last_of (is_finished b H) (length H));
  }).end → ⊥
  cut_goes H true is = no_limit is
  cut_goes H false is = done_limit is

  short_goes : (o : Option ℕ) → status.Limit ≡ status_of_end (driven_or_no b o).end → ⊥
  short_goes None is = cut_goes (drive_history b) (is_cut_short b.trace.last (is_finished b (drive_history b))) is
  short_goes (Some n) is = no_limit is

  silent_by : (long : Bool) → is_too_long options b ≡ long → status.Limit ≡ status_of_end (drive_reply options b).end → (drive_reply options b).text ≡ []
  silent_by true long is = ap (λ (r : Reply). r.text) (long_reply options b long)
  silent_by false short is = absurd (short_goes (trace_stray b) (is ∙ ap (λ (r : Reply). status_of_end r.end) (short_reply options b short)))

  pub limit_is_silent : status.Limit ≡ status_of_end (drive_reply options b).end → (drive_reply options b).text ≡ []
  limit_is_silent is = silent_by (is_too_long options b) refl is

module _ (strays : DriveStraysAreExact) (b : PlainBundle) (sound : IsSound b) where
  -- a driven history is that of the reply
  pub driven_is : (H : List Entry) → driven b (visible b.trace.entries) ≡ Some H → driven_or_no b (trace_stray b) ≡ driven_reply b H
  driven_is H is =
      ap (driven_or_no b) ((strays.none b (visible b.trace.entries) sound (all_shown b.trace.entries)).1 (ap is_some is))
      ∙ ap (λ o. driven_reply b (unwrap_or o [])) is

  module _ (runs : DrivenRuns) (exactly : DrivenExactly) (every : EveryRun) (accepted : IsAccepted b) where
    -- where no entry strays there is a driven run
    driven_run : trace_stray b ≡ None → IsDrivenRun b (drive_history b)
    driven_run none =
        let t = visible b.trace.entries in
        let some : IsSome (driven b t) = (strays.none b t sound (all_shown b.trace.entries)).0 none in
        let got = some_got (driven b t) some in
        let drivable = (exactly b t sound (all_shown b.trace.entries)).0 some in
        let drives : Drives b t got.0 = subst (λ o. IsSomeAnd o (Drives b t)) got.1 (runs b t sound drivable.0 drivable.1) in
        let same : drive_history b ≡ got.0 = ap (λ o. unwrap_or o []) got.1 in
        subst (IsDrivenRun b) (sym same) (record {
          driven = got.1;
          shows = drives.shows;
          network = drives.network;
          headline = every b got.0 drives.network accepted drives.runs;
        })

    module _ (options : Options) (s : Status) (is : s ≡ status_of_end (drive_reply options b).end) where
      by_reply : (reply : Reply) → drive_reply options b ≡ reply → DriveTold options b (status_of_end reply.end) → DriveTold options b s
      by_reply reply same told = subst (DriveTold options b) (sym (is ∙ ap (λ (r : Reply). status_of_end r.end) same)) told

      by_cut : is_too_long options b ≡ false → trace_stray b ≡ None → (cut : Bool) → is_cut_short b.trace.last (is_finished b (drive_history b)) ≡ cut
          → DriveTold options b s
      by_cut short none true is_cut =
          by_reply (no (suc (length b.trace.entries)))
          (short_reply options b short ∙ ap (driven_or_no b) none ∙ cond-true (is_cut_short b.trace.last (is_finished b (drive_history b))) _ _ is_cut)
          (ltb-false options.steps (length (visible b.trace.entries)) short, inr (driven_run none, is_cut))
      by_cut short none false is_whole =
          by_reply (record { end = end.Done; text = run_text true false (drive_history b) (last_of (is_finished b (drive_history b)) (length (drive_history b))) })
          (short_reply options b short ∙ ap (driven_or_no b) none ∙ cond-false (is_cut_short b.trace.last (is_finished b (drive_history b))) _ _ is_whole)
          (ltb-false options.steps (length (visible b.trace.entries)) short, driven_run none)

      by_stray : is_too_long options b ≡ false → (o : Option ℕ) → trace_stray b ≡ o → DriveTold options b s
      by_stray short None none = by_cut short none (is_cut_short b.trace.last (is_finished b (drive_history b))) refl
      by_stray short (Some n) counted =
          by_reply (no (section_number b.trace.entries n)) (short_reply options b short ∙ ap (driven_or_no b) counted) (
            ltb-false options.steps (length (visible b.trace.entries)) short,
            inl (n, counted, (strays.some b (visible b.trace.entries) n sound (all_shown b.trace.entries)).0 counted),
          )

      by_long : (long : Bool) → is_too_long options b ≡ long → DriveTold options b s
      by_long true long =
          by_reply (record { end = end.Limit; text = [] }) (long_reply options b long) (ltb-true options.steps (length (visible b.trace.entries)) long)
      by_long false short = by_stray short (trace_stray b) refl

-- what the status tells
pub drive_told : DriveStraysAreExact → DrivenRuns → DrivenExactly → EveryRun → AcceptedIsSound → (options : Options) (b : PlainBundle) → IsAccepted b
    → (s : Status) → s ≡ status_of_end (drive_reply options b).end → DriveTold options b s
drive_told strays runs exactly every sound options b accepted s is =
    by_long strays b (sound b accepted) runs exactly every accepted options s is (is_too_long options b) refl
