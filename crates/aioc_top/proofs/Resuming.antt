-- What `resume` replies, from how far the network came with the entries.
use Rattle.std.proofs.Common.{◌≡◌, ◌≤◌, ◌<◌, ℕ, List, length, take, Bool, true, false, Option, Some, None, IfOk, IsSome, Result, refl, sym, ap, ◌∙◌, subst}
use Rattle.std.specs.Prelude.{nat_le, if◌then◌else◌}
use Rattle.std.proofs.lemmas.List.{take_all}
use borrow.Author.Tests.{le-leb, lt-leb}
use Rattle.dioc_terms.specs.declared.entries.Entry.{Entry}
use Rattle.dioc_terms.specs.declared.faults.Memory.{Memory}
use Rattle.dioc_terms.specs.Plain.{PlainBundle}
use Rattle.command_words.specs.declared.commands.Options.{Options}
use Rattle.network_steps.specs.Network.{Network, network_run}
use Rattle.network_steps.specs.Schedule.{sched_from}
use Rattle.net_drive.specs.Resumed.{run_stray}
use Rattle.net_drive.specs.ResumedLaws.{RunStraysAreExact}
use Rattle.aioc_top.specs.declared.replies.Written.{Written}
use Rattle.aioc_top.specs.Replies.{no, reply_of, resume_reply, resume_stray, resumed_or_no, resume_history, run_reply}
use Rattle.aioc_top.proofs.Judged.{with_reply}

module _ (options : Options) (b : PlainBundle) (r : Result Written Memory) where
  -- an entry strays
  pub strayed : (n : ℕ) → resume_stray options b ≡ Some n → IfOk r (λ written. reply_of written ≡ no n) → IfOk r (λ written. reply_of written ≡ resume_reply options b)
  strayed n is h = with_reply r (no n) (resume_reply options b) (sym (ap (resumed_or_no options b) is)) h

  -- none does
  pub went_on : (H : List Entry) → resume_stray options b ≡ None → H ≡ resume_history options b → IfOk r (λ written. reply_of written ≡ run_reply options b H)
      → IfOk r (λ written. reply_of written ≡ resume_reply options b)
  went_on H none is h = with_reply r (run_reply options b H) (resume_reply options b) (ap (run_reply options b) is ∙ sym (ap (resumed_or_no options b) none)) h

is_some : (o : Option Network) (N : Network) → o ≡ Some N → IsSome o
is_some o N e = subst IsSome (sym e) refl

module _ (strays : RunStraysAreExact) (options : Options) (b : PlainBundle) (r : Result Written Memory) (es : List Entry) (N : Network) (runs : network_run b es ≡ Some N) where
  none_strays : es ≡ take options.steps b.trace.entries → resume_stray options b ≡ None
  none_strays is = ap (run_stray b) (sym is) ∙ (strays.none b es).1 (is_some (network_run b es) N runs)

  history_by : (t : Bool) → nat_le (length b.trace.entries) options.steps ≡ t
      → resume_history options b ≡ (if t then sched_from b b.trace.entries options.seed options.steps else take options.steps b.trace.entries)
  history_by t e = ap (λ u. if u then sched_from b b.trace.entries options.seed options.steps else take options.steps b.trace.entries) e

  -- all entries were made again, and the schedule went on
  pub whole : es ≡ b.trace.entries → length es ≤ options.steps → IfOk r (λ written. reply_of written ≡ run_reply options b (sched_from b es options.seed options.steps))
      → IfOk r (λ written. reply_of written ≡ resume_reply options b)
  whole is few h =
      let short : length b.trace.entries ≤ options.steps = subst (λ (xs : List Entry). length xs ≤ options.steps) is few in
      let none = none_strays (is ∙ sym (take_all options.steps b.trace.entries short)) in
      let same : sched_from b es options.seed options.steps ≡ resume_history options b =
      ap (λ xs. sched_from b xs options.seed options.steps) is ∙ sym (history_by true (le-leb (length b.trace.entries) options.steps short)) in
      went_on options b r (sched_from b es options.seed options.steps) none same h

  -- there are more than a run may have
  pub cut : es ≡ take options.steps b.trace.entries → options.steps < length b.trace.entries → IfOk r (λ written. reply_of written ≡ run_reply options b es)
      → IfOk r (λ written. reply_of written ≡ resume_reply options b)
  cut is long h = went_on options b r es (none_strays is) (is ∙ sym (history_by false (lt-leb (length b.trace.entries) options.steps long))) h
