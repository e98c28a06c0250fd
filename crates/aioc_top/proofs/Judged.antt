-- What the judgement of a trace is told as.
use Rattle.std.proofs.Common.{◌≡◌, ◌≤◌, ◌+◌, ℕ, suc, List, [], ◌∷◌, Bool, true, false, Option, Some, None, Result, Ok, Err, IfOk, refl, sym, ap, ◌∙◌, subst, arith}
use Rattle.std.specs.Prelude.{not, length, if◌then◌else◌, option_and_then}
use Rattle.std.specs.Option.{option_map_or}
use Rattle.dioc_terms.specs.declared.entries.Entry.{Entry}
use Rattle.dioc_terms.specs.declared.faults.Memory.{Memory}
use Rattle.dioc_terms.specs.declared.bundles.Last.{Last}
use Rattle.dioc_terms.specs.declared.bundles.Last.TheVariants as last
use Rattle.dioc_terms.specs.Messages.{visible}
use Rattle.dioc_terms.specs.Plain.{PlainBundle}
use Rattle.global_steps.specs.Follow.{State, play, stray}
use Rattle.global_steps.specs.Running.{ended}
use Rattle.aioc_top.specs.Judging.{is_cut_short}
use Rattle.aioc_top.specs.declared.replies.Written.{Written}
use Rattle.aioc_top.specs.Replies.{Reply, reply_of, judgement, replay_reply, yes, no, is_too_short}

-- ---- the reply of a judged trace

too_short : (b : PlainBundle) (said : Option Last) (es : List Entry) (S : State) → play b es ≡ Some S → is_too_short b said es ≡ is_cut_short said (ended S.running)
too_short b None es S h = refl
too_short b (Some (last.Stopped n)) es S h = refl
too_short b (Some (last.Ended n)) es S h = ap (λ o. if option_map_or (λ (T : State). ended T.running) o false then false else true) h

pub strays : (b : PlainBundle) (n : ℕ) → stray b b.trace.entries ≡ Some n → replay_reply b ≡ no n
strays b n h = ap (judgement b) h

pub plays_whole : (b : PlainBundle) (S : State) → stray b b.trace.entries ≡ None → play b (visible b.trace.entries) ≡ Some S
    → replay_reply b ≡ (if is_cut_short b.trace.last (ended S.running) then no (suc (length b.trace.entries)) else yes (length (visible b.trace.entries)))
plays_whole b S none plays =
    ap (judgement b) none
    ∙ ap (λ t. if t then no (suc (length b.trace.entries)) else yes (length (visible b.trace.entries))) (too_short b b.trace.last (visible b.trace.entries) S plays)

-- ---- what is replied

pub mapped_reply : {P Q : Written → Type 0} → ((written : Written) → P written → Q written) → (r : Result Written Memory) → IfOk r P → IfOk r Q
mapped_reply f (Ok written) h = f written h
mapped_reply f (Err memory) h = h

pub with_reply : (r : Result Written Memory) (x y : Reply) → x ≡ y → IfOk r (λ written. reply_of written ≡ x) → IfOk r (λ written. reply_of written ≡ y)
with_reply r x y same h = subst (λ reply. IfOk r (λ written. reply_of written ≡ reply)) same h

module _ (b : PlainBundle) (r : Result Written Memory) (entries : List Entry) (same : entries ≡ b.trace.entries) where
  pub told_stray : (n : ℕ) → stray b b.trace.entries ≡ Some n → IfOk r (λ written. reply_of written ≡ no n) → IfOk r (λ written. reply_of written ≡ replay_reply b)
  told_stray n is h = with_reply r (no n) (replay_reply b) (sym (strays b n is)) h

  module _ (S : State) (over : Bool) (none : stray b b.trace.entries ≡ None) (plays : play b (visible b.trace.entries) ≡ Some S) (is : over ≡ ended S.running)
      (short : is_cut_short b.trace.last over ≡ true → IfOk r (λ written. reply_of written ≡ no (length entries + 1)))
      (whole : is_cut_short b.trace.last over ≡ false → IfOk r (λ written. reply_of written ≡ yes (length (visible entries)))) where
    reply_is : (t : Bool) → is_cut_short b.trace.last over ≡ t → replay_reply b ≡ (if t then no (suc (length b.trace.entries)) else yes (length (visible b.trace.entries)))
    reply_is t e =
        plays_whole b S none plays
        ∙ ap (λ u. if u then no (suc (length b.trace.entries)) else yes (length (visible b.trace.entries))) (ap (is_cut_short b.trace.last) (sym is) ∙ e)

    by_cut : (t : Bool) → is_cut_short b.trace.last over ≡ t → IfOk r (λ written. reply_of written ≡ replay_reply b)
    by_cut true e =
        let count : length entries + 1 ≡ suc (length b.trace.entries) = omega (arith, ap length same) in
        with_reply r (no (length entries + 1)) (replay_reply b) (ap no count ∙ sym (reply_is true e)) (short e)
    by_cut false e = with_reply r (yes (length (visible entries))) (replay_reply b) (ap (λ es. yes (length (visible es))) same ∙ sym (reply_is false e)) (whole e)

    pub told_whole : IfOk r (λ written. reply_of written ≡ replay_reply b)
    told_whole = by_cut (is_cut_short b.trace.last over) refl
