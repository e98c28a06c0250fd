-- A command and the bytes of a text have verdicts of one kind alone, as far as the bytes decide it.
use Rattle.std.proofs.Common.{◌≡◌, ◌<◌, ℕ, List, length, Bool, true, false, refl, sym, ap, ◌∙◌, subst, arith, Option, Some, None}
use Rattle.std.specs.Prelude.{if◌then◌else◌}
use Rattle.limits.specs.Limits.{most_bytes}
use Rattle.dioc_terms.specs.Plain.{PlainBundle}
use Rattle.bundle_text.specs.Grammar.{Spells}
use Rattle.bundle_text.specs.Laws.{OneBundle}
use Rattle.marked_laws.proofs.Shapes.{none_some}
use Rattle.command_words.specs.declared.commands.Options.{Options}
use Rattle.command_words.specs.declared.commands.Command.{Command}
use Rattle.command_words.specs.declared.commands.Command.TheVariants as command
use Rattle.aioc_top.specs.Reasons.{Reason}
use Rattle.aioc_top.specs.Replies.{Reply, Replies, is_finished, refusal_of, session_options, unread_reply}
use Rattle.aioc_top.specs.Verdicts.{Verdict, TooLong, Unspelled, Refused, Replied, Cause, Comes, ComesBy, ComesOfInput, ComesOfSessions, ComesOfText, MayReply, Refuses, SpellsNothing, status_of, status_of_end}
use Rattle.aioc_top.specs.Serve.{decided}
use Rattle.aioc_top.specs.declared.replies.End.TheVariants as end
use Rattle.aioc_top.specs.declared.status.Status.{Status}
use Rattle.aioc_top.specs.declared.status.Status.TheVariants as status
use Rattle.aioc_top.proofs.Table.{prints_always}

-- how the threads of a run end isn't decided
run_decided : (options : Options) (t : Bool) → decided (command.Run options) (status_of_end (if t then end.Done else end.Limit)) ≡ status.Done
run_decided options true = refl
run_decided options false = refl

run_ends : (options : Options) (b : PlainBundle) (reply : Reply) → Replies (command.Run options) b reply → decided (command.Run options) (status_of_end reply.end) ≡ status.Done
run_ends options b reply h = ap (λ (r : Reply). decided (command.Run options) (status_of_end r.end)) h.2 ∙ run_decided options (is_finished b h.0)

abbrev decided_end : Command → Reply → Status
decided_end found reply = decided found (status_of_end reply.end)

-- the replies of a command to a bundle end alike, as far as that is decided
one_end : (found : Command) (b : PlainBundle) (reply other : Reply) → Replies found b reply → Replies found b other → decided_end found reply ≡ decided_end found other
one_end (command.Run options) b reply other h k = run_ends options b reply h ∙ sym (run_ends options b other k)
one_end (command.Step options) b reply other h k = ap (decided_end (command.Step options)) (h ∙ sym k)
one_end command.Check b reply other h k = ap (decided_end command.Check) (h ∙ sym k)
one_end command.Project b reply other h k = ap (decided_end command.Project) (h ∙ sym k)
one_end command.Replay b reply other h k = ap (decided_end command.Replay) (h ∙ sym k)
one_end command.Upgrade b reply other h k = ap (decided_end command.Upgrade) (h ∙ sym k)
one_end command.Mend b reply other h k = ap (decided_end command.Mend) (h ∙ sym k)
one_end (command.Monitor role) b reply other h k = ap (decided_end (command.Monitor role)) (h ∙ sym k)
one_end (command.Drive options) b reply other h k = ap (decided_end (command.Drive options)) (h ∙ sym k)
one_end (command.Resume options) b reply other h k = ap (decided_end (command.Resume options)) (h ∙ sym k)
one_end (command.Gen number size) b reply other h k = absurd h
one_end (command.Sessions options) b reply other h k = absurd h

-- bytes that spell a bundle are not too many
pub not_too_long : (bytes : List ℕ) (b : PlainBundle) → Spells bytes b → most_bytes < length bytes → ⊥
not_too_long bytes b spells long = absurd (omega (arith, spells.small, long))

-- ---- a verdict that comes of the bytes is the cause of its status

not_long : status.Syntax ≡ status.TooLong → ⊥
not_long is = cc

not_refused : status.Syntax ≡ status.Refused → ⊥
not_refused is = cc

module _ (found : Command) (bytes : List ℕ) where
  unspelled_by : (o : Option Options) (v : Verdict) → ComesOfInput o found bytes v → status.Syntax ≡ status_of v → SpellsNothing o bytes
  unspelled_by (Some options) (Unspelled byte) h is = (h.0, h.1)
  unspelled_by None (Unspelled byte) h is = (h.0, h.1)
  unspelled_by o TooLong h is = absurd (not_long is)
  unspelled_by o (Refused why) h is = absurd (not_refused is)
  unspelled_by o (Replied reply) h is = absurd (prints_always status.Syntax reply.end is refl)

  nothing_spelled : (o : Option Reply) (v : Verdict) → ComesBy o found bytes v → status.Syntax ≡ status_of v → (o ≡ None) × SpellsNothing (session_options found) bytes
  nothing_spelled (Some reply) v h is = absurd (prints_always status.Syntax reply.end (is ∙ ap status_of h) refl)
  nothing_spelled None v h is = (refl, unspelled_by (session_options found) v h is)

  pub caused : (wanted : Status) (v : Verdict) → Comes found bytes v → wanted ≡ status_of v → Cause found wanted bytes
  caused status.Syntax v h is = nothing_spelled (unread_reply found) v h is
  caused wanted v h is = (v, h, is)

-- ---- one cause for a text

module _ (one : OneBundle) (found : Command) (bytes : List ℕ) where
  abbrev decided_of : Verdict → Status
  decided_of verdict = decided found (status_of verdict)

  both_judged : (reply : Reply) (why : Reason) → MayReply found bytes reply → Refuses found bytes why → ⊥
  both_judged reply why h k =
      none_some (sym h.accepted ∙ ap (refusal_of found) (one bytes h.bundle k.bundle h.spells k.spells) ∙ k.refused)

  one_end_of : (reply other : Reply) → MayReply found bytes reply → MayReply found bytes other → decided_end found reply ≡ decided_end found other
  one_end_of reply other h k =
      let same = one bytes h.bundle k.bundle h.spells k.spells in
      one_end found k.bundle reply other (subst (λ b. Replies found b reply) same h.replies) k.replies

  text_kind : (verdict other : Verdict) → ComesOfText found bytes verdict → ComesOfText found bytes other → decided_of verdict ≡ decided_of other
  text_kind TooLong TooLong h k = refl
  text_kind TooLong (Unspelled byte) h k = absurd (omega (arith, h, k.0))
  text_kind TooLong (Refused why) h k = absurd (not_too_long bytes k.bundle k.spells h)
  text_kind TooLong (Replied reply) h k = absurd (not_too_long bytes k.bundle k.spells h)
  text_kind (Unspelled byte) TooLong h k = absurd (omega (arith, h.0, k))
  text_kind (Unspelled byte) (Unspelled other) h k = refl
  text_kind (Unspelled byte) (Refused why) h k = absurd (h.1 k.bundle k.spells)
  text_kind (Unspelled byte) (Replied reply) h k = absurd (h.1 k.bundle k.spells)
  text_kind (Refused why) TooLong h k = absurd (not_too_long bytes h.bundle h.spells k)
  text_kind (Refused why) (Unspelled byte) h k = absurd (k.1 h.bundle h.spells)
  text_kind (Refused why) (Refused other) h k = refl
  text_kind (Refused why) (Replied reply) h k = absurd (both_judged reply why k h)
  text_kind (Replied reply) TooLong h k = absurd (not_too_long bytes h.bundle h.spells k)
  text_kind (Replied reply) (Unspelled byte) h k = absurd (k.1 h.bundle h.spells)
  text_kind (Replied reply) (Refused why) h k = absurd (both_judged reply why h k)
  text_kind (Replied reply) (Replied other) h k = one_end_of reply other h k

  -- sessions too: their reply always ends alike
  sessions_kind : (options : Options) (verdict other : Verdict) → ComesOfSessions options bytes verdict → ComesOfSessions options bytes other → decided_of verdict ≡ decided_of other
  sessions_kind options TooLong TooLong h k = refl
  sessions_kind options TooLong (Unspelled byte) h k = absurd (omega (arith, h, k.0))
  sessions_kind options TooLong (Refused why) h k = absurd k
  sessions_kind options TooLong (Replied reply) h k = absurd (omega (arith, k.spells.small, h))
  sessions_kind options (Unspelled byte) TooLong h k = absurd (omega (arith, h.0, k))
  sessions_kind options (Unspelled byte) (Unspelled other) h k = refl
  sessions_kind options (Unspelled byte) (Refused why) h k = absurd k
  sessions_kind options (Unspelled byte) (Replied reply) h k = absurd (h.1 k.bundles k.spells)
  sessions_kind options (Refused why) other h k = absurd h
  sessions_kind options (Replied reply) TooLong h k = absurd (omega (arith, h.spells.small, k))
  sessions_kind options (Replied reply) (Unspelled byte) h k = absurd (k.1 h.bundles h.spells)
  sessions_kind options (Replied reply) (Refused why) h k = absurd k
  sessions_kind options (Replied reply) (Replied other) h k =
      ap (decided_end found) h.replies ∙ sym (ap (decided_end found) k.replies)

  input_kind : (o : Option Options) (verdict other : Verdict) → ComesOfInput o found bytes verdict → ComesOfInput o found bytes other → decided_of verdict ≡ decided_of other
  input_kind None verdict other h k = text_kind verdict other h k
  input_kind (Some options) verdict other h k = sessions_kind options verdict other h k

  kind_by : (o : Option Reply) (verdict other : Verdict) → ComesBy o found bytes verdict → ComesBy o found bytes other → decided_of verdict ≡ decided_of other
  kind_by (Some reply) verdict other h k = ap decided_of (h ∙ sym k)
  kind_by None verdict other h k = input_kind (session_options found) verdict other h k

  one_kind : (verdict other : Verdict) → Comes found bytes verdict → Comes found bytes other → decided_of verdict ≡ decided_of other
  one_kind verdict other h k = kind_by (unread_reply found) verdict other h k

  -- bytes that spell nothing have no other verdict than that
  none_kind : (o : Option Options) (verdict : Verdict) → ComesOfInput o found bytes verdict → SpellsNothing o bytes → decided_of verdict ≡ decided found status.Syntax
  none_kind o (Unspelled byte) h k = refl
  none_kind (Some options) TooLong h k = absurd (omega (arith, h, k.0))
  none_kind None TooLong h k = absurd (omega (arith, h, k.0))
  none_kind (Some options) (Refused why) h k = absurd h
  none_kind None (Refused why) h k = absurd (k.1 h.bundle h.spells)
  none_kind (Some options) (Replied reply) h k = absurd (k.1 h.bundles h.spells)
  none_kind None (Replied reply) h k = absurd (k.1 h.bundle h.spells)

  -- a verdict on bytes in which a status has its cause has that status, as far as it is decided
  pub one_cause : (wanted : Status) (verdict : Verdict) → Comes found bytes verdict → Cause found wanted bytes → decided_of verdict ≡ decided found wanted
  one_cause status.Syntax verdict h cause =
      none_kind (session_options found) verdict (subst (λ o. ComesBy o found bytes verdict) cause.0 h) cause.1
  one_cause wanted verdict h cause = one_kind verdict cause.0 h cause.1 ∙ sym (ap (decided found) cause.2)
