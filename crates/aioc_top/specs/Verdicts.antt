-- What comes of a command and the bytes that were read.
use Rattle.std.specs.Prelude.{◌≡◌, ◌<◌, ◌≤◌, ℕ, List, length, Some, None, Option, All}
use Rattle.limits.specs.Limits.{most_bytes}
use Rattle.dioc_terms.specs.Bundles.{IsFormed}
use Rattle.dioc_terms.specs.Plain.{PlainBundle}
use Rattle.bundle_text.specs.Grammar.{Spells, SpellsNone}
use Rattle.bundle_text.specs.Sessions.{SessionsEndAtByte, SpellsSessions, SpellsNoSessions}
use Rattle.bundle_text.specs.Stops.{EndsAtByte}
use Rattle.command_words.specs.declared.commands.Options.{Options}
use Rattle.command_words.specs.declared.commands.Command.{Command}
use Rattle.aioc_top.specs.declared.replies.End.{End}
use Rattle.aioc_top.specs.declared.replies.End.TheVariants as end
use Rattle.aioc_top.specs.declared.status.Status.{Status}
use Rattle.aioc_top.specs.declared.status.Status.TheVariants as status
use Rattle.aioc_top.specs.Reasons.{Reason}
use Rattle.aioc_top.specs.Replies.{Reply, Replies, refusal_of, session_options, sessions_reply, unread_reply}

pub data Verdict : Type 0 where
  TooLong : Verdict
  -- the bytes spell no bundle, or no sessions; the reading of them ends at this byte
  Unspelled : ℕ → Verdict
  Refused : Reason → Verdict
  Replied : Reply → Verdict

-- the bytes spell a bundle that is refused so
pub record Refuses (asked : Command) (bytes : List ℕ) (why : Reason) : Type 0 where
  pub bundle : PlainBundle
  pub spells : Spells bytes bundle
  pub refused : refusal_of asked bundle ≡ Some why

-- the bytes spell a bundle that the command takes, and to which it may answer so
pub record MayReply (asked : Command) (bytes : List ℕ) (reply : Reply) : Type 0 where
  pub bundle : PlainBundle
  pub spells : Spells bytes bundle
  pub accepted : refusal_of asked bundle ≡ None
  pub replies : Replies asked bundle reply

-- what comes of the bytes of one bundle
abbrev pub ComesOfText : Command → List ℕ → Verdict → Type 0
ComesOfText asked bytes TooLong = most_bytes < length bytes
ComesOfText asked bytes (Unspelled byte) =
    (length bytes ≤ most_bytes) × SpellsNone bytes × EndsAtByte bytes byte
ComesOfText asked bytes (Refused why) = Refuses asked bytes why
ComesOfText asked bytes (Replied reply) = MayReply asked bytes reply

-- the bytes spell sessions, each a formed bundle, to which this is the reply
pub record RepliesToSessions (options : Options) (bytes : List ℕ) (reply : Reply) : Type 0 where
  pub bundles : List PlainBundle
  pub spells : SpellsSessions bytes bundles
  pub formed : All IsFormed bundles
  pub replies : reply ≡ sessions_reply options bundles

-- what comes of the bytes of sessions: no bundle among them makes that they are refused
abbrev pub ComesOfSessions : Options → List ℕ → Verdict → Type 0
ComesOfSessions options bytes TooLong = most_bytes < length bytes
ComesOfSessions options bytes (Unspelled byte) =
    (length bytes ≤ most_bytes) × SpellsNoSessions bytes × SessionsEndAtByte bytes byte
ComesOfSessions options bytes (Refused why) = ⊥
ComesOfSessions options bytes (Replied reply) = RepliesToSessions options bytes reply

-- what comes of the bytes that a command reads, by the options where they are sessions
abbrev pub ComesOfInput : Option Options → Command → List ℕ → Verdict → Type 0
ComesOfInput (Some options) asked bytes verdict = ComesOfSessions options bytes verdict
ComesOfInput None asked bytes verdict = ComesOfText asked bytes verdict

-- where the command has its reply without reading, that comes of any bytes
abbrev pub ComesBy : Option Reply → Command → List ℕ → Verdict → Type 0
ComesBy (Some reply) asked bytes verdict = verdict ≡ Replied reply
ComesBy None asked bytes verdict = ComesOfInput (session_options asked) asked bytes verdict

abbrev pub Comes : Command → List ℕ → Verdict → Type 0
Comes asked bytes verdict = ComesBy (unread_reply asked) asked bytes verdict

abbrev pub status_of_end : End → Status
status_of_end end.Done = status.Done
status_of_end end.Limit = status.Limit
status_of_end end.No = status.No

abbrev pub status_of : Verdict → Status
status_of TooLong = status.TooLong
status_of (Unspelled byte) = status.Syntax
status_of (Refused why) = status.Refused
status_of (Replied reply) = status_of_end reply.end

-- the bytes are not too many, and spell nothing that is read: no sessions, or no bundle
abbrev pub SpellsNothing : Option Options → List ℕ → Type 0
SpellsNothing (Some options) bytes = (length bytes ≤ most_bytes) × SpellsNoSessions bytes
SpellsNothing None bytes = (length bytes ≤ most_bytes) × SpellsNone bytes

-- What of the bytes makes a status come: a verdict that comes of them; and of `Syntax`, at whatever
-- byte the reading ends, that they spell nothing.
abbrev pub Cause : Command → Status → List ℕ → Type 0
Cause asked status.Syntax bytes =
    (unread_reply asked ≡ None) × SpellsNothing (session_options asked) bytes
Cause asked wanted bytes =
    (verdict : Verdict) × Comes asked bytes verdict × (wanted ≡ status_of verdict)
