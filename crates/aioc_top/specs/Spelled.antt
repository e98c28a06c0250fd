-- What a command has read, and what it may answer to that.
use Rattle.std.specs.Prelude.{◌≡◌, ◌≤◌, ℕ, List, length, map, All, Option, Some, None, IsSome}
use Rattle.limits.specs.Limits.{most_sessions}
use Rattle.aioc_io.specs.Source.{SourceState}
use Rattle.dioc_terms.specs.Bundles.{IsFormed}
use Rattle.dioc_terms.specs.Plain.{PlainBundle, plain}
use Rattle.bundle_text.specs.Grammar.{Spells}
use Rattle.bundle_text.specs.Sessions.{SpellsSessions}
use Rattle.rule_checks.specs.Refusals.{IsAccepted}
use Rattle.mend.specs.Refusals.{mend_refusal}
use Rattle.command_words.specs.declared.commands.Command.{Command}
use Rattle.command_words.specs.declared.commands.Command.TheVariants as command
use Rattle.aioc_top.specs.Calls.{ReadsWhole, StaysWithin}
use Rattle.aioc_top.specs.Reasons.{Reason}
use Rattle.aioc_top.specs.Replies.{Reply, Replies, monitor_refusal, refusal_of, session_options, sessions_reply, unread_reply}
use Rattle.aioc_top.specs.Words.{IsShort}
use Rattle.aioc_top.specs.declared.preparing.Task.{Task}
use Rattle.aioc_top.specs.declared.reading.Spelled.{Spelled}
use Rattle.aioc_top.specs.declared.reading.Spelled.TheVariants as spelled

-- it is of the kind that the command reads, and its bundles are formed
abbrev pub Fits : Command → Spelled → Type 0
Fits asked spelled.Nothing = IsSome (unread_reply asked)
Fits asked (spelled.Bundle b) =
    (unread_reply asked ≡ None)
    × (session_options asked ≡ None)
    × IsFormed (plain b)
Fits asked (spelled.Sessions bundles) =
    (unread_reply asked ≡ None)
    × IsSome (session_options asked)
    × All (λ b. IsFormed (plain b)) bundles.items
    × (length bundles.items ≤ most_sessions)

-- the bytes spell it
abbrev pub IsSpelled : List ℕ → Spelled → Type 0
IsSpelled bytes spelled.Nothing = Unit {0}
IsSpelled bytes (spelled.Bundle b) = Spells bytes (plain b)
IsSpelled bytes (spelled.Sessions bundles) = SpellsSessions bytes (map plain bundles.items)

-- the source was read to its end, or not at all, and its bytes spell this
pub record HasRead (asked : Command) (source source_after : SourceState) (read : Spelled) : Type 0
  where
    pub bytes : List ℕ
    pub whole : ReadsWhole (unread_reply asked) bytes source source_after
    pub spells : IsSpelled bytes read
    pub fits : Fits asked read
    pub stays : StaysWithin (Some asked) source source_after

-- the first reason for which the command refuses what it has read
abbrev pub refusal_in : Command → Spelled → Option Reason
refusal_in asked (spelled.Bundle b) = refusal_of asked (plain b)
refusal_in asked _ = None

-- the command takes the bundle; of `mend` this is known only when it has mended
abbrev pub Takes : Command → PlainBundle → Type 0
Takes command.Mend b = Unit {0}
Takes (command.Monitor role) b = IsAccepted b × (monitor_refusal role b ≡ None)
Takes _ b = IsAccepted b

abbrev pub Admits : Command → Spelled → Type 0
Admits asked (spelled.Bundle b) = Takes asked (plain b)
Admits asked _ = Unit {0}

-- where the bundle is to be mended, nothing keeps it from that
abbrev pub IsMendable : Command → Spelled → Type 0
IsMendable command.Mend (spelled.Bundle b) = mend_refusal (plain b) ≡ None
IsMendable _ _ = Unit {0}

-- what the command may answer to what it has read
abbrev pub RepliesTo : Command → Spelled → Reply → Type 0
RepliesTo asked spelled.Nothing reply = unread_reply asked ≡ Some reply
RepliesTo asked (spelled.Bundle b) reply = Replies asked (plain b) reply
RepliesTo (command.Sessions options) (spelled.Sessions bundles) reply =
    reply ≡ sessions_reply options (map plain bundles.items)
RepliesTo asked (spelled.Sessions bundles) reply = ⊥

-- the command that the words ask for, with what it has read, is ready to be executed
pub record IsReady (asked_for : Option Command) (source source_after : SourceState) (task : Task) :
    Type 0 where
  pub asked : asked_for ≡ Some task.command
  pub short : IsShort task.command
  pub read : HasRead task.command source source_after task.spelled
  pub admits : Admits task.command task.spelled
