-- What comes of a command and of what it has read, from what its parts answered.
use Rattle.std.proofs.Common.{◌≡◌, ◌≢◌, ◌<◌, ◌≤◌, ℕ, suc, List, length, false, Option, Some, None, IfSome, refl, sym, ap, ◌∙◌, subst, arith}
use Rattle.std.specs.Prelude.{map, option_map, replicate}
use Rattle.std.proofs.lemmas.List.{length-replicate}
use Rattle.std.proofs.lemmas.List.Elements.{All-map}
use Rattle.std.specs.Io.KnownBytes.{IsAtEnd}
use Rattle.aioc_io.specs.Source.{SourceState}
use Rattle.limits.specs.Limits.{most_bytes}
use Rattle.dioc_terms.specs.declared.faults.SyntaxFault.{SyntaxFault}
use Rattle.dioc_terms.specs.declared.faults.SyntaxFault.TheVariants as syntax
use Rattle.dioc_terms.specs.Bundles.{IsFormed}
use Rattle.dioc_terms.specs.Plain.{plain}
use Rattle.bundle_text.specs.Grammar.{SpellsNone}
use Rattle.bundle_text.specs.Sessions.{SessionsEndAtByte, SpellsNoSessions}
use Rattle.bundle_text.specs.Stops.{EndsAtByte}
use Rattle.command_words.specs.declared.commands.Options.{Options}
use Rattle.command_words.specs.declared.commands.Command.{Command}
use Rattle.command_words.specs.declared.commands.Command.TheVariants as command
use Rattle.aioc_top.specs.Calls.{IsRead, Judged, ReadsBy, ReadsPastLimit, ReadsWhole, ReadsWithinLimit, StaysWithin}
use Rattle.aioc_top.specs.Faults.{IsRefusedSo, Stops, StopsReading, syntax_fault}
use Rattle.aioc_top.specs.Reasons.{Reason, MayNotRun, CannotBeMended}
use Rattle.aioc_top.specs.Replies.{Reply, gen_reply, session_options, unread_reply}
use Rattle.aioc_top.specs.Spelled.{Admits, Fits, HasRead, IsMendable, IsSpelled, RepliesTo, refusal_in}
use Rattle.aioc_top.specs.Verdicts.{Verdict, TooLong, Unspelled, Refused, Replied, Comes, ComesBy, ComesOfInput, ComesOfSessions, ComesOfText}
use Rattle.aioc_top.specs.Words.{needs_threads}
use Rattle.aioc_top.specs.declared.faults.Fault.{Fault}
use Rattle.aioc_top.specs.declared.faults.Fault.TheVariants as fault
use Rattle.aioc_top.specs.declared.reading.Spelled.{Spelled}
use Rattle.aioc_top.specs.declared.reading.Spelled.TheVariants as spelled
use Rattle.aioc_top.proofs.Clauses.{mapped, none_is_some}
use Rattle.marked_laws.proofs.Shapes.{none_some}

-- a bundle that the command takes, and that it has mended where that is asked for, isn't refused
not_refused : (asked : Command) (read : Spelled) → Admits asked read → IsMendable asked read → refusal_in asked read ≡ None
not_refused asked spelled.Nothing takes mendable = refl
not_refused asked (spelled.Sessions bundles) takes mendable = refl
not_refused command.Mend (spelled.Bundle b) takes mendable = ap (option_map CannotBeMended) mendable
not_refused (command.Monitor role) (spelled.Bundle b) takes mendable = ap (option_map MayNotRun) takes.1
not_refused (command.Run options) (spelled.Bundle b) takes mendable = ap (option_map MayNotRun) takes.no_refusal
not_refused (command.Step options) (spelled.Bundle b) takes mendable = ap (option_map MayNotRun) takes.no_refusal
not_refused command.Check (spelled.Bundle b) takes mendable = ap (option_map MayNotRun) takes.no_refusal
not_refused command.Project (spelled.Bundle b) takes mendable = ap (option_map MayNotRun) takes.no_refusal
not_refused command.Replay (spelled.Bundle b) takes mendable = ap (option_map MayNotRun) takes.no_refusal
not_refused (command.Gen number size) (spelled.Bundle b) takes mendable = ap (option_map MayNotRun) takes.no_refusal
not_refused command.Upgrade (spelled.Bundle b) takes mendable = ap (option_map MayNotRun) takes.no_refusal
not_refused (command.Drive options) (spelled.Bundle b) takes mendable = ap (option_map MayNotRun) takes.no_refusal
not_refused (command.Resume options) (spelled.Bundle b) takes mendable = ap (option_map MayNotRun) takes.no_refusal
not_refused (command.Sessions options) (spelled.Bundle b) takes mendable = ap (option_map MayNotRun) takes.no_refusal

-- ---- what was read

-- the bytes that were read are the source's, where it tells them
pub is_read : (source : SourceState) (all : List ℕ) → IfSome source.left (λ told. all ≡ told) → IsRead source all
is_read source all h = mapped (λ told e. sym e) source.left h

-- what is read whole is read for any verdict but that it is too long
whole_refused : (o : Option Reply) (why : Reason) (bytes : List ℕ) (source source_after : SourceState) → ReadsWhole o bytes source source_after → ReadsBy o (Refused why) bytes source source_after
whole_refused None why bytes source source_after h = h
whole_refused (Some reply) why bytes source source_after h = h

whole_replied : (o : Option Reply) (reply : Reply) (bytes : List ℕ) (source source_after : SourceState) → ReadsWhole o bytes source source_after → ReadsBy o (Replied reply) bytes source source_after
whole_replied None reply bytes source source_after h = h
whole_replied (Some own) reply bytes source source_after h = h

-- what comes of the bytes of one bundle, and of those of sessions
comes_of_text : (asked : Command) (bytes : List ℕ) (verdict : Verdict) → unread_reply asked ≡ None → session_options asked ≡ None → ComesOfText asked bytes verdict → Comes asked bytes verdict
comes_of_text asked bytes verdict reads single h = subst (λ o. ComesBy o asked bytes verdict) (sym reads) (subst (λ o. ComesOfInput o asked bytes verdict) (sym single) h)

comes_of_sessions : (options : Options) (bytes : List ℕ) (verdict : Verdict) → ComesOfSessions options bytes verdict → Comes (command.Sessions options) bytes verdict
comes_of_sessions options bytes verdict h = h

-- more bytes than are allowed, whichever the command reads
comes_too_long : (o : Option Options) (asked : Command) (bytes : List ℕ) → most_bytes < length bytes → ComesOfInput o asked bytes TooLong
comes_too_long None asked bytes long = long
comes_too_long (Some options) asked bytes long = long

-- what is refused comes of the bytes of one bundle
module _ (asked : Command) (source source_after : SourceState) where
  refused_in : (read : Spelled) → HasRead asked source source_after read → (why : Reason) → refusal_in asked read ≡ Some why → Judged (Some asked) source source_after (Refused why)
  refused_in spelled.Nothing h why is = absurd (none_some is)
  refused_in (spelled.Sessions bundles) h why is = absurd (none_some is)
  refused_in (spelled.Bundle b) h why is = record {
    command = asked;
    asked = refl;
    bytes = h.bytes;
    read = whole_refused (unread_reply asked) why h.bytes source source_after h.whole;
    comes = comes_of_text asked h.bytes (Refused why) h.fits.0 h.fits.1 (record { bundle = plain b; spells = h.spells; refused = is });
  }

  -- why there is no reply to what was read
  pub refusal_stops : (read : Spelled) → HasRead asked source source_after read → (f : Fault) → IsRefusedSo (refusal_in asked read) f → Stops (Some asked) source source_after f
  refusal_stops read h (fault.Refused why) is = (refused_in read h (MayNotRun why) is, h.stays)
  refusal_stops read h (fault.Unmendable why) is = (refused_in read h (CannotBeMended why) is, h.stays)
  refusal_stops read h fault.Memory is = h.stays
  refusal_stops read h fault.Usage is = absurd is
  refusal_stops read h fault.ReadFault is = absurd is
  refusal_stops read h fault.TooLong is = absurd is
  refusal_stops read h (fault.Syntax byte) is = absurd is

-- the reply comes of what was read
reply_comes : (asked : Command) (bytes : List ℕ) (read : Spelled) (reply : Reply) → Fits asked read → IsSpelled bytes read → refusal_in asked read ≡ None → RepliesTo asked read reply
    → Comes asked bytes (Replied reply)
reply_comes asked bytes spelled.Nothing reply fits spells free is = subst (λ o. ComesBy o asked bytes (Replied reply)) (sym is) refl
reply_comes asked bytes (spelled.Bundle b) reply fits spells free is =
    comes_of_text asked bytes (Replied reply) fits.0 fits.1 (record { bundle = plain b; spells = spells; accepted = free; replies = is })
reply_comes (command.Sessions options) bytes (spelled.Sessions bundles) reply fits spells free is =
    comes_of_sessions options bytes (Replied reply) (record {
      bundles = map plain bundles.items;
      spells = spells;
      formed = All-map IsFormed plain bundles.items fits.2;
      replies = is;
    })
reply_comes _ bytes (spelled.Sessions bundles) reply fits spells free is = absurd is

-- `gen` has read nothing, has its reply without, and isn't refused
module _ (asked : Command) (number size : ℕ) (is : asked ≡ command.Gen number size) (read : Spelled) where
  pub gen_replies : (reply : Reply) → Fits asked read → reply ≡ gen_reply number size → RepliesTo asked read reply
  gen_replies reply fits replied = by_read read fits
    where
      own : unread_reply asked ≡ Some reply
      own = ap unread_reply is ∙ ap Some (sym replied)

      by_read : (read : Spelled) → Fits asked read → RepliesTo asked read reply
      by_read spelled.Nothing fits = own
      by_read (spelled.Bundle b) fits = absurd (none_some (sym fits.0 ∙ own))
      by_read (spelled.Sessions bundles) fits = absurd (none_some (sym fits.0 ∙ own))

  pub gen_is_mendable : IsMendable asked read
  gen_is_mendable = subst (λ found. IsMendable found read) (sym is) (by_read read)
    where
      by_read : (read : Spelled) → IsMendable (command.Gen number size) read
      by_read spelled.Nothing = tt
      by_read (spelled.Bundle b) = tt
      by_read (spelled.Sessions bundles) = tt

pub replied_so : (asked : Command) (source source_after : SourceState) (read : Spelled) (reply : Reply) → HasRead asked source source_after read → Admits asked read → IsMendable asked read
    → RepliesTo asked read reply → Judged (Some asked) source source_after (Replied reply)
replied_so asked source source_after read reply h takes mendable is = record {
  command = asked;
  asked = refl;
  bytes = h.bytes;
  read = whole_replied (unread_reply asked) reply h.bytes source source_after h.whole;
  comes = reply_comes asked h.bytes read reply h.fits h.spells (not_refused asked read takes mendable) is;
}

-- ---- bytes that aren't had, and bytes that spell nothing

-- some bytes are as long as is asked
long_enough : (n : ℕ) → (bytes : List ℕ) × (n < length bytes)
long_enough n = (replicate (suc n) 0, omega (arith, length-replicate {A = ℕ} (suc n) 0))

too_many : (left : Option (List ℕ)) → IfSome left (λ told. most_bytes < length told) → (bytes : List ℕ) × IfSome left (λ told. told ≡ bytes) × (most_bytes < length bytes)
too_many None h = let long = long_enough most_bytes in (long.0, tt, long.1)
too_many (Some told) h = (told, refl, h)

module _ (asked : Command) (source source_after : SourceState) (reads : unread_reply asked ≡ None) where
  -- a command that reads has no reply without
  pub stays_so : ReadsWithinLimit source source_after → StaysWithin (Some asked) source source_after
  stays_so within = record { nothing = λ some. absurd (none_is_some (unread_reply asked) reads some); within = within }

  read_so : (verdict : Verdict) (bytes : List ℕ) → ReadsBy None verdict bytes source source_after → Comes asked bytes verdict → Judged (Some asked) source source_after verdict
  read_so verdict bytes read comes = record {
    command = asked;
    asked = refl;
    bytes = bytes;
    read = subst (λ o. ReadsBy o verdict bytes source source_after) (sym reads) read;
    comes = comes;
  }

  -- more bytes were given than are allowed, whether the source tells them or not
  too_long : IfSome source.left (λ told. most_bytes < length told) → ReadsPastLimit source source_after → Judged (Some asked) source source_after TooLong
  too_long h past =
      let many = too_many source.left h in
      read_so TooLong many.0 (many.1, past) (subst (λ o. ComesBy o asked many.0 TooLong) (sym reads) (comes_too_long (session_options asked) asked many.0 many.2))

  -- bytes that aren't had
  pub unread : (f : Fault) → StopsReading source source_after f → Stops (Some asked) source source_after f
  unread fault.ReadFault h = ((asked, refl, reads), h.0, h.1)
  unread fault.TooLong h = too_long h.0 h.1
  unread fault.Memory h = stays_so h
  unread fault.Usage h = absurd h
  unread (fault.Syntax byte) h = absurd h
  unread (fault.Refused why) h = absurd h
  unread (fault.Unmendable why) h = absurd h

  module _ (bytes : List ℕ) (read : IsRead source bytes) (end : IsAtEnd source_after.left) (small : length bytes ≤ most_bytes) (within : ReadsWithinLimit source source_after) where
    -- bytes that spell no bundle
    pub no_bundle : session_options asked ≡ None → (f : SyntaxFault) → (f ≢ syntax.Memory → SpellsNone bytes) → ((byte : ℕ) → f ≡ syntax.Syntax byte → EndsAtByte bytes byte)
        → Stops (Some asked) source source_after (syntax_fault f)
    no_bundle single syntax.Memory none ends = stays_so within
    no_bundle single (syntax.Syntax byte) none ends =
        (read_so (Unspelled byte) bytes (read, end) (comes_of_text asked bytes (Unspelled byte) reads single (small, none (λ e. cc), ends byte refl)), stays_so within)

-- a command that is neither `gen` nor `sessions` reads one bundle
pub reads_one : (asked : Command) → ((number size : ℕ) → asked ≡ command.Gen number size → ⊥) → ((options : Options) → asked ≡ command.Sessions options → ⊥)
    → (unread_reply asked ≡ None) × (session_options asked ≡ None)
reads_one (command.Gen number size) not_gen not_sessions = absurd (not_gen number size refl)
reads_one (command.Sessions options) not_gen not_sessions = absurd (not_sessions options refl)
reads_one _ not_gen not_sessions = (refl, refl)

-- a command that needs no threads reads no sessions
pub reads_no_sessions : (asked : Command) → needs_threads asked ≡ false → session_options asked ≡ None
reads_no_sessions (command.Sessions options) alone = absurd cc
reads_no_sessions _ alone = refl

-- bytes that spell no sessions
pub no_sessions : (options : Options) (source source_after : SourceState) (bytes : List ℕ) → IsRead source bytes → IsAtEnd source_after.left → length bytes ≤ most_bytes
    → ReadsWithinLimit source source_after → (f : SyntaxFault) → (f ≢ syntax.Memory → SpellsNoSessions bytes) → ((byte : ℕ) → f ≡ syntax.Syntax byte → SessionsEndAtByte bytes byte)
    → Stops (Some (command.Sessions options)) source source_after (syntax_fault f)
no_sessions options source source_after bytes read end small within syntax.Memory none ends = stays_so (command.Sessions options) source source_after refl within
no_sessions options source source_after bytes read end small within (syntax.Syntax byte) none ends = (
  read_so (command.Sessions options) source source_after refl (Unspelled byte) bytes (read, end) (small, none (λ e. cc), ends byte refl),
  stays_so (command.Sessions options) source source_after refl within,
)
