-- What became of the entry, by whether its move was made and whether it was noted.
use Rattle.std.proofs.Common.{◌≡◌, ◌∙◌, false, length, slice_get, sym, ap, subst}
use Rattle.std.specs.Option.{option_map_or}
use Rattle.dioc_terms.specs.Equality.{entry_eq}
use Rattle.dioc_terms.specs.Plain.{setting}
use Rattle.network_steps.specs.declared.moves.Move.{Move}
use Rattle.network_steps.specs.Schedule.{move_step}
use Rattle.net_drive.specs.declared.entries.Tried.{Tried}
use Rattle.net_drive.specs.Driving.{IsTried, judged}
use Rattle.net_drive.specs.Making.{Makes, shown_move}
use Rattle.net_drive.proofs.Trying.{tried_by}
use Rattle.net_core.specs.Nets.{network_of}
use Rattle.net_drive.proofs.entries.try_entry.Goals as goal

pub returns : goal.returns
returns g c =
    let known = c.term_laws.ensures in
    let old = c.args.net.now in
    let new = c.make.new.net in
    let e = c.args.entry.now in
    let made = c.in_ok-is_made.is_made in
    let noted = c.is_noted-is_noted.result in
    let does : Makes (move_step (setting old.bundle) (network_of old) (shown_move e)) old new made =
    subst (λ (m : Move). Makes (move_step (setting old.bundle) (network_of old) m) old new made) c.requires.next c.in_ok-is_made.ensures.makes in
    let stands = c.is_noted-is_noted.ensures
    ∙ (λ j. option_map_or (entry_eq e) (slice_get (c.history-2.ensures.entries j) (c.len-place.ensures j)) false)
    ∙ ap (λ entries. option_map_or (entry_eq e) (slice_get new.history (length entries)) false) c.history.ensures.entries in
    let told : c.judged.result ≡ judged (shown_move e) made noted = c.judged.ensures ∙ ap (λ (m : Move). judged m made noted) c.requires.next in
    subst (λ (t : Tried). IsTried old e new t) (sym told) (tried_by known c.known.ensures.offered old c.requires.run new e made noted does stands)
