-- The first auxiliary move of the agenda is that of the network.
use Rattle.std.proofs.Common.{◌≡◌, List, Option, refl, sym, ap, ◌∙◌, subst}
use Rattle.std.specs.Prelude.{flat_map, map, option_and_then}
use Rattle.std.specs.List.{find}
use Rattle.std.proofs.lemmas.Result.{IfOk-weaker}
use Rattle.dioc_terms.specs.Plain.{setting}
use Rattle.network_steps.specs.Network.{NextNetwork}
use Rattle.network_steps.specs.Schedule.{move_step}
use Rattle.net_drive.specs.Driven.{first_auxiliary, is_aux_move}
use Rattle.net_drive.specs.Driving.{IsFirstListed}
use Rattle.net_drive.specs.Making.{Makes}
use Rattle.net_drive.proofs.Trying.{first_of_agenda}
use Rattle.net_core.specs.Nets.{network_of}
use Rattle.schedule.specs.declared.roles.Listed.TheVariants as listed
use Rattle.schedule.specs.declared.roles.ReadyRole.{ReadyRole}
use Rattle.schedule.specs.Agendas.{moves_of, ready_seen}
use Rattle.net_drive.proofs.entries.take_auxiliary.Goals as goal

pub returns-in-None-clause-makes : goal.returns-in-None-clause-makes
returns-in-None-clause-makes g c =
    let old = c.args.net.now in (
      first_of_agenda old (map ready_seen c.args.agenda.now.items) c.requires.agenda
          ∙ ap (option_and_then (move_step (setting old.bundle) (network_of old)))
          ((λ j. find is_aux_move (flat_map moves_of (map ready_seen (sym c.as_slice.ensures.value j)))) ∙ c.find_auxiliary.ensures.none c.in-None.is),
      refl,
    )

pub make_on-requires-clause-listed : goal.make_on-requires-clause-listed
make_on-requires-clause-listed g c =
    let at : IsFirstListed (map ready_seen c.args.agenda.now.items) (listed.Act c.in-Some.doer c.in-Some.place) =
    subst (λ (rs : List ReadyRole). IsFirstListed (map ready_seen rs) (listed.Act c.in-Some.doer c.in-Some.place)) c.as_slice.ensures.value c.in-Some.ensures.found in
    record { move = at.move; there = at.there }

pub returns-in-Some-clause-makes : goal.returns-in-Some-clause-makes
returns-in-Some-clause-makes g c =
    let old = c.args.net.now in
    let new = c.make_on.new.net in
    let at : IsFirstListed (map ready_seen c.args.agenda.now.items) (listed.Act c.in-Some.doer c.in-Some.place) =
    subst (λ (rs : List ReadyRole). IsFirstListed (map ready_seen rs) (listed.Act c.in-Some.doer c.in-Some.place)) c.as_slice.ensures.value c.in-Some.ensures.found in
    let first : first_auxiliary (setting old.bundle) (network_of old) ≡ move_step (setting old.bundle) (network_of old) at.move =
    first_of_agenda old (map ready_seen c.args.agenda.now.items) c.requires.agenda
    ∙ ap (option_and_then (move_step (setting old.bundle) (network_of old))) at.first in
    IfOk-weaker c.make_on.result _ _
    (λ is_made made. subst (λ (o : Option NextNetwork). Makes o old new is_made) (sym first) (made at.move at.there)) c.make_on.ensures.makes
