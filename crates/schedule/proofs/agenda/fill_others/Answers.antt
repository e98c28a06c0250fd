-- The role stands at its place of the cast.
use Rattle.std.proofs.Common.{List, sym, subst}
use Rattle.std.proofs.lemmas.Option.{slice_get_within}
use Rattle.std.proofs.lemmas.Result.{on_ok_weaker}
use Rattle.dioc_terms.specs.declared.entries.Act.{Act}
use Rattle.dpoc_process.specs.LocalStates.{LacksAt}
use Rattle.net_core.proofs.PlacesLemmas.{offers_placed}
use Rattle.net_core.specs.Nets.{network_of}
use Rattle.schedule.proofs.RoleLemmas.{stands_in}
use Rattle.schedule.specs.Agendas.{IsFilled}
use Rattle.schedule.proofs.agenda.fill_others.Goals as goal

pub refresh_ready-requires : goal.refresh_ready-requires
refresh_ready-requires g c = stands_in c.args.net.now.bundle.cast c.args.vacancy.doer c.args.role.now c.requires.here

pub fill_place-requires-clause-there : goal.fill_place-requires-clause-there
fill_place-requires-clause-there g c = slice_get_within c.args.net.now.bundle.cast c.args.vacancy.doer c.args.role.now c.requires.here

pub fill_place-requires-clause-lacks : goal.fill_place-requires-clause-lacks
fill_place-requires-clause-lacks g c =
    subst (λ (all : List Act). LacksAt c.args.vacancy.at c.args.acts.now.items all)
    (sym (offers_placed c.args.net.now c.args.vacancy.doer c.args.role.now c.requires.here)) c.requires.lacks

pub returns : goal.returns
returns g c =
    on_ok_weaker c.fill_place.result
    (subst (λ (all : List Act). IsFilled (network_of c.args.net.now) all c.fill_place.new.acts.items c.fill_place.new.ready.items)
    (offers_placed c.args.net.now c.args.vacancy.doer c.args.role.now c.requires.here))
    c.fill_place.ensures
