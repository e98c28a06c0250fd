-- What the role at the place offers is what it offers in the network.
use Rattle.std.proofs.Common.{◌<◌, List, length, sym, ap, ◌∙◌, subst, arith}
use Rattle.std.specs.Prelude.{map}
use Rattle.std.proofs.lemmas.List.{length-map}
use Rattle.std.proofs.lemmas.Result.{on_ok_weaker}
use Rattle.dioc_terms.specs.declared.entries.Act.{Act}
use Rattle.dioc_terms.specs.Plain.{plain}
use Rattle.dpoc_process.specs.LocalStates.{LacksAt}
use Rattle.net_core.proofs.ActLemmas.{locals_at}
use Rattle.net_core.proofs.PlacesLemmas.{offers_here}
use Rattle.net_core.proofs.RoleLemmas.{here_is}
use Rattle.net_core.specs.KeptParts.{body_seen, due_seen}
use Rattle.net_core.specs.Nets.{NetState}
use Rattle.net_core.specs.Places.{offers_at}
use Rattle.net_core.specs.Standing.{Parts}
use Rattle.net_core.proofs.network.Net.fill_acts_at.Goals as goal

pub index-state-requires : goal.index-state-requires
index-state-requires g c =
    let i = c.self.inside in
    let b = plain i.of.value in
    let parts : Parts = record { cast = i.cast; locals = map g.R.Runs.local i.roles.items; mail = i.mail; book = i.book; bodies = map body_seen i.bodies; coming = map due_seen i.coming.items; updates = i.updates; history = i.history.entries } in
    let there = subst (λ (net : NetState). c.args.place < length net.bundle.cast) (sym c.self.view_is) c.requires.there in
    omega (arith, locals_at b i.limit parts c.self.invariant c.args.place there, length-map i.roles.items g.R.Runs.local, i.roles.ok.0)

pub fill_acts-requires-clause-lacks : goal.fill_acts-requires-clause-lacks
fill_acts-requires-clause-lacks g c =
    let i = c.self.inside in
    let b = plain i.of.value in
    let parts : Parts = record { cast = i.cast; locals = map g.R.Runs.local i.roles.items; mail = i.mail; book = i.book; bodies = map body_seen i.bodies; coming = map due_seen i.coming.items; updates = i.updates; history = i.history.entries } in
    let there = subst (λ (net : NetState). c.args.place < length net.bundle.cast) (sym c.self.view_is) c.requires.there in
    let within : c.args.place < length i.roles.items = omega (arith, locals_at b i.limit parts c.self.invariant c.args.place there, length-map i.roles.items g.R.Runs.local) in
    let state = c.index-state.result.now in
    let same = offers_here b i.limit parts c.self.invariant c.args.place (g.R.Runs.local state) (here_is g.R.Runs.local i.roles.items c.args.place state c.index-state.ensures within)
    ∙ ap (λ (net : NetState). offers_at net c.args.place) c.self.view_is in
    subst (λ (all : List Act). LacksAt c.args.at c.args.acts.now.items all) (sym same) c.requires.lacks

pub returns : goal.returns
returns g c =
    let i = c.self.inside in
    let b = plain i.of.value in
    let parts : Parts = record { cast = i.cast; locals = map g.R.Runs.local i.roles.items; mail = i.mail; book = i.book; bodies = map body_seen i.bodies; coming = map due_seen i.coming.items; updates = i.updates; history = i.history.entries } in
    let there = subst (λ (net : NetState). c.args.place < length net.bundle.cast) (sym c.self.view_is) c.requires.there in
    let within : c.args.place < length i.roles.items = omega (arith, locals_at b i.limit parts c.self.invariant c.args.place there, length-map i.roles.items g.R.Runs.local) in
    let state = c.index-state.result.now in
    let same = offers_here b i.limit parts c.self.invariant c.args.place (g.R.Runs.local state) (here_is g.R.Runs.local i.roles.items c.args.place state c.index-state.ensures within)
    ∙ ap (λ (net : NetState). offers_at net c.args.place) c.self.view_is in
    on_ok_weaker c.fill_acts.result (λ listed. listed ∙ same) c.fill_acts.ensures
