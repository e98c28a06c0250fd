-- The step of the role at the place is the step of the net.
use Rattle.network_steps.specs.declared.moves.StepFault.TheVariants as fault
use Rattle.std.proofs.Common.{◌≡◌, ◌≢◌, ◌<◌, List, Some, false, length, slice_get, option_and_then, sym, ap, ◌∙◌, subst, arith}
use Rattle.std.specs.Prelude.{map, OnErr, OnOk, IfErr}
use Rattle.std.proofs.lemmas.List.{length-map}
use Rattle.dioc_terms.specs.declared.entries.Entry.{Entry}
use Rattle.dioc_terms.specs.Plain.{plain}
use Rattle.network_steps.specs.Network.{network_ended}
use Rattle.net_core.proofs.ActLemmas.{did_here, few_updates, known_rules, locals_at, role_at, role_tells}
use Rattle.net_core.proofs.NetLemmas.{Laws, can_step, stands_after, stands_same, step_made, step_refused}
use Rattle.net_core.proofs.PlacesLemmas.{offers_here}
use Rattle.net_core.specs.Acts.{IsNumberedIf}
use Rattle.net_core.specs.KeptParts.{body_seen, due_seen}
use Rattle.net_core.specs.Nets.{NetState, network_of}
use Rattle.net_core.specs.Standing.{Parts}
use Rattle.net_core.proofs.network.Net.act.Goals as goal
use Rattle.net_core.proofs.network.Net.act.Goals.{in-Ok, in-Err}
use Rattle.net_core.specs.Places.{offers_at}
use Rattle.net_core.specs.Steps.{IsStepAt, fault_at, fault_of}
use Rattle.rule_book.specs.KeptBooks.{book_of}

pub step_role-requires-clause-there : goal.step_role-requires-clause-there
step_role-requires-clause-there g c =
    let i = c.self.inside in
    let b = plain i.of.value in
    let parts : Parts = record { cast = i.cast; locals = map g.R.Runs.local i.roles.items; mail = i.mail; book = i.book; bodies = map body_seen i.bodies; coming = map due_seen i.coming.items; updates = i.updates; history = i.history.entries } in
    let there = subst (λ (net : NetState). c.args.place < length net.bundle.cast) (sym c.self.view_is) c.requires.there in
    omega (arith, locals_at b i.limit parts c.self.invariant c.args.place there, length-map i.roles.items g.R.Runs.local)

pub step_role-requires-clause-numbered : goal.step_role-requires-clause-numbered
step_role-requires-clause-numbered g c =
    let i = c.self.inside in
    let b = plain i.of.value in
    let parts : Parts = record { cast = i.cast; locals = map g.R.Runs.local i.roles.items; mail = i.mail; book = i.book; bodies = map body_seen i.bodies; coming = map due_seen i.coming.items; updates = i.updates; history = i.history.entries } in
    λ local here. subst (IsNumberedIf c.args.asked.number c.args.asked.act.now)
    (sym (offers_here b i.limit parts c.self.invariant c.args.place local here ∙ ap (λ (net : NetState). offers_at net c.args.place) c.self.view_is))
    c.requires.numbered

pub step_role-requires-clause-can : goal.step_role-requires-clause-can
step_role-requires-clause-can g c =
    let i = c.self.inside in
    let b = plain i.of.value in
    let parts : Parts = record { cast = i.cast; locals = map g.R.Runs.local i.roles.items; mail = i.mail; book = i.book; bodies = map body_seen i.bodies; coming = map due_seen i.coming.items; updates = i.updates; history = i.history.entries } in
    let there = subst (λ (net : NetState). c.args.place < length net.bundle.cast) (sym c.self.view_is) c.requires.there in
    let at = role_at b i.limit parts c.self.invariant c.args.place there in
    let laws : Laws = record { steps = c.steps_run.ensures; keys = c.unique_keys.ensures; maps = c.mail_is_a_map.ensures; casts = c.casts_are_roles.ensures } in
    λ local here. can_step b i.limit parts c.self.invariant laws c.steps_show_their_acts.ensures at.0 local c.args.asked.act.now (record { place = c.args.place; at = at.1; here = here })

pub step_role-requires-clause-updates : goal.step_role-requires-clause-updates
step_role-requires-clause-updates g c =
    let i = c.self.inside in
    let b = plain i.of.value in
    let parts : Parts = record { cast = i.cast; locals = map g.R.Runs.local i.roles.items; mail = i.mail; book = i.book; bodies = map body_seen i.bodies; coming = map due_seen i.coming.items; updates = i.updates; history = i.history.entries } in
    few_updates b i.limit parts c.self.invariant (subst (λ (net : NetState). (network_of net).updates < 4294967295) (sym c.self.view_is) c.requires.updates)

pub step_role-requires-clause-known : goal.step_role-requires-clause-known
step_role-requires-clause-known g c =
    let i = c.self.inside in
    let b = plain i.of.value in
    let parts : Parts = record { cast = i.cast; locals = map g.R.Runs.local i.roles.items; mail = i.mail; book = i.book; bodies = map body_seen i.bodies; coming = map due_seen i.coming.items; updates = i.updates; history = i.history.entries } in
    known_rules b i.limit parts c.self.invariant

pub step_role-requires-clause-tells : goal.step_role-requires-clause-tells
step_role-requires-clause-tells g c =
    let i = c.self.inside in
    let b = plain i.of.value in
    let parts : Parts = record { cast = i.cast; locals = map g.R.Runs.local i.roles.items; mail = i.mail; book = i.book; bodies = map body_seen i.bodies; coming = map due_seen i.coming.items; updates = i.updates; history = i.history.entries } in
    let there = subst (λ (net : NetState). c.args.place < length net.bundle.cast) (sym c.self.view_is) c.requires.there in
    let at = role_at b i.limit parts c.self.invariant c.args.place there in
    λ local here. role_tells b i.limit parts c.self.invariant c.leaders_tell.ensures at.0 local c.args.asked.act.now (record { place = c.args.place; at = at.1; here = here })

pub invariant_of-self : goal.invariant_of-self
invariant_of-self g c =
    let i = c.self.inside in
    let b = plain i.of.value in
    let parts : Parts = record { cast = i.cast; locals = map g.R.Runs.local i.roles.items; mail = i.mail; book = i.book; bodies = map body_seen i.bodies; coming = map due_seen i.coming.items; updates = i.updates; history = i.history.entries } in
    let there = subst (λ (net : NetState). c.args.place < length net.bundle.cast) (sym c.self.view_is) c.requires.there in
    let at = role_at b i.limit parts c.self.invariant c.args.place there in
    let laws : Laws = record { steps = c.steps_run.ensures; keys = c.unique_keys.ensures; maps = c.mail_is_a_map.ensures; casts = c.casts_are_roles.ensures } in
    let goes = subst (λ (net : NetState). network_ended net.bundle.cast (network_of net) ≡ false) (sym c.self.view_is) c.requires.goes in
    let room = subst (λ (net : NetState). length net.history < net.limit) (sym c.self.view_is) c.requires.room in
    elim c.match-step_role.branch [
      | in-Ok w ↦ stands_after b i.limit i.cast (map g.R.Runs.local i.roles.items) i.mail i.book (map body_seen i.bodies) (map due_seen i.coming.items) i.updates i.history.entries c.self.invariant laws at.0 c.args.asked.act.now
          (map g.R.Runs.local c.step_role.new.roles.items) c.step_role.new.mail c.step_role.new.updates c.step_role.new.history.entries
          (did_here i.cast b.cast at.0 c.args.asked.act.now b.rules i.mail (book_of i.book) i.updates (map g.R.Runs.local i.roles.items) i.history.entries
          (map g.R.Runs.local c.step_role.new.roles.items) c.step_role.new.mail c.step_role.new.updates c.step_role.new.history.entries c.self.invariant.cast
          (w.in-Ok.ensures.did at.0 b.rules at.1 c.self.invariant.of c.self.invariant.bodies))
          room
      | in-Err w ↦ stands_same b i.limit i.cast (map g.R.Runs.local i.roles.items) i.mail i.book (map body_seen i.bodies) (map due_seen i.coming.items) i.updates i.history.entries c.self.invariant
          (map g.R.Runs.local c.step_role.new.roles.items) c.step_role.new.mail c.step_role.new.updates c.step_role.new.history.entries
          w.in-Err.ensures.same_roles w.in-Err.ensures.same_mail w.in-Err.ensures.same_updates w.in-Err.ensures.same_history
    ]

pub returns-clause-stepped : goal.returns-clause-stepped
returns-clause-stepped g c =
    let i = c.self.inside in
    let b = plain i.of.value in
    let parts : Parts = record { cast = i.cast; locals = map g.R.Runs.local i.roles.items; mail = i.mail; book = i.book; bodies = map body_seen i.bodies; coming = map due_seen i.coming.items; updates = i.updates; history = i.history.entries } in
    let there = subst (λ (net : NetState). c.args.place < length net.bundle.cast) (sym c.self.view_is) c.requires.there in
    let at = role_at b i.limit parts c.self.invariant c.args.place there in
    let here = ap (λ l. slice_get l c.args.place) (sym c.self.invariant.cast) ∙ at.1 in
    let laws : Laws = record { steps = c.steps_run.ensures; keys = c.unique_keys.ensures; maps = c.mail_is_a_map.ensures; casts = c.casts_are_roles.ensures } in
    let goes = subst (λ (net : NetState). network_ended net.bundle.cast (network_of net) ≡ false) (sym c.self.view_is) c.requires.goes in
    let room = subst (λ (net : NetState). length net.history < net.limit) (sym c.self.view_is) c.requires.room in
    let new : NetState = record { bundle = b; history = c.step_role.new.history.entries; limit = i.limit } in
    elim c.match-step_role.branch [
      | in-Ok w ↦ subst (λ r. OnOk r (IsStepAt c.args.self.now c.args.place c.args.asked.act.now new)) (sym w.result-is)
          (subst (λ old. IsStepAt old c.args.place c.args.asked.act.now new) c.self.view_is
          (record {
            role = at.0;
            here = here;
            is = step_made b i.limit i.cast (map g.R.Runs.local i.roles.items) i.mail i.book (map body_seen i.bodies) (map due_seen i.coming.items) i.updates i.history.entries c.self.invariant goes room at.0 c.args.asked.act.now laws
                (map g.R.Runs.local c.step_role.new.roles.items) c.step_role.new.mail c.step_role.new.updates c.step_role.new.history.entries
                (did_here i.cast b.cast at.0 c.args.asked.act.now b.rules i.mail (book_of i.book) i.updates (map g.R.Runs.local i.roles.items) i.history.entries
                (map g.R.Runs.local c.step_role.new.roles.items) c.step_role.new.mail c.step_role.new.updates c.step_role.new.history.entries c.self.invariant.cast
                (w.in-Ok.ensures.did at.0 b.rules at.1 c.self.invariant.of c.self.invariant.bodies));
          }))
      | in-Err w ↦ subst (λ r. OnOk r (IsStepAt c.args.self.now c.args.place c.args.asked.act.now new)) (sym w.result-is) tt
    ]

pub returns-clause-refused : goal.returns-clause-refused
returns-clause-refused g c =
    let i = c.self.inside in
    let b = plain i.of.value in
    let parts : Parts = record { cast = i.cast; locals = map g.R.Runs.local i.roles.items; mail = i.mail; book = i.book; bodies = map body_seen i.bodies; coming = map due_seen i.coming.items; updates = i.updates; history = i.history.entries } in
    let there = subst (λ (net : NetState). c.args.place < length net.bundle.cast) (sym c.self.view_is) c.requires.there in
    let at = role_at b i.limit parts c.self.invariant c.args.place there in
    let here = ap (λ l. slice_get l c.args.place) (sym c.self.invariant.cast) ∙ at.1 in
    let goes = subst (λ (net : NetState). network_ended net.bundle.cast (network_of net) ≡ false) (sym c.self.view_is) c.requires.goes in
    let room = subst (λ (net : NetState). length net.history < net.limit) (sym c.self.view_is) c.requires.room in
    let old : NetState = record { bundle = b; history = i.history.entries; limit = i.limit } in
    elim c.match-step_role.branch [
      | in-Ok w ↦ subst (λ r. IfErr r (λ f. f ≢ fault.Memory → fault_at c.args.self.now c.args.place c.args.asked.act.now ≡ Some f)) (sym w.result-is) tt
      | in-Err w ↦ subst (λ r. IfErr r (λ f. f ≢ fault.Memory → fault_at c.args.self.now c.args.place c.args.asked.act.now ≡ Some f)) (sym w.result-is)
          (subst (λ net. w.in-Err.fault ≢ fault.Memory → fault_at net c.args.place c.args.asked.act.now ≡ Some w.in-Err.fault) c.self.view_is
          (λ other. ap (option_and_then (λ q. fault_of old q c.args.asked.act.now)) here
          ∙ step_refused b i.limit i.cast (map g.R.Runs.local i.roles.items) i.mail i.book (map body_seen i.bodies) (map due_seen i.coming.items) i.updates i.history.entries c.self.invariant goes room at.0 c.args.asked.act.now w.in-Err.fault (w.in-Err.ensures.refused at.0 at.1) other))
    ]

pub returns-clause-err : goal.returns-clause-err
returns-clause-err g c =
    let i = c.self.inside in
    let b = plain i.of.value in
    let new : NetState = record { bundle = b; history = c.step_role.new.history.entries; limit = i.limit } in
    elim c.match-step_role.branch [
      | in-Ok w ↦ subst (λ r. OnErr r (new ≡ c.args.self.now)) (sym w.result-is) tt
      | in-Err w ↦ subst (λ r. OnErr r (new ≡ c.args.self.now)) (sym w.result-is)
          (ap (λ (H : List Entry). record { bundle = b; history = H; limit = i.limit }) w.in-Err.ensures.same_history ∙ c.self.view_is)
    ]
