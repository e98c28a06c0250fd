-- The role stands at its place of the cast, or is none of it.
use Rattle.std.proofs.Common.{sym, ◌∙◌}
use Rattle.std.proofs.lemmas.Option.{slice_get_within}
use Rattle.std.proofs.lemmas.Result.{IfErr-weaker, on_ok_weaker}
use Rattle.net_core.proofs.NetLemmas.{fault_placed, step_placed, stranger_refused}
use Rattle.net_core.proofs.PlaceLemmas.{place_at, place_none}
use Rattle.net_core.proofs.network.Net.step.Goals as goal

pub act-requires-clause-there : goal.act-requires-clause-there
act-requires-clause-there g c =
    let net = c.args.self.now in
    slice_get_within net.bundle.cast c.in-Some.place c.args.role.now
    (place_at c.args.role.now net.bundle.cast c.in-Some.place (sym c.place_of.ensures ∙ c.in-Some.is))

pub returns-in_default-clause-refused : goal.returns-in_default-clause-refused
returns-in_default-clause-refused g c = λ other.
    let net = c.args.self.now in
    stranger_refused net c.args.role.now c.args.act.now c.in_ok-may_go.ensures.goes c.in_ok-may_go.ensures.room
    (place_none c.args.role.now net.bundle.cast (sym c.place_of.ensures ∙ c.in_default.is))

pub returns-clause-stepped : goal.returns-clause-stepped
returns-clause-stepped g c =
    let net = c.args.self.now in
    let at = place_at c.args.role.now net.bundle.cast c.in-Some.place (sym c.place_of.ensures ∙ c.in-Some.is) in
    on_ok_weaker c.act.result (step_placed net c.act.new.self c.in-Some.place c.args.role.now c.args.act.now at) c.act.ensures.stepped

pub returns-clause-refused : goal.returns-clause-refused
returns-clause-refused g c =
    let net = c.args.self.now in
    let at = place_at c.args.role.now net.bundle.cast c.in-Some.place (sym c.place_of.ensures ∙ c.in-Some.is) in
    IfErr-weaker c.act.result _ _
    (λ f refused other. sym (fault_placed net c.in-Some.place c.args.role.now c.args.act.now at) ∙ refused other) c.act.ensures.refused
