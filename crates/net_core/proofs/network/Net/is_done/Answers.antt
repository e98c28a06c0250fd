-- The role's process is that of the network.
use Rattle.std.proofs.Common.{length, sym, ap, ◌∙◌, subst}
use Rattle.std.specs.Prelude.{map}
use Rattle.std.proofs.lemmas.List.{length-map}
use Rattle.dioc_terms.specs.Equality.{member}
use Rattle.dioc_terms.specs.Plain.{plain}
use Rattle.process_steps.specs.Steps.{ended}
use Rattle.net_core.proofs.ActLemmas.{done_is, locals_long}
use Rattle.net_core.specs.Deeds.{DoneAt}
use Rattle.net_core.specs.KeptParts.{body_seen, due_seen}
use Rattle.net_core.specs.Nets.{NetState, network_of}
use Rattle.net_core.specs.Standing.{Parts}
use Rattle.net_core.proofs.network.Net.is_done.Goals as goal

pub is_done_at-requires-clause-lengths : goal.is_done_at-requires-clause-lengths
is_done_at-requires-clause-lengths g c =
    let i = c.self.inside in
    let parts : Parts = record { cast = i.cast; locals = map g.R.Runs.local i.roles.items; mail = i.mail; book = i.book; bodies = map body_seen i.bodies; coming = map due_seen i.coming.items; updates = i.updates; history = i.history.entries } in
    ap length c.as_slice-2.ensures.value ∙ sym (length-map i.roles.items g.R.Runs.local) ∙ locals_long (plain i.of.value) i.limit parts c.self.invariant ∙ ap length (sym c.as_slice.ensures)

pub is_done_at-requires-clause-member : goal.is_done_at-requires-clause-member
is_done_at-requires-clause-member g c =
    ap (member c.args.role.now) (c.as_slice.ensures ∙ c.self.invariant.cast)
    ∙ ap (λ (net : NetState). member c.args.role.now net.bundle.cast) c.self.view_is
    ∙ c.requires

pub returns : goal.returns
returns g c =
    let i = c.self.inside in
    let parts : Parts = record { cast = i.cast; locals = map g.R.Runs.local i.roles.items; mail = i.mail; book = i.book; bodies = map body_seen i.bodies; coming = map due_seen i.coming.items; updates = i.updates; history = i.history.entries } in
    let done : DoneAt i.cast (map g.R.Runs.local i.roles.items) c.args.role.now c.is_done_at.result =
    subst (λ roles. DoneAt i.cast (map g.R.Runs.local roles) c.args.role.now c.is_done_at.result) c.as_slice-2.ensures.value
    (subst (λ cast. DoneAt cast (map g.R.Runs.local c.as_slice-2.result.now) c.args.role.now c.is_done_at.result) c.as_slice.ensures c.is_done_at.ensures) in
    done_is (plain i.of.value) i.limit parts c.self.invariant c.args.role.now c.is_done_at.result done
    ∙ ap (λ (net : NetState). ended ((network_of net).processes c.args.role.now)) c.self.view_is
