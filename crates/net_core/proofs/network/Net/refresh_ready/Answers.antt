-- What the role can do is what it can do in the network.
use Rattle.std.proofs.Common.{length, sym, ap, ◌∙◌, subst}
use Rattle.std.specs.Prelude.{map}
use Rattle.std.proofs.lemmas.List.{length-map}
use Rattle.dioc_terms.specs.Equality.{member}
use Rattle.dioc_terms.specs.Plain.{plain}
use Rattle.network_steps.specs.Schedule.{is_ready}
use Rattle.net_core.proofs.ActLemmas.{locals_long}
use Rattle.net_core.proofs.ListLemmas.{ready_is_of}
use Rattle.net_core.proofs.PlacesLemmas.{acts_are, places_are}
use Rattle.net_core.specs.KeptParts.{body_seen, due_seen}
use Rattle.net_core.specs.MovesIn.{ReadyAt, chosen, ready_of}
use Rattle.net_core.specs.Nets.{NetState, network_of}
use Rattle.net_core.specs.Places.{ListedAt, offers_of, places_of}
use Rattle.net_core.specs.Standing.{Parts}
use Rattle.net_core.proofs.network.Net.refresh_ready.Goals as goal

pub refresh_at-requires-clause-lengths : goal.refresh_at-requires-clause-lengths
refresh_at-requires-clause-lengths g c =
    let i = c.self.inside in
    let parts : Parts = record { cast = i.cast; locals = map g.R.Runs.local i.roles.items; mail = i.mail; book = i.book; bodies = map body_seen i.bodies; coming = map due_seen i.coming.items; updates = i.updates; history = i.history.entries } in
    ap length c.as_slice-roles.ensures.value ∙ sym (length-map i.roles.items g.R.Runs.local) ∙ locals_long (plain i.of.value) i.limit parts c.self.invariant ∙ ap length (sym c.as_slice-cast.ensures)

pub refresh_at-requires-clause-member : goal.refresh_at-requires-clause-member
refresh_at-requires-clause-member g c =
    ap (member c.args.role.now) (c.as_slice-cast.ensures ∙ c.self.invariant.cast)
    ∙ ap (λ (net : NetState). member c.args.role.now net.bundle.cast) c.self.view_is
    ∙ c.requires

pub returns-in-Ok-clause-ready : goal.returns-in-Ok-clause-ready
returns-in-Ok-clause-ready g c =
    let i = c.self.inside in
    let acts = chosen c.refresh_at.new.ready.items c.refresh_at.new.acts.items in
    let parts : Parts = record { cast = i.cast; locals = map g.R.Runs.local i.roles.items; mail = i.mail; book = i.book; bodies = map body_seen i.bodies; coming = map due_seen i.coming.items; updates = i.updates; history = i.history.entries } in
    let ready : ReadyAt i.cast (map g.R.Runs.local i.roles.items) i.mail c.args.role.now acts =
    subst (λ roles. ReadyAt i.cast (map g.R.Runs.local roles) i.mail c.args.role.now acts) c.as_slice-roles.ensures.value
    (subst (λ cast. ReadyAt cast (map g.R.Runs.local c.as_slice-roles.result.now) i.mail c.args.role.now acts) c.as_slice-cast.ensures c.in-Ok.ensures.ready) in
    ready_is_of (plain i.of.value) i.limit parts c.self.invariant c.args.role.now acts ready
    ∙ ap (λ (net : NetState). ready_of (network_of net) c.args.role.now) c.self.view_is

pub returns-in-Ok-clause-acts : goal.returns-in-Ok-clause-acts
returns-in-Ok-clause-acts g c =
    let i = c.self.inside in
    let acts = c.refresh_at.new.acts.items in
    let places = c.refresh_at.new.ready.items in
    let parts : Parts = record { cast = i.cast; locals = map g.R.Runs.local i.roles.items; mail = i.mail; book = i.book; bodies = map body_seen i.bodies; coming = map due_seen i.coming.items; updates = i.updates; history = i.history.entries } in
    let listed : ListedAt i.cast (map g.R.Runs.local i.roles.items) i.mail c.args.role.now acts places =
    subst (λ roles. ListedAt i.cast (map g.R.Runs.local roles) i.mail c.args.role.now acts places) c.as_slice-roles.ensures.value
    (subst (λ cast. ListedAt cast (map g.R.Runs.local c.as_slice-roles.result.now) i.mail c.args.role.now acts places) c.as_slice-cast.ensures c.in-Ok.ensures.listed) in
    acts_are (plain i.of.value) i.limit parts c.self.invariant c.args.role.now acts places listed
    ∙ ap (λ (net : NetState). offers_of (network_of net) c.args.role.now) c.self.view_is

pub returns-in-Ok-clause-places : goal.returns-in-Ok-clause-places
returns-in-Ok-clause-places g c =
    let i = c.self.inside in
    let acts = c.refresh_at.new.acts.items in
    let places = c.refresh_at.new.ready.items in
    let parts : Parts = record { cast = i.cast; locals = map g.R.Runs.local i.roles.items; mail = i.mail; book = i.book; bodies = map body_seen i.bodies; coming = map due_seen i.coming.items; updates = i.updates; history = i.history.entries } in
    let listed : ListedAt i.cast (map g.R.Runs.local i.roles.items) i.mail c.args.role.now acts places =
    subst (λ roles. ListedAt i.cast (map g.R.Runs.local roles) i.mail c.args.role.now acts places) c.as_slice-roles.ensures.value
    (subst (λ cast. ListedAt cast (map g.R.Runs.local c.as_slice-roles.result.now) i.mail c.args.role.now acts places) c.as_slice-cast.ensures c.in-Ok.ensures.listed) in
    places_are (plain i.of.value) i.limit parts c.self.invariant c.args.role.now acts places listed
    ∙ ap (λ (net : NetState). places_of (is_ready (network_of net)) acts) c.self.view_is
