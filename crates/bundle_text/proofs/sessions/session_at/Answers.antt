use Rattle.std.proofs.Common.{refl}
use Rattle.dioc_terms.specs.Plain.{plain}
use Rattle.bundle_text.specs.Sessions.{no_session, in_bundle}
use Rattle.bundle_text.proofs.Results.{ok_then, err_then}
use Rattle.bundle_text.proofs.SessionSteps.{session_named, session_opens, session_here, version_within, session_taken}
use Rattle.bundle_text.proofs.sessions.session_at.Goals as goal
use Rattle.bundle_text.proofs.sessions.session_at.Goals.{then-not-named-via-then-not-named, then-not-named-via-else-not-named+then-not-has}

pub returns-then-not-named-clause-stopped : goal.returns-then-not-named-clause-stopped
returns-then-not-named-clause-stopped c = λ told.
    no_session refl (λ inside begins.
    elim c.then-not-named.branch [
      | then-not-named-via-then-not-named w ↦ (let found = c.named.ensures.1 (session_named c.args.text.now c.args.at begins) in let missed = w.if-not-named.true in cc)
      | then-not-named-via-else-not-named+then-not-has w ↦ (let found = w.has.ensures.value.1 (session_opens c.args.text.now c.args.at begins) in let missed = w.if-not-has.true in cc)
    ])

pub bundle_up_to_close-requires-clause-within : goal.bundle_up_to_close-requires-clause-within
bundle_up_to_close-requires-clause-within c =
    version_within c.args.text.now c.args.at c.version_at-version.result.0 c.version_at-version.result.1
    (session_here c.args.text.now c.args.at (c.named.ensures.0 c.if-not-named.false) (c.has.ensures.value.0 c.if-not-has.false)) c.version_at-version.ensures

pub returns-clause-found : goal.returns-clause-found
returns-clause-found c =
    ok_then c.bundle_up_to_close.result (λ read taken. session_taken c.args.text.now c.args.at c.version_at-version.result.0 c.version_at-version.result.1 (plain read.0) read.1
    (session_here c.args.text.now c.args.at (c.named.ensures.0 c.if-not-named.false) (c.has.ensures.value.0 c.if-not-has.false)) c.version_at-version.ensures taken)
    c.bundle_up_to_close.ensures.found

pub returns-clause-stopped : goal.returns-clause-stopped
returns-clause-stopped c =
    err_then c.bundle_up_to_close.result (λ stop ends told. in_bundle (session_here c.args.text.now c.args.at (c.named.ensures.0 c.if-not-named.false) (c.has.ensures.value.0 c.if-not-has.false)) c.version_at-version.ensures (ends told))
    c.bundle_up_to_close.ensures.stopped
