use Rattle.std.proofs.Common.{◌∙◌, inl, subst, sym}
use Rattle.aioc_io.specs.Sink.{SaysLine}
use Rattle.trace_picture.specs.Calls.{Tells}
use Rattle.trace_picture.proofs.calls.write_told.Goals as goal

-- the line of a bad line
pub returns-in-Ok : goal.returns-in-Ok
returns-in-Ok g c =
    subst (λ f. Tells f (g.E.Sink.state c.args.err.now) (g.E.Sink.state c.say-in-Ok.new.err)) (sym c.in-BadLine.is)
    (inl (subst (SaysLine (g.E.Sink.state c.args.err.now) (g.E.Sink.state c.say-in-Ok.new.err)) (c.deref.ensures.value ∙ c.in-Ok.ensures) c.say-in-Ok.ensures))

-- the line of too many roles
pub returns-in-TooManyRoles : goal.returns-in-TooManyRoles
returns-in-TooManyRoles g c =
    subst (λ f. Tells f (g.E.Sink.state c.args.err.now) (g.E.Sink.state c.say-in-TooManyRoles.new.err)) (sym c.in-TooManyRoles.is) c.say-in-TooManyRoles.ensures
