use Rattle.std.proofs.Common.{codes, refl}
use Rattle.bundle_text.specs.Readers.{found_in}
use Rattle.bundle_text.specs.Stops.{second_trace, in_trace}
use Rattle.bundle_text.proofs.Found.{opened_here, trace_taken}
use Rattle.bundle_text.proofs.SectionSteps.{trace_filled, traced_some, traced_none}
use Rattle.bundle_text.proofs.sections.trace_section_at.Goals as goal

pub returns-then-is_some-clause-stopped : goal.returns-then-is_some-clause-stopped
returns-then-is_some-clause-stopped c = λ told version.
    second_trace refl (opened_here c.args.text.now c.args.at version (codes "trace") c.requires.named c.requires.opens) (traced_some c.args.parts.now.trace (let found = c.is_some.ensures in let test = c.if-is_some.true in cc))

pub returns-in-Ok-clause-found : goal.returns-in-Ok-clause-found
returns-in-Ok-clause-found c = λ version.
    trace_taken c.args.text.now c.args.at version (found_in c.args.parts.now) _ c.in-Ok.trace c.in-Ok.next c.requires.named c.requires.opens c.in-Ok.ensures.found
    (trace_filled (found_in c.args.parts.now) _ c.args.parts.now.trace c.in-Ok.trace c.fill.ensures (let found = c.is_some.ensures in let test = c.if-is_some.false in cc) refl)

pub returns-in-Err-clause-stopped : goal.returns-in-Err-clause-stopped
returns-in-Err-clause-stopped c = λ told version.
    in_trace (c.in-Err.ensures.stopped told).0 (opened_here c.args.text.now c.args.at version (codes "trace") c.requires.named c.requires.opens)
    (traced_none c.args.parts.now.trace (let found = c.is_some.ensures in let test = c.if-is_some.false in cc)) (c.in-Err.ensures.stopped told).1
