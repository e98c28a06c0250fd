-- A projection has a text.
use Rattle.std.proofs.Common.{◌∙◌, ap}
use Rattle.dioc_terms.specs.Terms.{term}
use Rattle.trace_text.specs.Process.{has_text}
use Rattle.aioc_top.proofs.Projected.{projected_has_text}
use Rattle.service_cases.proofs.calls.projections.write_projection.Goals as goal

pub write_process-written-requires : goal.write_process-written-requires
write_process-written-requires c = ap has_text c.in_ok-proc.ensures ∙ projected_has_text c.as_slice.result.now (term c.args.choreo.now) c.args.role.now
