-- A projection has a text.
use Rattle.std.proofs.Common.{◌∙◌, ap}
use Rattle.dioc_terms.specs.Terms.{term}
use Rattle.trace_text.specs.Process.{has_text}
use Rattle.aioc_top.proofs.Projected.{projected_has_text}
use Rattle.aioc_top.proofs.commands.project.write_role.Goals as goal

pub write_line-written-requires : goal.write_line-written-requires
write_line-written-requires c = ap has_text c.in_ok-proc.ensures ∙ projected_has_text c.args.cast.now (term c.args.choreo.now) c.args.role.now
