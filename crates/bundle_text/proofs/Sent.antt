-- A run of sessions may go to another thread, and many threads may read a text.
use denote.Param.Send.{IsSend, sendable}
use denote.Param.SendFields.{declared_send}
use Rattle.std.proofs.Crossing.{crosses}
use Rattle.dioc_terms.specs.contracts.bundles.Bundle as bundle
use Rattle.dioc_terms.proofs.choreographies.Choreo.TheLaws.TheKnot as choreo
use Rattle.dioc_terms.proofs.expressions.Expr.TheLaws.TheKnot as expr
use Rattle.dioc_terms.proofs.names.Name.TheSendSync as name
use Rattle.dioc_terms.proofs.names.Role.TheSendSync as role

ruleset parts = (name.the_send, role.the_field_send, role.the_send, crosses, choreo.crosses, expr.crosses, sendable)

-- each of its parts, and so the whole
pub bundle_send : IsSend bundle.the_row
bundle_send = declared_send bundle.the_type (
  search parts depth 60 fits 20000,
  (
    search parts depth 60 fits 20000,
    (
      search parts depth 60 fits 20000,
      (
        search parts depth 60 fits 20000,
        (
          search parts depth 60 fits 20000,
          (
            search parts depth 60 fits 20000,
            (search parts depth 60 fits 20000, (search parts depth 60 fits 20000, (search parts depth 60 fits 20000, tt))),
          ),
        ),
      ),
    ),
  ),
)
