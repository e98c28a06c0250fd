-- A job may go to another thread, and a bundle and the sign may be borrowed by several. They are shown a field at a time, since so many fields are too much for one search.
use denote.Param.Send.{IsSend, IsSync, sendable}
use denote.Param.SendFields.{declared_send, declared_sync}
use Rattle.std.proofs.Crossing.{crosses}
use Rattle.dioc_terms.proofs.choreographies.Choreo.TheLaws.TheKnot as choreo_knot
use Rattle.dioc_terms.proofs.expressions.Expr.TheLaws.TheKnot as expr_knot
use Rattle.dioc_terms.proofs.processes.Messages.TheLaws.TheKnot as messages_knot
use Rattle.dioc_terms.proofs.names.Name.TheSendSync as name_sends
use Rattle.dioc_terms.proofs.names.Role.TheSendSync as role_sends
use Rattle.dioc_terms.specs.contracts.bundles.Bundle as bundle
use Rattle.flat_role.proofs.Crossing.{flat_sends}
use Rattle.turn_lock.proofs.turns.Seat.TheSendSync as seat_sends
use Rattle.stage.proofs.Crossing.{home_sends}
use Rattle.role_runner.specs.contracts.sign.Sign as sign
use Rattle.role_runner.specs.contracts.threads.Job as job

ruleset parts = (crosses, choreo_knot.crosses, expr_knot.crosses, messages_knot.crosses, sendable)

pub job_sends : IsSend job.the_row
job_sends = declared_send job.the_type (
  search (home_sends, seat_sends.the_send, crosses, sendable) depth 60 fits 20000,
  (search (flat_sends, parts) depth 60 fits 20000, tt),
)

pub sign_syncs : IsSync sign.the_row
sign_syncs = declared_sync sign.the_type (
  search (crosses, sendable) depth 60 fits 20000,
  (search (crosses, sendable) depth 60 fits 20000, tt),
)

ruleset names = (name_sends.the_sync, role_sends.the_field_sync, role_sends.the_sync, parts)

pub bundle_syncs : IsSync bundle.the_row
bundle_syncs = declared_sync bundle.the_type (
  search names depth 60 fits 20000,
  (
    search names depth 60 fits 20000,
    (
      search names depth 60 fits 20000,
      (
        search names depth 60 fits 20000,
        (
          search names depth 60 fits 20000,
          (
            search names depth 60 fits 20000,
            (search names depth 60 fits 20000, (search names depth 60 fits 20000, (search names depth 60 fits 20000, tt))),
          ),
        ),
      ),
    ),
  ),
)
