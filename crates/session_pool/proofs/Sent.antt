-- Many threads may read a bundle.
use denote.Param.Send.{IsSync, sendable}
use denote.Param.SendFields.{declared_sync}
use Rattle.std.proofs.Crossing.{crosses}
use Rattle.dioc_terms.specs.contracts.bundles.Bundle as bundle
use Rattle.dioc_terms.proofs.choreographies.Choreo.TheLaws.TheKnot as choreo
use Rattle.dioc_terms.proofs.expressions.Expr.TheLaws.TheKnot as expr
use Rattle.dioc_terms.proofs.names.Name.TheSendSync as name
use Rattle.dioc_terms.proofs.names.Role.TheSendSync as role

ruleset parts = (name.the_sync, role.the_field_sync, role.the_sync, crosses, choreo.crosses, expr.crosses, sendable)

-- each of its parts, and so the whole
pub bundle_sync : IsSync bundle.the_row
bundle_sync = declared_sync bundle.the_type (
  search parts depth 60 fits 20000,
  (
    search parts depth 60 fits 20000,
    (
      search parts depth 60 fits 20000,
      (
        search parts depth 60 fits 20000,
        (
          search parts depth 60 fits 20000,
          (
            search parts depth 60 fits 20000,
            (
              search parts depth 60 fits 20000,
              (
                search parts depth 60 fits 20000,
                (
                  search parts depth 60 fits 20000,
                  tt,
                ),
              ),
            ),
          ),
        ),
      ),
    ),
  ),
)
