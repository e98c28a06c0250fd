-- A role over flat code may go to another thread. Its parts are shown one after another, since so
-- many fields are too much for one search.
use denote.Param.Send.{IsSend, sendable}
use denote.Param.SendFields.{declared_send, variants_send}
use Rattle.std.proofs.Crossing.{crosses}
use Rattle.dioc_terms.proofs.expressions.Expr.TheLaws.TheKnot as expr_knot
use Rattle.dioc_terms.proofs.processes.Messages.TheLaws.TheKnot as messages_knot
use Rattle.dioc_terms.proofs.expressions.Oper.TheSendSync as oper_sends
use Rattle.dioc_terms.proofs.names.Index.TheSendSync as index_sends
use Rattle.dioc_terms.proofs.names.Name.TheSendSync as name_sends
use Rattle.dioc_terms.proofs.names.Role.TheSendSync as role_sends
use Rattle.dioc_terms.proofs.names.Text.TheSendSync as text_sends
use Rattle.dioc_terms.proofs.processes.Key.TheSendSync as key_sends
use Rattle.dioc_terms.proofs.processes.ScopeHead.TheSendSync as head_sends
use Rattle.dioc_terms.proofs.processes.Tag.TheSendSync as tag_sends
use Rattle.dioc_terms.proofs.values.Value.TheSendSync as value_sends
use Rattle.dioc_terms.specs.contracts.processes.Messages as messages
use Rattle.dioc_terms.specs.contracts.processes.Proc as proc
use Rattle.dioc_terms.specs.contracts.stores.Store as store
use Rattle.dpoc_process.specs.contracts.growth.Write as write
use Rattle.flat_code.specs.contracts.code.Code as code
use Rattle.flat_code.specs.contracts.levels.Level as level
use Rattle.flat_code.specs.contracts.ops.Op as op
use Rattle.flat_code.specs.contracts.plan.Plan as plan
use Rattle.flat_role.proofs.marks.Update.TheLaws.TheKnot as update_knot
use Rattle.flat_role.specs.contracts.marks.Update as update
use Rattle.flat_role.specs.contracts.progress.Progress as progress
use Rattle.flat_role.specs.contracts.replacing.Room as room
use Rattle.flat_role.specs.contracts.replacing.What as what
use Rattle.flat_role.specs.contracts.states.FlatRole as flat
use Rattle.flat_role.specs.contracts.steps.Own as own

ruleset parts = (crosses, expr_knot.crosses, messages_knot.crosses, sendable)

ruleset words = (
  value_sends.the_field_send,
  value_sends.the_send,
  index_sends.the_field_send,
  index_sends.the_send,
  role_sends.the_field_send,
  role_sends.the_send,
  tag_sends.the_field_send,
  tag_sends.the_send,
  head_sends.the_field_send,
  head_sends.the_send,
  key_sends.the_field_send,
  key_sends.the_send,
  oper_sends.the_field_send,
  oper_sends.the_send,
  name_sends.the_send,
  text_sends.the_send,
)

op_sends : IsSend op.the_row
op_sends = search (words, parts) depth 60 fits 20000

code_sends : IsSend code.the_row
code_sends = search (op_sends, parts) depth 60 fits 20000

store_sends : IsSend store.the_row
store_sends = search parts depth 60 fits 20000

messages_send : IsSend messages.the_row
messages_send = search (words, parts) depth 60 fits 20000

process_sends : IsSend proc.the_row
process_sends = search (words, parts) depth 60 fits 20000

write_sends : IsSend write.the_row
write_sends = search parts depth 60 fits 20000

level_sends : IsSend level.the_row
level_sends = search parts depth 60 fits 20000

plan_sends : IsSend plan.the_row
plan_sends = declared_send plan.the_type (
  search (code_sends, parts) depth 60 fits 20000,
  (search (level_sends, parts) depth 60 fits 20000, tt),
)

update_sends : IsSend update.the_row
update_sends = search (update_knot.crosses, plan_sends, messages_send, process_sends, words, parts) depth 60 fits 20000

progress_sends : IsSend progress.the_row
progress_sends = search (update_knot.crosses, plan_sends, messages_send, process_sends, words, parts) depth 60 fits 20000

what_sends : IsSend what.the_row
what_sends = search (messages_send, process_sends, words, parts) depth 60 fits 20000

room_sends : IsSend room.the_row
room_sends = declared_send room.the_type (
  search (words, parts) depth 60 fits 20000,
  (
    search (what_sends, parts) depth 60 fits 20000,
    (search (update_sends, parts) depth 60 fits 20000, tt),
  ),
)

own_sends : IsSend own.the_row
own_sends = declared_send own.the_type (
  search (write_sends, parts) depth 60 fits 20000,
  (
    search parts depth 60 fits 20000,
    (search (room_sends, parts) depth 60 fits 20000, tt),
  ),
)

pub flat_sends : IsSend flat.the_row
flat_sends = declared_send flat.the_type (
  search parts depth 60 fits 20000,
  (
    search (plan_sends, parts) depth 60 fits 20000,
    (
      search (progress_sends, parts) depth 60 fits 20000,
      (
        search (store_sends, parts) depth 60 fits 20000,
        (search (own_sends, parts) depth 60 fits 20000, tt),
      ),
    ),
  ),
)
