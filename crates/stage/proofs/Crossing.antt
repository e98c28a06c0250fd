-- A home may go to another thread, and a stage may be borrowed by several. A home is shown a field at a time, since a struct of so many fields is too much for one search.
use denote.Param.Send.{IsSend, IsSync, view_send, sendable}
use denote.Param.SendFields.{declared_send, declared_sync}
use Rattle.std.proofs.Crossing.{crosses}
use Rattle.dioc_terms.proofs.choreographies.Choreo.TheLaws.TheKnot as choreo_knot
use Rattle.dioc_terms.proofs.expressions.Expr.TheLaws.TheKnot as expr_knot
use Rattle.dioc_terms.proofs.processes.Messages.TheLaws.TheKnot as messages_knot
use Rattle.dioc_terms.proofs.expressions.Oper.TheSendSync as oper_sends
use Rattle.dioc_terms.proofs.names.Index.TheSendSync as index_sends
use Rattle.dioc_terms.proofs.names.Name.TheSendSync as name_sends
use Rattle.dioc_terms.proofs.names.Role.TheSendSync as role_sends
use Rattle.dioc_terms.proofs.names.Text.TheSendSync as text_sends
use Rattle.dioc_terms.proofs.processes.Key.TheSendSync as key_sends
use Rattle.dioc_terms.proofs.processes.ScopeHead.TheSendSync as head_sends
use Rattle.dioc_terms.proofs.processes.Tag.TheSendSync as tag_sends
use Rattle.dioc_terms.proofs.values.Value.TheSendSync as value_sends
use Rattle.net_core.proofs.bodies.Coming.TheSendSync as change_sends
use Rattle.trace_book.proofs.history.History.TheSendSync as entries_send
use Rattle.turn_lock.proofs.turns.Seat.TheSendSync as seat_sends
use Rattle.turn_lock.proofs.turns.Turns.TheSendSync as turns_sync
use Rattle.role_mailbox.specs.contracts.mail.Mail as mail
use Rattle.net_core.specs.contracts.bodies.Coming as coming
use Rattle.rule_book.specs.contracts.book.Book as book
use Rattle.trace_book.specs.contracts.history.History as history
use Rattle.stage.specs.contracts.home.Home as home
use Rattle.stage.specs.contracts.home.Home.TheInside as inside
use Rattle.stage.specs.contracts.pulses.Pulses as pulses
use Rattle.stage.specs.contracts.stage.Stage as stage

ruleset parts = (crosses, choreo_knot.crosses, expr_knot.crosses, messages_knot.crosses, sendable)

ruleset words = (
  value_sends.the_field_send,
  value_sends.the_send,
  value_sends.the_field_sync,
  value_sends.the_sync,
  index_sends.the_field_send,
  index_sends.the_send,
  index_sends.the_field_sync,
  index_sends.the_sync,
  role_sends.the_field_send,
  role_sends.the_send,
  role_sends.the_field_sync,
  role_sends.the_sync,
  tag_sends.the_field_send,
  tag_sends.the_send,
  tag_sends.the_field_sync,
  tag_sends.the_sync,
  head_sends.the_field_send,
  head_sends.the_send,
  head_sends.the_field_sync,
  head_sends.the_sync,
  key_sends.the_field_send,
  key_sends.the_send,
  key_sends.the_field_sync,
  key_sends.the_sync,
  oper_sends.the_field_send,
  oper_sends.the_send,
  oper_sends.the_field_sync,
  oper_sends.the_sync,
  name_sends.the_send,
  name_sends.the_sync,
  text_sends.the_send,
  text_sends.the_sync,
)

pub mail_sends : IsSend mail.the_row
mail_sends = search (words, parts) depth 60 fits 20000

pub book_sends : IsSend book.the_row
book_sends = search parts depth 60 fits 20000

pub history_sends : IsSend history.the_row
history_sends = search (entries_send.the_send, parts) depth 60 fits 20000

pub coming_sends : IsSend coming.the_row
coming_sends = search (change_sends.the_send, parts) depth 60 fits 20000

pub home_sends : IsSend home.the_row
home_sends = view_send inside.the_row _ _ _ _ (declared_send inside.the_type (
  search parts depth 60 fits 20000,
  (
    search parts depth 60 fits 20000,
    (
      search parts depth 60 fits 20000,
      (
        search parts depth 60 fits 20000,
        (
          search parts depth 60 fits 20000,
          (
            mail_sends,
            (
              book_sends,
              (
                search (coming_sends, parts) depth 60 fits 20000,
                (search parts depth 60 fits 20000, (history_sends, (search parts depth 60 fits 20000, (search parts depth 60 fits 20000, tt)))),
              ),
            ),
          ),
        ),
      ),
    ),
  ),
))

pub pulses_syncs : IsSync pulses.the_row
pulses_syncs = declared_sync pulses.the_type (
  search (words, parts) depth 60 fits 20000,
  (search (crosses, sendable) depth 60 fits 20000, (search (crosses, sendable) depth 60 fits 20000, (search (crosses, sendable) depth 60 fits 20000, tt))),
)

pub stage_syncs : IsSync stage.the_row
stage_syncs =
    declared_sync stage.the_type
    (search (home_sends, turns_sync.the_sync, turns_sync.the_field_sync, crosses, sendable) depth 60 fits 20000, (search (pulses_syncs, crosses, sendable) depth 60 fits 20000, tt))

-- what whoever joins threads over seats and a stage gives to the search, beside `sendable` of the logic: `search (crossing, sendable) depth 60 fits 20000`
pub ruleset crossing = (home_sends, stage_syncs, seat_sends.the_send, crosses)
