use Rattle.std.proofs.Common.{[], sym, ap, ◌∙◌, append-nil}
use Rattle.turn_lock.specs.Items.{items_of}
use Rattle.turn_lock.specs.Views.{number, mine}
use Rattle.turn_lock.proofs.Seats.{left_none, left_none_known}
use Rattle.turn_lock.proofs.turns.Turns.leave.Goals as goal

pub returns-clause-known : goal.returns-clause-known
returns-clause-known g c =
    let k = c.args.turn.hold.token.me.0 in
    c.bring_home.ensures.known [] (c.requires.same ∙ sym (append-nil k.view.seen)) ∙ left_none_known k (g.H.Chronicle.at c.args.turn.home) c.args.turn.hold.single

pub returns-clause-view : goal.returns-clause-view
returns-clause-view g c =
    let k = c.args.turn.hold.token.me.0 in
    ap (λ known. known.view) (c.bring_home.ensures.known [] (c.requires.same ∙ sym (append-nil k.view.seen))) ∙ left_none k.view c.args.turn.hold.single

pub returns-clause-met : goal.returns-clause-met
returns-clause-met g c =
    let v = c.args.turn.hold.token.me.0.view in
    let owner = g.H.Chronicle.owner (g.H.Chronicle.base c.args.turn.home) in
    sym (ap (items_of owner (number v)) c.requires.same) ∙ (c.bring_home.ensures.met [] (c.requires.same ∙ sym (append-nil v.seen)) ∙ append-nil (mine v))
