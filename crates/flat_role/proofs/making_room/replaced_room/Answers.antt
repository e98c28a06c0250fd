-- Room for what comes in the place of an op is room in the place of its process.
use Rattle.std.proofs.Common.{◌≡◌, refl, sym, ap, ◌∙◌, subst}
use Rattle.std.proofs.lemmas.Result.{IfOk-weaker}
use Rattle.dioc_terms.specs.Processes.{More, Process, Tell, letters, load}
use Rattle.dpoc_process.specs.Growth.{leader_end}
use Rattle.flat_code.specs.Places.{at, op_process}
use Rattle.flat_role.proofs.ReplacingLemmas.{follows_room, leads_room, made_for, tells_room}
use Rattle.flat_role.specs.declared.replacing.What.TheVariants as what
use Rattle.flat_role.specs.Replacing.{IsRoomFor}
use Rattle.flat_role.proofs.making_room.replaced_room.Goals as goal

pub returns-in_ok-lead-in-ScopeLead : goal.returns-in_ok-lead-in-ScopeLead
returns-in_ok-lead-in-ScopeLead c done =
    let me = c.args.me.now in
    let op = c.in-ScopeLead in
    let lead = c.in_ok-lead-in-ScopeLead.lead in
    IfOk-weaker c.room.result _
    (IsRoomFor me (op_process done c.args.op.now))
    (λ o made. subst (λ (R : Process). IsRoomFor me R o) (sym (ap (op_process done) op.is))
    (made_for me _ (what.Leads lead) o
    (λ room role is. leads_room me op.head op.others (at done op.body) lead room role is
    (c.in_ok-lead-in-ScopeLead.ensures
    ∙ ap (λ os. leader_end me os op.head.index) c.as_slice.ensures)) made))
    c.room.ensures

pub returns-in_ok-follow-in-ScopeFollow : goal.returns-in_ok-follow-in-ScopeFollow
returns-in_ok-follow-in-ScopeFollow c done =
    let me = c.args.me.now in
    let op = c.in-ScopeFollow in
    let follow = c.in_ok-follow-in-ScopeFollow.follow in
    IfOk-weaker c.room-in-ScopeFollow.result _
    (IsRoomFor me (op_process done c.args.op.now))
    (λ o made. subst (λ (R : Process). IsRoomFor me R o) (sym (ap (op_process done) op.is))
    (made_for me _ (what.Follows follow) o
    (λ room role is. follows_room me op.index op.leader (at done op.body) follow room role is
    c.in_ok-follow-in-ScopeFollow.ensures) made))
    c.room-in-ScopeFollow.ensures

pub returns-in_ok-left-in-Tell-More : goal.returns-in_ok-left-in-Tell-More
returns-in_ok-left-in-Tell-More c done =
    let me = c.args.me.now in
    let op = c.in-Tell-More in
    let l = load op.messages-1.value in
    let left = c.in_ok-left-in-Tell-More.left in
    let rest = letters left.value in
    let same : rest ≡ letters op.rest.value =
    ap letters c.in_ok-left-in-Tell-More.ensures ∙ c.in_ok-copy-in-Tell-More.ensures
    ∙ ap letters c.deref.ensures in
    let told = rw op.is at op.messages-is in
    let stands : op_process done c.args.op.now ≡ Tell (More op.messages-0 l rest) =
    ap (op_process done) op.is ∙ ap (λ ms. Tell (letters ms)) {x = op.messages} told
    ∙ ap (λ ms. Tell (More op.messages-0 l ms)) (sym same) in
    IfOk-weaker c.room-in-Tell-More.result _
    (IsRoomFor me (op_process done c.args.op.now))
    (λ o made. subst (λ (R : Process). IsRoomFor me R o) (sym stands)
    (made_for me _ (what.Tells left) o
    (λ room role is. tells_room me op.messages-0 l rest room role is refl) made))
    c.room-in-Tell-More.ensures
