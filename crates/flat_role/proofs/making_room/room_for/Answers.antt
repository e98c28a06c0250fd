-- There is room for the first act of a place alone.
use Rattle.std.proofs.Common.{sym, subst}
use Rattle.std.specs.Prelude.{IfOk}
use Rattle.dioc_terms.specs.Processes.{Process}
use Rattle.flat_role.specs.declared.leaves.Next.{Next}
use Rattle.flat_role.specs.Leaves.{IsNext, is_first}
use Rattle.flat_role.specs.Replacing.{IsRoomFor, IsRoomWhen}
use Rattle.flat_role.proofs.making_room.room_for.Goals as goal

pub returns-in-Op : goal.returns-in-Op
returns-in-Op c = λ R next.
    let me = c.args.me.now in
    let made = c.room_of.result in
    let stands = subst (λ (n : Next). IsNext me n R) c.in-Op.is next in
    subst (λ (n : Next). IfOk made (IsRoomWhen (is_first n) me R)) (sym c.in-Op.is)
    (subst (λ (Q : Process). IfOk made (IsRoomFor me Q)) (sym stands.1)
    (c.room_of.ensures stands.0))
