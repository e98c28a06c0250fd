-- What came stands in the place, since what there is room for comes.
use Rattle.std.proofs.Common.{ap, ◌∙◌}
use Rattle.dpoc_process.specs.Handed.{handed}
use Rattle.process_steps.specs.Steps.{ended}
use Rattle.role_statuses.specs.Marks as mark
use Rattle.flat_role.proofs.replacing.Room.filled.Goals as goal

pub invariant_of-replace : goal.invariant_of-replace
invariant_of-replace c = c.come-state.ensures.sound c.args.self.me.value

pub returns-clause-mark : goal.returns-clause-mark
returns-clause-mark c = λ me R P room comes. ap mark.Became
    (ap (λ v. v.process) c.replace.ensures.after ∙ c.come-state.ensures.is c.args.self.me.value
    ∙ room.grows (handed c.args.got) comes)

pub returns-clause-mine : goal.returns-clause-mine
returns-clause-mine c = λ me role. ap (λ v. v.role) c.replace.ensures.after ∙ role

pub returns-clause-over : goal.returns-clause-over
returns-clause-over c = λ me R room comes.
    c.come-state.ensures.over ∙ ap ended (room.grows (handed c.args.got) comes)
