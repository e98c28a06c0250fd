-- A step that has no fault is refused for memory alone.
use Rattle.schedule.proofs.ActedLemmas.{unrefused}
use Rattle.schedule.proofs.turns.make_step.Goals as goal

pub memory_of-requires : goal.memory_of-requires
memory_of-requires g c = λ other.
    unrefused c.args.net.now c.args.agenda.now c.args.doer c.args.place c.requires.can c.in-Err.fault (c.in-Err.ensures.refused other)
