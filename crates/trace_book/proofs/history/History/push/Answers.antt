use Rattle.std.proofs.lemmas.Grind.{common_steps}
-- There are no more visible entries than entries, and there is room for one more.
use Rattle.std.proofs.Common.{ap, arith}
use Rattle.trace_book.specs.Histories.{Written}
use Rattle.trace_book.proofs.Visible.{few_visible}
use Rattle.trace_book.proofs.history.History.push.Goals as goal

pub overflow_add-self : goal.overflow_add-self
overflow_add-self c = omega (arith, few_visible c.self.inside.entries.items, ap (λ (w : Written). w.room) c.self.view_is, c.requires, c.self.invariant)

pub invariant_of-self : goal.invariant_of-self
invariant_of-self c = grind (arith, common_steps)
