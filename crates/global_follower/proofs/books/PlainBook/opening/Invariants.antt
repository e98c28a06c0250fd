-- The order so far is that of the rules so far.
use Rattle.std.proofs.Common.{◌≡◌}
use Rattle.dioc_terms.specs.Rules.{opening_order}
use Rattle.global_follower.specs.KeptBooks.{rules_of}
use Rattle.global_follower.proofs.books.PlainBook.opening.Given as goal

abbrev pub invariant-loop-number : goal.invariant-loop-number
invariant-loop-number l = l.order.items ≡ opening_order (rules_of l.rules) l.number
