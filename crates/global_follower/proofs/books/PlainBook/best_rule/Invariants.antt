-- The best so far is what is chosen of the rules so far.
use Rattle.std.proofs.Common.{◌≡◌, take}
use Rattle.dioc_terms.specs.KeptStores.{store_of}
use Rattle.dioc_terms.specs.RuleLaws.{chosen_among}
use Rattle.global_follower.specs.KeptBooks.{book_of, rules_of}
use Rattle.global_follower.proofs.books.PlainBook.best_rule.Given as goal

abbrev pub invariant-loop-number : goal.invariant-loop-number
invariant-loop-number l =
    l.best ≡ chosen_among (rules_of l.rules) (book_of l.self) l.head (store_of l.store)
    (take l.number-index l.self.order.items)
