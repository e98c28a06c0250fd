-- The best so far is the best of the rules so far.
use Rattle.std.proofs.Common.{◌≡◌, take}
use Rattle.dioc_terms.specs.KeptStores.{store_of}
use Rattle.rule_book.proofs.ChoiceLemmas.{best_of}
use Rattle.rule_book.proofs.book.Book.choose.Given as goal

abbrev pub invariant-loop-rule : goal.invariant-loop-rule
invariant-loop-rule l = l.best ≡ best_of l.head (store_of l.store) l.self.env.items (take l.rule-index l.rules)
