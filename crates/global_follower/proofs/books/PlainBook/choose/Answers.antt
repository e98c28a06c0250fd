use Rattle.dioc_terms.specs.KeptStores.{store_of}
use Rattle.global_follower.specs.KeptBooks.{book_of, rules_of}
use Rattle.global_follower.proofs.BookLemmas.{below_top}
use Rattle.global_follower.proofs.books.PlainBook.choose.Goals as goal

pub returns-clause-below : goal.returns-clause-below
returns-clause-below c =
    below_top c.choices_go_on.ensures (rules_of c.args.rules) (book_of c.args.self.now)
    c.args.head.now (store_of c.args.store.now) c.best_rule.result c.best_rule.ensures
