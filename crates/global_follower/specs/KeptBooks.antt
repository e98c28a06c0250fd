-- The rules and the book that a program's values stand for.
use Rattle.std.specs.Prelude.{ℕ, List, []}
use Rattle.dioc_terms.specs.declared.values.Value.{Value}
use Rattle.dioc_terms.specs.Plain.{PlainRule, plain}
use Rattle.dioc_terms.specs.Rules.{Book}
use Rattle.dioc_terms.specs.Values.{bound}
use Rattle.global_follower.specs.declared.books.PlainBook.{PlainBook}
use Rattle.global_follower.specs.declared.rules.RuleList.{RuleList}

abbrev pub rules_of : RuleList → List PlainRule
rules_of list = (plain list.bundle.now).rules

abbrev pub book_of : PlainBook → Book
book_of book = record { order = book.order.items; environment = bound book.env.items }

-- a book of no rules with this environment
abbrev pub book_in : List (List ℕ × Value) → Book
book_in env = record { order = []; environment = bound env }
