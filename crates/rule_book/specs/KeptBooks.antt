-- What a program's book shows: the book of the definitions, and the changes that are still to come.
use Rattle.std.specs.Prelude.{List, map}
use Rattle.std.specs.List.{AllByRecursion}
use Rattle.dioc_terms.specs.declared.bundles.Change.{Change}
use Rattle.dioc_terms.specs.Plain.{PlainRule}
use Rattle.dioc_terms.specs.Rules.{Book}
use Rattle.dioc_terms.specs.Values.{bound}
use Rattle.rule_book.specs.declared.book.Book.{Book as KeptBook}
use Rattle.rule_book.specs.Kept.{change_of, order_of, AreKept, IsKeptChange}

abbrev pub book_of : KeptBook → Book
book_of book = record { order = order_of book.rules.entries; environment = bound book.env.items }

-- the changes of the script that are still to come, in their order
abbrev pub coming : KeptBook → List Change
coming book = map change_of book.coming.items

-- the book is one of these rules: what it keeps of a rule is so in the rule of that number
pub record IsBookOf (rules : List PlainRule) (book : KeptBook) : Type 0 where
  pub kept : AreKept rules book.rules.entries
  pub coming : AllByRecursion (IsKeptChange rules) book.coming.items
