-- What the next of the changes that are still to come does.
use Rattle.std.specs.Prelude.{◌≡◌, ◌<◌, ◌≤◌, ℕ, List, [], ◌∷◌, ◌++◌, drop, Some}
use Rattle.dioc_terms.specs.declared.bundles.Change.{Change}
use Rattle.dioc_terms.specs.declared.entries.Entry.{Entry}
use Rattle.dioc_terms.specs.Plain.{PlainRule}
use Rattle.dioc_terms.specs.Rules.{apply}
use Rattle.net_core.specs.declared.faults.ChangeFault.{ChangeFault}
use Rattle.net_core.specs.declared.faults.ChangeFault.TheVariants as fault
use Rattle.net_core.specs.Standing.{ScriptedChange}
use Rattle.rule_book.specs.declared.book.Book.{Book as KeptBook}
use Rattle.rule_book.specs.KeptBooks.{book_of, coming, IsBookOf}

abbrev pub change_in : ScriptedChange → Change
change_in due = due.change

-- the first of the changes was made: it was due, the book has it, and its entry is the last one
pub record ChangeMade (rules : List PlainRule) (old : List ScriptedChange) (visible_entries : ℕ)
    (old_book : KeptBook) (before : List Entry) (new : List ScriptedChange) (new_book : KeptBook)
    (after : List Entry) : Type 0 where
  pub due : ScriptedChange
  pub script : old ≡ due ∷ new
  pub entry : Entry
  pub shows : due.entry ≡ Some entry
  pub stands : due.after ≤ visible_entries
  pub book : book_of new_book ≡ apply rules (book_of old_book) due.change
  pub of : IsBookOf rules new_book
  pub next : coming new_book ≡ drop 1 (coming old_book)
  pub entries : after ≡ before ++ entry ∷ []

-- none is to come, or the first isn't due; nothing is said of want of memory
pub record NotDue (old : List ScriptedChange) (visible_entries : ℕ) : Type 0 where
  pub due : ScriptedChange
  pub rest : List ScriptedChange
  pub script : old ≡ due ∷ rest
  pub later : visible_entries < due.after

abbrev pub ChangeRefused : List ScriptedChange → ℕ → ChangeFault → Type 0
ChangeRefused script visible_entries fault.NoMore = script ≡ []
ChangeRefused script visible_entries fault.NotYet = NotDue script visible_entries
ChangeRefused script visible_entries fault.Memory = Unit {0}
ChangeRefused script visible_entries _ = ⊥
