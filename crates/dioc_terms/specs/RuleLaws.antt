-- What the book chooses, and what an add makes of its order, for whoever goes through the order
-- from left to right.
use Rattle.std.specs.Prelude.{◌≡◌, ℕ, List, [], ◌∷◌, ◌++◌, true, false, filter, Option, Some, None, if◌then◌else◌}
use Rattle.std.specs.List.{list_any, list_all}
use Rattle.dioc_terms.specs.declared.processes.ScopeHead.{ScopeHead}
use Rattle.dioc_terms.specs.Plain.{PlainRule}
use Rattle.dioc_terms.specs.Rules.{Book, is_named, add_rule, fits, no_lower, first_greatest, choose}
use Rattle.dioc_terms.specs.Stores.{Store}

-- the best rule so far, and one more: it must have a greater priority to be better
abbrev pub greater_of : List PlainRule → Option ℕ → ℕ → Option ℕ
greater_of rules None m = Some m
greater_of rules (Some n) m = if no_lower rules n m then Some n else Some m

-- what is chosen among these rules
abbrev pub chosen_among : List PlainRule → Book → ScopeHead → Store → List ℕ → Option ℕ
chosen_among rules book head s ms = first_greatest rules (filter (fits rules book head s) ms)

pub record ChoicesGoOn : Type 0 where
  -- the choice among some rules and one more
  pub one_more : (rules : List PlainRule) (book : Book) (head : ScopeHead) (s : Store) (ms : List ℕ)
      (m : ℕ)
      → chosen_among rules book head s (ms ++ m ∷ [])
      ≡ (if fits rules book head s m then greater_of rules (chosen_among rules book head s ms) m
      else chosen_among rules book head s ms)
  -- what is chosen fits
  pub chosen_fits : (rules : List PlainRule) (book : Book) (head : ScopeHead) (s : Store) (n : ℕ)
      → choose rules book head s ≡ Some n
      → fits rules book head s n ≡ true
  -- and no rule that fits has a greater priority
  pub greatest : (rules : List PlainRule) (book : Book) (head : ScopeHead) (s : Store) (n : ℕ)
      → choose rules book head s ≡ Some n
      → list_all (no_lower rules n) (filter (fits rules book head s) book.order) ≡ true

pub record AddsGoOn : Type 0 where
  -- a rule whose name is absent goes last
  pub absent : (rules : List PlainRule) (m : ℕ) (name : List ℕ) (ns : List ℕ)
      → list_any (is_named rules name) ns ≡ false
      → add_rule rules m name ns ≡ ns ++ m ∷ []
  -- a rule whose name is present replaces the first of that name at its place
  pub present : (rules : List PlainRule) (m : ℕ) (name : List ℕ) (before : List ℕ) (n : ℕ)
      (later : List ℕ)
      → list_any (is_named rules name) before ≡ false → is_named rules name n ≡ true
      → add_rule rules m name (before ++ n ∷ later) ≡ before ++ m ∷ later
