-- The rule book: numbers of rules in the order of their first adding, and the environment.
use Rattle.std.specs.Prelude.{ℕ, zero, suc, List, [], ◌∷◌, Bool, true, false, ◌&&◌, not, nat_lt, filter, Option, Some, None, if◌then◌else◌, int_le, slice_get}
use Rattle.std.specs.List.{list_all}
use Rattle.dioc_terms.specs.declared.values.Value.{Value}
use Rattle.dioc_terms.specs.declared.processes.ScopeHead.{ScopeHead}
use Rattle.dioc_terms.specs.declared.bundles.Change.{Change}
use Rattle.dioc_terms.specs.declared.bundles.Change.TheVariants as change
use Rattle.dioc_terms.specs.Equality.{name_eq, member}
use Rattle.limits.specs.Limits.{top_level}
use Rattle.dioc_terms.specs.Plain.{PlainRule}
use Rattle.dioc_terms.specs.Stores.{Store}
use Rattle.dioc_terms.specs.Terms.{mentions}
use Rattle.dioc_terms.specs.Values.{holds, bound}

pub record Book : Type 0 where
  -- the rules in it, by their numbers in the bundle
  pub order : List ℕ
  -- the value of each key; an unset key is Nil
  pub environment : List ℕ → Value

module _ (rules : List PlainRule) where
  -- whether rule m has that name
  abbrev pub is_named : List ℕ → ℕ → Bool
  is_named name m = named_rule (slice_get rules m)
    where
      named_rule : Option PlainRule → Bool
      named_rule None = false
      named_rule (Some rule) = name_eq rule.name name

  -- an add whose name is present replaces the rule at its place, else it goes last
  abbrev pub add_rule : ℕ → List ℕ → List ℕ → List ℕ
  add_rule m name [] = m ∷ []
  add_rule m name (n ∷ ns) = if is_named name n then m ∷ ns else n ∷ add_rule m name ns

  -- rule m added by its name; a number past the rules adds nothing
  abbrev pub added : ℕ → List ℕ → List ℕ
  added m order = by_rule (slice_get rules m)
    where
      by_rule : Option PlainRule → List ℕ
      by_rule None = order
      by_rule (Some rule) = add_rule m rule.name order

  -- a drop of an absent name changes nothing; an environment change sets a key
  abbrev pub apply : Book → Change → Book
  apply book (change.Add m) = record { order = added m book.order; environment = book.environment }
  apply book (change.Drop name) =
      record {
        order = filter (λ m. not (is_named name m)) book.order;
        environment = book.environment;
      }
  apply book (change.Env key v) =
      record {
        order = book.order;
        environment = λ other. if name_eq other key then v else
            book.environment other;
      }

  -- A rule fits a scope where its condition holds over the scope's properties, the environment and
  -- the leader's store, where the roles of its body are among the scope's roles, and where the
  -- scope's level is below 16.
  abbrev pub fits : Book → ScopeHead → Store → ℕ → Bool
  fits book head s m = rule_fits (slice_get rules m)
    where
      rule_fits : Option PlainRule → Bool
      rule_fits None = false
      rule_fits (Some rule) = holds rule.cond s (bound head.props) book.environment
          && list_all (λ q. member q head.roles) (mentions rule.body) && nat_lt head.level top_level

  -- whether rule m has no lower priority than rule n
  abbrev pub no_lower : ℕ → ℕ → Bool
  no_lower m n = compare_rules (slice_get rules m) (slice_get rules n)
    where
      compare_rules : Option PlainRule → Option PlainRule → Bool
      compare_rules (Some a) (Some b) = int_le b.priority a.priority
      compare_rules _ _ = true

  -- of these rules the first of those with the greatest priority
  abbrev pub first_greatest : List ℕ → Option ℕ
  first_greatest [] = None
  first_greatest (m ∷ ms) = greater_of (first_greatest ms)
    where
      greater_of : Option ℕ → Option ℕ
      greater_of None = Some m
      greater_of (Some n) = if no_lower m n then Some m else Some n

  -- what the book chooses for a scope, given its leader's store
  abbrev pub choose : Book → ScopeHead → Store → Option ℕ
  choose book head s = first_greatest (filter (fits book head s) book.order)

  -- the first so many rules, added one after another to an empty book
  abbrev pub opening_order : ℕ → List ℕ
  opening_order zero = []
  opening_order (suc n) = added n (opening_order n)

-- the book of a run's start: the opening rules, and the environment of the bundle, where the last
-- pair of a key counts
abbrev pub opening_book : List PlainRule → ℕ → List (List ℕ × Value) → Book
opening_book rules opening env =
    record { order = opening_order rules opening; environment = bound env }
