-- At most one rule, one binding and one change stand at a place.
use Rattle.std.proofs.Common.{◌≡◌, ℕ, suc, ◌≤◌, false, List, ◌∷◌, length, drop, Some, ℤ, pos, neg_ℤ, codes, refl, ap, sym, ◌∙◌, arith}
use Rattle.dioc_terms.specs.declared.values.Value.{Value}
use Rattle.dioc_terms.specs.Expressions.{Expression}
use Rattle.dioc_terms.specs.Terms.{Term}
use Rattle.dioc_terms.specs.Plain.{PlainRule}
use Rattle.aioc_tokens.specs.declared.words.Word.TheVariants as word
use Rattle.aioc_tokens.specs.declared.words.Punctuator.TheVariants as punctuator
use Rattle.aioc_tokens.specs.declared.words.Sort.TheVariants as sorts
use Rattle.aioc_tokens.specs.Lexemes.{Lexeme, Name, Number, Reserved, Symbol, sort_of}
use Rattle.aioc_tokens.specs.Fronts.{Longest}
use Rattle.expr_syntax.specs.Constants.{number_up_to}
use Rattle.expr_syntax.specs.Grammar.{IsExpression}
use Rattle.expr_syntax.specs.declared.levels.ExprKind.TheVariants as kind
use Rattle.expr_syntax.specs.declared.levels.Level.TheVariants.{Disjunction}
use Rattle.expr_syntax.proofs.Tables as expressions
use Rattle.expr_syntax.proofs.Compare as expression
use Rattle.dioc_syntax.specs.Choreographies.{IsChoreography}
use Rattle.dioc_syntax.proofs.Tables.{choreography_goes}
use Rattle.dioc_syntax.proofs.Compare.{settle, compare, constant_same}
use Rattle.limits.specs.Limits.{most_priority}
use Rattle.rule_syntax.specs.Grammar.{HasPriority, no_priority, priority, negative_priority, opening, doing, closing, IsRule, IsBinding, PlainChange, Add, Drop, Env, IsChange, adds, drops, sets}
use Rattle.rule_syntax.specs.Readers.{IsRanked, IsTested, IsReplaced, IsHead}

-- a value that is read up to the one place where any is read is the longest
pub only_longest : {A : Type 0} {Reads : A → List Lexeme → Type 0} {value : A} {to : List Lexeme} → Reads value to → ((other : A) (end : List Lexeme) → Reads other end → to ≡ end) → Longest Reads value to
only_longest reads only = record { reads = reads; longest = λ other end is. omega (arith, ap length (only other end is)) }

pub some_same : {A : Type 0} {x y : A} → Some x ≡ Some y → x ≡ y
some_same e = cc

priority_same : {version : ℕ} {from from2 to end : List Lexeme} {p q : ℤ} → HasPriority version from p to → sort_of to ≡ sorts.Symbol punctuator.LeftBrace → HasPriority version from2 q end → sort_of end ≡ sorts.Symbol punctuator.LeftBrace → from ≡ from2
    → (p ≡ q) × (to ≡ end)
priority_same no_priority opens no_priority opens2 froms = (refl, froms)
priority_same no_priority opens (priority two begins small) opens2 froms = let s = ap sort_of (froms ∙ begins) in absurd cc
priority_same no_priority opens (negative_priority two begins small) opens2 froms = let s = ap sort_of (froms ∙ begins) in absurd cc
priority_same (priority two begins small) opens no_priority opens2 froms = let s = ap sort_of (sym froms ∙ begins) in absurd cc
priority_same (negative_priority two begins small) opens no_priority opens2 froms = let s = ap sort_of (sym froms ∙ begins) in absurd cc
priority_same {to = to} {end = end} (priority {digits = digits} {n = n} two begins small) opens (priority {digits = digits2} {n = m} two2 begins2 small2) opens2 froms =
    let same : Name (codes "priority") ∷ Number digits ∷ to ≡ Name (codes "priority") ∷ Number digits2 ∷ end = sym begins ∙ froms ∙ begins2 in
    let digits_same : digits ≡ digits2 = cc in
    let rest : to ≡ end = cc in
    let number : n ≡ m = some_same (sym small ∙ ap (number_up_to 1000000) digits_same ∙ small2) in
    (ap pos number, rest)
priority_same {to = to} {end = end} (negative_priority {digits = digits} {n = n} two begins small) opens (negative_priority {digits = digits2} {n = m} two2 begins2 small2) opens2 froms =
    let same : Name (codes "priority") ∷ Symbol punctuator.Minus ∷ Number digits ∷ to ≡ Name (codes "priority") ∷ Symbol punctuator.Minus ∷ Number digits2 ∷ end = sym begins ∙ froms ∙ begins2 in
    let digits_same : digits ≡ digits2 = cc in
    let rest : to ≡ end = cc in
    let number : n ≡ m = some_same (sym small ∙ ap (number_up_to 1000000) digits_same ∙ small2) in
    (ap (λ n. neg_ℤ (pos n)) number, rest)
priority_same (priority two begins small) opens (negative_priority two2 begins2 small2) opens2 froms = let s = ap (λ l. sort_of (drop 1 l)) (sym begins ∙ froms ∙ begins2) in absurd cc
priority_same (negative_priority two begins small) opens (priority two2 begins2 small2) opens2 froms = let s = ap (λ l. sort_of (drop 1 l)) (sym begins ∙ froms ∙ begins2) in absurd cc

pub one_priority : {version : ℕ} {from from2 to end : List Lexeme} {p q : ℤ} → IsRanked version from p to → IsRanked version from2 q end → from ≡ from2 → (p ≡ q) × (to ≡ end)
one_priority a b froms = priority_same a.priority a.opens b.priority b.opens froms

-- a condition in brackets
pub one_condition : {room room2 : ℕ} {from from2 to end : List Lexeme} {whole other : Expression} → room ≡ room2 → from ≡ from2 → IsTested room from whole to → IsTested room2 from2 other end → (whole ≡ other) × (to ≡ end)
one_condition {room2 = room2} {from2 = from2} {to = to} {end = end} {whole = whole} {other = other} rooms froms a b =
    go (expression.compare a.cond.reads room2 from2 b.tested other rooms froms b.cond.reads)
  where
    go : expression.Compared kind.Condition Disjunction whole other a.tested b.tested → (whole ≡ other) × (to ≡ end)
    go (expression.same is at) = (is, ap (drop 3) (sym a.does ∙ at ∙ b.does))
    go (expression.further less going) = let s = ap (λ l. expressions.goes kind.Condition Disjunction (sort_of l)) a.does in absurd cc
    go (expression.nearer less going) = let s = ap (λ l. expressions.goes kind.Condition Disjunction (sort_of l)) b.does in absurd cc

-- a body in brackets
pub one_body : {version room room2 : ℕ} {from from2 to end : List Lexeme} {whole other : Term} → room ≡ room2 → from ≡ from2 → IsReplaced version room from whole to → IsReplaced version room2 from2 other end → (whole ≡ other) × (to ≡ end)
one_body {room2 = room2} {from2 = from2} {other = other} rooms froms a b =
    let both = settle (compare a.body.stands room2 0 from2 b.replaced other rooms refl froms b.body.stands) (ap (λ l. choreography_goes (sort_of l)) a.closes) (ap (λ l. choreography_goes (sort_of l)) b.closes) in
    (both.0, ap (drop 2) (sym a.closes ∙ both.1 ∙ b.closes))

-- the parts of a rule
pub ranked : {version room : ℕ} {from to : List Lexeme} {rule : PlainRule} (is : IsRule version room from rule to) → IsRanked version is.ranked rule.priority is.opened
ranked is = record { priority = is.priority; opens = ap sort_of is.opens }

pub tested : {version room : ℕ} {from to : List Lexeme} {rule : PlainRule} (is : IsRule version room from rule to) → IsTested is.left is.condition rule.cond is.replacing
tested is = record { tested = is.tested; cond = is.cond; does = is.does }

pub replaced : {version room : ℕ} {from to : List Lexeme} {rule : PlainRule} (is : IsRule version room from rule to) → IsReplaced version is.left is.replacing rule.body to
replaced is = record { replaced = is.replaced; body = is.body; closes = is.closes }

-- the head of a rule
pub heads_same : {version : ℕ} {from from2 to end : List Lexeme} {p q : ℤ} → from ≡ from2 → IsHead version from p to → IsHead version from2 q end → to ≡ end
heads_same froms a b =
    let rest = ap (drop 2) (sym a.begins ∙ froms ∙ b.begins) in
    let same = priority_same a.priority (ap sort_of a.opens) b.priority (ap sort_of b.opens) rest in
    ap (drop 3) (sym a.opens ∙ same.1 ∙ b.opens)

pub rules_same : {version room : ℕ} {from from2 to end : List Lexeme} {rule other : PlainRule} → from ≡ from2 → IsRule version room from rule to → IsRule version room from2 other end → (rule ≡ other) × (to ≡ end)
rules_same {rule = rule} {other = other} froms a b =
    let heads : Reserved word.Rule ∷ Name rule.name ∷ a.ranked ≡ Reserved word.Rule ∷ Name other.name ∷ b.ranked = sym a.begins ∙ froms ∙ b.begins in
    let name : rule.name ≡ other.name = cc in
    let rest : a.ranked ≡ b.ranked = cc in
    let left : a.left ≡ b.left = omega (arith, a.rooms, b.rooms) in
    let priorities = one_priority (ranked a) (ranked b) rest in
    let conds = one_condition left (ap (drop 3) (sym a.opens ∙ priorities.1 ∙ b.opens)) (tested a) (tested b) in
    let bodies = one_body left conds.1 (replaced a) (replaced b) in
    (λ j. record { name = name j; priority = priorities.0 j; cond = conds.0 j; body = bodies.0 j }, bodies.1)

pub one_rule : (version room : ℕ) (from to end : List Lexeme) (rule other : PlainRule) → IsRule version room from rule to → IsRule version room from other end → (rule ≡ other) × (to ≡ end)
one_rule version room from to end rule other a b = rules_same refl a b

pub bindings_same : {from from2 to end : List Lexeme} {bound other : List ℕ × Value} → from ≡ from2 → IsBinding from bound to → IsBinding from2 other end → (bound ≡ other) × (to ≡ end)
bindings_same {bound = bound} {other = other} froms a b =
    let heads : Name bound.0 ∷ Symbol punctuator.Equal ∷ a.given ≡ Name other.0 ∷ Symbol punctuator.Equal ∷ b.given = sym a.begins ∙ froms ∙ b.begins in
    let name : bound.0 ≡ other.0 = cc in
    let rest : a.given ≡ b.given = cc in
    let values = constant_same rest a.value b.value in
    (λ j. (name j, values.0 j), values.1)

word_differs : {from from2 given given2 : List Lexeme} {one two : List ℕ} → from ≡ from2 → from ≡ Name one ∷ given → from2 ≡ Name two ∷ given2 → one ≡ two
word_differs froms a b = let same = sym a ∙ froms ∙ b in cc

pub changes_same : {version room : ℕ} {from from2 to end : List Lexeme} {change other : PlainChange} → from ≡ from2 → IsChange version room from change to → IsChange version room from2 other end → (change ≡ other) × (to ≡ end)
changes_same froms (adds begins is) (adds begins2 is2) = let both = rules_same (ap (drop 1) (sym begins ∙ froms ∙ begins2)) is is2 in (ap Add both.0, both.1)
changes_same {to = to} {end = end} froms (drops {name = name} begins) (drops {name = name2} begins2) =
    let heads : Name (codes "drop") ∷ Name name ∷ to ≡ Name (codes "drop") ∷ Name name2 ∷ end = sym begins ∙ froms ∙ begins2 in
    let same : name ≡ name2 = cc in
    (ap Drop same, cc)
changes_same froms (sets begins is) (sets begins2 is2) =
    let both = bindings_same (ap (drop 1) (sym begins ∙ froms ∙ begins2)) is is2 in
    (λ j. Env (both.0 j).0 (both.0 j).1, both.1)
changes_same froms (adds begins is) (drops begins2) = absurd (let e = word_differs froms begins begins2 in cc)
changes_same froms (adds begins is) (sets begins2 is2) = absurd (let e = word_differs froms begins begins2 in cc)
changes_same froms (drops begins) (adds begins2 is2) = absurd (let e = word_differs froms begins begins2 in cc)
changes_same froms (drops begins) (sets begins2 is2) = absurd (let e = word_differs froms begins begins2 in cc)
changes_same froms (sets begins is) (adds begins2 is2) = absurd (let e = word_differs froms begins begins2 in cc)
changes_same froms (sets begins is) (drops begins2) = absurd (let e = word_differs froms begins begins2 in cc)

pub one_change : (version room : ℕ) (from to end : List Lexeme) (change other : PlainChange) → IsChange version room from change to → IsChange version room from other end → (change ≡ other) × (to ≡ end)
one_change version room from to end change other a b = changes_same refl a b
