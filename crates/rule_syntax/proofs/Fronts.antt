-- What stands at a place, by what the looks of the readers show.
use Rattle.std.proofs.Common.{◌≡◌, ◌≢◌, ℕ, suc, ◌+◌, ◌-◌, ◌<◌, ◌≤◌, List, [], ◌∷◌, length, drop, get_or, Option, Some, None, ℤ, pos, neg_ℤ, w32, to_z, of_z, codes, refl, ap, sym, ◌∙◌, subst, arith, length-drop, drop-drop}
use Rattle.std.proofs.lemmas.Int.{to_z-of_z, to_z_pos}
use mir.Val.{SFits}
use Rattle.dioc_terms.specs.declared.values.Value.{Value}
use Rattle.dioc_terms.specs.declared.bundles.Rule.{Rule}
use Rattle.dioc_terms.specs.declared.expressions.Expr.{Expr}
use Rattle.dioc_terms.specs.declared.choreographies.Choreo.{Choreo}
use Rattle.dioc_terms.specs.Expressions.{Expression, expression}
use Rattle.dioc_terms.specs.Terms.{Term, term}
use Rattle.dioc_terms.specs.Plain.{PlainRule, plain_rule}
use Rattle.aioc_tokens.specs.declared.words.Word.TheVariants as word
use Rattle.aioc_tokens.specs.declared.words.Punctuator.TheVariants as punctuator
use Rattle.aioc_tokens.specs.declared.words.Sort.{Sort}
use Rattle.aioc_tokens.specs.declared.words.Sort.TheVariants as sorts
use Rattle.aioc_tokens.specs.Lexemes.{Lexeme, Name, Number, Reserved, Symbol, sort_of, Begins}
use Rattle.aioc_tokens.specs.Fronts.{Longest, NoFront}
use Rattle.aioc_tokens.proofs.Places.{name_at}
use Rattle.expr_syntax.specs.Constants.{constant, before, number, number_up_to, ConstantAt}
use Rattle.expr_syntax.specs.Grammar.{IsExpression, ReadsAt}
use Rattle.expr_syntax.specs.declared.levels.ExprKind.TheVariants as kind
use Rattle.expr_syntax.specs.declared.levels.Level.TheVariants.{Disjunction}
use Rattle.expr_syntax.proofs.ConstantFacts.{ReadNumber, read_number, drop_within}
use Rattle.expr_syntax.proofs.Tables as expressions
use Rattle.expr_syntax.proofs.Fronts as expression
use Rattle.dioc_syntax.specs.Choreographies.{Choreography, IsShallow, IsChoreography}
use Rattle.dioc_syntax.specs.Readers.{Finds}
use Rattle.dioc_syntax.specs.declared.found.FoundChoreo.{FoundChoreo}
use Rattle.dioc_syntax.proofs.Tables.{choreography_goes}
use Rattle.dioc_syntax.proofs.Fronts as choreography
use Rattle.dioc_syntax.proofs.HeadSorts.{further, follows, symbol_here, reserved_here}
use Rattle.limits.specs.Limits.{most_priority}
use Rattle.rule_syntax.specs.Grammar.{HasPriority, no_priority, priority, negative_priority, opening, doing, closing, IsRule, IsBinding, PlainChange, Add, Drop, Env, IsChange, adds, drops, sets}
use Rattle.rule_syntax.specs.Readers.{StandsAt, IsRanked, HasRank, PriorityAt, IsTested, IsReplaced, IsHead, HasHead, HeadAt, ConditionAt, BodyAt, RuleAt, BindingAt}
use Rattle.rule_syntax.proofs.Unique.{only_longest, some_same, one_condition, tested, replaced, heads_same, rules_same, bindings_same, changes_same}

-- two words at one place
unlike : {from from2 given given2 : List Lexeme} → from ≡ from2 → {one two : List ℕ} → from ≡ Name one ∷ given → from2 ≡ Name two ∷ given2 → one ≡ two
unlike froms a b = let same = sym a ∙ froms ∙ b in cc

drop_add : {from from2 given given2 : List Lexeme} → from ≡ from2 → from ≡ Name (codes "drop") ∷ given → from2 ≡ Name (codes "add") ∷ given2 → ⊥
drop_add froms a b = let first : ◌≡◌ {A = ℕ} 100 97 = ap (λ word. get_or word 0 0) (unlike froms a b) in omega arith

env_add : {from from2 given given2 : List Lexeme} → from ≡ from2 → from ≡ Name (codes "env") ∷ given → from2 ≡ Name (codes "add") ∷ given2 → ⊥
env_add froms a b = let first : ◌≡◌ {A = ℕ} 101 97 = ap (λ word. get_or word 0 0) (unlike froms a b) in omega arith

add_env : {from from2 given given2 : List Lexeme} → from ≡ from2 → from ≡ Name (codes "add") ∷ given → from2 ≡ Name (codes "env") ∷ given2 → ⊥
add_env froms a b = let first : ◌≡◌ {A = ℕ} 97 101 = ap (λ word. get_or word 0 0) (unlike froms a b) in omega arith

add_drop : {from from2 given given2 : List Lexeme} → from ≡ from2 → from ≡ Name (codes "add") ∷ given → from2 ≡ Name (codes "drop") ∷ given2 → ⊥
add_drop froms a b = let first : ◌≡◌ {A = ℕ} 97 100 = ap (λ word. get_or word 0 0) (unlike froms a b) in omega arith

env_drop : {from from2 given given2 : List Lexeme} → from ≡ from2 → from ≡ Name (codes "env") ∷ given → from2 ≡ Name (codes "drop") ∷ given2 → ⊥
env_drop froms a b = let first : ◌≡◌ {A = ℕ} 101 100 = ap (λ word. get_or word 0 0) (unlike froms a b) in omega arith

drop_env : {from from2 given given2 : List Lexeme} → from ≡ from2 → from ≡ Name (codes "drop") ∷ given → from2 ≡ Name (codes "env") ∷ given2 → ⊥
drop_env froms a b = let first : ◌≡◌ {A = ℕ} 100 101 = ap (λ word. get_or word 0 0) (unlike froms a b) in omega arith

-- a priority that is written is no other, whatever stands behind it
positive_only : {version : ℕ} {from from2 to end : List Lexeme} {digits : List ℕ} {n : ℕ} {q : ℤ} → from ≡ from2 → from ≡ Name (codes "priority") ∷ Number digits ∷ to → number_up_to most_priority digits ≡ Some n
    → HasPriority version from2 q end → sort_of end ≡ sorts.Symbol punctuator.LeftBrace → (q ≡ pos n) × (end ≡ to)
positive_only froms begins small no_priority opens = let s = ap sort_of (sym froms ∙ begins) in absurd cc
positive_only {to = to} {end = end} {digits = digits} {n = n} froms begins small (priority {digits = digits2} {n = m} two begins2 small2) opens =
    let same : Name (codes "priority") ∷ Number digits ∷ to ≡ Name (codes "priority") ∷ Number digits2 ∷ end = sym begins ∙ froms ∙ begins2 in
    let digits_same : digits2 ≡ digits = cc in
    let rest : end ≡ to = cc in
    let number : m ≡ n = some_same (sym small2 ∙ ap (number_up_to most_priority) digits_same ∙ small) in
    (ap pos number, rest)
positive_only froms begins small (negative_priority two begins2 small2) opens = let s = ap (λ l. sort_of (drop 1 l)) (sym begins ∙ froms ∙ begins2) in absurd cc

negative_only : {version : ℕ} {from from2 to end : List Lexeme} {digits : List ℕ} {n : ℕ} {q : ℤ} → from ≡ from2 → from ≡ Name (codes "priority") ∷ Symbol punctuator.Minus ∷ Number digits ∷ to
    → number_up_to most_priority digits ≡ Some n → HasPriority version from2 q end → sort_of end ≡ sorts.Symbol punctuator.LeftBrace → (q ≡ neg_ℤ (pos n)) × (end ≡ to)
negative_only froms begins small no_priority opens = let s = ap sort_of (sym froms ∙ begins) in absurd cc
negative_only froms begins small (priority two begins2 small2) opens = let s = ap (λ l. sort_of (drop 1 l)) (sym begins ∙ froms ∙ begins2) in absurd cc
negative_only {to = to} {end = end} {digits = digits} {n = n} froms begins small (negative_priority {digits = digits2} {n = m} two begins2 small2) opens =
    let same : Name (codes "priority") ∷ Symbol punctuator.Minus ∷ Number digits ∷ to ≡ Name (codes "priority") ∷ Symbol punctuator.Minus ∷ Number digits2 ∷ end = sym begins ∙ froms ∙ begins2 in
    let digits_same : digits2 ≡ digits = cc in
    let rest : end ≡ to = cc in
    let number : m ≡ n = some_same (sym small2 ∙ ap (number_up_to most_priority) digits_same ∙ small) in
    (ap (λ n. neg_ℤ (pos n)) number, rest)

-- `priority` with no number behind it
positive_none : {version : ℕ} {from from2 rest end : List Lexeme} {q : ℤ} → from ≡ from2 → from ≡ Name (codes "priority") ∷ rest → sort_of rest ≢ sorts.Symbol punctuator.Minus → None ≡ number most_priority rest
    → HasPriority version from2 q end → sort_of end ≡ sorts.Symbol punctuator.LeftBrace → ⊥
positive_none froms begins other none no_priority opens = let s = ap sort_of (sym froms ∙ begins) in cc
positive_none froms begins other none (priority two begins2 small) opens =
    let found = ap (number most_priority) (ap (drop 1) (sym begins ∙ froms ∙ begins2)) in cc
positive_none froms begins other none (negative_priority two begins2 small) opens = other (ap (λ l. sort_of (drop 1 l)) (sym begins ∙ froms ∙ begins2))

negative_none : {version : ℕ} {from from2 rest end : List Lexeme} {q : ℤ} → from ≡ from2 → from ≡ Name (codes "priority") ∷ Symbol punctuator.Minus ∷ rest → None ≡ number most_priority rest → HasPriority version from2 q end
    → sort_of end ≡ sorts.Symbol punctuator.LeftBrace → ⊥
negative_none froms begins none no_priority opens = let s = ap sort_of (sym froms ∙ begins) in cc
negative_none froms begins none (priority two begins2 small) opens = let s = ap (λ l. sort_of (drop 1 l)) (sym begins ∙ froms ∙ begins2) in cc
negative_none froms begins none (negative_priority two begins2 small) opens = let found = ap (number most_priority) (ap (drop 2) (sym begins ∙ froms ∙ begins2)) in cc

module _ (text : List Lexeme) (at : ℕ) where
  -- `k =`
  abbrev binding_sorts : List Sort
  binding_sorts = sorts.Name ∷ sorts.Symbol punctuator.Equal ∷ []

  pub binding_missing : (Begins binding_sorts (drop at text) → ⊥) → NoFront (IsBinding (drop at text))
  binding_missing none bound to is = none (ap sort_of is.begins, (ap (λ l. sort_of (drop 1 l)) is.begins, tt))

  pub binding_head : (key : List ℕ) → Begins binding_sorts (drop at text) → drop at text ≡ Name key ∷ drop (at + 1) text → drop at text ≡ Name key ∷ Symbol punctuator.Equal ∷ drop (at + 2) text
  binding_head key starts named =
      let second = (follows text sorts.Name (sorts.Symbol punctuator.Equal ∷ []) at (at + 1) refl starts).1.0 in
      named ∙ ap (λ l. Name key ∷ l) (symbol_here text punctuator.Equal (at + 1) (at + 2) (omega arith) second)

  pub binding_found : (key : List ℕ) (value : Value) (next : ℕ) → Begins binding_sorts (drop at text) → drop at text ≡ Name key ∷ drop (at + 1) text → ConstantAt text (at + 2) (Some (value, next))
      → BindingAt text at (Some ((key, value), next))
  binding_found key value next starts named found =
      let after = found.1.0 in
      let reads : IsBinding (drop at text) (key, value) (drop next text) = record { given = drop (at + 2) text; begins = binding_head key starts named; value = found.0 } in
      record {
        front = only_longest reads (λ other end is. (bindings_same refl reads is).1);
        after = omega arith;
        within = found.1.1;
      }

  pub binding_valueless : (key : List ℕ) → Begins binding_sorts (drop at text) → drop at text ≡ Name key ∷ drop (at + 1) text → ConstantAt text (at + 2) None → NoFront (IsBinding (drop at text))
  binding_valueless key starts named none bound to is =
      let heads : Name key ∷ Symbol punctuator.Equal ∷ drop (at + 2) text ≡ Name bound.0 ∷ Symbol punctuator.Equal ∷ is.given = sym (binding_head key starts named) ∙ is.begins in
      let rest : drop (at + 2) text ≡ is.given = cc in
      let value = is.value in
      let nothing : ◌≡◌ {A = Option (Value × List Lexeme)} (Some (bound.1, to)) None = sym (ap constant rest ∙ value) ∙ none.0 in
      cc

  -- the priority of a rule
  named_rest : (others : List Lexeme) (word : List ℕ) → drop at text ≡ Name word ∷ others → drop at text ≡ Name word ∷ drop (at + 1) text
  named_rest others word is = is ∙ ap (λ l. Name word ∷ l) (sym (ap (drop 1) is) ∙ further text at (at + 1) refl)

  rank_only : {version : ℕ} {from : List Lexeme} {other : ℤ} {end : List Lexeme} → ((others : List Lexeme) → version ≡ 2 → from ≡ Name (codes "priority") ∷ others → ⊥) → HasPriority version from other end → (other ≡ pos 0) × (end ≡ from)
  rank_only none no_priority = (refl, refl)
  rank_only none (priority two begins small) = absurd (none _ two begins)
  rank_only none (negative_priority two begins small) = absurd (none _ two begins)

  pub rank_unwritten : (version : ℕ) → at ≤ length text → (version ≡ 2 → drop at text ≡ Name (codes "priority") ∷ drop (at + 1) text → ⊥) → HasRank version text at (pos 0) at
  rank_unwritten version inside none = record {
    priority = no_priority;
    only = λ other end is. rank_only (λ others two begins. none two (named_rest others (codes "priority") begins)) is.priority;
    after = omega arith;
    within = inside;
  }

  module _ (version : ℕ) (two : version ≡ 2) (named : drop at text ≡ Name (codes "priority") ∷ drop (at + 1) text) where
    -- a number at a place
    digits_here : (n place next : ℕ) → place + 1 ≡ next → Some n ≡ number most_priority (drop place text) → (digits : List ℕ) × (drop place text ≡ Number digits ∷ drop next text) × (number_up_to most_priority digits ≡ Some n) × (place < length text)
    digits_here n place next e found =
        let read = read_number most_priority n (drop place text) found in
        (read.digits, read.first ∙ ap (λ l. Number read.digits ∷ l) (further text place next e), sym read.value, drop_within text (drop 1 (drop place text)) place (Number read.digits) read.first)

    pub rank_positive : (n : ℕ) → Some n ≡ number most_priority (drop (at + 1) text) → HasRank version text at (to_z w32 n) (at + 2)
    rank_positive n found =
        let small = (read_number most_priority n (drop (at + 1) text) found).small in
        let digits = digits_here n (at + 1) (at + 2) (omega arith) found in
        let begins = named ∙ ap (λ l. Name (codes "priority") ∷ l) digits.1 in
        let inside = digits.3 in
        subst (λ p. HasRank version text at p (at + 2)) (sym (to_z_pos w32 n (omega arith))) (record {
          priority = priority two begins digits.2;
          only = λ other end is2. positive_only refl begins digits.2 is2.priority is2.opens;
          after = omega arith;
          within = omega arith;
        })

    pub rank_negative : (n : ℕ) (z : ℤ) → z ≡ neg_ℤ (pos n) → SFits w32 z → sort_of (drop (at + 1) text) ≡ sorts.Symbol punctuator.Minus → Some n ≡ number most_priority (drop (at + 2) text) → HasRank version text at (to_z w32 (of_z w32 z)) (at + 3)
    rank_negative n z is fits minus found =
        let digits = digits_here n (at + 2) (at + 3) (omega arith) found in
        let begins = named ∙ ap (λ l. Name (codes "priority") ∷ l) (symbol_here text punctuator.Minus (at + 1) (at + 2) (omega arith) minus ∙ ap (λ l. Symbol punctuator.Minus ∷ l) digits.1) in
        let inside = digits.3 in
        subst (λ p. HasRank version text at p (at + 3)) (sym (to_z-of_z w32 z fits ∙ is)) (record {
          priority = negative_priority two begins digits.2;
          only = λ other end is2. negative_only refl begins digits.2 is2.priority is2.opens;
          after = omega arith;
          within = omega arith;
        })

    pub positive_missing : sort_of (drop (at + 1) text) ≢ sorts.Symbol punctuator.Minus → None ≡ number most_priority (drop (at + 1) text) → NoFront (IsRanked version (drop at text))
    positive_missing other none p to is = positive_none refl named other none is.priority is.opens

    pub negative_missing : sort_of (drop (at + 1) text) ≡ sorts.Symbol punctuator.Minus → None ≡ number most_priority (drop (at + 2) text) → NoFront (IsRanked version (drop at text))
    negative_missing minus none p to is =
        negative_none refl (named ∙ ap (λ l. Name (codes "priority") ∷ l) (symbol_here text punctuator.Minus (at + 1) (at + 2) (omega arith) minus)) none is.priority is.opens

  -- the head of a rule
  abbrev head_sorts : List Sort
  head_sorts = sorts.Reserved word.Rule ∷ sorts.Name ∷ []

  abbrev opening_sorts : List Sort
  opening_sorts = sorts.Symbol punctuator.LeftBrace ∷ sorts.Reserved word.On ∷ sorts.Symbol punctuator.LeftBrace ∷ []

  pub head_missing : (version : ℕ) → (Begins head_sorts (drop at text) → ⊥) → NoFront (IsHead version (drop at text))
  head_missing version none p to is = none (ap sort_of is.begins, (ap (λ l. sort_of (drop 1 l)) is.begins, tt))

  module _ (version : ℕ) (sorts_are : Begins head_sorts (drop at text)) where
    pub head_name : sort_of (drop (at + 1) text) ≡ sorts.Name
    head_name = (follows text (sorts.Reserved word.Rule) (sorts.Name ∷ []) at (at + 1) refl sorts_are).1.0

    head_rule : drop at text ≡ Reserved word.Rule ∷ drop (at + 1) text
    head_rule = reserved_here text word.Rule at (at + 1) refl sorts_are.0

    name_here : (name : List ℕ) × (drop (at + 1) text ≡ Name name ∷ drop (at + 2) text)
    name_here = let (name, first) = name_at text (at + 1) (sym head_name) in (name, first ∙ ap (λ n. Name name ∷ drop n text) (omega arith))

    head_begins : drop at text ≡ Reserved word.Rule ∷ Name name_here.0 ∷ drop (at + 2) text
    head_begins = head_rule ∙ ap (λ l. Reserved word.Rule ∷ l) name_here.1

    pub head_within : at + 2 ≤ length text
    head_within = omega (arith, ap length head_begins, length-drop at text)

    -- what a head leaves behind its name
    ranked_of : {p : ℤ} {to : List Lexeme} → (is : IsHead version (drop at text) p to) → IsRanked version (drop (at + 2) text) p (opening to)
    ranked_of {p} {to} is =
        let rest : is.ranked ≡ drop (at + 2) text = ap (drop 2) (sym is.begins ∙ head_begins) in
        record { priority = subst (λ l. HasPriority version l p (opening to)) rest (subst (λ l. HasPriority version is.ranked p l) is.opens is.priority); opens = refl }

    pub head_unranked : NoFront (IsRanked version (drop (at + 2) text)) → NoFront (IsHead version (drop at text))
    head_unranked none p to is = none p (opening to) (ranked_of is)

    pub head_unopened : {p : ℤ} {next : ℕ} → HasRank version text (at + 2) p next → (Begins opening_sorts (drop next text) → ⊥) → NoFront (IsHead version (drop at text))
    head_unopened rank none q to is =
        let same = (rank.only q (opening to) (ranked_of is)).1 in
        none (subst (Begins opening_sorts) same (refl, (refl, (refl, tt))))

    pub head_found : {p : ℤ} {next : ℕ} → HasRank version text (at + 2) p next → Begins opening_sorts (drop next text) → HasHead version text at p (next + 3)
    head_found {p} {next} rank opens =
        let one = follows text (sorts.Symbol punctuator.LeftBrace) (drop 1 opening_sorts) next (next + 1) refl opens in
        let two = follows text (sorts.Reserved word.On) (drop 2 opening_sorts) (next + 1) (next + 2) (omega arith) one.1 in
        let three = follows text (sorts.Symbol punctuator.LeftBrace) [] (next + 2) (next + 3) (omega arith) two.1 in
        let opened : drop next text ≡ opening (drop (next + 3) text) =
        symbol_here text punctuator.LeftBrace next (next + 1) refl one.0
        ∙ ap (λ l. Symbol punctuator.LeftBrace ∷ l) (reserved_here text word.On (next + 1) (next + 2) (omega arith) two.0 ∙ ap (λ l. Reserved word.On ∷ l) (symbol_here text punctuator.LeftBrace (next + 2) (next + 3) (omega arith) three.0)) in
        let after = rank.after in
        record {
          front = only_longest
              (record { name = name_here.0; ranked = drop (at + 2) text; begins = head_begins; opened = drop next text; priority = rank.priority; opens = opened })
              (λ other end is. sym (ap (drop 3) ((rank.only other (opening end) (ranked_of is)).1 ∙ opened)));
          rule = head_rule;
          name = head_name;
          after = omega arith;
          within = omega (arith, ap length opened, length-drop next text);
        }

  -- a condition with `} do {` behind it
  abbrev doing_sorts : List Sort
  doing_sorts = sorts.Symbol punctuator.RightBrace ∷ sorts.Reserved word.Do ∷ sorts.Symbol punctuator.LeftBrace ∷ []

  pub condition_missing : (room : ℕ) → NoFront (IsExpression kind.Condition room (drop at text)) → NoFront (IsTested room (drop at text))
  condition_missing room none cond to is = none cond is.tested is.cond

  -- the longest expression is the condition
  condition_settled : {room next : ℕ} {whole cond : Expression} {to : List Lexeme} → ReadsAt kind.Condition room text at whole next → IsTested room (drop at text) cond to → (whole ≡ cond) × (drop next text ≡ doing to)
  condition_settled read is =
      let both = expression.settled read.front is.cond (ap (λ l. expressions.goes kind.Condition Disjunction (sort_of l)) is.does) in
      (both.0, both.1 ∙ is.does)

  pub condition_open : {room next : ℕ} {whole : Expression} → ReadsAt kind.Condition room text at whole next → (Begins doing_sorts (drop next text) → ⊥) → NoFront (IsTested room (drop at text))
  condition_open read none cond to is = none (subst (Begins doing_sorts) (sym (condition_settled read is).1) (refl, (refl, (refl, tt))))

  pub condition_found : {room next : ℕ} {whole : Expression} → ReadsAt kind.Condition room text at whole next → Begins doing_sorts (drop next text) → StandsAt (IsTested room) text at whole (next + 3)
  condition_found {room} {next} {whole} read does =
      let one = follows text (sorts.Symbol punctuator.RightBrace) (drop 1 doing_sorts) next (next + 1) refl does in
      let two = follows text (sorts.Reserved word.Do) (drop 2 doing_sorts) (next + 1) (next + 2) (omega arith) one.1 in
      let three = follows text (sorts.Symbol punctuator.LeftBrace) [] (next + 2) (next + 3) (omega arith) two.1 in
      let behind : drop next text ≡ doing (drop (next + 3) text) =
      symbol_here text punctuator.RightBrace next (next + 1) refl one.0
      ∙ ap (λ l. Symbol punctuator.RightBrace ∷ l) (reserved_here text word.Do (next + 1) (next + 2) (omega arith) two.0 ∙ ap (λ l. Reserved word.Do ∷ l) (symbol_here text punctuator.LeftBrace (next + 2) (next + 3) (omega arith) three.0)) in
      let after = read.after in
      record {
        front = only_longest (record { tested = drop next text; cond = read.front.reads; does = behind }) (λ other end is. ap (drop 3) (sym behind ∙ (condition_settled read is).1));
        after = omega arith;
        within = omega (arith, ap length behind, length-drop next text);
      }

  -- a body with `} }` behind it
  abbrev closing_sorts : List Sort
  closing_sorts = sorts.Symbol punctuator.RightBrace ∷ sorts.Symbol punctuator.RightBrace ∷ []

  module _ (version room : ℕ) where
    pub body_missing : NoFront (IsChoreography version room (drop at text)) → NoFront (IsReplaced version room (drop at text))
    body_missing none body to is = none body is.replaced is.body

    abbrev BodyFound : FoundChoreo → Type 0
    BodyFound found = Finds (IsShallow version Choreography room 256 0) 1 256 0 text at found

    body_settled : {found : FoundChoreo} {body : Term} {to : List Lexeme} → BodyFound found → IsReplaced version room (drop at text) body to → (term found.choreo.value ≡ body) × (drop found.at text ≡ closing to)
    body_settled read is =
        let both = choreography.settled read.front is.body (ap (λ l. choreography_goes (sort_of l)) is.closes) in
        (both.0, both.1 ∙ is.closes)

    pub body_open : {found : FoundChoreo} → BodyFound found → (Begins closing_sorts (drop found.at text) → ⊥) → NoFront (IsReplaced version room (drop at text))
    body_open read none body to is = none (subst (Begins closing_sorts) (sym (body_settled read is).1) (refl, (refl, tt)))

    pub body_found : {found : FoundChoreo} → BodyFound found → Begins closing_sorts (drop found.at text) → StandsAt (IsReplaced version room) text at (term found.choreo.value) (found.at + 2)
    body_found {found} read closes =
        let one = follows text (sorts.Symbol punctuator.RightBrace) (drop 1 closing_sorts) found.at (found.at + 1) refl closes in
        let two = follows text (sorts.Symbol punctuator.RightBrace) [] (found.at + 1) (found.at + 2) (omega arith) one.1 in
        let behind : drop found.at text ≡ closing (drop (found.at + 2) text) =
        symbol_here text punctuator.RightBrace found.at (found.at + 1) refl one.0 ∙ ap (λ l. Symbol punctuator.RightBrace ∷ l) (symbol_here text punctuator.RightBrace (found.at + 1) (found.at + 2) (omega arith) two.0) in
        let after = read.after in
        record {
          front = only_longest (record { replaced = drop found.at text; body = read.front.reads; closes = behind }) (λ other end is. ap (drop 2) (sym behind ∙ (body_settled read is).1));
          after = omega arith;
          within = omega (arith, ap length behind, length-drop found.at text);
        }

  -- a rule
  module _ (version room : ℕ) where
    pub roomless : room < 2 → NoFront (IsRule version room (drop at text))
    roomless less rule to is = omega (arith, is.rooms)

    pub headless : NoFront (IsHead version (drop at text)) → NoFront (IsRule version room (drop at text))
    headless none rule to is =
        none rule.priority is.condition (record { name = rule.name; ranked = is.ranked; begins = is.begins; opened = is.opened; priority = is.priority; opens = is.opens })

    module _ (p : ℤ) (inside : ℕ) (head : HasHead version text at p inside) where
      -- a rule has this head
      in_rule : {rule : PlainRule} {to : List Lexeme} → (is : IsRule version room (drop at text) rule to) → (is.left ≡ room - 2) × (is.condition ≡ drop inside text)
      in_rule {rule} is =
          let same = heads_same refl (record { name = rule.name; ranked = is.ranked; begins = is.begins; opened = is.opened; priority = is.priority; opens = is.opens }) head.front.reads in
          (omega (arith, is.rooms), same)

      cond_of : {rule : PlainRule} {to : List Lexeme} → (is : IsRule version room (drop at text) rule to) → IsTested (room - 2) (drop inside text) rule.cond is.replacing
      cond_of {rule} is = subst (λ n. IsTested n (drop inside text) rule.cond is.replacing) (in_rule is).0 (subst (λ l. IsTested is.left l rule.cond is.replacing) (in_rule is).1 (tested is))

      pub untested : NoFront (IsTested (room - 2) (drop inside text)) → NoFront (IsRule version room (drop at text))
      untested none rule to is = none rule.cond is.replacing (cond_of is)

      module _ (cond : Expression) (does : ℕ) (holds : StandsAt (IsTested (room - 2)) text inside cond does) where
        pub unreplaced : NoFront (IsReplaced version (room - 2) (drop does text)) → NoFront (IsRule version room (drop at text))
        unreplaced none rule to is =
            let rest = (one_condition refl refl (cond_of is) holds.front.reads).1 in
            none rule.body to (subst (λ n. IsReplaced version n (drop does text) rule.body to) (in_rule is).0 (subst (λ l. IsReplaced version is.left l rule.body to) rest (replaced is)))

        pub rule_found : (name : List ℕ) (body : Term) (next : ℕ) → 2 ≤ room → drop (at + 1) text ≡ Name name ∷ drop (at + 1 + 1) text → StandsAt (IsReplaced version (room - 2)) text does body next
            → StandsAt (IsRule version room) text at (record { name = name; priority = p; cond = cond; body = body }) next
        rule_found name body next roomy named replaces =
            let begins = head.rule ∙ ap (λ l. Reserved word.Rule ∷ l) named in
            let front = head.front.reads in
            let ranks = ap (drop 2) (sym front.begins ∙ begins) in
            let reads : IsRule version room (drop at text) (record { name = name; priority = p; cond = cond; body = body }) (drop next text) = record {
              left = room - 2;
              rooms = omega arith;
              ranked = drop (at + 1 + 1) text;
              begins = begins;
              opened = front.opened;
              priority = subst (λ l. HasPriority version l p front.opened) ranks front.priority;
              condition = drop inside text;
              opens = front.opens;
              tested = holds.front.reads.tested;
              cond = holds.front.reads.cond;
              replacing = drop does text;
              does = holds.front.reads.does;
              replaced = replaces.front.reads.replaced;
              body = replaces.front.reads.body;
              closes = replaces.front.reads.closes;
            } in
            let one = head.after in
            let two = holds.after in
            let three = replaces.after in
            record { front = only_longest reads (λ other end is. (rules_same refl reads is).1); after = omega arith; within = replaces.within }

  -- a change
  module _ (version room : ℕ) where
    pub rule_added : (rule : Rule) (next : ℕ) → drop at text ≡ Name (codes "add") ∷ drop (at + 1) text → RuleAt version room text (at + 1) (Some (plain_rule rule, next)) → StandsAt (IsChange version room) text at (Add (plain_rule rule)) next
    rule_added rule next begins found =
        let reads : IsChange version room (drop at text) (Add (plain_rule rule)) (drop next text) = adds begins found.front.reads in
        let after = found.after in
        record { front = only_longest reads (λ other end is. (changes_same refl reads is).1); after = omega arith; within = found.within }

    pub rule_unadded : drop at text ≡ Name (codes "add") ∷ drop (at + 1) text → NoFront (IsRule version room (drop (at + 1) text)) → NoFront (IsChange version room (drop at text))
    rule_unadded begins none change to is = go refl is
      where
        go : {from end : List Lexeme} {found : PlainChange} → from ≡ drop at text → IsChange version room from found end → ⊥
        go froms (adds {to = end} {rule = rule} begins2 is2) = none rule end (subst (λ l. IsRule version room l rule end) (ap (drop 1) (sym begins2 ∙ froms ∙ begins)) is2)
        go froms (drops begins2) = drop_add froms begins2 begins
        go froms (sets begins2 is2) = env_add froms begins2 begins

    pub rule_dropped : (name : List ℕ) → drop at text ≡ Name (codes "drop") ∷ drop (at + 1) text → drop (at + 1) text ≡ Name name ∷ drop (at + 1 + 1) text → StandsAt (IsChange version room) text at (Drop name) (at + 2)
    rule_dropped name begins named =
        let whole : drop at text ≡ Name (codes "drop") ∷ Name name ∷ drop (at + 2) text = begins ∙ ap (λ l. Name (codes "drop") ∷ l) (named ∙ ap (λ n. Name name ∷ drop n text) (omega arith)) in
        let reads : IsChange version room (drop at text) (Drop name) (drop (at + 2) text) = drops whole in
        record { front = only_longest reads (λ other end is. (changes_same refl reads is).1); after = omega arith; within = omega (arith, ap length whole, length-drop at text) }

    pub rule_undropped : drop at text ≡ Name (codes "drop") ∷ drop (at + 1) text → sort_of (drop (at + 1) text) ≢ sorts.Name → NoFront (IsChange version room (drop at text))
    rule_undropped begins none change to is = go refl is
      where
        go : {from end : List Lexeme} {found : PlainChange} → from ≡ drop at text → IsChange version room from found end → ⊥
        go froms (drops begins2) = none (sym (ap (λ l. sort_of (drop 1 l)) (sym begins2 ∙ froms ∙ begins)))
        go froms (adds begins2 is2) = add_drop froms begins2 begins
        go froms (sets begins2 is2) = env_drop froms begins2 begins

    pub key_set : (key : List ℕ) (value : Value) (next : ℕ) → drop at text ≡ Name (codes "env") ∷ drop (at + 1) text → BindingAt text (at + 1) (Some ((key, value), next)) → StandsAt (IsChange version room) text at (Env key value) next
    key_set key value next begins found =
        let reads : IsChange version room (drop at text) (Env key value) (drop next text) = sets begins found.front.reads in
        let after = found.after in
        record { front = only_longest reads (λ other end is. (changes_same refl reads is).1); after = omega arith; within = found.within }

    pub key_unset : drop at text ≡ Name (codes "env") ∷ drop (at + 1) text → NoFront (IsBinding (drop (at + 1) text)) → NoFront (IsChange version room (drop at text))
    key_unset begins none change to is = go refl is
      where
        go : {from end : List Lexeme} {found : PlainChange} → from ≡ drop at text → IsChange version room from found end → ⊥
        go froms (sets {to = end} {key = key} {value = value} begins2 is2) = none (key, value) end (subst (λ l. IsBinding l (key, value) end) (ap (drop 1) (sym begins2 ∙ froms ∙ begins)) is2)
        go froms (adds begins2 is2) = add_env froms begins2 begins
        go froms (drops begins2) = drop_env froms begins2 begins

    pub no_change : (drop at text ≡ Name (codes "add") ∷ drop (at + 1) text → ⊥) → (drop at text ≡ Name (codes "drop") ∷ drop (at + 1) text → ⊥) → (drop at text ≡ Name (codes "env") ∷ drop (at + 1) text → ⊥)
        → NoFront (IsChange version room (drop at text))
    no_change add drop_word env change to is = go refl is
      where
        go : {from end : List Lexeme} {found : PlainChange} → from ≡ drop at text → IsChange version room from found end → ⊥
        go froms (adds {given = given} begins2 is2) = add (named_rest given (codes "add") (sym froms ∙ begins2))
        go froms (drops {to = end} {name = name} begins2) = drop_word (named_rest (Name name ∷ end) (codes "drop") (sym froms ∙ begins2))
        go froms (sets {given = given} begins2 is2) = env (named_rest given (codes "env") (sym froms ∙ begins2))
