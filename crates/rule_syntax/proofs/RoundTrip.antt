-- What is written of a rule is read again.
use Rattle.std.proofs.Common.{◌≡◌, ℕ, zero, suc, ◌-◌, ◌≤◌, ◌⊎◌, inl, inr, true, ◌&&◌, nat_le, List, [], ◌∷◌, ℤ, pos, negsuc, refl, ap, arith, codes}
use Rattle.std.specs.Prelude.{int_le}
use Rattle.std.specs.List.{AllByRecursion}
use borrow.Author.Tests.{leb-true, le-leb}
use Rattle.dioc_terms.specs.declared.values.Value.TheVariants as value
use Rattle.dioc_terms.specs.Expressions.{Const, Var, expression_depth}
use Rattle.dioc_terms.specs.Names as names
use Rattle.dioc_terms.specs.Plain.{PlainRule}
use Rattle.dioc_terms.specs.Bundles.{IsFormedRule, is_identifier, is_condition}
use Rattle.aioc_tokens.specs.Lexemes.{Lexeme, Name, HasSpelling, HasLexemes}
use Rattle.aioc_tokens.specs.Fronts.{Longest}
use Rattle.aioc_tokens.specs.Spelling.{spelled}
use Rattle.aioc_tokens.proofs.Written.{spelled_lexemes}
use Rattle.expr_syntax.specs.Laws.{NoOperatorFirst}
use Rattle.expr_syntax.specs.Writing.{written as written_expression}
use Rattle.expr_syntax.specs.declared.levels.ExprKind.TheVariants as kind
use Rattle.expr_syntax.specs.declared.levels.Level.TheVariants.{Disjunction, Conjunction, Negation, Comparison, Sum, Product, Unary}
use Rattle.expr_syntax.proofs.RoundTrip.{written_all}
use Rattle.expr_syntax.proofs.RoundTrip.{written_reads as expression_reads}
use Rattle.dioc_syntax.specs.Laws.{FitsVersion as BodyFits}
use Rattle.dioc_syntax.specs.Writing.{written as written_choreography}
use Rattle.dioc_syntax.proofs.RoundTrip.{both_true, decimal_number, written_spellings}
use Rattle.dioc_syntax.proofs.RoundTrip.{written_reads as choreography_reads}
use Rattle.limits.specs.Limits.{largest, most_priority}
use Rattle.rule_syntax.specs.Grammar.{HasPriority, no_priority, priority, negative_priority, opening, doing, closing, IsRule}
use Rattle.rule_syntax.specs.Writing.{written_priority, written}
use Rattle.rule_syntax.specs.Laws.{FitsVersion}
use Rattle.rule_syntax.proofs.Unique.{only_longest, rules_same}

priority_stands : (version : ℕ) (z : ℤ) (others : List Lexeme) → int_le (negsuc 999999) z ≡ true → int_le z (pos 1000000) ≡ true → (version ≡ 2) ⊎ (z ≡ pos 0) → HasPriority version (written_priority z others) z others
priority_stands version (pos zero) others least most fits = no_priority
priority_stands version (pos (suc n)) others least most (inl two) =
    let small : suc n ≤ 1000000 = leb-true (suc n) 1000000 most in priority two refl (decimal_number most_priority (suc n) (omega arith) (omega arith))
priority_stands version (negsuc n) others least most (inl two) =
    let small : n ≤ 999999 = leb-true n 999999 least in negative_priority two refl (decimal_number most_priority (suc n) (omega arith) (omega arith))
priority_stands version (pos (suc n)) others least most (inr none) = absurd cc
priority_stands version (negsuc n) others least most (inr none) = absurd cc

brace_first : (others : List Lexeme) → NoOperatorFirst kind.Condition (doing others)
brace_first others Disjunction = refl
brace_first others Conjunction = refl
brace_first others Negation = refl
brace_first others Comparison = refl
brace_first others Sum = refl
brace_first others Product = refl
brace_first others Unary = refl

body_fits : {version : ℕ} (rule : PlainRule) → FitsVersion version rule → BodyFits version rule.body
body_fits rule (inl two) = inl two
body_fits rule (inr one) = inr one.1

priority_fits : {version : ℕ} (rule : PlainRule) → FitsVersion version rule → (version ≡ 2) ⊎ (rule.priority ≡ pos 0)
priority_fits rule (inl two) = inl two
priority_fits rule (inr one) = inr one.0

pub rule_stands : (version : ℕ) (rule : PlainRule) (room : ℕ) (others : List Lexeme) → IsFormedRule rule → FitsVersion version rule → 321 ≤ room → IsRule version room (written rule others) rule others
rule_stands version rule room others formed fits roomy =
    let replaced = closing others in
    let replacing = written_choreography rule.body replaced in
    let tested = doing replacing in
    let condition = written_expression rule.cond tested in
    let opened = opening condition in
    record {
      left = room - 2;
      rooms = omega arith;
      ranked = written_priority rule.priority opened;
      begins = refl;
      opened = opened;
      priority = priority_stands version rule.priority opened formed.least formed.most (priority_fits rule fits);
      condition = condition;
      opens = refl;
      tested = tested;
      cond = (expression_reads kind.Condition rule.cond (room - 2) tested formed.condition (omega arith) (brace_first replacing)).reads;
      replacing = replacing;
      does = refl;
      replaced = replaced;
      body = (choreography_reads version rule.body (room - 2) replaced formed.body (body_fits rule fits) (omega arith) refl).reads;
      closes = refl;
    }

pub written_reads : (version : ℕ) (rule : PlainRule) (room : ℕ) (others : List Lexeme) → IsFormedRule rule → FitsVersion version rule → 321 ≤ room → Longest (IsRule version room (written rule others)) rule others
written_reads version rule room others formed fits roomy =
    let reads = rule_stands version rule room others formed fits roomy in only_longest reads (λ other end is. (rules_same refl reads is).1)

-- each lexeme of what is written has a spelling
pub name_spelled : (name : List ℕ) → is_identifier name ≡ true → HasSpelling (Name name)
name_spelled name is = (written_all kind.Step (Var name) [] is tt).0

-- `priority` is no reserved word
priority_free : is_identifier (codes "priority") ≡ true
unfolding names.is_reserved names.reserved_words
priority_free = refl

priority_all : (z : ℤ) (others : List Lexeme) → int_le (negsuc 999999) z ≡ true → int_le z (pos 1000000) ≡ true → AllByRecursion HasSpelling others → AllByRecursion HasSpelling (written_priority z others)
priority_all (pos zero) others least most rest = rest
priority_all (pos (suc n)) others least most rest =
    let small = leb-true (suc n) 1000000 most in
    (name_spelled (codes "priority") priority_free, written_all kind.Step (Const (value.Int (pos (suc n)))) others (le-leb (suc n) largest (omega arith)) rest)
priority_all (negsuc n) others least most rest =
    let small = leb-true n 999999 least in
    (name_spelled (codes "priority") priority_free, written_all kind.Step (Const (value.Int (negsuc n))) others (ap (λ t. t && true) (le-leb n largest (omega arith))) rest)

pub rule_spellings : (rule : PlainRule) (others : List Lexeme) → IsFormedRule rule → AllByRecursion HasSpelling others → AllByRecursion HasSpelling (written rule others)
rule_spellings rule others formed rest =
    let replacing = written_choreography rule.body (closing others) in
    let body = written_spellings rule.body (closing others) formed.body.parts (tt, (tt, rest)) in
    let cond = written_all kind.Condition rule.cond (doing replacing) (both_true (is_condition rule.cond) (nat_le (expression_depth rule.cond) 64) formed.condition).0 (tt, (tt, (tt, body))) in
    (tt, (name_spelled rule.name formed.name, priority_all rule.priority (opening (written_expression rule.cond (doing replacing))) formed.least formed.most (tt, (tt, (tt, cond)))))

pub written_lexemes : (rule : PlainRule) → IsFormedRule rule → HasLexemes (spelled (written rule [])) (written rule [])
written_lexemes rule formed = spelled_lexemes (written rule []) (rule_spellings rule [] formed tt)
