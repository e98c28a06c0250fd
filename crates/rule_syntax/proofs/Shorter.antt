-- Each rule and each change takes a token.
use Rattle.std.proofs.Common.{◌≡◌, ℕ, ◌+◌, ◌<◌, ◌≤◌, ℤ, List, length, ap, arith}
use Rattle.dioc_terms.specs.declared.values.Value.{Value}
use Rattle.dioc_terms.specs.Plain.{PlainRule}
use Rattle.aioc_tokens.specs.Lexemes.{Lexeme}
use Rattle.expr_syntax.proofs.LeafFacts.{constant_shorter}
use Rattle.expr_syntax.proofs.Shorter.{reads_shorter}
use Rattle.dioc_syntax.proofs.Shorter.{stands_shorter}
use Rattle.rule_syntax.specs.Grammar.{HasPriority, no_priority, priority, negative_priority, PlainChange, IsRule, IsBinding, IsChange, adds, drops, sets}

priority_shorter : {version : ℕ} {from to : List Lexeme} {z : ℤ} → HasPriority version from z to → length to ≤ length from
priority_shorter no_priority = omega arith
priority_shorter (priority two begins small) = omega (arith, ap length begins)
priority_shorter (negative_priority two begins small) = omega (arith, ap length begins)

pub rule_shorter : {version room : ℕ} {from to : List Lexeme} {rule : PlainRule} → IsRule version room from rule to → length to < length from
rule_shorter is =
    let ranked = priority_shorter is.priority in
    let cond = reads_shorter is.cond.reads in
    let body = stands_shorter is.body.stands in
    omega (arith, ap length is.begins, ap length is.opens, ap length is.does, ap length is.closes)

pub binding_shorter : {from to : List Lexeme} {bound : List ℕ × Value} → IsBinding from bound to → length to < length from
binding_shorter {to = to} {bound = bound} is = let less = constant_shorter is.given to bound.1 is.value in omega (arith, ap length is.begins)

pub change_shorter : {version room : ℕ} {from to : List Lexeme} {change : PlainChange} → IsChange version room from change to → length to < length from
change_shorter (adds begins is) = let less = rule_shorter is in omega (arith, ap length begins)
change_shorter (drops begins) = omega (arith, ap length begins)
change_shorter (sets begins is) = let less = binding_shorter is in omega (arith, ap length begins)
