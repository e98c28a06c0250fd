-- An expression takes at least one lexeme.
use Rattle.std.proofs.Common.{ℕ, ◌<◌, ◌≤◌, List, length, drop, ap, arith, length-drop}
use Rattle.dioc_terms.specs.Expressions.{Expression}
use Rattle.aioc_tokens.specs.Lexemes.{Lexeme}
use Rattle.expr_syntax.specs.Grammar.{Reads, Follows, chain, denied, not_denied, alone, compared, single, negated, bracketed, ended, more}
use Rattle.expr_syntax.proofs.LeafFacts.{leaf_shorter}
use Rattle.expr_syntax.specs.declared.levels.ExprKind.{ExprKind}
use Rattle.expr_syntax.specs.declared.levels.Level.{Level}

pub drop_shorter : (from : List Lexeme) → length (drop 1 from) ≤ length from
drop_shorter from = omega (arith, length-drop 1 from)

mutual
  pub reads_shorter : {kind : ExprKind} {level : Level} {room : ℕ} {from to : List Lexeme} {whole : Expression} → Reads kind level room from whole to → length to < length from
  reads_shorter (chain chains r f) = let one = reads_shorter r in let two = follows_shorter f in omega arith
  reads_shorter (denied begins r) = let one = reads_shorter r in omega (arith, ap length begins)
  reads_shorter (not_denied r) = reads_shorter r
  reads_shorter (alone r) = reads_shorter r
  reads_shorter (compared {middle = middle} r o s) = let one = reads_shorter r in let two = reads_shorter s in omega (arith, drop_shorter middle)
  reads_shorter {kind} {level} {room} {from} {to} {whole} (single is) = leaf_shorter kind from to whole is
  reads_shorter (negated begins other r) = let one = reads_shorter r in omega (arith, ap length begins)
  reads_shorter (bracketed rooms begins r ends) = let one = reads_shorter r in omega (arith, ap length begins, ap length ends)

  pub follows_shorter : {kind : ExprKind} {level : Level} {room : ℕ} {from to : List Lexeme} {first whole : Expression} → Follows kind level room first from whole to → length to ≤ length from
  follows_shorter ended = omega arith
  follows_shorter {kind} {level} {room} {from} (more o r f) = let one = reads_shorter r in let two = follows_shorter f in omega (arith, drop_shorter from)
