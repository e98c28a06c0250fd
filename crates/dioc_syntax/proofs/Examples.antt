-- A few texts of the grammar with their terms.
use Rattle.std.proofs.Common.{◌≡◌, ℕ, ◌≤◌, true, List, [], ◌∷◌, codes, refl, arith}
use Rattle.dioc_terms.specs.declared.names.Role.{Role}
use Rattle.dioc_terms.specs.declared.values.Value.TheVariants as value
use Rattle.dioc_terms.specs.Expressions.{Const}
use Rattle.dioc_terms.specs.Terms.{Skip, Set, Input, Seq, Par, If, Scope, index_at}
use Rattle.aioc_tokens.specs.declared.words.Word.TheVariants as word
use Rattle.aioc_tokens.specs.declared.words.Punctuator.TheVariants as punctuator
use Rattle.aioc_tokens.specs.Lexemes.{Lexeme, Name, Reserved, Symbol, sort_of}
use Rattle.expr_syntax.specs.Grammar.{IsExpression}
use Rattle.expr_syntax.specs.declared.levels.ExprKind.TheVariants as kind
use Rattle.dioc_syntax.specs.Choreographies.{role, last_role, HasExtraRoles, no_roles, roles, last_property, properties, Choreography, Stands, one_part, beside, one_step, last_step, in_turn, nothing, input, assignment, choice, scope, group, block, no_else}
use Rattle.dioc_syntax.proofs.RoundTrip.{quiet, expression_stands}

-- `skip ; | skip ;`
stray_semicolons : Stands 1 Choreography 0 0 (Reserved word.Skip ∷ Symbol punctuator.Semicolon ∷ Symbol punctuator.Bar ∷ Reserved word.Skip ∷ Symbol punctuator.Semicolon ∷ []) (Par Skip Skip) []
stray_semicolons = beside (last_step (nothing refl) refl) refl (one_part (last_step (nothing refl) refl))

-- `( skip | skip ) ; skip ; skip`
grouped : Stands 1 Choreography 1 0
    (Symbol punctuator.LeftParen ∷ Reserved word.Skip ∷ Symbol punctuator.Bar ∷ Reserved word.Skip ∷ Symbol punctuator.RightParen ∷ Symbol punctuator.Semicolon ∷ Reserved word.Skip ∷ Symbol punctuator.Semicolon ∷ Reserved word.Skip ∷ [])
    (Seq (Par Skip Skip) (Seq Skip Skip)) []
grouped = one_part (in_turn (group refl refl (beside (one_step (nothing refl)) refl (one_part (one_step (nothing refl)))) refl) refl (in_turn (nothing refl) refl (one_step (nothing refl))))

truth : (room : ℕ) (others : List Lexeme) → 63 ≤ room → quiet (sort_of others) ≡ true → IsExpression kind.Step room (Reserved word.True ∷ others) (Const (value.Bool true)) others
truth room others roomy calm = expression_stands (Const (value.Bool true)) room others refl roomy calm

-- `if true @ a { x @ a = true } ; y @ b = input ( ) }` up to the last bracket: the choice has place 0, the assignment 1, the input 2
without_else : Stands 1 Choreography 100 0
    (Reserved word.If ∷ Reserved word.True ∷ Symbol punctuator.At ∷ Name (codes "a") ∷ Symbol punctuator.LeftBrace ∷ Name (codes "x") ∷ Symbol punctuator.At ∷ Name (codes "a") ∷ Symbol punctuator.Equal ∷ Reserved word.True ∷ Symbol punctuator.RightBrace
    ∷ Symbol punctuator.Semicolon ∷ Name (codes "y") ∷ Symbol punctuator.At ∷ Name (codes "b") ∷ Symbol punctuator.Equal ∷ Reserved word.Input ∷ Symbol punctuator.LeftParen ∷ Symbol punctuator.RightParen ∷ Symbol punctuator.RightBrace ∷ [])
    (Seq (If (index_at 0) (role (codes "a")) (Const (value.Bool true)) (Set (index_at 1) (codes "x") (role (codes "a")) (Const (value.Bool true))) Skip) (Input (index_at 2) (codes "y") (role (codes "b"))))
    (Symbol punctuator.RightBrace ∷ [])
without_else =
    one_part
    (in_turn
    (choice refl (truth 100 _ (omega arith) refl) refl
    (block refl refl (one_part (one_step (assignment refl (truth 99 _ (omega arith) refl)))) refl) no_else)
    refl (one_step (input refl refl)))

-- `scope @ a { skip } roles { b } prop { N . k = nil }`
scoped : Stands 2 Choreography 1 0
    (Reserved word.Scope ∷ Symbol punctuator.At ∷ Name (codes "a") ∷ Symbol punctuator.LeftBrace ∷ Reserved word.Skip ∷ Symbol punctuator.RightBrace ∷ Name (codes "roles") ∷ Symbol punctuator.LeftBrace ∷ Name (codes "b") ∷ Symbol punctuator.RightBrace
    ∷ Reserved word.Prop ∷ Symbol punctuator.LeftBrace ∷ Reserved word.N ∷ Symbol punctuator.Dot ∷ Name (codes "k") ∷ Symbol punctuator.Equal ∷ Reserved word.Nil ∷ Symbol punctuator.RightBrace ∷ [])
    (Scope (index_at 0) (role (codes "a")) Skip (role (codes "b") ∷ []) ((codes "k", value.Nil) ∷ []) 0) []
scoped = one_part (one_step (scope refl (block refl refl (one_part (one_step (nothing refl))) refl) (roles refl refl (last_role refl) refl) (properties refl (last_property refl refl) refl)))

-- version 1 names no further roles
one_names_none : {from to : List Lexeme} {extra : List Role} → HasExtraRoles 1 from extra to → extra ≡ []
one_names_none no_roles = refl
one_names_none (roles two begins r ends) = absurd cc
