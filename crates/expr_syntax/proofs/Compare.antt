-- Two expressions that stand at one place: they are the same, or behind the shorter one stands a token that can go on.
use Rattle.std.proofs.Common.{◌≡◌, ℕ, ◌<◌, true, false, List, ◌∷◌, length, drop, Some, refl, ap, sym, ◌∙◌, arith}
use Rattle.dioc_terms.specs.declared.expressions.Oper.{Oper}
use Rattle.dioc_terms.specs.Expressions.{Expression, Not, Neg, Bin}
use Rattle.aioc_tokens.specs.declared.words.Word.TheVariants as word
use Rattle.aioc_tokens.specs.declared.words.Punctuator.TheVariants as punctuator
use Rattle.aioc_tokens.specs.Lexemes.{Lexeme, Reserved, Symbol, sort_of}
use Rattle.expr_syntax.specs.Levels.{tighter, operator, is_inside}
use Rattle.expr_syntax.specs.Grammar.{Reads, Follows, chain, denied, not_denied, alone, compared, single, negated, bracketed, ended, more, leaf, and_left, begins_with_number}
use Rattle.expr_syntax.specs.declared.levels.ExprKind.{ExprKind}
use Rattle.expr_syntax.specs.declared.levels.Level.{Level}
use Rattle.expr_syntax.specs.declared.levels.Level.TheVariants.{Disjunction, Negation, Comparison, Sum, Unary}
use Rattle.expr_syntax.proofs.LeafFacts.{same_pair, no_minus, no_paren, no_not}
use Rattle.expr_syntax.proofs.Tables.{goes, goes_tighter, operator_goes, operator_stops, inside_tighter}
use Rattle.expr_syntax.proofs.Shorter.{drop_shorter, reads_shorter, follows_shorter}

-- how two expressions compare that end at these rests of the list
pub data Compared (kind : ExprKind) (level : Level) (whole other : Expression) (to end : List Lexeme) : Type 0 where
  same : whole ≡ other → to ≡ end → Compared kind level whole other to end
  further : length end < length to → goes kind level (sort_of to) ≡ true → Compared kind level whole other to end
  nearer : length to < length end → goes kind level (sort_of end) ≡ true → Compared kind level whole other to end

-- what reads operands ends where none of its operators stands
pub halted : {kind : ExprKind} {level : Level} {room : ℕ} {first whole : Expression} {from to : List Lexeme} → Follows kind level room first from whole to → goes kind (tighter level) (sort_of from) ≡ true → to ≡ from
halted ended going = refl
halted {kind} {level} {room} {first} {whole} {from} (more {oper = oper} is r f) going = let stops = operator_stops kind level (sort_of from) oper is in absurd cc

pub paren_stops : (kind : ExprKind) (middle to : List Lexeme) → middle ≡ Symbol punctuator.RightParen ∷ to → goes kind Disjunction (sort_of middle) ≡ false
paren_stops kind middle to is = rw is refl

-- no `not` stands first at a level inside a comparison
pub not_inside : {kind : ExprKind} {level : Level} {room : ℕ} {from to : List Lexeme} {whole : Expression} → Reads kind level room from whole to → (inside : List Lexeme) → is_inside level ≡ true → from ≡ Reserved word.Not ∷ inside → ⊥
not_inside {kind} {level} (chain chains r f) inside within begins = not_inside r inside (inside_tighter level within) begins
not_inside (denied begins' r) inside within begins = cc
not_inside (not_denied r) inside within begins = cc
not_inside (alone r) inside within begins = not_inside r inside refl begins
not_inside (compared r o s) inside within begins = not_inside r inside refl begins
not_inside {kind} {level} {room} {from} {to} {whole} (single is) inside within begins = let none = no_not kind inside in cc (ap (leaf kind) begins)
not_inside (negated begins' other r) inside within begins = cc
not_inside (bracketed rooms begins' r ends) inside within begins = cc

flip : {kind : ExprKind} {level : Level} {whole other : Expression} {to end : List Lexeme} → Compared kind level whole other to end → Compared kind level other whole end to
flip (same is at) = same (sym is) (sym at)
flip (further less going) = nearer less going
flip (nearer less going) = further less going

-- of two wholes whose first operands end at different places
chain_further : {kind : ExprKind} {level : Level} {room room2 : ℕ} {first first2 whole other : Expression} {middle middle2 to end : List Lexeme} → Follows kind level room first middle whole to
    → Follows kind level room2 first2 middle2 other end → length middle2 < length middle → goes kind (tighter level) (sort_of middle) ≡ true → Compared kind level whole other to end
chain_further {kind} {level} {room} {room2} {first} {first2} {whole} {other} {middle} {middle2} {to} {end} f f2 less going =
    let at = halted f going in
    let after = follows_shorter f2 in
    further (omega (arith, ap length at)) (goes_tighter kind level (sort_of to) (ap (λ rest. goes kind (tighter level) (sort_of rest)) at ∙ going))

tighter_same : {kind : ExprKind} {level : Level} {whole other left right : Expression} {to end : List Lexeme} → Compared kind (tighter level) left right to end → (left ≡ right → whole ≡ other) → Compared kind level whole other to end
tighter_same (same is at) parts = same (parts is) at
tighter_same {kind} {level} {whole} {other} {left} {right} {to} {end} (further less going) parts = further less (goes_tighter kind level (sort_of to) going)
tighter_same {kind} {level} {whole} {other} {left} {right} {to} {end} (nearer less going) parts = nearer less (goes_tighter kind level (sort_of end) going)

-- one sum alone, another with a comparison behind it
alone_compared : {kind : ExprKind} {room : ℕ} {whole left right other : Expression} {oper : Oper} {to middle end : List Lexeme} → Compared kind Sum whole left to middle
    → operator kind Comparison (sort_of middle) ≡ Some oper → Reads kind Sum room (drop 1 middle) right end → Compared kind Comparison whole other to end
alone_compared {kind} {room} {whole} {left} {right} {other} {oper} {to} {middle} {end} (same is at) found r =
    let less = reads_shorter r in
    further (omega (arith, drop_shorter middle, ap length at)) (operator_goes kind Comparison (sort_of to) oper (ap (λ rest. operator kind Comparison (sort_of rest)) at ∙ found))
alone_compared {kind} {room} {whole} {left} {right} {other} {oper} {to} {middle} {end} (further before going) found r =
    let less = reads_shorter r in
    further (omega (arith, drop_shorter middle)) (goes_tighter kind Comparison (sort_of to) going)
alone_compared {kind} {room} {whole} {left} {right} {other} {oper} {to} {middle} {end} (nearer before going) found r = let stops = operator_stops kind Comparison (sort_of middle) oper found in absurd cc

negation_same : {kind : ExprKind} {whole other : Expression} {left right : Expression} {to end : List Lexeme} → Compared kind Negation left right to end → (left ≡ right → whole ≡ other) → Compared kind Negation whole other to end
negation_same (same is at) parts = same (parts is) at
negation_same (further less going) parts = further less going
negation_same (nearer less going) parts = nearer less going

unary_same : {kind : ExprKind} {whole other : Expression} {left right : Expression} {to end : List Lexeme} → Compared kind Unary left right to end → (left ≡ right → whole ≡ other) → Compared kind Unary whole other to end
unary_same (same is at) parts = same (parts is) at
unary_same (further less going) parts = further less going
unary_same (nearer less going) parts = nearer less going

single_same : (kind : ExprKind) (from from2 to end : List Lexeme) (whole other : Expression) → from ≡ from2 → leaf kind from ≡ Some (and_left to whole) → leaf kind from2 ≡ Some (and_left end other) → (whole ≡ other) × (to ≡ end)
single_same kind from from2 to end whole other is found found2 = same_pair (sym found ∙ ap (leaf kind) is ∙ found2)

pub no_single_negated : (kind : ExprKind) (from inside to : List Lexeme) (whole : Expression) → leaf kind from ≡ Some (and_left to whole) → from ≡ Symbol punctuator.Minus ∷ inside → begins_with_number inside ≡ false → ⊥
no_single_negated kind from inside to whole found begins other = let none = no_minus kind inside other in cc (ap (leaf kind) begins)

pub no_single_bracketed : (kind : ExprKind) (from inside to : List Lexeme) (whole : Expression) → leaf kind from ≡ Some (and_left to whole) → from ≡ Symbol punctuator.LeftParen ∷ inside → ⊥
no_single_bracketed kind from inside to whole found begins = let none = no_paren kind inside in cc (ap (leaf kind) begins)

bracketed_same : {kind : ExprKind} {left right : Expression} {middle middle2 to end : List Lexeme} → Compared kind Disjunction left right middle middle2 → middle ≡ Symbol punctuator.RightParen ∷ to → middle2 ≡ Symbol punctuator.RightParen ∷ end → Compared kind Unary left right to end
bracketed_same (same is at) ends ends2 = same is (cc)
bracketed_same {kind} {left} {right} {middle} {middle2} {to} {end} (further less going) ends ends2 = let stops = paren_stops kind middle to ends in absurd cc
bracketed_same {kind} {left} {right} {middle} {middle2} {to} {end} (nearer less going) ends ends2 = let stops = paren_stops kind middle2 end ends2 in absurd cc

mutual
  pub compare : {kind : ExprKind} {level : Level} {room : ℕ} {from to : List Lexeme} {whole : Expression} → Reads kind level room from whole to
      → (room2 : ℕ) (from2 end : List Lexeme) (other : Expression) → room ≡ room2 → from ≡ from2 → Reads kind level room2 from2 other end → Compared kind level whole other to end
  compare (chain c r f) room2 from2 end other rooms froms (chain {middle = middle2} {first = first2} c2 r2 f2) = elim (compare r room2 from2 middle2 first2 rooms froms r2) [
    | same is at ↦ compare_follows f room2 first2 middle2 end other rooms is at f2
    | further less going ↦ chain_further f f2 less going
    | nearer less going ↦ flip (chain_further f2 f less going)
  ]
  compare (chain c r f) room2 from2 end other rooms froms (denied begins2 r2) = absurd cc
  compare (chain c r f) room2 from2 end other rooms froms (not_denied r2) = absurd cc
  compare (chain c r f) room2 from2 end other rooms froms (alone r2) = absurd cc
  compare (chain c r f) room2 from2 end other rooms froms (compared r2 o2 s2) = absurd cc
  compare (chain c r f) room2 from2 end other rooms froms (single found2) = absurd cc
  compare (chain c r f) room2 from2 end other rooms froms (negated begins2 other2 r2) = absurd cc
  compare (chain c r f) room2 from2 end other rooms froms (bracketed left2 begins2 r2 ends2) = absurd cc
  compare (denied begins r) room2 from2 end other rooms froms (chain c2 r2 f2) = absurd cc
  compare (denied begins r) room2 from2 end other rooms froms (denied {inside = inside2} {inner = inner2} begins2 r2) =
      negation_same (compare r room2 inside2 end inner2 rooms (cc) r2) (λ is. ap Not is)
  compare (denied {inside = inside} begins r) room2 from2 end other rooms froms (not_denied r2) = absurd (not_inside r2 inside refl (sym froms ∙ begins))
  compare (not_denied r) room2 from2 end other rooms froms (chain c2 r2 f2) = absurd cc
  compare (not_denied r) room2 from2 end other rooms froms (denied {inside = inside2} begins2 r2) = absurd (not_inside r inside2 refl (froms ∙ begins2))
  compare (not_denied r) room2 from2 end other rooms froms (not_denied r2) = tighter_same (compare r room2 from2 end other rooms froms r2) (λ is. is)
  compare (alone r) room2 from2 end other rooms froms (chain c2 r2 f2) = absurd cc
  compare (alone r) room2 from2 end other rooms froms (alone r2) = tighter_same (compare r room2 from2 end other rooms froms r2) (λ is. is)
  compare (alone r) room2 from2 end other rooms froms (compared {middle = middle2} {left = left2} r2 o2 s2) = alone_compared (compare r room2 from2 middle2 left2 rooms froms r2) o2 s2
  compare (compared r o s) room2 from2 end other rooms froms (chain c2 r2 f2) = absurd cc
  compare (compared r o s) room2 from2 end other rooms froms (alone r2) = flip (alone_compared (flip (compare r room2 from2 end other rooms froms r2)) o s)
  compare {kind} (compared {middle = middle} {oper = oper} r o s) room2 from2 end other rooms froms (compared {middle = middle2} {left = left2} {right = right2} {oper = oper2} r2 o2 s2) =
      elim (compare r room2 from2 middle2 left2 rooms froms r2) [
        | same is at ↦ tighter_same (compare s room2 (drop 1 middle2) end right2 rooms (ap (drop 1) at) s2) (λ rights. cc (ap (λ rest. operator kind Comparison (sort_of rest)) at))
        | further less going ↦ (let stops = operator_stops kind Comparison (sort_of middle) oper o in absurd cc)
        | nearer less going ↦ (let stops = operator_stops kind Comparison (sort_of middle2) oper2 o2 in absurd cc)
      ]
  compare (single found) room2 from2 end other rooms froms (chain c2 r2 f2) = absurd cc
  compare {kind} {level} {room} {from} {to} {whole} (single found) room2 from2 end other rooms froms (single found2) = let both = single_same kind from from2 to end whole other froms found found2 in same both.0 both.1
  compare {kind} {level} {room} {from} {to} {whole} (single found) room2 from2 end other rooms froms (negated {inside = inside2} begins2 other2 r2) = absurd (no_single_negated kind from inside2 to whole found (froms ∙ begins2) other2)
  compare {kind} {level} {room} {from} {to} {whole} (single found) room2 from2 end other rooms froms (bracketed {inside = inside2} left2 begins2 r2 ends2) = absurd (no_single_bracketed kind from inside2 to whole found (froms ∙ begins2))
  compare (negated begins minus r) room2 from2 end other rooms froms (chain c2 r2 f2) = absurd cc
  compare {kind} (negated {inside = inside} begins minus r) room2 from2 end other rooms froms (single found2) = absurd (no_single_negated kind from2 inside end other found2 (sym froms ∙ begins) minus)
  compare (negated begins minus r) room2 from2 end other rooms froms (negated {inside = inside2} {inner = inner2} begins2 other2 r2) = unary_same (compare r room2 inside2 end inner2 rooms (cc) r2) (λ is. ap Neg is)
  compare (negated begins minus r) room2 from2 end other rooms froms (bracketed left2 begins2 r2 ends2) = absurd cc
  compare (bracketed left begins r ends) room2 from2 end other rooms froms (chain c2 r2 f2) = absurd cc
  compare {kind} (bracketed {inside = inside} left begins r ends) room2 from2 end other rooms froms (single found2) = absurd (no_single_bracketed kind from2 inside end other found2 (sym froms ∙ begins))
  compare (bracketed left begins r ends) room2 from2 end other rooms froms (negated begins2 other2 r2) = absurd cc
  compare (bracketed rooms1 begins r ends) room2 from2 end other rooms froms (bracketed {left = left2} {inside = inside2} {middle = middle2} rooms2 begins2 r2 ends2) =
      bracketed_same (compare r left2 inside2 middle2 other (omega arith) (cc) r2) ends ends2

  pub compare_follows : {kind : ExprKind} {level : Level} {room : ℕ} {first : Expression} {from : List Lexeme} {whole : Expression} {to : List Lexeme} → Follows kind level room first from whole to
      → (room2 : ℕ) (first2 : Expression) (from2 end : List Lexeme) (other : Expression) → room ≡ room2 → first ≡ first2 → from ≡ from2 → Follows kind level room2 first2 from2 other end → Compared kind level whole other to end
  compare_follows ended room2 first2 from2 end other rooms firsts froms ended = same firsts froms
  compare_follows {kind} {level} ended room2 first2 from2 end other rooms firsts froms (more {oper = oper2} o2 r2 f2) =
      let less = reads_shorter r2 in
      let after = follows_shorter f2 in
      further (omega (arith, drop_shorter from2, ap length froms)) (ap (λ rest. goes kind level (sort_of rest)) froms ∙ operator_goes kind level (sort_of from2) oper2 o2)
  compare_follows {kind} {level} {room} {first} {from} (more {oper = oper} o r f) room2 first2 from2 end other rooms firsts froms ended =
      let less = reads_shorter r in
      let after = follows_shorter f in
      nearer (omega (arith, drop_shorter from, ap length froms)) (ap (λ rest. goes kind level (sort_of rest)) (sym froms) ∙ operator_goes kind level (sort_of from) oper o)
  compare_follows {kind} {level} (more {second = second} {oper = oper} o r f) room2 first2 from2 end other rooms firsts froms (more {middle = middle2} {second = second2} {oper = oper2} o2 r2 f2) =
      let opers : oper ≡ oper2 = cc (ap (λ rest. operator kind level (sort_of rest)) froms) in
      elim (compare r room2 (drop 1 from2) middle2 second2 rooms (ap (drop 1) froms) r2) [
        | same is at ↦ compare_follows f room2 (Bin oper2 first2 second2) middle2 end other rooms (cc) at f2
        | further less going ↦ chain_further f f2 less going
        | nearer less going ↦ flip (chain_further f2 f less going)
      ]
