-- The longest expression at a place, by the longest of its parts.
use Rattle.std.proofs.Common.{◌≡◌, ◌≢◌, ℕ, suc, ◌-◌, ◌<◌, ◌≤◌, true, false, List, ◌∷◌, length, drop, Some, None, refl, ap, sym, ◌∙◌, subst, arith}
use Rattle.dioc_terms.specs.declared.expressions.Oper.{Oper}
use Rattle.dioc_terms.specs.Expressions.{Expression, Not, Neg, Bin, expression_depth}
use Rattle.aioc_tokens.specs.declared.words.Word.TheVariants as word
use Rattle.aioc_tokens.specs.declared.words.Punctuator.TheVariants as punctuator
use Rattle.aioc_tokens.specs.declared.words.Sort.TheVariants as sorts
use Rattle.aioc_tokens.specs.Lexemes.{Lexeme, Reserved, Symbol, sort_of}
use Rattle.aioc_tokens.specs.Fronts.{Longest, NoFront}
use Rattle.expr_syntax.specs.Levels.{is_chain, tighter, operator}
use Rattle.expr_syntax.specs.Grammar.{Reads, Follows, chain, denied, not_denied, alone, compared, single, negated, bracketed, ended, more, leaf, and_left, begins_with_number, IsShallow}
use Rattle.expr_syntax.specs.Readers.{FollowsShallow}
use Rattle.expr_syntax.specs.declared.levels.ExprKind.{ExprKind}
use Rattle.expr_syntax.specs.declared.levels.Level.{Level}
use Rattle.expr_syntax.specs.declared.levels.Level.TheVariants.{Disjunction, Negation, Comparison, Sum, Unary}
use Rattle.expr_syntax.proofs.Tables.{goes, operator_stops}
use Rattle.expr_syntax.proofs.Shorter.{drop_shorter, reads_shorter, follows_shorter}
use Rattle.expr_syntax.proofs.Compare.{Compared, same, further, nearer, compare, not_inside, paren_stops, no_single_negated, no_single_bracketed}

pub some_depth : (whole : Expression) → 0 < expression_depth whole
some_depth (Not inner) = omega arith
some_depth (Neg inner) = omega arith
some_depth (Bin oper left right) = omega arith
some_depth _ = omega arith

-- an expression that no token can go on behind is the longest one
pub settled : {kind : ExprKind} {level : Level} {room deep : ℕ} {from to end : List Lexeme} {whole other : Expression} → Longest (IsShallow kind level room deep from) whole to
    → IsShallow kind level room deep from other end → goes kind level (sort_of end) ≡ false → (whole ≡ other) × (to ≡ end)
settled {kind} {level} {room} {deep} {from} {to} {end} {whole} {other} front is stops = go (compare front.reads.reads room from end other refl refl is.reads)
  where
    go : Compared kind level whole other to end → (whole ≡ other) × (to ≡ end)
    go (same is' at) = (is', at)
    go (further less going) = let most = front.longest other end is in absurd (omega arith)
    go (nearer less going) = absurd cc

-- operators that follow don't make an expression less deep
pub follows_deeper : {kind : ExprKind} {level : Level} {room : ℕ} {first : Expression} {from : List Lexeme} {whole : Expression} {to : List Lexeme} → Follows kind level room first from whole to → expression_depth first ≤ expression_depth whole
follows_deeper ended = omega arith
follows_deeper (more {first = first} {second = second} {oper = oper} o r f) = let deeper = follows_deeper f in omega arith

-- behind the longest operand go on with what follows it
step : {kind : ExprKind} {level : Level} {room deep : ℕ} {from middle middle2 end : List Lexeme} {operand operand2 before other : Expression} (to : List Lexeme) → Longest (IsShallow kind (tighter level) room deep from) operand middle
    → IsShallow kind (tighter level) room deep from operand2 middle2 → Follows kind level room before middle2 other end
    → (operand ≡ operand2 → middle ≡ middle2 → length to ≤ length end) → length to ≤ length middle → length to ≤ length end
step {kind} {level} {room} {deep} {from} {middle} {middle2} {end} {operand} {operand2} to front is ended on short = let most = front.longest operand2 middle2 is in omega arith
step {kind} {level} {room} {deep} {from} {middle} {middle2} to front is (more {oper = oper} o r f) on short = let both = settled front is (operator_stops kind level (sort_of middle2) oper o) in on both.0 both.1

-- the first operand of a whole, and what follows it
record Chained (kind : ExprKind) (level : Level) (room : ℕ) (from : List Lexeme) (whole : Expression) (to : List Lexeme) : Type 0 where
  first : Expression
  middle : List Lexeme
  reads : Reads kind (tighter level) room from first middle
  follows : Follows kind level room first middle whole to

as_chain : {kind : ExprKind} {level : Level} {room : ℕ} {from to : List Lexeme} {whole : Expression} → is_chain level ≡ true → Reads kind level room from whole to → Chained kind level room from whole to
as_chain chains (chain {middle = middle} {first = first} c r f) = record { first = first; middle = middle; reads = r; follows = f }
as_chain chains (denied begins r) = absurd cc
as_chain chains (not_denied r) = absurd cc
as_chain chains (alone r) = absurd cc
as_chain chains (compared r o s) = absurd cc
as_chain chains (single found) = absurd cc
as_chain chains (negated begins other r) = absurd cc
as_chain chains (bracketed rooms begins r ends) = absurd cc

module _ {kind : ExprKind} {level : Level} {room deep : ℕ} where
  -- a whole is its first operand with what follows
  pub chain_front : {from middle to : List Lexeme} {first whole : Expression} → is_chain level ≡ true → Longest (IsShallow kind (tighter level) room deep from) first middle
      → Longest (FollowsShallow kind level room deep first middle) whole to → Longest (IsShallow kind level room deep from) whole to
  chain_front {from} {middle} {to} {first} {whole} chains front rest = record {
    reads = record { reads = chain chains front.reads.reads rest.reads.follows; shallow = rest.reads.shallow };
    longest = λ other end is. go other end is.shallow (as_chain chains is.reads);
  }
    where
      go : (other : Expression) (end : List Lexeme) → expression_depth other ≤ deep → Chained kind level room from other end → length to ≤ length end
      go other end shallow parts =
          let deeper = follows_deeper parts.follows in
          let operand : IsShallow kind (tighter level) room deep from parts.first parts.middle = record { reads = parts.reads; shallow = omega arith } in
          step to front operand parts.follows
          (λ is at. rest.longest other end (record { follows = subst (λ operand. Follows kind level room operand middle other end) (sym is) (subst (λ place. Follows kind level room parts.first place other end) (sym at) parts.follows); shallow = shallow }))
          (follows_shorter rest.reads.follows)

  pub chain_none : {from : List Lexeme} → is_chain level ≡ true → NoFront (IsShallow kind (tighter level) room deep from) → NoFront (IsShallow kind level room deep from)
  chain_none chains none other end is =
      let parts = as_chain chains is.reads in
      let deeper = follows_deeper parts.follows in
      let shallow = is.shallow in
      none parts.first parts.middle (record { reads = parts.reads; shallow = omega arith })

-- No operand follows: no operator stands there, or nothing may be deeper, or what stands behind the operator is no operand.
pub record NoOperand (kind : ExprKind) (level operands : Level) (room deep : ℕ) (first : Expression) (from : List Lexeme) : Type 0 where
  pub none : (oper : Oper) (second : Expression) (end : List Lexeme) → operator kind level (sort_of from) ≡ Some oper → suc (expression_depth first) ≤ deep
      → IsShallow kind operands room (deep - 1) (drop 1 from) second end → ⊥

module _ {kind : ExprKind} {level operands : Level} {room deep : ℕ} {first : Expression} {from : List Lexeme} where
  pub no_operator : None ≡ operator kind level (sort_of from) → NoOperand kind level operands room deep first from
  no_operator none = record { none = λ oper second end found deeper is. cc }

  pub no_depth : expression_depth first ≡ deep → NoOperand kind level operands room deep first from
  no_depth full = record { none = λ oper second end found deeper is. omega arith }

  pub no_second : NoFront (IsShallow kind operands room (deep - 1) (drop 1 from)) → NoOperand kind level operands room deep first from
  no_second none = record { none = λ oper second end found deeper is. none second end is }

more_depth : (left right : Expression) (oper : Oper) (deep : ℕ) → expression_depth (Bin oper left right) ≤ deep → (suc (expression_depth left) ≤ deep) × (expression_depth right ≤ deep - 1)
more_depth left right oper deep shallow = (omega arith, omega arith)

bin_depth : (left right : Expression) (oper : Oper) (deep : ℕ) → suc (expression_depth left) ≤ deep → expression_depth right ≤ deep - 1 → expression_depth (Bin oper left right) ≤ deep
bin_depth left right oper deep one two = omega arith

follow_ended_go : {kind : ExprKind} {level : Level} {room deep : ℕ} {first : Expression} {from : List Lexeme} {other : Expression} {end : List Lexeme} → NoOperand kind level (tighter level) room deep first from
    → expression_depth other ≤ deep → Follows kind level room first from other end → length from ≤ length end
follow_ended_go none shallow ended = omega arith
follow_ended_go {kind} {level} {room} {deep} {first} none shallow (more {middle = middle} {second = second} {oper = oper} o r f) =
    let deeper = follows_deeper f in
    let depths = more_depth first second oper deep (omega arith) in
    absurd (none.none oper second middle o depths.0 (record { reads = r; shallow = depths.1 }))

follow_joined_go : {kind : ExprKind} {level : Level} {room deep : ℕ} {first : Expression} {from : List Lexeme} {other : Expression} {end : List Lexeme} (oper : Oper) (second : Expression) (middle to : List Lexeme) (whole : Expression)
    → operator kind level (sort_of from) ≡ Some oper → Longest (IsShallow kind (tighter level) room (deep - 1) (drop 1 from)) second middle
    → Longest (FollowsShallow kind level room deep (Bin oper first second) middle) whole to → expression_depth other ≤ deep → Follows kind level room first from other end → length to ≤ length end
follow_joined_go {kind} {level} {room} {deep} {first} {from} oper second middle to whole found front rest shallow ended =
    let less = reads_shorter front.reads.reads in
    let after = follows_shorter rest.reads.follows in
    omega (arith, drop_shorter from)
follow_joined_go {kind} {level} {room} {deep} {first} {from} {other} {end} oper second middle to whole found front rest shallow (more {middle = middle2} {second = second2} {oper = oper2} o r f) =
    let deeper = follows_deeper f in
    let depths = more_depth first second2 oper2 deep (omega arith) in
    let operand : IsShallow kind (tighter level) room (deep - 1) (drop 1 from) second2 middle2 = record { reads = r; shallow = depths.1 } in
    let opers : oper2 ≡ oper = cc in
    step to front operand f
    (λ is at. rest.longest other end (record {
      follows = subst (λ place. Follows kind level room (Bin oper first second) place other end) (sym at) (subst (λ before. Follows kind level room before middle2 other end) (ap (λ operation. Bin operation first second2) opers ∙ ap (Bin oper first) (sym is)) f);
      shallow = shallow;
    }))
    (follows_shorter rest.reads.follows)

module _ {kind : ExprKind} {level : Level} {room deep : ℕ} {first : Expression} {from : List Lexeme} where
  pub follow_ended : expression_depth first ≤ deep → NoOperand kind level (tighter level) room deep first from → Longest (FollowsShallow kind level room deep first from) first from
  follow_ended shallow none = record { reads = record { follows = ended; shallow = shallow }; longest = λ other end is. follow_ended_go none is.shallow is.follows }

  pub follow_joined : {second whole : Expression} {middle to : List Lexeme} (oper : Oper) → operator kind level (sort_of from) ≡ Some oper → Longest (IsShallow kind (tighter level) room (deep - 1) (drop 1 from)) second middle
      → Longest (FollowsShallow kind level room deep (Bin oper first second) middle) whole to → Longest (FollowsShallow kind level room deep first from) whole to
  follow_joined {second} {whole} {middle} {to} oper found front rest = record {
    reads = record { follows = more found front.reads.reads rest.reads.follows; shallow = rest.reads.shallow };
    longest = λ other end is. follow_joined_go oper second middle to whole found front rest is.shallow is.follows;
  }

-- comparisons
comparison_alone_go : {kind : ExprKind} {room deep : ℕ} {from end middle : List Lexeme} {left other : Expression} → Longest (IsShallow kind Sum room deep from) left middle → NoOperand kind Comparison Sum room deep left middle
    → expression_depth other ≤ deep → Reads kind Comparison room from other end → length middle ≤ length end
comparison_alone_go front none shallow (chain c r f) = absurd cc
comparison_alone_go {kind} {room} {deep} {from} {end} {middle} {left} {other} front none shallow (alone r) = front.longest other end (record { reads = r; shallow = shallow })
comparison_alone_go {kind} {room} {deep} {from} {end} {middle} {left} front none shallow (compared {middle = middle2} {left = left2} {right = right2} {oper = oper2} r o s) =
    let depths = more_depth left2 right2 oper2 deep shallow in
    let both = settled front (record { reads = r; shallow = omega arith }) (operator_stops kind Comparison (sort_of middle2) oper2 o) in
    absurd (none.none oper2 right2 end (ap (λ rest. operator kind Comparison (sort_of rest)) both.1 ∙ o) (omega (arith, ap expression_depth both.0, depths.0))
    (record { reads = subst (λ rest. Reads kind Sum room (drop 1 rest) right2 end) (sym both.1) s; shallow = depths.1 }))

comparison_joined_go : {kind : ExprKind} {room deep : ℕ} {from end middle : List Lexeme} {left other : Expression} (oper : Oper) (right : Expression) (to : List Lexeme) → Longest (IsShallow kind Sum room deep from) left middle
    → Longest (IsShallow kind Sum room (deep - 1) (drop 1 middle)) right to → expression_depth other ≤ deep → Reads kind Comparison room from other end → length to ≤ length end
comparison_joined_go oper right to front behind shallow (chain c r f) = absurd cc
comparison_joined_go {kind} {room} {deep} {from} {end} {middle} {left} {other} oper right to front behind shallow (alone r) =
    let most = front.longest other end (record { reads = r; shallow = shallow }) in
    let less = reads_shorter behind.reads.reads in
    omega (arith, drop_shorter middle)
comparison_joined_go {kind} {room} {deep} {from} {end} {middle} {left} oper right to front behind shallow (compared {middle = middle2} {left = left2} {right = right2} {oper = oper2} r o s) =
    let depths = more_depth left2 right2 oper2 deep shallow in
    let both = settled front (record { reads = r; shallow = omega arith }) (operator_stops kind Comparison (sort_of middle2) oper2 o) in
    behind.longest right2 end (record { reads = subst (λ rest. Reads kind Sum room (drop 1 rest) right2 end) (sym both.1) s; shallow = depths.1 })

comparison_none_go : {kind : ExprKind} {room deep : ℕ} {from end : List Lexeme} {other : Expression} → NoFront (IsShallow kind Sum room deep from) → expression_depth other ≤ deep → Reads kind Comparison room from other end → ⊥
comparison_none_go none shallow (chain c r f) = absurd cc
comparison_none_go {kind} {room} {deep} {from} {end} {other} none shallow (alone r) = none other end (record { reads = r; shallow = shallow })
comparison_none_go {kind} {room} {deep} {from} {end} none shallow (compared {middle = middle2} {left = left2} {right = right2} {oper = oper2} r o s) =
    let depths = more_depth left2 right2 oper2 deep shallow in
    none left2 middle2 (record { reads = r; shallow = omega arith })

module _ {kind : ExprKind} {room deep : ℕ} {from : List Lexeme} where
  pub comparison_none : NoFront (IsShallow kind Sum room deep from) → NoFront (IsShallow kind Comparison room deep from)
  comparison_none none other end is = comparison_none_go none is.shallow is.reads

  pub comparison_alone : {left : Expression} {middle : List Lexeme} → Longest (IsShallow kind Sum room deep from) left middle → NoOperand kind Comparison Sum room deep left middle → Longest (IsShallow kind Comparison room deep from) left middle
  comparison_alone front none = record { reads = record { reads = alone front.reads.reads; shallow = front.reads.shallow }; longest = λ other end is. comparison_alone_go front none is.shallow is.reads }

  pub comparison_joined : {left right : Expression} {middle to : List Lexeme} (oper : Oper) → operator kind Comparison (sort_of middle) ≡ Some oper → suc (expression_depth left) ≤ deep → Longest (IsShallow kind Sum room deep from) left middle
      → Longest (IsShallow kind Sum room (deep - 1) (drop 1 middle)) right to → Longest (IsShallow kind Comparison room deep from) (Bin oper left right) to
  comparison_joined {left} {right} {middle} {to} oper found deeper front behind = record {
    reads = record { reads = compared front.reads.reads found behind.reads.reads; shallow = bin_depth left right oper deep deeper behind.reads.shallow };
    longest = λ other end is. comparison_joined_go oper right to front behind is.shallow is.reads;
  }

-- `not`
depth_below : (inner : Expression) (deep depth : ℕ) → suc depth ≤ deep → depth ≤ deep - 1
depth_below inner deep depth less = omega arith

negation_inside_go : {kind : ExprKind} {room deep : ℕ} {from end : List Lexeme} {other : Expression} (inside to : List Lexeme) (inner : Expression) → from ≡ Reserved word.Not ∷ inside → Longest (IsShallow kind Negation room (deep - 1) inside) inner to
    → expression_depth other ≤ deep → Reads kind Negation room from other end → length to ≤ length end
negation_inside_go inside to inner begins front shallow (chain c r f) = absurd cc
negation_inside_go {kind} {room} {deep} {from} {end} inside to inner begins front shallow (denied {inside = inside2} {inner = inner2} begins2 r) =
    let insides : inside2 ≡ inside = cc in
    front.longest inner2 end (record { reads = subst (λ rest. Reads kind Negation room rest inner2 end) insides r; shallow = depth_below inner2 deep (expression_depth inner2) shallow })
negation_inside_go inside to inner begins front shallow (not_denied r) = absurd (not_inside r inside refl begins)

negation_none_go : {kind : ExprKind} {room deep : ℕ} {from end : List Lexeme} {other : Expression} (inside : List Lexeme) → from ≡ Reserved word.Not ∷ inside → NoFront (IsShallow kind Negation room (deep - 1) inside)
    → expression_depth other ≤ deep → Reads kind Negation room from other end → ⊥
negation_none_go inside begins none shallow (chain c r f) = absurd cc
negation_none_go {kind} {room} {deep} {from} {end} inside begins none shallow (denied {inside = inside2} {inner = inner2} begins2 r) =
    let insides : inside2 ≡ inside = cc in
    none inner2 end (record { reads = subst (λ rest. Reads kind Negation room rest inner2 end) insides r; shallow = depth_below inner2 deep (expression_depth inner2) shallow })
negation_none_go inside begins none shallow (not_denied r) = absurd (not_inside r inside refl begins)

-- a list that begins with no `not`
as_not_denied : {kind : ExprKind} {room : ℕ} {from end : List Lexeme} {other : Expression} → sort_of from ≢ sorts.Reserved word.Not → Reads kind Negation room from other end → Reads kind Comparison room from other end
as_not_denied other (chain c r f) = absurd cc
as_not_denied other (denied begins r) = absurd (other (ap sort_of begins))
as_not_denied other (not_denied r) = r

module _ {kind : ExprKind} {room deep : ℕ} {from : List Lexeme} where
  pub nothing_shallow : {level : Level} → deep ≡ 0 → NoFront (IsShallow kind level room deep from)
  nothing_shallow none other end is = let some = some_depth other in let less = is.shallow in omega arith

  pub negation_inside : {inside to : List Lexeme} {inner : Expression} → 0 < deep → from ≡ Reserved word.Not ∷ inside → Longest (IsShallow kind Negation room (deep - 1) inside) inner to → Longest (IsShallow kind Negation room deep from) (Not inner) to
  negation_inside {inside} {to} {inner} some begins front = record {
    reads = record { reads = denied begins front.reads.reads; shallow = let less = front.reads.shallow in omega arith };
    longest = λ other end is. negation_inside_go inside to inner begins front is.shallow is.reads;
  }

  pub negation_none : (inside : List Lexeme) → from ≡ Reserved word.Not ∷ inside → NoFront (IsShallow kind Negation room (deep - 1) inside) → NoFront (IsShallow kind Negation room deep from)
  negation_none inside begins none other end is = negation_none_go inside begins none is.shallow is.reads

  pub negation_plain : {whole : Expression} {to : List Lexeme} → sort_of from ≢ sorts.Reserved word.Not → Longest (IsShallow kind Comparison room deep from) whole to → Longest (IsShallow kind Negation room deep from) whole to
  negation_plain other front = record {
    reads = record { reads = not_denied front.reads.reads; shallow = front.reads.shallow };
    longest = λ whole end is. front.longest whole end (record { reads = as_not_denied other is.reads; shallow = is.shallow });
  }

  pub negation_plain_none : sort_of from ≢ sorts.Reserved word.Not → NoFront (IsShallow kind Comparison room deep from) → NoFront (IsShallow kind Negation room deep from)
  negation_plain_none other none whole end is = none whole end (record { reads = as_not_denied other is.reads; shallow = is.shallow })

-- unaries: a place has at most one
unary_one : {kind : ExprKind} {whole other : Expression} {to end : List Lexeme} → Compared kind Unary whole other to end → to ≡ end
unary_one (same is at) = at
unary_one (further less going) = absurd cc
unary_one (nearer less going) = absurd cc

pub unary_front : {kind : ExprKind} {room deep : ℕ} {from to : List Lexeme} {whole : Expression} → Reads kind Unary room from whole to → expression_depth whole ≤ deep → Longest (IsShallow kind Unary room deep from) whole to
unary_front {kind} {room} {deep} {from} {to} {whole} r shallow = record {
  reads = record { reads = r; shallow = shallow };
  longest = λ other end is. let at = unary_one (compare r room from end other refl refl is.reads) in omega (arith, ap length at);
}

minus_none_go : {kind : ExprKind} {room deep : ℕ} {from end : List Lexeme} {other : Expression} (inside : List Lexeme) → from ≡ Symbol punctuator.Minus ∷ inside → begins_with_number inside ≡ false → NoFront (IsShallow kind Unary room (deep - 1) inside)
    → expression_depth other ≤ deep → Reads kind Unary room from other end → ⊥
minus_none_go inside begins minus none shallow (chain c r f) = absurd cc
minus_none_go {kind} {room} {deep} {from} {end} {other} inside begins minus none shallow (single found) = no_single_negated kind from inside end other found begins minus
minus_none_go {kind} {room} {deep} {from} {end} inside begins minus none shallow (negated {inside = inside2} {inner = inner2} begins2 minus2 r) =
    let insides : inside2 ≡ inside = cc in
    none inner2 end (record { reads = subst (λ rest. Reads kind Unary room rest inner2 end) insides r; shallow = depth_below inner2 deep (expression_depth inner2) shallow })
minus_none_go inside begins minus none shallow (bracketed rooms begins2 r ends) = cc

-- what a bracket holds
record Bracketed (kind : ExprKind) (room : ℕ) (inside : List Lexeme) (whole : Expression) (to : List Lexeme) : Type 0 where
  left : ℕ
  rooms : room ≡ suc left
  middle : List Lexeme
  reads : Reads kind Disjunction left inside whole middle
  ends : middle ≡ Symbol punctuator.RightParen ∷ to

as_bracketed : {kind : ExprKind} {room : ℕ} {from end : List Lexeme} {other : Expression} (inside : List Lexeme) → from ≡ Symbol punctuator.LeftParen ∷ inside → Reads kind Unary room from other end → Bracketed kind room inside other end
as_bracketed inside begins (chain c r f) = absurd cc
as_bracketed {kind} {room} {from} {end} {other} inside begins (single found) = absurd (no_single_bracketed kind from inside end other found begins)
as_bracketed inside begins (negated begins2 minus r) = absurd cc
as_bracketed {kind} {room} {from} {end} {other} inside begins (bracketed {left = left} {inside = inside2} {middle = middle} rooms begins2 r ends) =
    let insides : inside2 ≡ inside = cc in
    record { left = left; rooms = rooms; middle = middle; reads = subst (λ rest. Reads kind Disjunction left rest other middle) insides r; ends = ends }

-- a leaf
as_single : {kind : ExprKind} {room : ℕ} {from end : List Lexeme} {other : Expression} → (sort_of from ≡ sorts.Symbol punctuator.Minus → begins_with_number (drop 1 from) ≡ true) → sort_of from ≢ sorts.Symbol punctuator.LeftParen → Reads kind Unary room from other end
    → leaf kind from ≡ Some (and_left end other)
as_single minus paren (chain c r f) = absurd cc
as_single minus paren (single found) = found
as_single {kind} {room} {from} minus paren (negated {inside = inside} begins other r) =
    let number = minus (ap sort_of begins) in
    let rest : drop 1 from ≡ inside = ap (drop 1) begins in
    absurd (cc (ap begins_with_number rest))
as_single minus paren (bracketed rooms begins r ends) = absurd (paren (ap sort_of begins))

module _ {kind : ExprKind} {room deep : ℕ} {from : List Lexeme} where
  pub minus_front : {inside to : List Lexeme} {inner : Expression} → 0 < deep → from ≡ Symbol punctuator.Minus ∷ inside → begins_with_number inside ≡ false → Longest (IsShallow kind Unary room (deep - 1) inside) inner to → Longest (IsShallow kind Unary room deep from) (Neg inner) to
  minus_front some begins minus front = unary_front (negated begins minus front.reads.reads) (let less = front.reads.shallow in omega arith)

  pub minus_none : (inside : List Lexeme) → from ≡ Symbol punctuator.Minus ∷ inside → begins_with_number inside ≡ false → NoFront (IsShallow kind Unary room (deep - 1) inside) → NoFront (IsShallow kind Unary room deep from)
  minus_none inside begins minus none other end is = minus_none_go inside begins minus none is.shallow is.reads

  pub bracket_front : {inside middle to : List Lexeme} {inner : Expression} → 0 < room → from ≡ Symbol punctuator.LeftParen ∷ inside → Longest (IsShallow kind Disjunction (room - 1) deep inside) inner middle → middle ≡ Symbol punctuator.RightParen ∷ to
      → Longest (IsShallow kind Unary room deep from) inner to
  bracket_front some begins front ends = unary_front (bracketed {left = room - 1} (omega arith) begins front.reads.reads ends) front.reads.shallow

  pub bracket_room : (inside : List Lexeme) → room ≡ 0 → from ≡ Symbol punctuator.LeftParen ∷ inside → NoFront (IsShallow kind Unary room deep from)
  bracket_room inside full begins other end is = let holds = as_bracketed inside begins is.reads in let rooms = holds.rooms in omega arith

  bracket_read : (inside : List Lexeme) (other : Expression) (end : List Lexeme) → IsShallow kind Unary room deep from other end → (holds : Bracketed kind room inside other end) → IsShallow kind Disjunction (room - 1) deep inside other holds.middle
  bracket_read inside other end is holds = let rooms = holds.rooms in record { reads = subst (λ left. Reads kind Disjunction left inside other holds.middle) (omega arith) holds.reads; shallow = is.shallow }

  pub bracket_none : (inside : List Lexeme) → from ≡ Symbol punctuator.LeftParen ∷ inside → NoFront (IsShallow kind Disjunction (room - 1) deep inside) → NoFront (IsShallow kind Unary room deep from)
  bracket_none inside begins none other end is = let holds = as_bracketed inside begins is.reads in none other holds.middle (bracket_read inside other end is holds)

  -- the longest expression behind a `(` isn't followed by `)`
  pub bracket_open : {inside middle : List Lexeme} {inner : Expression} → from ≡ Symbol punctuator.LeftParen ∷ inside → Longest (IsShallow kind Disjunction (room - 1) deep inside) inner middle → sort_of middle ≢ sorts.Symbol punctuator.RightParen
      → NoFront (IsShallow kind Unary room deep from)
  bracket_open {inside} {middle} {inner} begins front unclosed other end is =
      let holds = as_bracketed inside begins is.reads in
      let both = settled front (bracket_read inside other end is holds) (paren_stops kind holds.middle end holds.ends) in
      unclosed (ap sort_of both.1 ∙ ap sort_of holds.ends)

  pub leaf_front : {whole : Expression} {to : List Lexeme} → expression_depth whole ≤ deep → leaf kind from ≡ Some (and_left to whole) → Longest (IsShallow kind Unary room deep from) whole to
  leaf_front shallow found = unary_front (single found) shallow

  pub leaf_none : (sort_of from ≡ sorts.Symbol punctuator.Minus → begins_with_number (drop 1 from) ≡ true) → sort_of from ≢ sorts.Symbol punctuator.LeftParen → leaf kind from ≡ None → NoFront (IsShallow kind Unary room deep from)
  leaf_none minus paren none other end is = let found = as_single minus paren is.reads in cc

-- one text, one expression: where no token can go on behind them, two expressions at a place are the same
pub one_expression : {kind : ExprKind} {level : Level} {room : ℕ} {from to end : List Lexeme} {whole other : Expression} → Reads kind level room from whole to → goes kind level (sort_of to) ≡ false
    → Reads kind level room from other end → goes kind level (sort_of end) ≡ false → (whole ≡ other) × (to ≡ end)
one_expression {kind} {level} {room} {from} {to} {end} {whole} {other} r stops r2 stops2 = go (compare r room from end other refl refl r2)
  where
    go : Compared kind level whole other to end → (whole ≡ other) × (to ≡ end)
    go (same is at) = (is, at)
    go (further less going) = absurd cc
    go (nearer less going) = absurd cc
