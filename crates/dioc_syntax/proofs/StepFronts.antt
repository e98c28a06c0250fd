-- The longest step at a place, by the longest of its parts.
use Rattle.std.proofs.Common.{◌≡◌, ◌≢◌, ℕ, suc, ◌+◌, ◌-◌, ◌<◌, ◌≤◌, List, [], ◌∷◌, length, drop, refl, ap, sym, ◌∙◌, subst, arith}
use Rattle.dioc_terms.specs.declared.names.Role.{Role}
use Rattle.dioc_terms.specs.declared.names.Index.{Index}
use Rattle.dioc_terms.specs.declared.values.Value.{Value}
use Rattle.dioc_terms.specs.Expressions.{Expression}
use Rattle.dioc_terms.specs.Terms.{Term, Skip, Com, Set, Input, If, While, Scope, constructs, depth, index_at}
use Rattle.aioc_tokens.specs.declared.words.Word.TheVariants as word
use Rattle.aioc_tokens.specs.declared.words.Punctuator.TheVariants as punctuator
use Rattle.aioc_tokens.specs.declared.words.Sort.{Sort}
use Rattle.aioc_tokens.specs.declared.words.Sort.TheVariants as sorts
use Rattle.aioc_tokens.specs.Lexemes.{Lexeme, Name, Reserved, Symbol, sort_of, Begins}
use Rattle.aioc_tokens.specs.Fronts.{Longest, NoFront}
use Rattle.expr_syntax.specs.Grammar.{IsExpression}
use Rattle.expr_syntax.specs.declared.levels.ExprKind.TheVariants as kind
use Rattle.expr_syntax.specs.declared.levels.Level.TheVariants.{Disjunction}
use Rattle.expr_syntax.proofs.Tables as tables
use Rattle.expr_syntax.proofs.Fronts as expressions
use Rattle.dioc_syntax.specs.Choreographies.{role, HasExtraRoles, HasProperties, Choreography, Block, Otherwise, Step, Stands, nothing, interaction, input, assignment, choice, loop, scope, group, IsShallow}
use Rattle.dioc_syntax.proofs.Tables.{choreography_goes}
use Rattle.dioc_syntax.proofs.Compare.{behind_is, no_input, input_given}
use Rattle.dioc_syntax.proofs.Fronts.{some_depth, settled, moved}
use Rattle.dioc_syntax.proofs.ScopeFronts.{tail_longest}

-- what stands behind what is sent
abbrev pub receiver_sorts : List Sort
receiver_sorts = sorts.Symbol punctuator.RightParen ∷ sorts.Symbol punctuator.Arrow ∷ sorts.Name ∷ sorts.Symbol punctuator.LeftParen ∷ sorts.Name ∷ sorts.Symbol punctuator.RightParen ∷ []

-- what begins an interaction, and what begins an assignment
abbrev pub message_sorts : List Sort
message_sorts = sorts.Name ∷ sorts.Symbol punctuator.Colon ∷ sorts.Name ∷ sorts.Symbol punctuator.LeftParen ∷ []

abbrev pub target_sorts : List Sort
target_sorts = sorts.Name ∷ sorts.Symbol punctuator.At ∷ sorts.Name ∷ sorts.Symbol punctuator.Equal ∷ []

-- what stands behind `input`
abbrev pub empty_sorts : List Sort
empty_sorts = sorts.Symbol punctuator.LeftParen ∷ sorts.Symbol punctuator.RightParen ∷ []

-- what stands behind a guard
abbrev pub leader_sorts : List Sort
leader_sorts = sorts.Symbol punctuator.At ∷ sorts.Name ∷ []

-- the same expression, said of equal numbers and equal lists
expression_moved : {room room2 : ℕ} {from from2 to : List Lexeme} {whole : Expression} → room ≡ room2 → from ≡ from2 → IsExpression kind.Step room from whole to → IsExpression kind.Step room2 from2 whole to
expression_moved {room} {room2} {from} {from2} {to} {whole} rooms lists is = subst (λ n. IsExpression kind.Step n from2 whole to) rooms (subst (λ list. IsExpression kind.Step room list whole to) lists is)

-- what stands behind a leader
bodies_are : {head head2 body body2 : List Lexeme} {leader leader2 : List ℕ} → head ≡ head2 → head ≡ Symbol punctuator.At ∷ Name leader ∷ body → head2 ≡ Symbol punctuator.At ∷ Name leader2 ∷ body2 → body2 ≡ body
bodies_are at heads heads2 = ap (drop 2) (sym heads2 ∙ sym at ∙ heads)

-- `skip`
skip_only : {version room earlier : ℕ} {from to end : List Lexeme} {other : Term} → from ≡ Reserved word.Skip ∷ to → Stands version Step room earlier from other end → to ≡ end
skip_only begins (nothing begins2) = behind_is refl begins begins2
skip_only begins (interaction rooms2 begins2 is2 ends2) = absurd cc
skip_only begins (input rooms2 begins2) = absurd cc
skip_only begins (assignment begins2 is2) = absurd cc
skip_only begins (choice begins2 is2 heads2 r2 s2) = absurd cc
skip_only begins (loop begins2 is2 heads2 r2) = absurd cc
skip_only begins (scope begins2 r2 named2 given2) = absurd cc
skip_only begins (group rooms2 begins2 r2 ends2) = absurd cc

module _ {version room deep earlier : ℕ} {from : List Lexeme} where
  pub skip_front : {to : List Lexeme} → 0 < deep → from ≡ Reserved word.Skip ∷ to → Longest (IsShallow version Step room deep earlier from) Skip to
  skip_front some begins = record { reads = record { stands = nothing begins; shallow = omega arith }; longest = λ other end is. omega (arith, ap length (skip_only begins is.stands)) }

-- interactions
record AsInteraction (room : ℕ) (sent end : List Lexeme) : Type 0 where
  some : 0 < room
  received : List Lexeme
  value : Expression
  receiver : List ℕ
  variable : List ℕ
  is : IsExpression kind.Step (room - 1) sent value received
  ends : received ≡ Symbol punctuator.RightParen ∷ Symbol punctuator.Arrow ∷ Name receiver ∷ Symbol punctuator.LeftParen ∷ Name variable ∷ Symbol punctuator.RightParen ∷ end

as_interaction : {version room earlier : ℕ} {from sent end : List Lexeme} {operation sender : List ℕ} {other : Term} → from ≡ Name operation ∷ Symbol punctuator.Colon ∷ Name sender ∷ Symbol punctuator.LeftParen ∷ sent
    → Stands version Step room earlier from other end → AsInteraction room sent end
as_interaction {sent = sent} begins (interaction {sent = sent2} {received = received2} {receiver = receiver2} {variable = variable2} {value = value2} rooms2 begins2 is2 ends2) =
    let sents : sent2 ≡ sent = cc in
    record { some = omega arith; received = received2; value = value2; receiver = receiver2; variable = variable2; is = expression_moved (omega arith) sents is2; ends = ends2 }
as_interaction begins (nothing begins2) = absurd cc
as_interaction begins (input rooms2 begins2) = absurd cc
as_interaction begins (assignment begins2 is2) = absurd cc
as_interaction begins (choice begins2 is2 heads2 r2 s2) = absurd cc
as_interaction begins (loop begins2 is2 heads2 r2) = absurd cc
as_interaction begins (scope begins2 r2 named2 given2) = absurd cc
as_interaction begins (group rooms2 begins2 r2 ends2) = absurd cc

module _ {version room deep earlier : ℕ} {from sent : List Lexeme} {operation sender : List ℕ} (begins : from ≡ Name operation ∷ Symbol punctuator.Colon ∷ Name sender ∷ Symbol punctuator.LeftParen ∷ sent) where
  pub interaction_front : {received to : List Lexeme} {value : Expression} {receiver variable : List ℕ} → 0 < deep → 0 < room → Longest (IsExpression kind.Step (room - 1) sent) value received
      → received ≡ Symbol punctuator.RightParen ∷ Symbol punctuator.Arrow ∷ Name receiver ∷ Symbol punctuator.LeftParen ∷ Name variable ∷ Symbol punctuator.RightParen ∷ to
      → Longest (IsShallow version Step room deep earlier from) (Com (index_at earlier) operation (role sender) value (role receiver) variable) to
  interaction_front {received} {to} some roomy front ends = record {
    reads = record { stands = interaction {left = room - 1} (omega arith) begins front.reads ends; shallow = omega arith };
    longest = λ other end is.
        let holds = as_interaction begins is.stands in
        let both = expressions.settled front holds.is (ap (λ rest. tables.goes kind.Step Disjunction (sort_of rest)) holds.ends) in
        let same : received ≡ holds.received = both.1 in
        omega (arith, ap length same, ap length ends, ap length holds.ends);
  }

  pub interaction_room : room ≡ 0 → NoFront (IsShallow version Step room deep earlier from)
  interaction_room full other end is = let holds = as_interaction begins is.stands in let some = holds.some in omega arith

  pub interaction_none : NoFront (IsExpression kind.Step (room - 1) sent) → NoFront (IsShallow version Step room deep earlier from)
  interaction_none none other end is = let holds = as_interaction begins is.stands in none holds.value holds.received holds.is

  -- no receiver stands behind what is sent
  pub interaction_open : {received : List Lexeme} {value : Expression} → Longest (IsExpression kind.Step (room - 1) sent) value received
      → (Begins receiver_sorts received → ⊥)
      → NoFront (IsShallow version Step room deep earlier from)
  interaction_open {received} front open_is other end is =
      let holds = as_interaction begins is.stands in
      let both = expressions.settled front holds.is (ap (λ rest. tables.goes kind.Step Disjunction (sort_of rest)) holds.ends) in
      let tail = both.1 ∙ holds.ends in
      open_is (subst (Begins receiver_sorts) (sym tail) (refl, (refl, (refl, (refl, (refl, (refl, tt)))))))

-- inputs
record AsInput (room : ℕ) (inside end : List Lexeme) : Type 0 where
  some : 0 < room
  is : inside ≡ Symbol punctuator.LeftParen ∷ Symbol punctuator.RightParen ∷ end

as_input : {version room earlier : ℕ} {from inside end : List Lexeme} {variable owner : List ℕ} {other : Term} → from ≡ Name variable ∷ Symbol punctuator.At ∷ Name owner ∷ Symbol punctuator.Equal ∷ Reserved word.Input ∷ inside
    → Stands version Step room earlier from other end → AsInput room inside end
as_input begins (input rooms2 begins2) = record { some = omega arith; is = cc }
as_input {from = from} {inside = inside} {variable = variable} {owner = owner} begins (assignment {given = given2} {variable = variable2} {owner = owner2} begins2 is2) =
    absurd (no_input is2.reads inside (input_given from inside variable owner variable2 owner2 given2 begins begins2))
as_input begins (nothing begins2) = absurd cc
as_input begins (interaction rooms2 begins2 is2 ends2) = absurd cc
as_input begins (choice begins2 is2 heads2 r2 s2) = absurd cc
as_input begins (loop begins2 is2 heads2 r2) = absurd cc
as_input begins (scope begins2 r2 named2 given2) = absurd cc
as_input begins (group rooms2 begins2 r2 ends2) = absurd cc

module _ {version room deep earlier : ℕ} {from inside : List Lexeme} {variable owner : List ℕ} (begins : from ≡ Name variable ∷ Symbol punctuator.At ∷ Name owner ∷ Symbol punctuator.Equal ∷ Reserved word.Input ∷ inside) where
  pub input_front : {to : List Lexeme} → 0 < deep → 0 < room → inside ≡ Symbol punctuator.LeftParen ∷ Symbol punctuator.RightParen ∷ to
      → Longest (IsShallow version Step room deep earlier from) (Input (index_at earlier) variable (role owner)) to
  input_front {to} some roomy closes = record {
    reads = record { stands = input {left = room - 1} (omega arith) (begins ∙ ap (λ rest. Name variable ∷ Symbol punctuator.At ∷ Name owner ∷ Symbol punctuator.Equal ∷ Reserved word.Input ∷ rest) closes); shallow = omega arith };
    longest = λ other end is. let holds = as_input begins is.stands in omega (arith, ap length closes, ap length holds.is);
  }

  pub input_room : room ≡ 0 → NoFront (IsShallow version Step room deep earlier from)
  input_room full other end is = let holds = as_input begins is.stands in let some = holds.some in omega arith

  -- no `( )` stands behind `input`
  pub input_open : (Begins empty_sorts inside → ⊥) → NoFront (IsShallow version Step room deep earlier from)
  input_open open_is other end is = let holds = as_input begins is.stands in open_is (subst (Begins empty_sorts) (sym holds.is) (refl, (refl, tt)))

-- assignments
record AsAssignment (room : ℕ) (given end : List Lexeme) : Type 0 where
  value : Expression
  is : IsExpression kind.Step room given value end

as_assignment : {version room earlier : ℕ} {from given end : List Lexeme} {variable owner : List ℕ} {other : Term} → from ≡ Name variable ∷ Symbol punctuator.At ∷ Name owner ∷ Symbol punctuator.Equal ∷ given
    → sort_of given ≢ sorts.Reserved word.Input → Stands version Step room earlier from other end → AsAssignment room given end
as_assignment {given = given} begins not_input (assignment {given = given2} {value = value2} begins2 is2) =
    let givens : given2 ≡ given = cc in
    record { value = value2; is = expression_moved refl givens is2 }
as_assignment {given = given} {end = end} begins not_input (input rooms2 begins2) =
    let is : given ≡ Reserved word.Input ∷ Symbol punctuator.LeftParen ∷ Symbol punctuator.RightParen ∷ end = cc in
    absurd (not_input (ap sort_of is))
as_assignment begins not_input (nothing begins2) = absurd cc
as_assignment begins not_input (interaction rooms2 begins2 is2 ends2) = absurd cc
as_assignment begins not_input (choice begins2 is2 heads2 r2 s2) = absurd cc
as_assignment begins not_input (loop begins2 is2 heads2 r2) = absurd cc
as_assignment begins not_input (scope begins2 r2 named2 given2) = absurd cc
as_assignment begins not_input (group rooms2 begins2 r2 ends2) = absurd cc

module _ {version room deep earlier : ℕ} {from given : List Lexeme} {variable owner : List ℕ} (begins : from ≡ Name variable ∷ Symbol punctuator.At ∷ Name owner ∷ Symbol punctuator.Equal ∷ given) where
  pub assignment_front : {to : List Lexeme} {value : Expression} → 0 < deep → sort_of given ≢ sorts.Reserved word.Input → Longest (IsExpression kind.Step room given) value to
      → Longest (IsShallow version Step room deep earlier from) (Set (index_at earlier) variable (role owner) value) to
  assignment_front some not_input front = record {
    reads = record { stands = assignment begins front.reads; shallow = omega arith };
    longest = λ other end is. let holds = as_assignment begins not_input is.stands in front.longest holds.value end holds.is;
  }

  pub assignment_none : sort_of given ≢ sorts.Reserved word.Input → NoFront (IsExpression kind.Step room given) → NoFront (IsShallow version Step room deep earlier from)
  assignment_none not_input none other end is = let holds = as_assignment begins not_input is.stands in none holds.value end holds.is

-- a name that begins none of these
name_none_go : {version room earlier : ℕ} {from end : List Lexeme} {other : Term} → sort_of from ≡ sorts.Name → (Begins message_sorts from → ⊥)
    → (Begins target_sorts from → ⊥) → Stands version Step room earlier from other end → ⊥
name_none_go named no_message no_target (interaction rooms2 begins2 is2 ends2) =
    no_message (subst (Begins message_sorts) (sym begins2) (refl, (refl, (refl, (refl, tt)))))
name_none_go named no_message no_target (input rooms2 begins2) =
    no_target (subst (Begins target_sorts) (sym begins2) (refl, (refl, (refl, (refl, tt)))))
name_none_go named no_message no_target (assignment begins2 is2) =
    no_target (subst (Begins target_sorts) (sym begins2) (refl, (refl, (refl, (refl, tt)))))
name_none_go named no_message no_target (nothing begins2) = absurd (cc (sym named ∙ ap sort_of begins2))
name_none_go named no_message no_target (choice begins2 is2 heads2 r2 s2) = absurd (cc (sym named ∙ ap sort_of begins2))
name_none_go named no_message no_target (loop begins2 is2 heads2 r2) = absurd (cc (sym named ∙ ap sort_of begins2))
name_none_go named no_message no_target (scope begins2 r2 named2 given2) = absurd (cc (sym named ∙ ap sort_of begins2))
name_none_go named no_message no_target (group rooms2 begins2 r2 ends2) = absurd (cc (sym named ∙ ap sort_of begins2))

pub name_none : {version room deep earlier : ℕ} {from : List Lexeme} → sort_of from ≡ sorts.Name → (Begins message_sorts from → ⊥)
    → (Begins target_sorts from → ⊥) → NoFront (IsShallow version Step room deep earlier from)
name_none named no_message no_target other end is = name_none_go named no_message no_target is.stands

-- choices
record AsChoice (version room deep earlier : ℕ) (guarded end : List Lexeme) : Type 0 where
  head : List Lexeme
  body : List Lexeme
  behind : List Lexeme
  leader : List ℕ
  guard : Expression
  first : Term
  second : Term
  is : IsExpression kind.Step room guarded guard head
  heads : head ≡ Symbol punctuator.At ∷ Name leader ∷ body
  one : IsShallow version Block room (deep - 1) (suc earlier) body first behind
  two : IsShallow version Otherwise room (deep - 1) (suc earlier + constructs first) behind second end

if_depth : (index : Index) (leader : Role) (guard : Expression) (first second : Term) (deep : ℕ) → depth (If index leader guard first second) ≤ deep → (depth first ≤ deep - 1) × (depth second ≤ deep - 1)
if_depth index leader guard first second deep shallow = (omega arith, omega arith)

as_choice : {version room deep earlier : ℕ} {from guarded end : List Lexeme} {other : Term} → from ≡ Reserved word.If ∷ guarded → depth other ≤ deep → Stands version Step room earlier from other end
    → AsChoice version room deep earlier guarded end
as_choice {deep = deep} {earlier = earlier} begins shallow (choice {head = head2} {body = body2} {behind = behind2} {leader = leader2} {guard = guard2} {first = first2} {second = second2} begins2 is2 heads2 r2 s2) =
    let depths = if_depth (index_at earlier) (role leader2) guard2 first2 second2 deep shallow in
    record {
      head = head2;
      body = body2;
      behind = behind2;
      leader = leader2;
      guard = guard2;
      first = first2;
      second = second2;
      is = expression_moved refl (behind_is refl begins2 begins) is2;
      heads = heads2;
      one = record { stands = r2; shallow = depths.0 };
      two = record { stands = s2; shallow = depths.1 };
    }
as_choice begins shallow (nothing begins2) = absurd cc
as_choice begins shallow (interaction rooms2 begins2 is2 ends2) = absurd cc
as_choice begins shallow (input rooms2 begins2) = absurd cc
as_choice begins shallow (assignment begins2 is2) = absurd cc
as_choice begins shallow (loop begins2 is2 heads2 r2) = absurd cc
as_choice begins shallow (scope begins2 r2 named2 given2) = absurd cc
as_choice begins shallow (group rooms2 begins2 r2 ends2) = absurd cc

module _ {version room deep earlier : ℕ} {from guarded : List Lexeme} (begins : from ≡ Reserved word.If ∷ guarded) where
  pub choice_front : {head body behind to : List Lexeme} {leader : List ℕ} {guard : Expression} {first second : Term} → Longest (IsExpression kind.Step room guarded) guard head
      → head ≡ Symbol punctuator.At ∷ Name leader ∷ body → Longest (IsShallow version Block room (deep - 1) (suc earlier) body) first behind
      → Longest (IsShallow version Otherwise room (deep - 1) (suc earlier + constructs first) behind) second to
      → Longest (IsShallow version Step room deep earlier from) (If (index_at earlier) (role leader) guard first second) to
  choice_front {head} {body} {behind} {to} {leader} {guard} {first} {second} front heads one two = record {
    reads = record { stands = choice begins front.reads heads one.reads.stands two.reads.stands; shallow = let some = some_depth first in let less = one.reads.shallow in let more = two.reads.shallow in omega arith };
    longest = λ other end is.
        let holds = as_choice begins is.shallow is.stands in
        let guards = expressions.settled front holds.is (ap (λ rest. tables.goes kind.Step Disjunction (sort_of rest)) holds.heads) in
        let bodies = bodies_are guards.1 heads holds.heads in
        let firsts = settled one (moved refl refl bodies holds.one) refl in
        two.longest holds.second end (moved refl (omega (arith, ap constructs firsts.0)) (sym firsts.1) holds.two);
  }

  pub choice_guard : NoFront (IsExpression kind.Step room guarded) → NoFront (IsShallow version Step room deep earlier from)
  choice_guard none other end is = let holds = as_choice begins is.shallow is.stands in none holds.guard holds.head holds.is

  -- no leader stands behind the guard
  pub choice_head : {head : List Lexeme} {guard : Expression} → Longest (IsExpression kind.Step room guarded) guard head → (Begins leader_sorts head → ⊥)
      → NoFront (IsShallow version Step room deep earlier from)
  choice_head front no_leader other end is =
      let holds = as_choice begins is.shallow is.stands in
      let guards = expressions.settled front holds.is (ap (λ rest. tables.goes kind.Step Disjunction (sort_of rest)) holds.heads) in
      no_leader (subst (Begins leader_sorts) (sym (guards.1 ∙ holds.heads)) (refl, (refl, tt)))

  pub choice_body : {head body : List Lexeme} {leader : List ℕ} {guard : Expression} → Longest (IsExpression kind.Step room guarded) guard head → head ≡ Symbol punctuator.At ∷ Name leader ∷ body
      → NoFront (IsShallow version Block room (deep - 1) (suc earlier) body) → NoFront (IsShallow version Step room deep earlier from)
  choice_body front heads none other end is =
      let holds = as_choice begins is.shallow is.stands in
      let guards = expressions.settled front holds.is (ap (λ rest. tables.goes kind.Step Disjunction (sort_of rest)) holds.heads) in
      none holds.first holds.behind (moved refl refl (bodies_are guards.1 heads holds.heads) holds.one)

-- loops
record AsLoop (version room deep earlier : ℕ) (guarded end : List Lexeme) : Type 0 where
  head : List Lexeme
  body : List Lexeme
  leader : List ℕ
  guard : Expression
  inner : Term
  is : IsExpression kind.Step room guarded guard head
  heads : head ≡ Symbol punctuator.At ∷ Name leader ∷ body
  one : IsShallow version Block room (deep - 1) (suc earlier) body inner end

while_depth : (index : Index) (leader : Role) (guard : Expression) (inner : Term) (deep : ℕ) → depth (While index leader guard inner) ≤ deep → depth inner ≤ deep - 1
while_depth index leader guard inner deep shallow = omega arith

as_loop : {version room deep earlier : ℕ} {from guarded end : List Lexeme} {other : Term} → from ≡ Reserved word.While ∷ guarded → depth other ≤ deep → Stands version Step room earlier from other end
    → AsLoop version room deep earlier guarded end
as_loop {deep = deep} {earlier = earlier} begins shallow (loop {head = head2} {body = body2} {leader = leader2} {guard = guard2} {inner = inner2} begins2 is2 heads2 r2) = record {
  head = head2;
  body = body2;
  leader = leader2;
  guard = guard2;
  inner = inner2;
  is = expression_moved refl (behind_is refl begins2 begins) is2;
  heads = heads2;
  one = record { stands = r2; shallow = while_depth (index_at earlier) (role leader2) guard2 inner2 deep shallow };
}
as_loop begins shallow (nothing begins2) = absurd cc
as_loop begins shallow (interaction rooms2 begins2 is2 ends2) = absurd cc
as_loop begins shallow (input rooms2 begins2) = absurd cc
as_loop begins shallow (assignment begins2 is2) = absurd cc
as_loop begins shallow (choice begins2 is2 heads2 r2 s2) = absurd cc
as_loop begins shallow (scope begins2 r2 named2 given2) = absurd cc
as_loop begins shallow (group rooms2 begins2 r2 ends2) = absurd cc

module _ {version room deep earlier : ℕ} {from guarded : List Lexeme} (begins : from ≡ Reserved word.While ∷ guarded) where
  pub loop_front : {head body to : List Lexeme} {leader : List ℕ} {guard : Expression} {inner : Term} → Longest (IsExpression kind.Step room guarded) guard head → head ≡ Symbol punctuator.At ∷ Name leader ∷ body
      → Longest (IsShallow version Block room (deep - 1) (suc earlier) body) inner to → Longest (IsShallow version Step room deep earlier from) (While (index_at earlier) (role leader) guard inner) to
  loop_front {head} {body} {to} {leader} {guard} {inner} front heads one = record {
    reads = record { stands = loop begins front.reads heads one.reads.stands; shallow = let some = some_depth inner in let less = one.reads.shallow in omega arith };
    longest = λ other end is.
        let holds = as_loop begins is.shallow is.stands in
        let guards = expressions.settled front holds.is (ap (λ rest. tables.goes kind.Step Disjunction (sort_of rest)) holds.heads) in
        one.longest holds.inner end (moved refl refl (bodies_are guards.1 heads holds.heads) holds.one);
  }

  pub loop_guard : NoFront (IsExpression kind.Step room guarded) → NoFront (IsShallow version Step room deep earlier from)
  loop_guard none other end is = let holds = as_loop begins is.shallow is.stands in none holds.guard holds.head holds.is

  pub loop_head : {head : List Lexeme} {guard : Expression} → Longest (IsExpression kind.Step room guarded) guard head → (Begins leader_sorts head → ⊥)
      → NoFront (IsShallow version Step room deep earlier from)
  loop_head front no_leader other end is =
      let holds = as_loop begins is.shallow is.stands in
      let guards = expressions.settled front holds.is (ap (λ rest. tables.goes kind.Step Disjunction (sort_of rest)) holds.heads) in
      no_leader (subst (Begins leader_sorts) (sym (guards.1 ∙ holds.heads)) (refl, (refl, tt)))

  pub loop_body : {head body : List Lexeme} {leader : List ℕ} {guard : Expression} → Longest (IsExpression kind.Step room guarded) guard head → head ≡ Symbol punctuator.At ∷ Name leader ∷ body
      → NoFront (IsShallow version Block room (deep - 1) (suc earlier) body) → NoFront (IsShallow version Step room deep earlier from)
  loop_body front heads none other end is =
      let holds = as_loop begins is.shallow is.stands in
      let guards = expressions.settled front holds.is (ap (λ rest. tables.goes kind.Step Disjunction (sort_of rest)) holds.heads) in
      none holds.inner end (moved refl refl (bodies_are guards.1 heads holds.heads) holds.one)

-- scopes
record AsScope (version room deep earlier : ℕ) (headed end : List Lexeme) : Type 0 where
  body : List Lexeme
  behind : List Lexeme
  after : List Lexeme
  leader : List ℕ
  inner : Term
  extra : List Role
  props : List (List ℕ × Value)
  heads : headed ≡ Symbol punctuator.At ∷ Name leader ∷ body
  one : IsShallow version Block room (deep - 1) (suc earlier) body inner behind
  named : HasExtraRoles version behind extra after
  given : HasProperties after props end

scope_depth : (index : Index) (leader : Role) (inner : Term) (extra : List Role) (props : List (List ℕ × Value)) (deep : ℕ) → depth (Scope index leader inner extra props 0) ≤ deep → depth inner ≤ deep - 1
scope_depth index leader inner extra props deep shallow = omega arith

as_scope : {version room deep earlier : ℕ} {from headed end : List Lexeme} {other : Term} → from ≡ Reserved word.Scope ∷ headed → depth other ≤ deep → Stands version Step room earlier from other end
    → AsScope version room deep earlier headed end
as_scope {deep = deep} {earlier = earlier} begins shallow (scope {body = body2} {behind = behind2} {after = after2} {leader = leader2} {inner = inner2} {extra = extra2} {props = props2} begins2 r2 named2 given2) = record {
  body = body2;
  behind = behind2;
  after = after2;
  leader = leader2;
  inner = inner2;
  extra = extra2;
  props = props2;
  heads = behind_is refl begins begins2;
  one = record { stands = r2; shallow = scope_depth (index_at earlier) (role leader2) inner2 extra2 props2 deep shallow };
  named = named2;
  given = given2;
}
as_scope begins shallow (nothing begins2) = absurd cc
as_scope begins shallow (interaction rooms2 begins2 is2 ends2) = absurd cc
as_scope begins shallow (input rooms2 begins2) = absurd cc
as_scope begins shallow (assignment begins2 is2) = absurd cc
as_scope begins shallow (choice begins2 is2 heads2 r2 s2) = absurd cc
as_scope begins shallow (loop begins2 is2 heads2 r2) = absurd cc
as_scope begins shallow (group rooms2 begins2 r2 ends2) = absurd cc

module _ {version room deep earlier : ℕ} {from headed : List Lexeme} (begins : from ≡ Reserved word.Scope ∷ headed) where
  pub scope_front : {body behind after to : List Lexeme} {leader : List ℕ} {inner : Term} {extra : List Role} {props : List (List ℕ × Value)} → headed ≡ Symbol punctuator.At ∷ Name leader ∷ body
      → Longest (IsShallow version Block room (deep - 1) (suc earlier) body) inner behind → Longest (HasExtraRoles version behind) extra after → Longest (HasProperties after) props to
      → Longest (IsShallow version Step room deep earlier from) (Scope (index_at earlier) (role leader) inner extra props 0) to
  scope_front {body} {behind} {after} {to} {leader} {inner} {extra} {props} heads one named given = record {
    reads = record {
      stands = scope (begins ∙ ap (λ rest. Reserved word.Scope ∷ rest) heads) one.reads.stands named.reads given.reads;
      shallow = let some = some_depth inner in let less = one.reads.shallow in omega arith;
    };
    longest = λ other end is.
        let holds = as_scope begins is.shallow is.stands in
        let inners = settled one (moved refl refl (bodies_are refl heads holds.heads) holds.one) refl in
        tail_longest named given (subst (λ list. HasExtraRoles version list holds.extra holds.after) (sym inners.1) holds.named) holds.given;
  }

  -- no leader stands there
  pub scope_head : (Begins leader_sorts headed → ⊥) → NoFront (IsShallow version Step room deep earlier from)
  scope_head no_leader other end is =
      let holds = as_scope begins is.shallow is.stands in
      no_leader (subst (Begins leader_sorts) (sym holds.heads) (refl, (refl, tt)))

  pub scope_body : {body : List Lexeme} {leader : List ℕ} → headed ≡ Symbol punctuator.At ∷ Name leader ∷ body → NoFront (IsShallow version Block room (deep - 1) (suc earlier) body)
      → NoFront (IsShallow version Step room deep earlier from)
  scope_body heads none other end is =
      let holds = as_scope begins is.shallow is.stands in
      none holds.inner holds.behind (moved refl refl (bodies_are refl heads holds.heads) holds.one)

-- groups
record AsGroup (version room deep earlier : ℕ) (inside : List Lexeme) (other : Term) (end : List Lexeme) : Type 0 where
  some : 0 < room
  middle : List Lexeme
  is : IsShallow version Choreography (room - 1) deep earlier inside other middle
  ends : middle ≡ Symbol punctuator.RightParen ∷ end

as_group : {version room deep earlier : ℕ} {from inside end : List Lexeme} {other : Term} → from ≡ Symbol punctuator.LeftParen ∷ inside → depth other ≤ deep → Stands version Step room earlier from other end
    → AsGroup version room deep earlier inside other end
as_group begins shallow (group {middle = middle2} rooms2 begins2 r2 ends2) =
    record { some = omega arith; middle = middle2; is = moved (omega arith) refl (behind_is refl begins2 begins) (record { stands = r2; shallow = shallow }); ends = ends2 }
as_group begins shallow (nothing begins2) = absurd cc
as_group begins shallow (interaction rooms2 begins2 is2 ends2) = absurd cc
as_group begins shallow (input rooms2 begins2) = absurd cc
as_group begins shallow (assignment begins2 is2) = absurd cc
as_group begins shallow (choice begins2 is2 heads2 r2 s2) = absurd cc
as_group begins shallow (loop begins2 is2 heads2 r2) = absurd cc
as_group begins shallow (scope begins2 r2 named2 given2) = absurd cc

module _ {version room deep earlier : ℕ} {from inside : List Lexeme} (begins : from ≡ Symbol punctuator.LeftParen ∷ inside) where
  pub group_front : {middle to : List Lexeme} {whole : Term} → 0 < room → Longest (IsShallow version Choreography (room - 1) deep earlier inside) whole middle → middle ≡ Symbol punctuator.RightParen ∷ to
      → Longest (IsShallow version Step room deep earlier from) whole to
  group_front roomy front ends = record {
    reads = record { stands = group {left = room - 1} (omega arith) begins front.reads.stands ends; shallow = front.reads.shallow };
    longest = λ other end is.
        let holds = as_group begins is.shallow is.stands in
        let both = settled front holds.is (ap (λ rest. choreography_goes (sort_of rest)) holds.ends) in
        omega (arith, ap length (behind_is both.1 ends holds.ends));
  }

  pub group_room : room ≡ 0 → NoFront (IsShallow version Step room deep earlier from)
  group_room full other end is = let holds = as_group begins is.shallow is.stands in let some = holds.some in omega arith

  pub group_none : NoFront (IsShallow version Choreography (room - 1) deep earlier inside) → NoFront (IsShallow version Step room deep earlier from)
  group_none none other end is = let holds = as_group begins is.shallow is.stands in none other holds.middle holds.is

  -- the longest choreography behind a `(` isn't followed by `)`
  pub group_open : {middle : List Lexeme} {whole : Term} → Longest (IsShallow version Choreography (room - 1) deep earlier inside) whole middle → sort_of middle ≢ sorts.Symbol punctuator.RightParen
      → NoFront (IsShallow version Step room deep earlier from)
  group_open front unclosed other end is =
      let holds = as_group begins is.shallow is.stands in
      let both = settled front holds.is (ap (λ rest. choreography_goes (sort_of rest)) holds.ends) in
      unclosed (ap sort_of both.1 ∙ ap sort_of holds.ends)

-- another token begins no step
other_none_go : {version room earlier : ℕ} {from end : List Lexeme} {other : Term} → sort_of from ≢ sorts.Name → sort_of from ≢ sorts.Reserved word.Skip → sort_of from ≢ sorts.Reserved word.If → sort_of from ≢ sorts.Reserved word.While → sort_of from ≢ sorts.Reserved word.Scope → sort_of from ≢ sorts.Symbol punctuator.LeftParen → Stands version Step room earlier from other end → ⊥
other_none_go no_name no_skip no_if no_while no_scope no_group (nothing begins2) = no_skip (ap sort_of begins2)
other_none_go no_name no_skip no_if no_while no_scope no_group (interaction rooms2 begins2 is2 ends2) = no_name (ap sort_of begins2)
other_none_go no_name no_skip no_if no_while no_scope no_group (input rooms2 begins2) = no_name (ap sort_of begins2)
other_none_go no_name no_skip no_if no_while no_scope no_group (assignment begins2 is2) = no_name (ap sort_of begins2)
other_none_go no_name no_skip no_if no_while no_scope no_group (choice begins2 is2 heads2 r2 s2) = no_if (ap sort_of begins2)
other_none_go no_name no_skip no_if no_while no_scope no_group (loop begins2 is2 heads2 r2) = no_while (ap sort_of begins2)
other_none_go no_name no_skip no_if no_while no_scope no_group (scope begins2 r2 named2 given2) = no_scope (ap sort_of begins2)
other_none_go no_name no_skip no_if no_while no_scope no_group (group rooms2 begins2 r2 ends2) = no_group (ap sort_of begins2)

pub other_none : {version room deep earlier : ℕ} {from : List Lexeme} → sort_of from ≢ sorts.Name → sort_of from ≢ sorts.Reserved word.Skip → sort_of from ≢ sorts.Reserved word.If → sort_of from ≢ sorts.Reserved word.While → sort_of from ≢ sorts.Reserved word.Scope → sort_of from ≢ sorts.Symbol punctuator.LeftParen → NoFront (IsShallow version Step room deep earlier from)
other_none no_name no_skip no_if no_while no_scope no_group other end is = other_none_go no_name no_skip no_if no_while no_scope no_group is.stands
