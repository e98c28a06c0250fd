-- The longest choreography, sequence and block at a place, by the longest of their parts.
use Rattle.std.proofs.Common.{◌≡◌, ◌≢◌, ℕ, suc, ◌+◌, ◌-◌, ◌<◌, ◌≤◌, false, List, ◌∷◌, length, refl, ap, sym, ◌∙◌, subst, arith}
use Rattle.dioc_terms.specs.Terms.{Term, Skip, Seq, Par, If, While, Scope, constructs, depth}
use Rattle.aioc_tokens.specs.declared.words.Word.TheVariants as word
use Rattle.aioc_tokens.specs.declared.words.Punctuator.{Punctuator}
use Rattle.aioc_tokens.specs.declared.words.Punctuator.TheVariants as punctuator
use Rattle.aioc_tokens.specs.declared.words.Sort.TheVariants as sorts
use Rattle.aioc_tokens.specs.Lexemes.{Lexeme, Reserved, Symbol, sort_of}
use Rattle.aioc_tokens.specs.Fronts.{Longest, NoFront}
use Rattle.dioc_syntax.specs.Choreographies.{Form, Choreography, Sequence, Step, Block, Otherwise, Stands, one_part, beside, one_step, last_step, in_turn, block, no_else, otherwise, IsShallow, IsChoreography}
use Rattle.dioc_syntax.proofs.Shorter.{stands_shorter}
use Rattle.dioc_syntax.proofs.Tables.{step_goes, sequence_goes, choreography_goes, goes}
use Rattle.dioc_syntax.proofs.Compare.{Compared, same, further, nearer, compare, behind_is}

pub some_depth : (whole : Term) → 0 < depth whole
some_depth (Seq first second) = omega arith
some_depth (Par first second) = omega arith
some_depth (If index leader guard first second) = omega arith
some_depth (While index leader guard inner) = omega arith
some_depth (Scope index leader inner extra props level) = omega arith
some_depth _ = omega arith

pub nothing_shallow : {version : ℕ} {form : Form} {room deep earlier : ℕ} {from : List Lexeme} → deep ≡ 0 → NoFront (IsShallow version form room deep earlier from)
nothing_shallow none other end is = let some = some_depth other in let less = is.shallow in omega arith

-- what no token can go on behind is the longest
pub settled : {version : ℕ} {form : Form} {room deep earlier : ℕ} {from to end : List Lexeme} {whole other : Term} → Longest (IsShallow version form room deep earlier from) whole to
    → IsShallow version form room deep earlier from other end → goes form (sort_of end) ≡ false → (whole ≡ other) × (to ≡ end)
settled {version} {form} {room} {deep} {earlier} {from} {to} {end} {whole} {other} front is stops = go (compare front.reads.stands room earlier from end other refl refl refl is.stands)
  where
    go : Compared (goes form) whole other to end → (whole ≡ other) × (to ≡ end)
    go (same is' at) = (is', at)
    go (further less going) = let most = front.longest other end is in absurd (omega arith)
    go (nearer less going) = absurd cc

-- a place has one longest term of a form
pub one_longest : {version : ℕ} {form : Form} {room deep earlier : ℕ} {from to end : List Lexeme} {whole other : Term} → Longest (IsShallow version form room deep earlier from) whole to
    → Longest (IsShallow version form room deep earlier from) other end → (whole ≡ other) × (to ≡ end)
one_longest {version} {form} {room} {deep} {earlier} {from} {to} {end} {whole} {other} one two = go (compare one.reads.stands room earlier from end other refl refl refl two.reads.stands)
  where
    go : Compared (goes form) whole other to end → (whole ≡ other) × (to ≡ end)
    go (same is at) = (is, at)
    go (further less going) = let most = one.longest other end two.reads in absurd (omega arith)
    go (nearer less going) = let most = two.longest whole to one.reads in absurd (omega arith)

pub one_choreography : (version room : ℕ) (from to end : List Lexeme) (whole other : Term) → Longest (IsChoreography version room from) whole to → Longest (IsChoreography version room from) other end → (whole ≡ other) × (to ≡ end)
one_choreography version room from to end whole other one two = one_longest one two

-- the same term, said of equal numbers and an equal list
pub moved : {version : ℕ} {form : Form} {room room2 deep earlier earlier2 : ℕ} {from from2 to : List Lexeme} {whole : Term} → room ≡ room2 → earlier ≡ earlier2 → from ≡ from2
    → IsShallow version form room deep earlier from whole to → IsShallow version form room2 deep earlier2 from2 whole to
moved {version} {form} {room} {room2} {deep} {earlier} {earlier2} {from} {from2} {to} {whole} rooms places lists is =
    subst (λ n. IsShallow version form n deep earlier2 from2 whole to) rooms (subst (λ n. IsShallow version form room deep n from2 whole to) places (subst (λ list. IsShallow version form room deep earlier list whole to) lists is))

-- No second part follows the first: its punctuator doesn't stand there, or nothing may be deeper, or nothing of the form stands behind the punctuator.
pub record NoSecond (version : ℕ) (form : Form) (sign : Punctuator) (room deep earlier : ℕ) (first : Term) (from : List Lexeme) : Type 0 where
  pub none : (second : Term) (behind end : List Lexeme) → from ≡ Symbol sign ∷ behind → suc (depth first) ≤ deep → IsShallow version form room (deep - 1) (earlier + constructs first) behind second end → ⊥

module _ {version : ℕ} {form : Form} {sign : Punctuator} {room deep earlier : ℕ} {first : Term} {from : List Lexeme} where
  pub no_punctuator : sort_of from ≢ sorts.Symbol sign → NoSecond version form sign room deep earlier first from
  no_punctuator other = record { none = λ second behind end begins deeper is. other (ap sort_of begins) }

  pub no_depth : depth first ≡ deep → NoSecond version form sign room deep earlier first from
  no_depth full = record { none = λ second behind end begins deeper is. omega arith }

  pub no_second : (behind : List Lexeme) → from ≡ Symbol sign ∷ behind → NoFront (IsShallow version form room (deep - 1) (earlier + constructs first) behind) → NoSecond version form sign room deep earlier first from
  no_second behind begins none = record { none = λ second behind2 end begins2 deeper is. none second end (moved refl refl (behind_is refl begins2 begins) is) }

-- how deep the parts are of two in one
par_depth : (first second : Term) (deep : ℕ) → depth (Par first second) ≤ deep → (suc (depth first) ≤ deep) × (depth second ≤ deep - 1)
par_depth first second deep shallow = (omega arith, omega arith)

seq_depth : (first second : Term) (deep : ℕ) → depth (Seq first second) ≤ deep → (suc (depth first) ≤ deep) × (depth second ≤ deep - 1)
seq_depth first second deep shallow = (omega arith, omega arith)

module _ {version room deep earlier : ℕ} {from : List Lexeme} where
  pub choreography_none : NoFront (IsShallow version Sequence room deep earlier from) → NoFront (IsShallow version Choreography room deep earlier from)
  choreography_none none other end is = go other end is.shallow is.stands
    where
      go : (other : Term) (end : List Lexeme) → depth other ≤ deep → Stands version Choreography room earlier from other end → ⊥
      go other end shallow (one_part r) = none other end (record { stands = r; shallow = shallow })
      go other end shallow (beside {middle = middle} {first = first} {second = second} r ends s) = let depths = par_depth first second deep shallow in none first middle (record { stands = r; shallow = omega (arith, depths.0) })

  pub choreography_alone : {first : Term} {middle : List Lexeme} → Longest (IsShallow version Sequence room deep earlier from) first middle → NoSecond version Choreography punctuator.Bar room deep earlier first middle
      → Longest (IsShallow version Choreography room deep earlier from) first middle
  choreography_alone {first} {middle} front none = record { reads = record { stands = one_part front.reads.stands; shallow = front.reads.shallow }; longest = λ other end is. go other end is.shallow is.stands }
    where
      go : (other : Term) (end : List Lexeme) → depth other ≤ deep → Stands version Choreography room earlier from other end → length middle ≤ length end
      go other end shallow (one_part r) = front.longest other end (record { stands = r; shallow = shallow })
      go other end shallow (beside {middle = middle2} {behind = behind2} {first = first2} {second = second2} r ends s) =
          let depths = par_depth first2 second2 deep shallow in
          let both = settled front (record { stands = r; shallow = omega (arith, depths.0) }) (ap (λ rest. sequence_goes (sort_of rest)) ends) in
          absurd (none.none second2 behind2 end (both.1 ∙ ends) (omega (arith, depths.0, ap depth both.0)) (moved refl (omega (arith, ap constructs both.0)) refl (record { stands = s; shallow = depths.1 })))

  pub choreography_beside : {first second : Term} {middle behind to : List Lexeme} → Longest (IsShallow version Sequence room deep earlier from) first middle → middle ≡ Symbol punctuator.Bar ∷ behind → suc (depth first) ≤ deep
      → Longest (IsShallow version Choreography room (deep - 1) (earlier + constructs first) behind) second to → Longest (IsShallow version Choreography room deep earlier from) (Par first second) to
  choreography_beside {first} {second} {middle} {behind} {to} front ends deeper rest = record {
    reads = record { stands = beside front.reads.stands ends rest.reads.stands; shallow = let less = rest.reads.shallow in omega arith };
    longest = λ other end is. go other end is.shallow is.stands;
  }
    where
      go : (other : Term) (end : List Lexeme) → depth other ≤ deep → Stands version Choreography room earlier from other end → length to ≤ length end
      go other end shallow (one_part r) =
          let most = front.longest other end (record { stands = r; shallow = shallow }) in
          let less = stands_shorter rest.reads.stands in
          omega (arith, ap length ends)
      go other end shallow (beside {middle = middle2} {behind = behind2} {first = first2} {second = second2} r ends2 s) =
          let depths = par_depth first2 second2 deep shallow in
          let both = settled front (record { stands = r; shallow = omega (arith, depths.0) }) (ap (λ rest. sequence_goes (sort_of rest)) ends2) in
          rest.longest second2 end (moved refl (omega (arith, ap constructs both.0)) (behind_is (sym both.1) ends2 ends) (record { stands = s; shallow = depths.1 }))

  pub sequence_none : NoFront (IsShallow version Step room deep earlier from) → NoFront (IsShallow version Sequence room deep earlier from)
  sequence_none none other end is = go other end is.shallow is.stands
    where
      go : (other : Term) (end : List Lexeme) → depth other ≤ deep → Stands version Sequence room earlier from other end → ⊥
      go other end shallow (one_step r) = none other end (record { stands = r; shallow = shallow })
      go other end shallow (last_step {middle = middle} r ends) = none other middle (record { stands = r; shallow = shallow })
      go other end shallow (in_turn {middle = middle} {first = first} {second = second} r ends s) = let depths = seq_depth first second deep shallow in none first middle (record { stands = r; shallow = omega (arith, depths.0) })

  pub sequence_alone : {first : Term} {middle : List Lexeme} → Longest (IsShallow version Step room deep earlier from) first middle → sort_of middle ≢ sorts.Symbol punctuator.Semicolon
      → Longest (IsShallow version Sequence room deep earlier from) first middle
  sequence_alone {first} {middle} front other = record { reads = record { stands = one_step front.reads.stands; shallow = front.reads.shallow }; longest = λ other end is. go other end is.shallow is.stands }
    where
      go : (other2 : Term) (end : List Lexeme) → depth other2 ≤ deep → Stands version Sequence room earlier from other2 end → length middle ≤ length end
      go other2 end shallow (one_step r) = front.longest other2 end (record { stands = r; shallow = shallow })
      go other2 end shallow (last_step r ends) =
          let both = settled front (record { stands = r; shallow = shallow }) (ap (λ rest. step_goes (sort_of rest)) ends) in
          absurd (other (ap sort_of (both.1 ∙ ends)))
      go other2 end shallow (in_turn {first = first2} {second = second2} r ends s) =
          let depths = seq_depth first2 second2 deep shallow in
          let both = settled front (record { stands = r; shallow = omega (arith, depths.0) }) (ap (λ rest. step_goes (sort_of rest)) ends) in
          absurd (other (ap sort_of (both.1 ∙ ends)))

  pub sequence_last : {first : Term} {middle behind : List Lexeme} → Longest (IsShallow version Step room deep earlier from) first middle → middle ≡ Symbol punctuator.Semicolon ∷ behind
      → NoSecond version Sequence punctuator.Semicolon room deep earlier first middle → Longest (IsShallow version Sequence room deep earlier from) first behind
  sequence_last {first} {middle} {behind} front ends none = record { reads = record { stands = last_step front.reads.stands ends; shallow = front.reads.shallow }; longest = λ other end is. go other end is.shallow is.stands }
    where
      go : (other : Term) (end : List Lexeme) → depth other ≤ deep → Stands version Sequence room earlier from other end → length behind ≤ length end
      go other end shallow (one_step r) = let most = front.longest other end (record { stands = r; shallow = shallow }) in omega (arith, ap length ends)
      go other end shallow (last_step r ends2) =
          let both = settled front (record { stands = r; shallow = shallow }) (ap (λ rest. step_goes (sort_of rest)) ends2) in
          omega (arith, ap length (behind_is both.1 ends ends2))
      go other end shallow (in_turn {behind = behind2} {first = first2} {second = second2} r ends2 s) =
          let depths = seq_depth first2 second2 deep shallow in
          let both = settled front (record { stands = r; shallow = omega (arith, depths.0) }) (ap (λ rest. step_goes (sort_of rest)) ends2) in
          absurd (none.none second2 behind2 end (both.1 ∙ ends2) (omega (arith, depths.0, ap depth both.0)) (moved refl (omega (arith, ap constructs both.0)) refl (record { stands = s; shallow = depths.1 })))

  pub sequence_turn : {first second : Term} {middle behind to : List Lexeme} → Longest (IsShallow version Step room deep earlier from) first middle → middle ≡ Symbol punctuator.Semicolon ∷ behind → suc (depth first) ≤ deep
      → Longest (IsShallow version Sequence room (deep - 1) (earlier + constructs first) behind) second to → Longest (IsShallow version Sequence room deep earlier from) (Seq first second) to
  sequence_turn {first} {second} {middle} {behind} {to} front ends deeper rest = record {
    reads = record { stands = in_turn front.reads.stands ends rest.reads.stands; shallow = let less = rest.reads.shallow in omega arith };
    longest = λ other end is. go other end is.shallow is.stands;
  }
    where
      go : (other : Term) (end : List Lexeme) → depth other ≤ deep → Stands version Sequence room earlier from other end → length to ≤ length end
      go other end shallow (one_step r) =
          let most = front.longest other end (record { stands = r; shallow = shallow }) in
          let less = stands_shorter rest.reads.stands in
          omega (arith, ap length ends)
      go other end shallow (last_step r ends2) =
          let both = settled front (record { stands = r; shallow = shallow }) (ap (λ rest. step_goes (sort_of rest)) ends2) in
          let less = stands_shorter rest.reads.stands in
          omega (arith, ap length (behind_is both.1 ends ends2))
      go other end shallow (in_turn {behind = behind2} {first = first2} {second = second2} r ends2 s) =
          let depths = seq_depth first2 second2 deep shallow in
          let both = settled front (record { stands = r; shallow = omega (arith, depths.0) }) (ap (λ rest. step_goes (sort_of rest)) ends2) in
          rest.longest second2 end (moved refl (omega (arith, ap constructs both.0)) (behind_is (sym both.1) ends2 ends) (record { stands = s; shallow = depths.1 }))

-- blocks: a place has at most one
record Blocked (version room deep earlier : ℕ) (inside : List Lexeme) (whole : Term) (to : List Lexeme) : Type 0 where
  some : 0 < room
  middle : List Lexeme
  is : IsShallow version Choreography (room - 1) deep earlier inside whole middle
  ends : middle ≡ Symbol punctuator.RightBrace ∷ to

as_block : {version room deep earlier : ℕ} {from inside to : List Lexeme} {whole : Term} → from ≡ Symbol punctuator.LeftBrace ∷ inside → depth whole ≤ deep → Stands version Block room earlier from whole to
    → Blocked version room deep earlier inside whole to
as_block begins shallow (block {middle = middle} rooms begins2 r ends) =
    record { some = omega arith; middle = middle; is = moved (omega arith) refl (behind_is refl begins2 begins) (record { stands = r; shallow = shallow }); ends = ends }

no_block : {version room earlier : ℕ} {from to : List Lexeme} {whole : Term} → sort_of from ≢ sorts.Symbol punctuator.LeftBrace → Stands version Block room earlier from whole to → ⊥
no_block other (block rooms begins r ends) = other (ap sort_of begins)

module _ {version room deep earlier : ℕ} {from : List Lexeme} where
  pub block_front : {inside middle to : List Lexeme} {whole : Term} → 0 < room → from ≡ Symbol punctuator.LeftBrace ∷ inside → Longest (IsShallow version Choreography (room - 1) deep earlier inside) whole middle
      → middle ≡ Symbol punctuator.RightBrace ∷ to → Longest (IsShallow version Block room deep earlier from) whole to
  block_front {inside} {middle} {to} {whole} some begins front ends = record {
    reads = record { stands = block {left = room - 1} (omega arith) begins front.reads.stands ends; shallow = front.reads.shallow };
    longest = λ other end is.
        let holds = as_block begins is.shallow is.stands in
        let both = settled front holds.is (ap (λ rest. choreography_goes (sort_of rest)) holds.ends) in
        omega (arith, ap length (behind_is both.1 ends holds.ends));
  }

  pub block_begins : sort_of from ≢ sorts.Symbol punctuator.LeftBrace → NoFront (IsShallow version Block room deep earlier from)
  block_begins other whole end is = no_block other is.stands

  pub block_room : (inside : List Lexeme) → room ≡ 0 → from ≡ Symbol punctuator.LeftBrace ∷ inside → NoFront (IsShallow version Block room deep earlier from)
  block_room inside full begins other end is = let holds = as_block begins is.shallow is.stands in let some = holds.some in omega arith

  pub block_none : (inside : List Lexeme) → from ≡ Symbol punctuator.LeftBrace ∷ inside → NoFront (IsShallow version Choreography (room - 1) deep earlier inside) → NoFront (IsShallow version Block room deep earlier from)
  block_none inside begins none other end is = let holds = as_block begins is.shallow is.stands in none other holds.middle holds.is

  -- the longest choreography behind a `{` isn't followed by `}`
  pub block_open : {inside middle : List Lexeme} {inner : Term} → from ≡ Symbol punctuator.LeftBrace ∷ inside → Longest (IsShallow version Choreography (room - 1) deep earlier inside) inner middle
      → sort_of middle ≢ sorts.Symbol punctuator.RightBrace → NoFront (IsShallow version Block room deep earlier from)
  block_open begins front unclosed other end is =
      let holds = as_block begins is.shallow is.stands in
      let both = settled front holds.is (ap (λ rest. choreography_goes (sort_of rest)) holds.ends) in
      unclosed (ap sort_of both.1 ∙ ap sort_of holds.ends)

-- a second branch
no_else_go : {version room earlier : ℕ} {from end : List Lexeme} {other : Term} → sort_of from ≢ sorts.Reserved word.Else → Stands version Otherwise room earlier from other end → length from ≤ length end
no_else_go missing no_else = omega arith
no_else_go missing (otherwise begins r) = absurd (missing (ap sort_of begins))

else_open_go : {version room deep earlier : ℕ} {from body end : List Lexeme} {other : Term} → from ≡ Reserved word.Else ∷ body → NoFront (IsShallow version Block room deep earlier body) → depth other ≤ deep
    → Stands version Otherwise room earlier from other end → length from ≤ length end
else_open_go begins none shallow no_else = omega arith
else_open_go {end = end} {other = other} begins none shallow (otherwise begins2 r) = absurd (none other end (moved refl refl (behind_is refl begins2 begins) (record { stands = r; shallow = shallow })))

else_front_go : {version room deep earlier : ℕ} {from body to end : List Lexeme} {second other : Term} → from ≡ Reserved word.Else ∷ body → Longest (IsShallow version Block room deep earlier body) second to → depth other ≤ deep
    → Stands version Otherwise room earlier from other end → length to ≤ length end
else_front_go begins front shallow no_else = let less = stands_shorter front.reads.stands in omega (arith, ap length begins)
else_front_go {end = end} {other = other} begins front shallow (otherwise begins2 r) = front.longest other end (moved refl refl (behind_is refl begins2 begins) (record { stands = r; shallow = shallow }))

module _ {version room deep earlier : ℕ} {from : List Lexeme} where
  pub else_missing : 0 < deep → sort_of from ≢ sorts.Reserved word.Else → Longest (IsShallow version Otherwise room deep earlier from) Skip from
  else_missing some missing = record { reads = record { stands = no_else; shallow = omega arith }; longest = λ other end is. no_else_go missing is.stands }

  -- an `else` that no block follows
  pub else_open : {body : List Lexeme} → 0 < deep → from ≡ Reserved word.Else ∷ body → NoFront (IsShallow version Block room deep earlier body) → Longest (IsShallow version Otherwise room deep earlier from) Skip from
  else_open some begins none = record { reads = record { stands = no_else; shallow = omega arith }; longest = λ other end is. else_open_go begins none is.shallow is.stands }

  pub else_front : {body to : List Lexeme} {second : Term} → from ≡ Reserved word.Else ∷ body → Longest (IsShallow version Block room deep earlier body) second to
      → Longest (IsShallow version Otherwise room deep earlier from) second to
  else_front begins front = record { reads = record { stands = otherwise begins front.reads.stands; shallow = front.reads.shallow }; longest = λ other end is. else_front_go begins front is.shallow is.stands }
