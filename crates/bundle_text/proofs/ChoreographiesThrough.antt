-- A choreography of the grammar goes through, up to what follows it.
use Rattle.std.proofs.Common.{◌≡◌, ℕ, ◌≤◌, Bool, true, false, List, [], ◌∷◌, ◌++◌, Option, Some, None, option_map, if◌then◌else◌, refl, sym, ap, ◌∙◌, subst, arith, codes}
use Rattle.dioc_terms.specs.declared.names.Role.{Role}
use Rattle.dioc_terms.specs.declared.values.Value.{Value}
use Rattle.dioc_terms.specs.Terms.{Term}
use Rattle.aioc_tokens.specs.declared.words.Word.{Word}
use Rattle.aioc_tokens.specs.declared.words.Word.TheVariants as word
use Rattle.aioc_tokens.specs.declared.words.Punctuator.{Punctuator}
use Rattle.aioc_tokens.specs.declared.words.Punctuator.TheVariants as punctuator
use Rattle.aioc_tokens.specs.Lexemes.{Lexeme, Name, Long, Number, Text, Reserved, Symbol}
use Rattle.expr_syntax.specs.Constants.{constant, before, number_up_to, greatest, greatest_negated, positive, negative}
use Rattle.expr_syntax.proofs.LeafFacts.{same_pair}
use Rattle.expr_syntax.specs.declared.levels.ExprKind.TheVariants as kinds
use Rattle.dioc_syntax.specs.Choreographies.{NamesRoles, last_role, more_roles, HasExtraRoles, no_roles, roles, GivesProperties, last_property, more_properties, HasProperties, no_properties, empty_properties, properties, Form, Choreography, Sequence, Step, Block, Otherwise, Stands, one_part, beside, one_step, last_step, in_turn, nothing, interaction, input, assignment, choice, loop, scope, group, block, no_else, otherwise}
use Rattle.wanted_tokens.specs.declared.goals.Goal.{Goal}
use Rattle.wanted_tokens.specs.declared.goals.Goal.TheVariants as goal
use Rattle.wanted_tokens.specs.declared.looks.Look.TheVariants as looks
use Rattle.wanted_tokens.specs.Looks.{look}
use Rattle.wanted_tokens.specs.Goals.{left_brace, right_brace, left_paren, right_paren, equal, at_sign, arrow_sign, dot, n_word}
use Rattle.wanted_tokens.specs.Takings.{Takes, Passes, Stops}
use Rattle.wanted_tokens.specs.Expressions.{value}
use Rattle.wanted_tokens.specs.Choreographies.{property}
use Rattle.wanted_tokens.specs.Wanted.{taking}
use Rattle.bundle_text.proofs.Through.{Through, takes, passes, same_effect}
use Rattle.bundle_text.proofs.ExpressionsThrough.{seen_number, expression_goes}

-- ---- values

module _ (second : Bool) (rest : List Goal) where
  number_value : (most : ℕ) (digits : List ℕ) (others : List Lexeme) (n : ℕ) → most ≤ greatest_negated → number_up_to most digits ≡ Some n → taking second (goal.Number most) (look (Number digits ∷ others)) ≡ Takes []
  number_value most digits others n less is =
      let seen = seen_number most digits n is less in
      ap (λ found. taking second (goal.Number most) (looks.Number found)) seen.0 ∙ ap (λ (b : Bool). if b then Takes [] else Stops) seen.1

  -- a number within a limit goes through
  pub number_goes : (most : ℕ) (digits : List ℕ) (others : List Lexeme) (n : ℕ) → most ≤ greatest_negated → number_up_to most digits ≡ Some n → Through second rest others → Through second (goal.Number most ∷ rest) (Number digits ∷ others)
  number_goes most digits others n less is through = takes second (goal.Number most) rest [] (Number digits) others (number_value most digits others n less is) through

  plain_value : (digits : List ℕ) (others : List Lexeme) (n : ℕ) → number_up_to greatest digits ≡ Some n → taking second goal.Value (look (Number digits ∷ others)) ≡ Takes []
  plain_value digits others n is =
      let seen = seen_number greatest digits n is (omega arith) in
      ap (λ found. value (looks.Number found)) seen.0 ∙ ap (λ (b : Bool). if b then Takes [] else Stops) seen.1

  number_found : (digits : List ℕ) (others to : List Lexeme) (v : Value) (found : Option ℕ) → number_up_to greatest digits ≡ found → option_map (λ n. before others (positive n)) found ≡ Some (before to v)
      → Through second rest to → Through second (goal.Value ∷ rest) (Number digits ∷ others)
  number_found digits others to v (Some n) is read through = takes second goal.Value rest [] (Number digits) others (plain_value digits others n is) (subst (Through second rest) (sym (same_pair read).1) through)
  number_found digits others to v None is read through = absurd cc

  negative_found : (digits : List ℕ) (others to : List Lexeme) (v : Value) (found : Option ℕ) → number_up_to greatest_negated digits ≡ found → option_map (λ n. before others (negative n)) found ≡ Some (before to v)
      → Through second rest to → Through second (goal.Value ∷ rest) (Symbol punctuator.Minus ∷ Number digits ∷ others)
  negative_found digits others to v (Some n) is read through =
      takes second goal.Value rest (goal.Number greatest_negated ∷ []) (Symbol punctuator.Minus) (Number digits ∷ others) refl
      (number_goes greatest_negated digits others n (omega arith) is (subst (Through second rest) (sym (same_pair read).1) through))
  negative_found digits others to v None is read through = absurd cc

  word_value : (w : Word) (others to : List Lexeme) (v : Value) → constant (Reserved w ∷ others) ≡ Some (before to v) → Through second rest to → Through second (goal.Value ∷ rest) (Reserved w ∷ others)
  word_value word.Nil others to v read through = takes second goal.Value rest [] (Reserved word.Nil) others refl (subst (Through second rest) (sym (same_pair read).1) through)
  word_value word.True others to v read through = takes second goal.Value rest [] (Reserved word.True) others refl (subst (Through second rest) (sym (same_pair read).1) through)
  word_value word.False others to v read through = takes second goal.Value rest [] (Reserved word.False) others refl (subst (Through second rest) (sym (same_pair read).1) through)
  word_value _ others to v read through = absurd cc

  symbol_value : (p : Punctuator) (others to : List Lexeme) (v : Value) → constant (Symbol p ∷ others) ≡ Some (before to v) → Through second rest to → Through second (goal.Value ∷ rest) (Symbol p ∷ others)
  symbol_value punctuator.Minus (Number digits ∷ others) to v read through = negative_found digits others to v (number_up_to greatest_negated digits) refl read through
  symbol_value punctuator.Minus [] to v read through = absurd cc
  symbol_value punctuator.Minus (_ ∷ others) to v read through = absurd cc
  symbol_value _ others to v read through = absurd cc

  -- a value goes through
  pub value_goes : (from to : List Lexeme) (v : Value) → constant from ≡ Some (before to v) → Through second rest to → Through second (goal.Value ∷ rest) from
  value_goes (Text bytes ∷ others) to v read through = takes second goal.Value rest [] (Text bytes) others refl (subst (Through second rest) (sym (same_pair read).1) through)
  value_goes (Number digits ∷ others) to v read through = number_found digits others to v (number_up_to greatest digits) refl read through
  value_goes (Reserved w ∷ others) to v read through = word_value w others to v read through
  value_goes (Symbol p ∷ others) to v read through = symbol_value p others to v read through
  value_goes (Name name ∷ others) to v read through = absurd cc
  value_goes (Long ∷ others) to v read through = absurd cc
  value_goes [] to v read through = absurd cc

-- ---- what follows a form

-- a list begins with a symbol that may follow the form
pub data Closes : Form → List Lexeme → Type 0 where
  at_brace : {form : Form} {from others : List Lexeme} → from ≡ Symbol punctuator.RightBrace ∷ others → Closes form from
  at_paren : {form : Form} {from others : List Lexeme} → from ≡ Symbol punctuator.RightParen ∷ others → Closes form from
  at_bar_of_sequences : {from others : List Lexeme} → from ≡ Symbol punctuator.Bar ∷ others → Closes Sequence from
  at_bar : {from others : List Lexeme} → from ≡ Symbol punctuator.Bar ∷ others → Closes Step from
  at_semicolon : {from others : List Lexeme} → from ≡ Symbol punctuator.Semicolon ∷ others → Closes Step from

closes_sequence : {from : List Lexeme} → Closes Choreography from → Closes Sequence from
closes_sequence (at_brace is) = at_brace is
closes_sequence (at_paren is) = at_paren is

closes_step : {from : List Lexeme} → Closes Sequence from → Closes Step from
closes_step (at_brace is) = at_brace is
closes_step (at_paren is) = at_paren is
closes_step (at_bar_of_sequences is) = at_bar is

-- what holds at each of these symbols holds where they stand
at_choreography_end : (P : List Lexeme → Type 0) → ((others : List Lexeme) → P (Symbol punctuator.RightBrace ∷ others)) → ((others : List Lexeme) → P (Symbol punctuator.RightParen ∷ others))
    → {from : List Lexeme} → Closes Choreography from → P from
at_choreography_end P brace paren (at_brace {others = others} is) = subst P (sym is) (brace others)
at_choreography_end P brace paren (at_paren {others = others} is) = subst P (sym is) (paren others)

at_sequence_end : (P : List Lexeme → Type 0) → ((others : List Lexeme) → P (Symbol punctuator.RightBrace ∷ others)) → ((others : List Lexeme) → P (Symbol punctuator.RightParen ∷ others))
    → ((others : List Lexeme) → P (Symbol punctuator.Bar ∷ others)) → {from : List Lexeme} → Closes Sequence from → P from
at_sequence_end P brace paren bar (at_brace {others = others} is) = subst P (sym is) (brace others)
at_sequence_end P brace paren bar (at_paren {others = others} is) = subst P (sym is) (paren others)
at_sequence_end P brace paren bar (at_bar_of_sequences {others = others} is) = subst P (sym is) (bar others)

at_step_end : (P : List Lexeme → Type 0) → ((others : List Lexeme) → P (Symbol punctuator.RightBrace ∷ others)) → ((others : List Lexeme) → P (Symbol punctuator.RightParen ∷ others))
    → ((others : List Lexeme) → P (Symbol punctuator.Bar ∷ others)) → ((others : List Lexeme) → P (Symbol punctuator.Semicolon ∷ others)) → {from : List Lexeme} → Closes Step from → P from
at_step_end P brace paren bar semicolon (at_brace {others = others} is) = subst P (sym is) (brace others)
at_step_end P brace paren bar semicolon (at_paren {others = others} is) = subst P (sym is) (paren others)
at_step_end P brace paren bar semicolon (at_bar {others = others} is) = subst P (sym is) (bar others)
at_step_end P brace paren bar semicolon (at_semicolon {others = others} is) = subst P (sym is) (semicolon others)

module _ (second : Bool) (rest : List Goal) (from : List Lexeme) where
  parts_end : Closes Choreography from → Through second rest from → Through second (goal.MoreParts ∷ rest) from
  parts_end closes = passes second goal.MoreParts rest from (at_choreography_end (λ from. taking second goal.MoreParts (look from) ≡ Passes) (λ o. refl) (λ o. refl) closes)

  steps_end : Closes Sequence from → Through second rest from → Through second (goal.MoreSteps ∷ rest) from
  steps_end closes = passes second goal.MoreSteps rest from (at_sequence_end (λ from. taking second goal.MoreSteps (look from) ≡ Passes) (λ o. refl) (λ o. refl) (λ o. refl) closes)

  no_next_step : Closes Sequence from → Through second rest from → Through second (goal.NextStep ∷ rest) from
  no_next_step closes = passes second goal.NextStep rest from (at_sequence_end (λ from. taking second goal.NextStep (look from) ≡ Passes) (λ o. refl) (λ o. refl) (λ o. refl) closes)

  operands_end : (c : Bool) → Closes Step from → Through second rest from → Through second (goal.MoreOperands kinds.Step c ∷ rest) from
  operands_end c closes = passes second (goal.MoreOperands kinds.Step c) rest from (at_step_end (λ from. taking second (goal.MoreOperands kinds.Step c) (look from) ≡ Passes) (λ o. refl) (λ o. refl) (λ o. refl) (λ o. refl) closes)

  no_otherwise : Closes Step from → Through second rest from → Through second (goal.Otherwise ∷ rest) from
  no_otherwise closes = passes second goal.Otherwise rest from (at_step_end (λ from. taking second goal.Otherwise (look from) ≡ Passes) (λ o. refl) (λ o. refl) (λ o. refl) (λ o. refl) closes)

  properties_end : Closes Step from → Through second rest from → Through second (goal.Properties ∷ rest) from
  properties_end closes = passes second goal.Properties rest from (at_step_end (λ from. taking second goal.Properties (look from) ≡ Passes) (λ o. refl) (λ o. refl) (λ o. refl) (λ o. refl) closes)

roles_passed : (second : Bool) {from : List Lexeme} → Closes Step from → taking second goal.ExtraRoles (look from) ≡ Passes
roles_passed true = at_step_end (λ from. taking true goal.ExtraRoles (look from) ≡ Passes) (λ o. refl) (λ o. refl) (λ o. refl) (λ o. refl)
roles_passed false = at_step_end (λ from. taking false goal.ExtraRoles (look from) ≡ Passes) (λ o. refl) (λ o. refl) (λ o. refl) (λ o. refl)

roles_passed_at_prop : (second : Bool) (others : List Lexeme) → taking second goal.ExtraRoles (look (Reserved word.Prop ∷ others)) ≡ Passes
roles_passed_at_prop true others = refl
roles_passed_at_prop false others = refl

-- a step behind a `;` is wanted as one elsewhere
next_step : (second : Bool) (rest : List Goal) (from : List Lexeme) → Through second (goal.Step ∷ goal.MoreSteps ∷ rest) from → Through second (goal.NextStep ∷ rest) from
next_step second rest (Reserved word.Skip ∷ others) through = through
next_step second rest (Reserved word.If ∷ others) through = through
next_step second rest (Reserved word.While ∷ others) through = through
next_step second rest (Reserved word.Scope ∷ others) through = through
next_step second rest (Name name ∷ others) through = through
next_step second rest (Symbol punctuator.LeftParen ∷ others) through = through
next_step second rest (Reserved _ ∷ others) through = absurd cc
next_step second rest (Symbol _ ∷ others) through = absurd cc
next_step second rest (_ ∷ others) through = absurd cc
next_step second rest [] through = absurd cc

-- an expression that is assigned
as_assigned : (second : Bool) (rest : List Goal) (from : List Lexeme) → Through second (goal.Expression kinds.Step ∷ rest) from → Through second (goal.Assigned ∷ rest) from
as_assigned second rest (Reserved word.Input ∷ others) through = absurd cc
as_assigned second rest (Reserved w ∷ others) through = same_effect second goal.Assigned (goal.Expression kinds.Step) rest (Reserved w ∷ others) refl refl through
as_assigned second rest from through = same_effect second goal.Assigned (goal.Expression kinds.Step) rest from refl refl through

-- ---- a scope's roles and properties

module _ (second : Bool) (rest : List Goal) where
  names_go : {from to : List Lexeme} {extra : List Role} → NamesRoles from extra to → (others : List Lexeme) → to ≡ Symbol punctuator.RightBrace ∷ others → Through second rest others
      → Through second (goal.Name ∷ goal.MoreNames ∷ right_brace ∷ rest) from
  names_go (last_role {to = to} {name = name} is) others ends through =
      subst (Through second (goal.Name ∷ goal.MoreNames ∷ right_brace ∷ rest)) (sym is)
      (takes second goal.Name (goal.MoreNames ∷ right_brace ∷ rest) [] (Name name) to refl
      (subst (Through second (goal.MoreNames ∷ right_brace ∷ rest)) (sym ends)
      (passes second goal.MoreNames (right_brace ∷ rest) (Symbol punctuator.RightBrace ∷ others) refl
      (takes second right_brace rest [] (Symbol punctuator.RightBrace) others refl through))))
  names_go (more_roles {others = names} {name = name} is r) others ends through =
      subst (Through second (goal.Name ∷ goal.MoreNames ∷ right_brace ∷ rest)) (sym is)
      (takes second goal.Name (goal.MoreNames ∷ right_brace ∷ rest) [] (Name name) (Symbol punctuator.Comma ∷ names) refl
      (takes second goal.MoreNames (right_brace ∷ rest) (goal.Name ∷ goal.MoreNames ∷ []) (Symbol punctuator.Comma) names refl
      (names_go r others ends through)))

  property_goes : (from given : List Lexeme) (key : List ℕ) → from ≡ Reserved word.N ∷ Symbol punctuator.Dot ∷ Name key ∷ Symbol punctuator.Equal ∷ given
      → Through second (goal.Value ∷ goal.MoreProperties ∷ right_brace ∷ rest) given → Through second (n_word ∷ property ++ right_brace ∷ rest) from
  property_goes from given key is through =
      subst (Through second (n_word ∷ property ++ right_brace ∷ rest)) (sym is)
      (takes second n_word (dot ∷ goal.Name ∷ equal ∷ goal.Value ∷ goal.MoreProperties ∷ right_brace ∷ rest) [] (Reserved word.N) (Symbol punctuator.Dot ∷ Name key ∷ Symbol punctuator.Equal ∷ given) refl
      (takes second dot (goal.Name ∷ equal ∷ goal.Value ∷ goal.MoreProperties ∷ right_brace ∷ rest) [] (Symbol punctuator.Dot) (Name key ∷ Symbol punctuator.Equal ∷ given) refl
      (takes second goal.Name (equal ∷ goal.Value ∷ goal.MoreProperties ∷ right_brace ∷ rest) [] (Name key) (Symbol punctuator.Equal ∷ given) refl
      (takes second equal (goal.Value ∷ goal.MoreProperties ∷ right_brace ∷ rest) [] (Symbol punctuator.Equal) given refl through))))

  given_go : {from to : List Lexeme} {props : List (List ℕ × Value)} → GivesProperties from props to → (others : List Lexeme) → to ≡ Symbol punctuator.RightBrace ∷ others → Through second rest others
      → Through second (n_word ∷ property ++ right_brace ∷ rest) from
  given_go {from = from} {to = to} (last_property {given = given} {key = key} {value = v} is read) others ends through =
      property_goes from given key is
      (value_goes second (goal.MoreProperties ∷ right_brace ∷ rest) given to v read
      (subst (Through second (goal.MoreProperties ∷ right_brace ∷ rest)) (sym ends)
      (passes second goal.MoreProperties (right_brace ∷ rest) (Symbol punctuator.RightBrace ∷ others) refl
      (takes second right_brace rest [] (Symbol punctuator.RightBrace) others refl through))))
  given_go {from = from} (more_properties {given = given} {behind = behind} {others = next} {key = key} {value = v} is read comma r) others ends through =
      property_goes from given key is
      (value_goes second (goal.MoreProperties ∷ right_brace ∷ rest) given behind v read
      (subst (Through second (goal.MoreProperties ∷ right_brace ∷ rest)) (sym comma)
      (takes second goal.MoreProperties (right_brace ∷ rest) (n_word ∷ property) (Symbol punctuator.Comma) next refl (given_go r others ends through))))

  -- the first property, behind the brace: it begins with an `N`
  first_goes : (from given : List Lexeme) (key : List ℕ) → from ≡ Reserved word.N ∷ Symbol punctuator.Dot ∷ Name key ∷ Symbol punctuator.Equal ∷ given
      → Through second (n_word ∷ property ++ right_brace ∷ rest) from → Through second (goal.FirstProperty ∷ right_brace ∷ rest) from
  first_goes from given key is through =
      subst (Through second (goal.FirstProperty ∷ right_brace ∷ rest)) (sym is) (subst (Through second (n_word ∷ property ++ right_brace ∷ rest)) is through)

  first_given : {from to : List Lexeme} {props : List (List ℕ × Value)} → GivesProperties from props to → (others : List Lexeme) → to ≡ Symbol punctuator.RightBrace ∷ others → Through second rest others
      → Through second (goal.FirstProperty ∷ right_brace ∷ rest) from
  first_given {from = from} (last_property {given = given} {key = key} is read) others ends through = first_goes from given key is (given_go (last_property is read) others ends through)
  first_given {from = from} (more_properties {given = given} {key = key} is read comma r) others ends through = first_goes from given key is (given_go (more_properties is read comma r) others ends through)

  properties_go : {from to : List Lexeme} {props : List (List ℕ × Value)} → HasProperties from props to → Closes Step to → Through second rest to → Through second (goal.Properties ∷ rest) from
  properties_go {from = from} no_properties closes through = properties_end second rest from closes through
  properties_go (empty_properties {to = to} is) closes through =
      subst (Through second (goal.Properties ∷ rest)) (sym is)
      (takes second goal.Properties rest (left_brace ∷ goal.FirstProperty ∷ right_brace ∷ []) (Reserved word.Prop) (Symbol punctuator.LeftBrace ∷ Symbol punctuator.RightBrace ∷ to) refl
      (takes second left_brace (goal.FirstProperty ∷ right_brace ∷ rest) [] (Symbol punctuator.LeftBrace) (Symbol punctuator.RightBrace ∷ to) refl
      (passes second goal.FirstProperty (right_brace ∷ rest) (Symbol punctuator.RightBrace ∷ to) refl
      (takes second right_brace rest [] (Symbol punctuator.RightBrace) to refl through))))
  properties_go (properties {inside = inside} {to = to} is r ends) closes through =
      subst (Through second (goal.Properties ∷ rest)) (sym is)
      (takes second goal.Properties rest (left_brace ∷ goal.FirstProperty ∷ right_brace ∷ []) (Reserved word.Prop) (Symbol punctuator.LeftBrace ∷ inside) refl
      (takes second left_brace (goal.FirstProperty ∷ right_brace ∷ rest) [] (Symbol punctuator.LeftBrace) inside refl
      (first_given r to ends through)))

  -- where no roles are named, what follows is no name
  no_roles_there : {from to : List Lexeme} {props : List (List ℕ × Value)} → HasProperties from props to → Closes Step to → taking second goal.ExtraRoles (look from) ≡ Passes
  no_roles_there no_properties closes = roles_passed second closes
  no_roles_there (empty_properties {to = to} is) closes = ap (λ from. taking second goal.ExtraRoles (look from)) is ∙ roles_passed_at_prop second (Symbol punctuator.LeftBrace ∷ Symbol punctuator.RightBrace ∷ to)
  no_roles_there (properties {inside = inside} is r ends) closes = ap (λ from. taking second goal.ExtraRoles (look from)) is ∙ roles_passed_at_prop second (Symbol punctuator.LeftBrace ∷ inside)

roles_taken : (second : Bool) (others : List Lexeme) → second ≡ true → taking second goal.ExtraRoles (look (Name (codes "roles") ∷ others)) ≡ Takes (left_brace ∷ goal.Name ∷ goal.MoreNames ∷ right_brace ∷ [])
roles_taken true others is = refl
roles_taken false others is = absurd cc

roles_go : (second : Bool) (version : ℕ) (rest : List Goal) → (version ≡ 2 → second ≡ true) → {from after to : List Lexeme} {extra : List Role} {props : List (List ℕ × Value)} → HasExtraRoles version from extra after → HasProperties after props to → Closes Step to
    → Through second (goal.Properties ∷ rest) after → Through second (goal.ExtraRoles ∷ goal.Properties ∷ rest) from
roles_go second version rest versions {from = from} no_roles given closes through = passes second goal.ExtraRoles (goal.Properties ∷ rest) from (no_roles_there second rest given closes) through
roles_go second version rest versions {after = after} (roles {names = names} two is r ends) given closes through =
    subst (Through second (goal.ExtraRoles ∷ goal.Properties ∷ rest)) (sym is)
    (takes second goal.ExtraRoles (goal.Properties ∷ rest) (left_brace ∷ goal.Name ∷ goal.MoreNames ∷ right_brace ∷ []) (Name (codes "roles")) (Symbol punctuator.LeftBrace ∷ names) (roles_taken second (Symbol punctuator.LeftBrace ∷ names) (versions two))
    (takes second left_brace (goal.Name ∷ goal.MoreNames ∷ right_brace ∷ goal.Properties ∷ rest) [] (Symbol punctuator.LeftBrace) names refl
    (names_go second (goal.Properties ∷ rest) r after ends through)))

-- ---- choreographies

module _ (version : ℕ) (second : Bool) (versions : version ≡ 2 → second ≡ true) where
  mutual
    -- a choreography goes through, up to the bracket behind it
    pub choreography_goes : {room earlier : ℕ} {from to : List Lexeme} {whole : Term} → Stands version Choreography room earlier from whole to → (rest : List Goal) → Closes Choreography to
        → Through second rest to → Through second (goal.Step ∷ goal.MoreSteps ∷ goal.MoreParts ∷ rest) from
    choreography_goes {to = to} (one_part r) rest closes through = sequence_goes r (goal.MoreParts ∷ rest) (closes_sequence closes) (parts_end second rest to closes through)
    choreography_goes (beside {behind = behind} r is s) rest closes through =
        sequence_goes r (goal.MoreParts ∷ rest) (at_bar_of_sequences is) (subst (Through second (goal.MoreParts ∷ rest)) (sym is)
        (takes second goal.MoreParts rest (goal.Step ∷ goal.MoreSteps ∷ goal.MoreParts ∷ []) (Symbol punctuator.Bar) behind refl (choreography_goes s rest closes through)))

    sequence_goes : {room earlier : ℕ} {from to : List Lexeme} {whole : Term} → Stands version Sequence room earlier from whole to → (rest : List Goal) → Closes Sequence to
        → Through second rest to → Through second (goal.Step ∷ goal.MoreSteps ∷ rest) from
    sequence_goes {to = to} (one_step r) rest closes through = step_goes r (goal.MoreSteps ∷ rest) (closes_step closes) (steps_end second rest to closes through)
    sequence_goes (last_step {to = to} r is) rest closes through =
        step_goes r (goal.MoreSteps ∷ rest) (at_semicolon is) (subst (Through second (goal.MoreSteps ∷ rest)) (sym is)
        (takes second goal.MoreSteps rest (goal.NextStep ∷ []) (Symbol punctuator.Semicolon) to refl (no_next_step second rest to closes through)))
    sequence_goes (in_turn {behind = behind} r is s) rest closes through =
        step_goes r (goal.MoreSteps ∷ rest) (at_semicolon is) (subst (Through second (goal.MoreSteps ∷ rest)) (sym is)
        (takes second goal.MoreSteps rest (goal.NextStep ∷ []) (Symbol punctuator.Semicolon) behind refl (next_step second rest behind (sequence_goes s rest closes through))))

    step_goes : {room earlier : ℕ} {from to : List Lexeme} {whole : Term} → Stands version Step room earlier from whole to → (rest : List Goal) → Closes Step to
        → Through second rest to → Through second (goal.Step ∷ rest) from
    step_goes (nothing {to = to} is) rest closes through = subst (Through second (goal.Step ∷ rest)) (sym is) (takes second goal.Step rest [] (Reserved word.Skip) to refl through)
    step_goes (interaction {sent = sent} {received = received} {to = to} {operation = operation} {sender = sender} {receiver = receiver} {variable = variable} rooms is e ends) rest closes through =
        subst (Through second (goal.Step ∷ rest)) (sym is)
        (takes second goal.Step rest (goal.StepBehindName ∷ []) (Name operation) (Symbol punctuator.Colon ∷ Name sender ∷ Symbol punctuator.LeftParen ∷ sent) refl
        (takes second goal.StepBehindName rest (goal.Name ∷ left_paren ∷ goal.Expression kinds.Step ∷ right_paren ∷ arrow_sign ∷ goal.Name ∷ left_paren ∷ goal.Name ∷ right_paren ∷ []) (Symbol punctuator.Colon) (Name sender ∷ Symbol punctuator.LeftParen ∷ sent) refl
        (takes second goal.Name (left_paren ∷ goal.Expression kinds.Step ∷ right_paren ∷ arrow_sign ∷ goal.Name ∷ left_paren ∷ goal.Name ∷ right_paren ∷ rest) ([]) (Name sender) (Symbol punctuator.LeftParen ∷ sent) refl
        (takes second left_paren (goal.Expression kinds.Step ∷ right_paren ∷ arrow_sign ∷ goal.Name ∷ left_paren ∷ goal.Name ∷ right_paren ∷ rest) ([]) (Symbol punctuator.LeftParen) sent refl
        (expression_goes second kinds.Step e.reads (right_paren ∷ arrow_sign ∷ goal.Name ∷ left_paren ∷ goal.Name ∷ right_paren ∷ rest) (λ c. subst (Through second (goal.MoreOperands kinds.Step c ∷ (right_paren ∷ arrow_sign ∷ goal.Name ∷ left_paren ∷ goal.Name ∷ right_paren ∷ rest))) (sym ends)
        (passes second (goal.MoreOperands kinds.Step c) (right_paren ∷ arrow_sign ∷ goal.Name ∷ left_paren ∷ goal.Name ∷ right_paren ∷ rest) (Symbol punctuator.RightParen ∷ Symbol punctuator.Arrow ∷ Name receiver ∷ Symbol punctuator.LeftParen ∷ Name variable ∷ Symbol punctuator.RightParen ∷ to) refl
        (takes second right_paren (arrow_sign ∷ goal.Name ∷ left_paren ∷ goal.Name ∷ right_paren ∷ rest) ([]) (Symbol punctuator.RightParen) (Symbol punctuator.Arrow ∷ Name receiver ∷ Symbol punctuator.LeftParen ∷ Name variable ∷ Symbol punctuator.RightParen ∷ to) refl
        (takes second arrow_sign (goal.Name ∷ left_paren ∷ goal.Name ∷ right_paren ∷ rest) ([]) (Symbol punctuator.Arrow) (Name receiver ∷ Symbol punctuator.LeftParen ∷ Name variable ∷ Symbol punctuator.RightParen ∷ to) refl
        (takes second goal.Name (left_paren ∷ goal.Name ∷ right_paren ∷ rest) ([]) (Name receiver) (Symbol punctuator.LeftParen ∷ Name variable ∷ Symbol punctuator.RightParen ∷ to) refl
        (takes second left_paren (goal.Name ∷ right_paren ∷ rest) ([]) (Symbol punctuator.LeftParen) (Name variable ∷ Symbol punctuator.RightParen ∷ to) refl
        (takes second goal.Name (right_paren ∷ rest) ([]) (Name variable) (Symbol punctuator.RightParen ∷ to) refl
        (takes second right_paren rest ([]) (Symbol punctuator.RightParen) to refl
        (through))))))))))))))
    step_goes (input {to = to} {variable = variable} {owner = owner} rooms is) rest closes through =
        subst (Through second (goal.Step ∷ rest)) (sym is)
        (takes second goal.Step rest (goal.StepBehindName ∷ []) (Name variable) (Symbol punctuator.At ∷ Name owner ∷ Symbol punctuator.Equal ∷ Reserved word.Input ∷ Symbol punctuator.LeftParen ∷ Symbol punctuator.RightParen ∷ to) refl
        (takes second goal.StepBehindName rest (goal.Name ∷ equal ∷ goal.Assigned ∷ []) (Symbol punctuator.At) (Name owner ∷ Symbol punctuator.Equal ∷ Reserved word.Input ∷ Symbol punctuator.LeftParen ∷ Symbol punctuator.RightParen ∷ to) refl
        (takes second goal.Name (equal ∷ goal.Assigned ∷ rest) ([]) (Name owner) (Symbol punctuator.Equal ∷ Reserved word.Input ∷ Symbol punctuator.LeftParen ∷ Symbol punctuator.RightParen ∷ to) refl
        (takes second equal (goal.Assigned ∷ rest) ([]) (Symbol punctuator.Equal) (Reserved word.Input ∷ Symbol punctuator.LeftParen ∷ Symbol punctuator.RightParen ∷ to) refl
        (takes second goal.Assigned rest (left_paren ∷ right_paren ∷ []) (Reserved word.Input) (Symbol punctuator.LeftParen ∷ Symbol punctuator.RightParen ∷ to) refl
        (takes second left_paren (right_paren ∷ rest) ([]) (Symbol punctuator.LeftParen) (Symbol punctuator.RightParen ∷ to) refl
        (takes second right_paren rest ([]) (Symbol punctuator.RightParen) to refl
        (through))))))))
    step_goes (assignment {given = given} {to = to} {variable = variable} {owner = owner} is e) rest closes through =
        subst (Through second (goal.Step ∷ rest)) (sym is)
        (takes second goal.Step rest (goal.StepBehindName ∷ []) (Name variable) (Symbol punctuator.At ∷ Name owner ∷ Symbol punctuator.Equal ∷ given) refl
        (takes second goal.StepBehindName rest (goal.Name ∷ equal ∷ goal.Assigned ∷ []) (Symbol punctuator.At) (Name owner ∷ Symbol punctuator.Equal ∷ given) refl
        (takes second goal.Name (equal ∷ goal.Assigned ∷ rest) ([]) (Name owner) (Symbol punctuator.Equal ∷ given) refl
        (takes second equal (goal.Assigned ∷ rest) ([]) (Symbol punctuator.Equal) given refl
        (as_assigned second rest given (expression_goes second kinds.Step e.reads rest (λ c. operands_end second rest to c closes through)))))))
    step_goes (choice {guarded = guarded} {body = body} {leader = leader} is e heads r s) rest closes through =
        subst (Through second (goal.Step ∷ rest)) (sym is)
        (takes second goal.Step rest (goal.Expression kinds.Step ∷ at_sign ∷ goal.Name ∷ left_brace ∷ goal.Step ∷ goal.MoreSteps ∷ goal.MoreParts ∷ right_brace ∷ goal.Otherwise ∷ []) (Reserved word.If) guarded refl
        (expression_goes second kinds.Step e.reads (at_sign ∷ goal.Name ∷ left_brace ∷ goal.Step ∷ goal.MoreSteps ∷ goal.MoreParts ∷ right_brace ∷ goal.Otherwise ∷ rest) (λ c. subst (Through second (goal.MoreOperands kinds.Step c ∷ (at_sign ∷ goal.Name ∷ left_brace ∷ goal.Step ∷ goal.MoreSteps ∷ goal.MoreParts ∷ right_brace ∷ goal.Otherwise ∷ rest))) (sym heads)
        (passes second (goal.MoreOperands kinds.Step c) (at_sign ∷ goal.Name ∷ left_brace ∷ goal.Step ∷ goal.MoreSteps ∷ goal.MoreParts ∷ right_brace ∷ goal.Otherwise ∷ rest) (Symbol punctuator.At ∷ Name leader ∷ body) refl
        (takes second at_sign (goal.Name ∷ left_brace ∷ goal.Step ∷ goal.MoreSteps ∷ goal.MoreParts ∷ right_brace ∷ goal.Otherwise ∷ rest) ([]) (Symbol punctuator.At) (Name leader ∷ body) refl
        (takes second goal.Name (left_brace ∷ goal.Step ∷ goal.MoreSteps ∷ goal.MoreParts ∷ right_brace ∷ goal.Otherwise ∷ rest) ([]) (Name leader) body refl
        (block_goes r (goal.Otherwise ∷ rest) (otherwise_goes s rest closes through))))))))
    step_goes (loop {guarded = guarded} {body = body} {leader = leader} is e heads r) rest closes through =
        subst (Through second (goal.Step ∷ rest)) (sym is)
        (takes second goal.Step rest (goal.Expression kinds.Step ∷ at_sign ∷ goal.Name ∷ left_brace ∷ goal.Step ∷ goal.MoreSteps ∷ goal.MoreParts ∷ right_brace ∷ []) (Reserved word.While) guarded refl
        (expression_goes second kinds.Step e.reads (at_sign ∷ goal.Name ∷ left_brace ∷ goal.Step ∷ goal.MoreSteps ∷ goal.MoreParts ∷ right_brace ∷ rest) (λ c. subst (Through second (goal.MoreOperands kinds.Step c ∷ (at_sign ∷ goal.Name ∷ left_brace ∷ goal.Step ∷ goal.MoreSteps ∷ goal.MoreParts ∷ right_brace ∷ rest))) (sym heads)
        (passes second (goal.MoreOperands kinds.Step c) (at_sign ∷ goal.Name ∷ left_brace ∷ goal.Step ∷ goal.MoreSteps ∷ goal.MoreParts ∷ right_brace ∷ rest) (Symbol punctuator.At ∷ Name leader ∷ body) refl
        (takes second at_sign (goal.Name ∷ left_brace ∷ goal.Step ∷ goal.MoreSteps ∷ goal.MoreParts ∷ right_brace ∷ rest) ([]) (Symbol punctuator.At) (Name leader ∷ body) refl
        (takes second goal.Name (left_brace ∷ goal.Step ∷ goal.MoreSteps ∷ goal.MoreParts ∷ right_brace ∷ rest) ([]) (Name leader) body refl
        (block_goes r rest through)))))))
    step_goes (scope {body = body} {leader = leader} is r named given) rest closes through =
        subst (Through second (goal.Step ∷ rest)) (sym is)
        (takes second goal.Step rest (at_sign ∷ goal.Name ∷ left_brace ∷ goal.Step ∷ goal.MoreSteps ∷ goal.MoreParts ∷ right_brace ∷ goal.ExtraRoles ∷ goal.Properties ∷ []) (Reserved word.Scope) (Symbol punctuator.At ∷ Name leader ∷ body) refl
        (takes second at_sign (goal.Name ∷ left_brace ∷ goal.Step ∷ goal.MoreSteps ∷ goal.MoreParts ∷ right_brace ∷ goal.ExtraRoles ∷ goal.Properties ∷ rest) ([]) (Symbol punctuator.At) (Name leader ∷ body) refl
        (takes second goal.Name (left_brace ∷ goal.Step ∷ goal.MoreSteps ∷ goal.MoreParts ∷ right_brace ∷ goal.ExtraRoles ∷ goal.Properties ∷ rest) ([]) (Name leader) body refl
        (block_goes r (goal.ExtraRoles ∷ goal.Properties ∷ rest) (roles_go second version rest versions named given closes (properties_go second rest given closes through))))))
    step_goes (group {inside = inside} {to = to} rooms is r ends) rest closes through =
        subst (Through second (goal.Step ∷ rest)) (sym is)
        (takes second goal.Step rest (goal.Step ∷ goal.MoreSteps ∷ goal.MoreParts ∷ right_paren ∷ []) (Symbol punctuator.LeftParen) inside refl
        (choreography_goes r (right_paren ∷ rest) (at_paren ends) (subst (Through second (right_paren ∷ rest)) (sym ends)
        (takes second right_paren rest [] (Symbol punctuator.RightParen) to refl through))))

    block_goes : {room earlier : ℕ} {from to : List Lexeme} {whole : Term} → Stands version Block room earlier from whole to → (rest : List Goal) → Through second rest to
        → Through second (left_brace ∷ goal.Step ∷ goal.MoreSteps ∷ goal.MoreParts ∷ right_brace ∷ rest) from
    block_goes (block {inside = inside} {to = to} rooms is r ends) rest through =
        subst (Through second (left_brace ∷ goal.Step ∷ goal.MoreSteps ∷ goal.MoreParts ∷ right_brace ∷ rest)) (sym is)
        (takes second left_brace (goal.Step ∷ goal.MoreSteps ∷ goal.MoreParts ∷ right_brace ∷ rest) ([]) (Symbol punctuator.LeftBrace) inside refl
        (choreography_goes r (right_brace ∷ rest) (at_brace ends) (subst (Through second (right_brace ∷ rest)) (sym ends)
        (takes second right_brace rest [] (Symbol punctuator.RightBrace) to refl through))))

    otherwise_goes : {room earlier : ℕ} {from to : List Lexeme} {whole : Term} → Stands version Otherwise room earlier from whole to → (rest : List Goal) → Closes Step to
        → Through second rest to → Through second (goal.Otherwise ∷ rest) from
    otherwise_goes {from = from} no_else rest closes through = no_otherwise second rest from closes through
    otherwise_goes (otherwise {body = body} is r) rest closes through =
        subst (Through second (goal.Otherwise ∷ rest)) (sym is)
        (takes second goal.Otherwise rest (left_brace ∷ goal.Step ∷ goal.MoreSteps ∷ goal.MoreParts ∷ right_brace ∷ []) (Reserved word.Else) body refl
        (block_goes r rest through))
