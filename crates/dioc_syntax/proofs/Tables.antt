-- Which tokens can go on behind what stands in a form, and which begin a step.
use Rattle.std.proofs.Common.{◌≡◌, Bool, true, false, ◌||◌, refl}
use Rattle.aioc_tokens.specs.declared.words.Word.TheVariants as word
use Rattle.aioc_tokens.specs.declared.words.Punctuator.TheVariants as punctuator
use Rattle.aioc_tokens.specs.declared.words.Sort.{Sort}
use Rattle.aioc_tokens.specs.declared.words.Sort.TheVariants as sorts
use Rattle.expr_syntax.specs.declared.levels.ExprKind.TheVariants as kind
use Rattle.expr_syntax.specs.declared.levels.Level.TheVariants.{Disjunction}
use Rattle.expr_syntax.proofs.Tables as expressions
use Rattle.dioc_syntax.specs.Choreographies.{Form, Choreography, Sequence, Step, Block, Otherwise}

abbrev pub is_else : Sort → Bool
is_else (sorts.Reserved word.Else) = true
is_else _ = false

abbrev pub is_prop : Sort → Bool
is_prop (sorts.Reserved word.Prop) = true
is_prop _ = false

abbrev pub is_name : Sort → Bool
is_name sorts.Name = true
is_name _ = false

abbrev pub is_comma : Sort → Bool
is_comma (sorts.Symbol punctuator.Comma) = true
is_comma _ = false

abbrev pub is_bar : Sort → Bool
is_bar (sorts.Symbol punctuator.Bar) = true
is_bar _ = false

abbrev pub is_semicolon : Sort → Bool
is_semicolon (sorts.Symbol punctuator.Semicolon) = true
is_semicolon _ = false

-- the first tokens of a step
abbrev pub begins_step : Sort → Bool
begins_step (sorts.Reserved word.Skip) = true
begins_step (sorts.Reserved word.If) = true
begins_step (sorts.Reserved word.While) = true
begins_step (sorts.Reserved word.Scope) = true
begins_step sorts.Name = true
begins_step (sorts.Symbol punctuator.LeftParen) = true
begins_step _ = false

-- behind a step: an operator of its expression, an `else`, the further roles of a scope (`roles` is a name) or its properties
abbrev pub step_goes : Sort → Bool
step_goes sort = is_else sort || (is_prop sort || (is_name sort || expressions.goes kind.Step Disjunction sort))

-- behind a sequence: a `;`, and behind a `;` a step
abbrev pub sequence_goes : Sort → Bool
sequence_goes sort = is_semicolon sort || (begins_step sort || step_goes sort)

abbrev pub choreography_goes : Sort → Bool
choreography_goes sort = is_bar sort || sequence_goes sort

abbrev pub goes : Form → Sort → Bool
goes Choreography sort = choreography_goes sort
goes Sequence sort = sequence_goes sort
goes Step sort = step_goes sort
goes Block sort = false
goes Otherwise sort = is_else sort

pub or_left : (a b : Bool) → a ≡ true → a || b ≡ true
or_left true b is = refl
or_left false b is = absurd cc

pub or_right : (a b : Bool) → b ≡ true → a || b ≡ true
or_right true b is = refl
or_right false b is = is

module _ (sort : Sort) where
  pub else_step : is_else sort ≡ true → step_goes sort ≡ true
  else_step is = or_left (is_else sort) (is_prop sort || (is_name sort || expressions.goes kind.Step Disjunction sort)) is

  pub prop_step : is_prop sort ≡ true → step_goes sort ≡ true
  prop_step is = or_right (is_else sort) (is_prop sort || (is_name sort || expressions.goes kind.Step Disjunction sort)) (or_left (is_prop sort) (is_name sort || expressions.goes kind.Step Disjunction sort) is)

  pub name_step : is_name sort ≡ true → step_goes sort ≡ true
  name_step is =
      or_right (is_else sort) (is_prop sort || (is_name sort || expressions.goes kind.Step Disjunction sort))
      (or_right (is_prop sort) (is_name sort || expressions.goes kind.Step Disjunction sort) (or_left (is_name sort) (expressions.goes kind.Step Disjunction sort) is))

  pub operator_step : expressions.goes kind.Step Disjunction sort ≡ true → step_goes sort ≡ true
  operator_step is =
      or_right (is_else sort) (is_prop sort || (is_name sort || expressions.goes kind.Step Disjunction sort))
      (or_right (is_prop sort) (is_name sort || expressions.goes kind.Step Disjunction sort) (or_right (is_name sort) (expressions.goes kind.Step Disjunction sort) is))

  pub step_sequence : step_goes sort ≡ true → sequence_goes sort ≡ true
  step_sequence is = or_right (is_semicolon sort) (begins_step sort || step_goes sort) (or_right (begins_step sort) (step_goes sort) is)

  pub first_sequence : begins_step sort ≡ true → sequence_goes sort ≡ true
  first_sequence is = or_right (is_semicolon sort) (begins_step sort || step_goes sort) (or_left (begins_step sort) (step_goes sort) is)

  pub sequence_choreography : sequence_goes sort ≡ true → choreography_goes sort ≡ true
  sequence_choreography is = or_right (is_bar sort) (sequence_goes sort) is
