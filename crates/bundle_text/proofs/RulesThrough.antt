-- Rules and changes of the grammar go through.
use Rattle.std.proofs.Common.{◌≡◌, ℕ, Bool, true, false, ℤ, List, [], ◌∷◌, ◌++◌, Some, if◌then◌else◌, refl, sym, ap, ◌∙◌, subst, arith, codes}
use Rattle.limits.specs.Limits.{most_priority}
use Rattle.aioc_tokens.specs.declared.words.Word.TheVariants as word
use Rattle.aioc_tokens.specs.declared.words.Punctuator.TheVariants as punctuator
use Rattle.aioc_tokens.specs.Lexemes.{Lexeme, Name, Number, Reserved, Symbol}
use Rattle.expr_syntax.specs.Constants.{number_up_to}
use Rattle.expr_syntax.specs.declared.levels.ExprKind.TheVariants as kinds
use Rattle.wanted_tokens.specs.declared.goals.Goal.{Goal}
use Rattle.wanted_tokens.specs.declared.goals.Goal.TheVariants as goal
use Rattle.wanted_tokens.specs.declared.looks.Look.TheVariants as looks
use Rattle.wanted_tokens.specs.Looks.{look}
use Rattle.wanted_tokens.specs.Goals.{left_brace, right_brace, equal, on_word, do_word, rule_word}
use Rattle.wanted_tokens.specs.Takings.{Takes, Passes, Stops}
use Rattle.wanted_tokens.specs.Wanted.{taking}
use Rattle.bundle_text.proofs.Through.{Through, takes, passes}
use Rattle.bundle_text.proofs.ExpressionsThrough.{seen_number, expression_goes}
use Rattle.bundle_text.proofs.ChoreographiesThrough.{number_goes, value_goes, at_brace, choreography_goes}
use Rattle.dioc_terms.specs.declared.values.Value.{Value}
use Rattle.dioc_terms.specs.Plain.{PlainRule}
use Rattle.rule_syntax.specs.Grammar.{HasPriority, no_priority, priority, negative_priority, IsRule, IsBinding, PlainChange, IsChange, adds, drops, sets}
use Rattle.wanted_tokens.specs.Rules.{rule_goals, rank}

priority_passed : (second : Bool) (others : List Lexeme) → taking second goal.Priority (look (Symbol punctuator.LeftBrace ∷ others)) ≡ Passes
priority_passed true others = refl
priority_passed false others = refl

priority_taken : (second : Bool) (others : List Lexeme) → second ≡ true → taking second goal.Priority (look (Name (codes "priority") ∷ others)) ≡ Takes (goal.Rank ∷ [])
priority_taken true others is = refl
priority_taken false others is = absurd cc

rank_taken : (second : Bool) (digits : List ℕ) (others : List Lexeme) (n : ℕ) → number_up_to most_priority digits ≡ Some n → taking second goal.Rank (look (Number digits ∷ others)) ≡ Takes []
rank_taken second digits others n is =
    let seen = seen_number most_priority digits n is (omega arith) in
    ap (λ found. rank (looks.Number found)) seen.0 ∙ ap (λ (b : Bool). if b then Takes [] else Stops) seen.1

module _ (version : ℕ) (second : Bool) (versions : version ≡ 2 → second ≡ true) (rest : List Goal) where
  priority_goes : {from to : List Lexeme} {n : ℤ} (behind : List Lexeme) → HasPriority version from n to → to ≡ Symbol punctuator.LeftBrace ∷ behind → Through second rest to → Through second (goal.Priority ∷ rest) from
  priority_goes {from = from} behind no_priority begins through = passes second goal.Priority rest from (ap (λ from. taking second goal.Priority (look from)) begins ∙ priority_passed second behind) through
  priority_goes behind (priority {to = to} {digits = digits} {n = n} two is fits) begins through =
      subst (Through second (goal.Priority ∷ rest)) (sym is)
      (takes second goal.Priority rest (goal.Rank ∷ []) (Name (codes "priority")) (Number digits ∷ to) (priority_taken second (Number digits ∷ to) (versions two))
      (takes second goal.Rank rest [] (Number digits) to (rank_taken second digits to n fits) through))
  priority_goes behind (negative_priority {to = to} {digits = digits} {n = n} two is fits) begins through =
      subst (Through second (goal.Priority ∷ rest)) (sym is)
      (takes second goal.Priority rest (goal.Rank ∷ []) (Name (codes "priority")) (Symbol punctuator.Minus ∷ Number digits ∷ to) (priority_taken second (Symbol punctuator.Minus ∷ Number digits ∷ to) (versions two))
      (takes second goal.Rank rest (goal.Number most_priority ∷ []) (Symbol punctuator.Minus) (Number digits ∷ to) refl
      (number_goes second rest most_priority digits to n (omega arith) fits through)))

module _ (second : Bool) (rest : List Goal) where
  -- a name that a value is bound to goes through
  pub binding_goes : {from to : List Lexeme} {bound : List ℕ × Value} → IsBinding from bound to → Through second rest to → Through second (goal.Name ∷ equal ∷ goal.Value ∷ rest) from
  binding_goes {to = to} {bound = bound} b through =
      subst (Through second (goal.Name ∷ equal ∷ goal.Value ∷ rest)) (sym b.begins)
      (takes second goal.Name (equal ∷ goal.Value ∷ rest) [] (Name bound.0) (Symbol punctuator.Equal ∷ b.given) refl
      (takes second equal (goal.Value ∷ rest) [] (Symbol punctuator.Equal) b.given refl (value_goes second rest b.given to bound.1 b.value through)))

module _ (version : ℕ) (second : Bool) (versions : version ≡ 2 → second ≡ true) where
  -- a rule behind its first word goes through
  rule_behind : {room : ℕ} {from to : List Lexeme} {found : PlainRule} (r : IsRule version room from found to) (rest : List Goal) → Through second rest to → Through second (rule_goals ++ rest) (Name found.name ∷ r.ranked)
  rule_behind {to = to} {found = found} r rest through =
      takes second goal.Name (goal.Priority ∷ left_brace ∷ on_word ∷ left_brace ∷ goal.Expression kinds.Condition ∷ right_brace ∷ do_word ∷ left_brace ∷ goal.Step ∷ goal.MoreSteps ∷ goal.MoreParts ∷ right_brace ∷ right_brace ∷ rest) [] (Name found.name) r.ranked refl
      (priority_goes version second versions (left_brace ∷ on_word ∷ left_brace ∷ goal.Expression kinds.Condition ∷ right_brace ∷ do_word ∷ left_brace ∷ goal.Step ∷ goal.MoreSteps ∷ goal.MoreParts ∷ right_brace ∷ right_brace ∷ rest) (Reserved word.On ∷ Symbol punctuator.LeftBrace ∷ r.condition) r.priority r.opens (subst (Through second (left_brace ∷ on_word ∷ left_brace ∷ goal.Expression kinds.Condition ∷ right_brace ∷ do_word ∷ left_brace ∷ goal.Step ∷ goal.MoreSteps ∷ goal.MoreParts ∷ right_brace ∷ right_brace ∷ rest)) (sym r.opens)
      (takes second left_brace (on_word ∷ left_brace ∷ goal.Expression kinds.Condition ∷ right_brace ∷ do_word ∷ left_brace ∷ goal.Step ∷ goal.MoreSteps ∷ goal.MoreParts ∷ right_brace ∷ right_brace ∷ rest) ([]) (Symbol punctuator.LeftBrace) (Reserved word.On ∷ Symbol punctuator.LeftBrace ∷ r.condition) refl
      (takes second on_word (left_brace ∷ goal.Expression kinds.Condition ∷ right_brace ∷ do_word ∷ left_brace ∷ goal.Step ∷ goal.MoreSteps ∷ goal.MoreParts ∷ right_brace ∷ right_brace ∷ rest) ([]) (Reserved word.On) (Symbol punctuator.LeftBrace ∷ r.condition) refl
      (takes second left_brace (goal.Expression kinds.Condition ∷ right_brace ∷ do_word ∷ left_brace ∷ goal.Step ∷ goal.MoreSteps ∷ goal.MoreParts ∷ right_brace ∷ right_brace ∷ rest) ([]) (Symbol punctuator.LeftBrace) r.condition refl
      (expression_goes second kinds.Condition r.cond.reads (right_brace ∷ do_word ∷ left_brace ∷ goal.Step ∷ goal.MoreSteps ∷ goal.MoreParts ∷ right_brace ∷ right_brace ∷ rest) (λ c. subst (Through second (goal.MoreOperands kinds.Condition c ∷ (right_brace ∷ do_word ∷ left_brace ∷ goal.Step ∷ goal.MoreSteps ∷ goal.MoreParts ∷ right_brace ∷ right_brace ∷ rest))) (sym r.does)
      (passes second (goal.MoreOperands kinds.Condition c) (right_brace ∷ do_word ∷ left_brace ∷ goal.Step ∷ goal.MoreSteps ∷ goal.MoreParts ∷ right_brace ∷ right_brace ∷ rest) (Symbol punctuator.RightBrace ∷ Reserved word.Do ∷ Symbol punctuator.LeftBrace ∷ r.replacing) refl
      (takes second right_brace (do_word ∷ left_brace ∷ goal.Step ∷ goal.MoreSteps ∷ goal.MoreParts ∷ right_brace ∷ right_brace ∷ rest) ([]) (Symbol punctuator.RightBrace) (Reserved word.Do ∷ Symbol punctuator.LeftBrace ∷ r.replacing) refl
      (takes second do_word (left_brace ∷ goal.Step ∷ goal.MoreSteps ∷ goal.MoreParts ∷ right_brace ∷ right_brace ∷ rest) ([]) (Reserved word.Do) (Symbol punctuator.LeftBrace ∷ r.replacing) refl
      (takes second left_brace (goal.Step ∷ goal.MoreSteps ∷ goal.MoreParts ∷ right_brace ∷ right_brace ∷ rest) ([]) (Symbol punctuator.LeftBrace) r.replacing refl
      (choreography_goes version second versions r.body.stands (right_brace ∷ right_brace ∷ rest) (at_brace r.closes) (subst (Through second (right_brace ∷ right_brace ∷ rest)) (sym r.closes)
      (takes second right_brace (right_brace ∷ rest) ([]) (Symbol punctuator.RightBrace) (Symbol punctuator.RightBrace ∷ to) refl
      (takes second right_brace rest ([]) (Symbol punctuator.RightBrace) to refl
      (through))))))))))))))))

  pub rule_goes : {room : ℕ} {from to : List Lexeme} {found : PlainRule} → IsRule version room from found to → (rest : List Goal) → Through second rest to → Through second (rule_word ∷ rule_goals ++ rest) from
  rule_goes {found = found} r rest through =
      subst (Through second (rule_word ∷ rule_goals ++ rest)) (sym r.begins) (takes second rule_word (rule_goals ++ rest) [] (Reserved word.Rule) (Name found.name ∷ r.ranked) refl (rule_behind r rest through))

  pub rules_go : {room : ℕ} {from to : List Lexeme} {found : PlainRule} → IsRule version room from found to → (rest : List Goal) → Through second (goal.Rules ∷ rest) to → Through second (goal.Rules ∷ rest) from
  rules_go {found = found} r rest through =
      subst (Through second (goal.Rules ∷ rest)) (sym r.begins) (takes second goal.Rules rest (rule_goals ++ goal.Rules ∷ []) (Reserved word.Rule) (Name found.name ∷ r.ranked) refl (rule_behind r (goal.Rules ∷ rest) through))

  pub change_goes : {room : ℕ} {from to : List Lexeme} {change : PlainChange} → IsChange version room from change to → (rest : List Goal) → Through second rest to → Through second (goal.Change ∷ rest) from
  change_goes (adds {given = given} is r) rest through =
      subst (Through second (goal.Change ∷ rest)) (sym is) (takes second goal.Change rest (rule_word ∷ rule_goals) (Name (codes "add")) given refl (rule_goes r rest through))
  change_goes (drops {to = to} {name = name} is) rest through =
      subst (Through second (goal.Change ∷ rest)) (sym is)
      (takes second goal.Change rest (goal.Name ∷ []) (Name (codes "drop")) (Name name ∷ to) refl (takes second goal.Name rest [] (Name name) to refl through))
  change_goes (sets {given = given} {to = to} {key = key} {value = v} is bound) rest through =
      subst (Through second (goal.Change ∷ rest)) (sym is)
      (takes second goal.Change rest (goal.Name ∷ equal ∷ goal.Value ∷ []) (Name (codes "env")) given refl (binding_goes second rest bound through))
