-- Where the parts of a bundle stand in its text: the tokens at which they begin, in their order.
use Rattle.std.specs.Prelude.{ℕ, ◌-◌, List, Bool, true, false, nat_lt}
use Rattle.aioc_tokens.specs.Lexemes.{Lexeme}
use Rattle.rule_checks.specs.declared.refusals.Where.{Where}
use Rattle.rule_checks.specs.declared.refusals.Where.TheVariants as part
use Rattle.text_places.specs.Marks.{IsNth, Choreography, Rule, Added, Construct}

-- a rule of a section, or one that the script adds, by its number among the rules of the bundle
abbrev pub IsRuleAt : Bool → List Lexeme → ℕ → ℕ → ℕ → Type 0
IsRuleAt true text opening number place = IsNth Rule text 0 number place
IsRuleAt false text opening number place = IsNth Added text 0 (number - opening) place

-- the choreography begins at its one section, and a rule at its word: the rules of the sections
-- come first, and then those that the script adds
abbrev pub IsPartAt : List Lexeme → ℕ → Where → ℕ → Type 0
IsPartAt text opening part.Program place = IsNth Choreography text 0 0 place
IsPartAt text opening (part.Rule number) place =
    IsRuleAt (nat_lt number opening) text opening number place

-- the construct of this number in a part, counted from the part's beginning
pub record IsConstructAt (text : List Lexeme) (opening : ℕ) (within : Where) (number place : ℕ) :
    Type 0 where
  pub from : ℕ
  pub begins : IsPartAt text opening within from
  pub construct : IsNth Construct text from number place
