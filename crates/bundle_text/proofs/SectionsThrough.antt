-- Sections, bundles and sessions go through.
use Rattle.std.proofs.Common.{◌≡◌, ℕ, ◌<◌, length, Bool, true, false, List, [], ◌∷◌, Option, Some, None, if◌then◌else◌, refl, sym, ap, ◌∙◌, subst, arith, codes}
use Rattle.aioc_tokens.specs.declared.words.Word.TheVariants as word
use Rattle.aioc_tokens.specs.declared.words.Punctuator.TheVariants as punctuator
use Rattle.aioc_tokens.specs.Lexemes.{Lexeme, Name, Number, Reserved, Symbol}
use Rattle.expr_syntax.specs.Constants.{greatest, greatest_negated}
use Rattle.wanted_tokens.specs.declared.goals.Goal.{Goal}
use Rattle.wanted_tokens.specs.declared.goals.Goal.TheVariants as goal
use Rattle.wanted_tokens.specs.declared.looks.Look.TheVariants as looks
use Rattle.wanted_tokens.specs.Looks.{look}
use Rattle.wanted_tokens.specs.Goals.{left_brace, right_brace, semicolon, colon, equal}
use Rattle.wanted_tokens.specs.Takings.{Takes, Passes}
use Rattle.wanted_tokens.specs.Wanted.{taking}
use Rattle.std.specs.Prelude.{nat_le}
use Rattle.bundle_text.proofs.Through.{Through, takes, passes, same_effect}
use Rattle.bundle_text.proofs.ChoreographiesThrough.{number_goes, value_goes, at_brace, choreography_goes}
use Rattle.std.specs.Str.Parse.{digits_value}
use Rattle.dioc_terms.specs.declared.values.Value.{Value}
use Rattle.dioc_terms.specs.declared.names.Role.{Role}
use Rattle.dioc_terms.specs.declared.bundles.Trace.{Trace}
use Rattle.dioc_terms.specs.Terms.{Term}
use Rattle.dioc_terms.specs.Plain.{PlainBundle}
use Rattle.bundle_text.specs.Many.{Many, no_more, one_more}
use Rattle.bundle_text.specs.Grammar.{IsBound, IsNextValue, AreValues, IsInput, PlainTimed, IsTimed, Section, Aioc, Rules, Environment, Inputs, Script, Traced, IsSection, aioc, rules, environment, inputs, script, trace, joined_sections, IsOnly, HasVersion, first_version, second_version, IsBundle}
use Rattle.bundle_text.specs.Sessions.{IsSession}
use Rattle.wanted_tokens.specs.declared.looks.PlaceWord.{PlaceWord}
use Rattle.wanted_tokens.specs.declared.looks.PlaceWord.TheVariants as place
use Rattle.wanted_tokens.specs.Looks.{place_word_of}
use Rattle.wanted_tokens.specs.Tokens.{two}
use Rattle.wanted_tokens.specs.Sections.{sections, bundle}
use Rattle.wanted_tokens.specs.Wanted.{version_behind, reading_behind, next_stop, stop}
use Rattle.bundle_text.proofs.RulesThrough.{rules_go, change_goes}
use Rattle.bundle_text.proofs.LinesThrough.{trace_goes}

-- ---- items

-- items of a kind go through where each does
many_go : {A : Type 0} {Reads : List Lexeme → A → List Lexeme → Type 0} (P : List Lexeme → Type 0) → ((from to : List Lexeme) (item : A) → Reads from item to → P to → P from)
    → {from to : List Lexeme} {items : List A} → Many Reads from items to → P to → P from
many_go P one no_more through = through
many_go P one (one_more {from = from} {middle = middle} {first = first} r others) through = one from middle first r (many_go P one others through)

module _ (second : Bool) (rest : List Goal) where
  bound_goes : {from to : List Lexeme} {bound : List ℕ × Value} → IsBound from bound to → Through second (goal.Bindings ∷ rest) to → Through second (goal.Bindings ∷ rest) from
  bound_goes {from = from} {to = to} {bound = bound} b through =
      let binding = b.binding in
      subst (Through second (goal.Bindings ∷ rest)) (sym binding.begins)
      (takes second goal.Bindings rest (equal ∷ goal.Value ∷ semicolon ∷ goal.Bindings ∷ []) (Name bound.0) (Symbol punctuator.Equal ∷ binding.given) refl
      (takes second equal (goal.Value ∷ semicolon ∷ goal.Bindings ∷ rest) [] (Symbol punctuator.Equal) binding.given refl
      (value_goes second (semicolon ∷ goal.Bindings ∷ rest) binding.given b.behind bound.1 binding.value
      (subst (Through second (semicolon ∷ goal.Bindings ∷ rest)) (sym b.ends) (takes second semicolon (goal.Bindings ∷ rest) [] (Symbol punctuator.Semicolon) to refl through)))))

  next_value_goes : {from to : List Lexeme} {v : Value} → IsNextValue from v to → Through second (goal.MoreValues ∷ rest) to → Through second (goal.MoreValues ∷ rest) from
  next_value_goes {to = to} {v = v} n through =
      subst (Through second (goal.MoreValues ∷ rest)) (sym n.begins)
      (takes second goal.MoreValues rest (goal.Value ∷ goal.MoreValues ∷ []) (Symbol punctuator.Comma) n.given refl (value_goes second (goal.MoreValues ∷ rest) n.given to v n.reads through))

  values_go : {from to : List Lexeme} {values : List Value} → AreValues from values to → Through second (goal.MoreValues ∷ rest) to → Through second (goal.Value ∷ goal.MoreValues ∷ rest) from
  values_go {from = from} v through =
      value_goes second (goal.MoreValues ∷ rest) from v.more v.first v.reads (many_go (Through second (goal.MoreValues ∷ rest)) (λ from to item r through. next_value_goes {from = from} {to = to} {v = item} r through) v.others through)

module _ (second : Bool) (rest : List Goal) where
  input_goes : {from to : List Lexeme} {given : Role × List Value} → IsInput from given to → Through second (goal.Inputs ∷ rest) to → Through second (goal.Inputs ∷ rest) from
  input_goes {to = to} {given = given} i through =
      subst (Through second (goal.Inputs ∷ rest)) (sym i.begins)
      (takes second goal.Inputs rest (colon ∷ goal.Value ∷ goal.MoreValues ∷ semicolon ∷ goal.Inputs ∷ []) (Name given.0.0) (Symbol punctuator.Colon ∷ i.given) refl
      (takes second colon (goal.Value ∷ goal.MoreValues ∷ semicolon ∷ goal.Inputs ∷ rest) [] (Symbol punctuator.Colon) i.given refl
      (values_go second (semicolon ∷ goal.Inputs ∷ rest) i.values
      (subst (Through second (goal.MoreValues ∷ semicolon ∷ goal.Inputs ∷ rest)) (sym i.ends)
      (passes second goal.MoreValues (semicolon ∷ goal.Inputs ∷ rest) (Symbol punctuator.Semicolon ∷ to) refl
      (takes second semicolon (goal.Inputs ∷ rest) [] (Symbol punctuator.Semicolon) to refl through))))))

  timed_goes : (version : ℕ) → (version ≡ 2 → second ≡ true) → {from to : List Lexeme} {timed : PlainTimed} → IsTimed version from timed to → Through second (goal.Script ∷ rest) to → Through second (goal.Script ∷ rest) from
  timed_goes version versions {timed = timed} t through =
      subst (Through second (goal.Script ∷ rest)) (sym t.begins)
      (takes second goal.Script rest (goal.Number greatest ∷ goal.Change ∷ goal.Script ∷ []) (Name (codes "after")) (Number t.digits ∷ t.given) refl
      (number_goes second (goal.Change ∷ goal.Script ∷ rest) greatest t.digits t.given timed.after (omega arith) t.after
      (change_goes version second versions t.change (goal.Script ∷ rest) through)))

-- ---- sections

-- the sections that are wanted, where a choreography stands before them or not, and a trace or not
abbrev pub sections_of : Bool → Bool → Goal
sections_of false false = goal.Sections
sections_of false true = goal.SectionsBehindTrace
sections_of true false = goal.LaterSections
sections_of true true = goal.LastSections

rules_taken : (second c t : Bool) (others : List Lexeme) → taking second (sections_of c t) (look (Name (codes "rules") ∷ others)) ≡ Takes (left_brace ∷ goal.Rules ∷ right_brace ∷ sections_of c t ∷ [])
rules_taken second false false others = refl
rules_taken second false true others = refl
rules_taken second true false others = refl
rules_taken second true true others = refl

env_taken : (second c t : Bool) (others : List Lexeme) → taking second (sections_of c t) (look (Name (codes "env") ∷ others)) ≡ Takes (left_brace ∷ goal.Bindings ∷ right_brace ∷ sections_of c t ∷ [])
env_taken second false false others = refl
env_taken second false true others = refl
env_taken second true false others = refl
env_taken second true true others = refl

inputs_taken : (second c t : Bool) (others : List Lexeme) → taking second (sections_of c t) (look (Name (codes "inputs") ∷ others)) ≡ Takes (left_brace ∷ goal.Inputs ∷ right_brace ∷ sections_of c t ∷ [])
inputs_taken second false false others = refl
inputs_taken second false true others = refl
inputs_taken second true false others = refl
inputs_taken second true true others = refl

script_taken : (second c t : Bool) (others : List Lexeme) → taking second (sections_of c t) (look (Name (codes "script") ∷ others)) ≡ Takes (left_brace ∷ goal.Script ∷ right_brace ∷ sections_of c t ∷ [])
script_taken second false false others = refl
script_taken second false true others = refl
script_taken second true false others = refl
script_taken second true true others = refl

trace_taken : (second c : Bool) (others : List Lexeme) → taking second (sections_of c false) (look (Name (codes "trace") ∷ others)) ≡ Takes (left_brace ∷ goal.Lines ∷ right_brace ∷ sections_of c true ∷ [])
trace_taken second false others = refl
trace_taken second true others = refl

aioc_taken : (second t : Bool) (others : List Lexeme) → taking second (sections_of false t) (look (Reserved word.Aioc ∷ others)) ≡ Takes (left_brace ∷ goal.Step ∷ goal.MoreSteps ∷ goal.MoreParts ∷ right_brace ∷ sections_of true t ∷ [])
aioc_taken second false others = refl
aioc_taken second true others = refl

same_version : (second c t : Bool) → version_behind second (sections_of c t) ≡ second
same_version second false false = refl
same_version second false true = refl
same_version second true false = refl
same_version second true true = refl

module _ (version : ℕ) (second : Bool) (versions : version ≡ 2 → second ≡ true) (rest : List Goal) where
  -- a section that begins with a name, whose items go through
  named_section : (c t : Bool) (c2 t2 : Bool) (items : Goal) (name : List ℕ) (inside : List Lexeme) → taking second (sections_of c t) (look (Name name ∷ Symbol punctuator.LeftBrace ∷ inside)) ≡ Takes (left_brace ∷ items ∷ right_brace ∷ sections_of c2 t2 ∷ [])
      → Through second (items ∷ right_brace ∷ sections_of c2 t2 ∷ rest) inside → Through second (sections_of c t ∷ rest) (Name name ∷ Symbol punctuator.LeftBrace ∷ inside)
  named_section c t c2 t2 items name inside is through =
      takes second (sections_of c t) rest (left_brace ∷ items ∷ right_brace ∷ sections_of c2 t2 ∷ []) (Name name) (Symbol punctuator.LeftBrace ∷ inside) is
      (subst (λ b. Through b (left_brace ∷ items ∷ right_brace ∷ sections_of c2 t2 ∷ rest) (Symbol punctuator.LeftBrace ∷ inside)) (sym (same_version second c t))
      (takes second left_brace (items ∷ right_brace ∷ sections_of c2 t2 ∷ rest) [] (Symbol punctuator.LeftBrace) inside refl through))

  -- the brace behind items
  closed : (c t : Bool) (items : Goal) (behind to : List Lexeme) → behind ≡ Symbol punctuator.RightBrace ∷ to → taking second items (look (Symbol punctuator.RightBrace ∷ to)) ≡ Passes
      → Through second (sections_of c t ∷ rest) to → Through second (items ∷ right_brace ∷ sections_of c t ∷ rest) behind
  closed c t items behind to is passed through =
      subst (Through second (items ∷ right_brace ∷ sections_of c t ∷ rest)) (sym is)
      (passes second items (right_brace ∷ sections_of c t ∷ rest) (Symbol punctuator.RightBrace ∷ to) passed
      (takes second right_brace (sections_of c t ∷ rest) [] (Symbol punctuator.RightBrace) to refl through))

  -- which sections are still wanted behind one, if it may stand there at all
  abbrev Allowed : Bool → Bool → Section → Type 0
  Allowed c t (Aioc whole) = c ≡ false
  Allowed c t (Traced found) = t ≡ false
  Allowed c t _ = c ≡ c

  abbrev later_choreo : Bool → Section → Bool
  later_choreo c (Aioc whole) = true
  later_choreo c _ = c

  abbrev later_trace : Bool → Section → Bool
  later_trace t (Traced found) = true
  later_trace t _ = t

  section_goes : (c t : Bool) {from to : List Lexeme} {section : Section} → IsSection version from section to → Allowed c t section → Through second (sections_of (later_choreo c section) (later_trace t section) ∷ rest) to
      → Through second (sections_of c t ∷ rest) from
  section_goes c t {from = from} (aioc {inside = inside} {to = to} is r ends) allowed through =
      subst (λ c. Through second (sections_of c t ∷ rest) from) (sym allowed)
      (subst (Through second (sections_of false t ∷ rest)) (sym is)
      (takes second (sections_of false t) rest (left_brace ∷ goal.Step ∷ goal.MoreSteps ∷ goal.MoreParts ∷ right_brace ∷ sections_of true t ∷ []) (Reserved word.Aioc) (Symbol punctuator.LeftBrace ∷ inside) (aioc_taken second t (Symbol punctuator.LeftBrace ∷ inside))
      (subst (λ b. Through b (left_brace ∷ goal.Step ∷ goal.MoreSteps ∷ goal.MoreParts ∷ right_brace ∷ sections_of true t ∷ rest) (Symbol punctuator.LeftBrace ∷ inside)) (sym (same_version second false t))
      (takes second left_brace (goal.Step ∷ goal.MoreSteps ∷ goal.MoreParts ∷ right_brace ∷ sections_of true t ∷ rest) [] (Symbol punctuator.LeftBrace) inside refl
      (choreography_goes version second versions r.stands (right_brace ∷ sections_of true t ∷ rest) (at_brace ends)
      (subst (Through second (right_brace ∷ sections_of true t ∷ rest)) (sym ends) (takes second right_brace (sections_of true t ∷ rest) [] (Symbol punctuator.RightBrace) to refl through)))))))
  section_goes c t (rules {inside = inside} {behind = behind} {to = to} is items ends) allowed through =
      subst (Through second (sections_of c t ∷ rest)) (sym is)
      (named_section c t c t goal.Rules (codes "rules") inside (rules_taken second c t (Symbol punctuator.LeftBrace ∷ inside))
      (many_go (Through second (goal.Rules ∷ right_brace ∷ sections_of c t ∷ rest)) (λ from to item r through. rules_go version second versions r (right_brace ∷ sections_of c t ∷ rest) through) items (closed c t goal.Rules behind to ends refl through)))
  section_goes c t (environment {inside = inside} {behind = behind} {to = to} is items ends) allowed through =
      subst (Through second (sections_of c t ∷ rest)) (sym is)
      (named_section c t c t goal.Bindings (codes "env") inside (env_taken second c t (Symbol punctuator.LeftBrace ∷ inside))
      (many_go (Through second (goal.Bindings ∷ right_brace ∷ sections_of c t ∷ rest)) (λ from to item b through. bound_goes second (right_brace ∷ sections_of c t ∷ rest) b through) items (closed c t goal.Bindings behind to ends refl through)))
  section_goes c t (inputs {inside = inside} {behind = behind} {to = to} is items ends) allowed through =
      subst (Through second (sections_of c t ∷ rest)) (sym is)
      (named_section c t c t goal.Inputs (codes "inputs") inside (inputs_taken second c t (Symbol punctuator.LeftBrace ∷ inside))
      (many_go (Through second (goal.Inputs ∷ right_brace ∷ sections_of c t ∷ rest)) (λ from to item i through. input_goes second (right_brace ∷ sections_of c t ∷ rest) i through) items (closed c t goal.Inputs behind to ends refl through)))
  section_goes c t (script {inside = inside} {behind = behind} {to = to} is items ends) allowed through =
      subst (Through second (sections_of c t ∷ rest)) (sym is)
      (named_section c t c t goal.Script (codes "script") inside (script_taken second c t (Symbol punctuator.LeftBrace ∷ inside))
      (many_go (Through second (goal.Script ∷ right_brace ∷ sections_of c t ∷ rest)) (λ from to item timed through. timed_goes second (right_brace ∷ sections_of c t ∷ rest) version versions timed through) items (closed c t goal.Script behind to ends refl through)))
  section_goes c t {from = from} (trace {inside = inside} {behind = behind} {to = to} is lines ends) allowed through =
      subst (λ t. Through second (sections_of c t ∷ rest) from) (sym allowed)
      (subst (Through second (sections_of c false ∷ rest)) (sym is)
      (named_section c false c true goal.Lines (codes "trace") inside (trace_taken second c (Symbol punctuator.LeftBrace ∷ inside))
      (trace_goes second (sections_of c true ∷ rest) lines to ends through)))

-- ---- bundles

-- the choreographies that are left, where one stands before them or not
data Fits : Bool → List Term → Type 0 where
  none_left : {list : List Term} → list ≡ [] → Fits true list
  one_left : {list : List Term} {only : Term} → list ≡ only ∷ [] → Fits false list

-- and the traces
data FitsTrace : Bool → List Trace → Type 0 where
  no_trace : {t : Bool} {list : List Trace} → list ≡ [] → FitsTrace t list
  one_trace : {list : List Trace} {only : Trace} → list ≡ only ∷ [] → FitsTrace false list

only_trace : (list : List Trace) (found : Trace) → IsOnly list found → FitsTrace false list
only_trace [] found is = no_trace refl
only_trace (only ∷ []) found is = one_trace refl
only_trace (_ ∷ _ ∷ _) found is = absurd is

module _ (version : ℕ) (second : Bool) (versions : version ≡ 2 → second ≡ true) (rest : List Goal) where
  sections_go : (c t : Bool) {from to : List Lexeme} {sections : List Section} → Many (IsSection version) from sections to → Fits c ((joined_sections sections).choreos) → FitsTrace t ((joined_sections sections).traces)
      → ((t : Bool) → Through second (sections_of true t ∷ rest) to) → Through second (sections_of c t ∷ rest) from
  sections_go c t no_more (none_left is) traces ends = ends t
  sections_go c t no_more (one_left is) traces ends = absurd cc
  sections_go c t (one_more {first = Aioc whole} r others) (none_left is) traces ends = absurd cc
  sections_go c t (one_more {first = Aioc whole} r others) (one_left is) traces ends =
      section_goes version second versions rest false t r refl (sections_go true t others (none_left cc) traces ends)
  sections_go c t (one_more {first = Traced found} r others) fits (no_trace is) ends = absurd cc
  sections_go c t (one_more {first = Traced found} r others) fits (one_trace is) ends =
      section_goes version second versions rest c false r refl (sections_go c true others fits (no_trace cc) ends)
  sections_go c t (one_more {first = Rules items} r others) fits traces ends = section_goes version second versions rest c t r refl (sections_go c t others fits traces ends)
  sections_go c t (one_more {first = Environment items} r others) fits traces ends = section_goes version second versions rest c t r refl (sections_go c t others fits traces ends)
  sections_go c t (one_more {first = Inputs items} r others) fits traces ends = section_goes version second versions rest c t r refl (sections_go c t others fits traces ends)
  sections_go c t (one_more {first = Script items} r others) fits traces ends = section_goes version second versions rest c t r refl (sections_go c t others fits traces ends)

-- a word that isn't `version` is seen alike by a bundle and by its sections
word_alike : (second : Bool) (rest : List Goal) (name : List ℕ) (others : List Lexeme) (w : Option PlaceWord) → place_word_of name ≡ w → Through second (goal.Sections ∷ rest) (Name name ∷ others)
    → taking second goal.Bundle (look (Name name ∷ others)) ≡ taking second goal.Sections (look (Name name ∷ others))
word_alike second rest name others (Some place.Version) is through =
    let stops : next_stop (reading_behind second (goal.Sections ∷ rest) (looks.Name (Some place.Version))) (stop others) ≡ None = ap (λ w. next_stop (reading_behind second (goal.Sections ∷ rest) (looks.Name w)) (stop others)) (sym is) ∙ through in
    absurd cc
word_alike second rest name others None is through = ap (λ w. bundle (looks.Name w)) is ∙ sym (ap (λ w. sections (looks.Name w)) is)
word_alike second rest name others (Some place.Session) is through = ap (λ w. bundle (looks.Name w)) is ∙ sym (ap (λ w. sections (looks.Name w)) is)
word_alike second rest name others (Some place.Rules) is through = ap (λ w. bundle (looks.Name w)) is ∙ sym (ap (λ w. sections (looks.Name w)) is)
word_alike second rest name others (Some place.Env) is through = ap (λ w. bundle (looks.Name w)) is ∙ sym (ap (λ w. sections (looks.Name w)) is)
word_alike second rest name others (Some place.Inputs) is through = ap (λ w. bundle (looks.Name w)) is ∙ sym (ap (λ w. sections (looks.Name w)) is)
word_alike second rest name others (Some place.Script) is through = ap (λ w. bundle (looks.Name w)) is ∙ sym (ap (λ w. sections (looks.Name w)) is)
word_alike second rest name others (Some place.Trace) is through = ap (λ w. bundle (looks.Name w)) is ∙ sym (ap (λ w. sections (looks.Name w)) is)
word_alike second rest name others (Some place.After) is through = ap (λ w. bundle (looks.Name w)) is ∙ sym (ap (λ w. sections (looks.Name w)) is)
word_alike second rest name others (Some place.Add) is through = ap (λ w. bundle (looks.Name w)) is ∙ sym (ap (λ w. sections (looks.Name w)) is)
word_alike second rest name others (Some place.Drop) is through = ap (λ w. bundle (looks.Name w)) is ∙ sym (ap (λ w. sections (looks.Name w)) is)
word_alike second rest name others (Some place.Roles) is through = ap (λ w. bundle (looks.Name w)) is ∙ sym (ap (λ w. sections (looks.Name w)) is)
word_alike second rest name others (Some place.Priority) is through = ap (λ w. bundle (looks.Name w)) is ∙ sym (ap (λ w. sections (looks.Name w)) is)
word_alike second rest name others (Some place.Put) is through = ap (λ w. bundle (looks.Name w)) is ∙ sym (ap (λ w. sections (looks.Name w)) is)
word_alike second rest name others (Some place.Take) is through = ap (λ w. bundle (looks.Name w)) is ∙ sym (ap (λ w. sections (looks.Name w)) is)
word_alike second rest name others (Some place.Set) is through = ap (λ w. bundle (looks.Name w)) is ∙ sym (ap (λ w. sections (looks.Name w)) is)
word_alike second rest name others (Some place.Pick) is through = ap (λ w. bundle (looks.Name w)) is ∙ sym (ap (λ w. sections (looks.Name w)) is)
word_alike second rest name others (Some place.Ended) is through = ap (λ w. bundle (looks.Name w)) is ∙ sym (ap (λ w. sections (looks.Name w)) is)
word_alike second rest name others (Some place.Stopped) is through = ap (λ w. bundle (looks.Name w)) is ∙ sym (ap (λ w. sections (looks.Name w)) is)
word_alike second rest name others (Some place.Done) is through = ap (λ w. bundle (looks.Name w)) is ∙ sym (ap (λ w. sections (looks.Name w)) is)
word_alike second rest name others (Some place.Keep) is through = ap (λ w. bundle (looks.Name w)) is ∙ sym (ap (λ w. sections (looks.Name w)) is)
word_alike second rest name others (Some place.Part) is through = ap (λ w. bundle (looks.Name w)) is ∙ sym (ap (λ w. sections (looks.Name w)) is)
word_alike second rest name others (Some place.As) is through = ap (λ w. bundle (looks.Name w)) is ∙ sym (ap (λ w. sections (looks.Name w)) is)
word_alike second rest name others (Some place.Choice) is through = ap (λ w. bundle (looks.Name w)) is ∙ sym (ap (λ w. sections (looks.Name w)) is)
word_alike second rest name others (Some place.Go) is through = ap (λ w. bundle (looks.Name w)) is ∙ sym (ap (λ w. sections (looks.Name w)) is)
word_alike second rest name others (Some place.Turn) is through = ap (λ w. bundle (looks.Name w)) is ∙ sym (ap (λ w. sections (looks.Name w)) is)
word_alike second rest name others (Some place.Begin) is through = ap (λ w. bundle (looks.Name w)) is ∙ sym (ap (λ w. sections (looks.Name w)) is)
word_alike second rest name others (Some place.End) is through = ap (λ w. bundle (looks.Name w)) is ∙ sym (ap (λ w. sections (looks.Name w)) is)
word_alike second rest name others (Some place.Out) is through = ap (λ w. bundle (looks.Name w)) is ∙ sym (ap (λ w. sections (looks.Name w)) is)

as_bundle : (second : Bool) (rest : List Goal) (from : List Lexeme) → Through second (goal.Sections ∷ rest) from → Through second (goal.Bundle ∷ rest) from
as_bundle second rest (Name name ∷ others) through = same_effect second goal.Bundle goal.Sections rest (Name name ∷ others) (word_alike second rest name others (place_word_of name) refl through) refl through
as_bundle second rest from through = same_effect second goal.Bundle goal.Sections rest from refl refl through

two_taken : (second : Bool) (digits : List ℕ) (others : List Lexeme) → digits_value 10 digits ≡ 2 → taking second goal.Two (look (Number digits ∷ others)) ≡ Takes []
two_taken second digits others is =
    ap (λ (v : ℕ). two (looks.Number (if nat_le v greatest_negated then Some v else None))) is

module _ (rest : List Goal) where
  pub bundle_goes : {from to : List Lexeme} {b : PlainBundle} → IsBundle from b to → ((second t : Bool) → Through second (sections_of true t ∷ rest) to) → Through false (goal.Bundle ∷ rest) from
  bundle_goes {from = from} {to = to} {b = b} is ends = by_version is.version is.stand
    where
      fits : Fits false ((joined_sections is.sections).choreos)
      fits = one_left is.made.choreo

      by_version : {v : ℕ} {inside : List Lexeme} → HasVersion from v inside → Many (IsSection v) inside is.sections to → Through false (goal.Bundle ∷ rest) from
      by_version first_version stand =
          as_bundle false rest from (sections_go 1 false (λ no. absurd cc) rest false false stand fits (only_trace ((joined_sections is.sections).traces) b.trace is.made.trace) (ends false))
      by_version (second_version {to = inside} {digits = digits} begins value) stand =
          subst (Through false (goal.Bundle ∷ rest)) (sym begins)
          (takes false goal.Bundle rest (goal.Two ∷ goal.Sections ∷ []) (Name (codes "version")) (Number digits ∷ inside) refl
          (takes false goal.Two (goal.Sections ∷ rest) [] (Number digits) inside (two_taken false digits inside value)
          (sections_go 2 true (λ _. refl) rest false false stand fits (only_trace ((joined_sections is.sections).traces) b.trace is.made.trace) (ends true))))

over_at_end : (second t : Bool) → Through second (sections_of true t ∷ []) []
over_at_end second false = refl
over_at_end second true = refl

-- a bundle goes through
pub whole_goes : (text : List Lexeme) (b : PlainBundle) → IsBundle text b [] → Through false (goal.Bundle ∷ []) text
whole_goes text b is = bundle_goes [] is over_at_end

-- ---- sessions

brace_passed : (second t : Bool) (others : List Lexeme) → taking second (sections_of true t) (look (Symbol punctuator.RightBrace ∷ others)) ≡ Passes
brace_passed second false others = refl
brace_passed second true others = refl

session_inside : {from to : List Lexeme} {b : PlainBundle} (rest : List Goal) → (s : IsSession from b to) → ((second : Bool) → Through second rest to) → Through false (left_brace ∷ goal.Bundle ∷ right_brace ∷ rest) (Symbol punctuator.LeftBrace ∷ s.inside)
session_inside {to = to} rest s ends =
    takes false left_brace (goal.Bundle ∷ right_brace ∷ rest) [] (Symbol punctuator.LeftBrace) s.inside refl
    (bundle_goes (right_brace ∷ rest) s.bundle (λ second t. passes second (sections_of true t) (right_brace ∷ rest) (Symbol punctuator.RightBrace ∷ to) (brace_passed second t to)
    (takes second right_brace rest [] (Symbol punctuator.RightBrace) to refl (ends second))))

more_sessions : {from : List Lexeme} {sessions : List PlainBundle} → Many IsSession from sessions [] → (second : Bool) → Through second (goal.MoreSessions ∷ []) from
more_sessions no_more second = refl
more_sessions (one_more r others) second =
    subst (Through second (goal.MoreSessions ∷ [])) (sym r.begins)
    (takes second goal.MoreSessions [] (left_brace ∷ goal.Bundle ∷ right_brace ∷ goal.MoreSessions ∷ []) (Name (codes "session")) (Symbol punctuator.LeftBrace ∷ r.inside) refl
    (session_inside (goal.MoreSessions ∷ []) r (more_sessions others)))

pub sessions_go : (text : List Lexeme) (sessions : List PlainBundle) → Many IsSession text sessions [] → 0 < length sessions → Through false (goal.Sessions ∷ []) text
sessions_go text [] no_more some = absurd (omega arith)
sessions_go text sessions (one_more r others) some =
    subst (Through false (goal.Sessions ∷ [])) (sym r.begins)
    (takes false goal.Sessions [] (left_brace ∷ goal.Bundle ∷ right_brace ∷ goal.MoreSessions ∷ []) (Name (codes "session")) (Symbol punctuator.LeftBrace ∷ r.inside) refl
    (session_inside (goal.MoreSessions ∷ []) r (more_sessions others)))
