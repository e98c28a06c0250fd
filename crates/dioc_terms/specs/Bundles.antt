-- What it means that a bundle is formed: it is one that a text can spell.
use Rattle.std.specs.Prelude.{◌≡◌, ℕ, zero, suc, ◌-◌, ◌≤◌, ◌⊎◌, List, [], ◌∷◌, length, Bool, true, false, ◌&&◌, not, nat_le, nat_lt, Option, Some, None, All, pos, negsuc, int_le}
use Rattle.std.specs.Ordering.{int_eq}
use Rattle.std.specs.List.{list_all}
use Rattle.dioc_terms.specs.declared.names.Role.{Role}
use Rattle.dioc_terms.specs.declared.names.Index.{Index}
use Rattle.dioc_terms.specs.declared.values.Value.{Value}
use Rattle.dioc_terms.specs.declared.values.Value.TheVariants as value
use Rattle.dioc_terms.specs.declared.expressions.Oper.{Oper}
use Rattle.dioc_terms.specs.declared.expressions.Oper.TheVariants as oper
use Rattle.dioc_terms.specs.declared.processes.Tag.{Tag}
use Rattle.dioc_terms.specs.declared.processes.Tag.TheVariants.{Op, Choice, Go, Turn, Begin, End, Out}
use Rattle.dioc_terms.specs.declared.processes.Key.{Key}
use Rattle.dioc_terms.specs.declared.entries.Note.{Note}
use Rattle.dioc_terms.specs.declared.entries.Note.TheVariants as note
use Rattle.dioc_terms.specs.declared.entries.Chosen.{Chosen}
use Rattle.dioc_terms.specs.declared.entries.Chosen.TheVariants as chosen
use Rattle.dioc_terms.specs.declared.entries.Entry.{Entry}
use Rattle.dioc_terms.specs.declared.entries.Entry.TheVariants as entry
use Rattle.dioc_terms.specs.declared.bundles.Change.{Change}
use Rattle.dioc_terms.specs.declared.bundles.Change.TheVariants as change
use Rattle.dioc_terms.specs.declared.bundles.Timed.{Timed}
use Rattle.dioc_terms.specs.declared.bundles.Last.{Last}
use Rattle.dioc_terms.specs.declared.bundles.Last.TheVariants.{Ended, Stopped}
use Rattle.limits.specs.Limits.{largest, greatest_place, most_depth, most_expression_depth, most_priority}
use Rattle.dioc_terms.specs.Names.{is_name, is_reserved, is_text}
use Rattle.dioc_terms.specs.Expressions.{Expression, Const, Var, Prop, Env, Not, Neg, Bin, expression_depth}
use Rattle.dioc_terms.specs.Plain.{PlainRule, PlainBundle}
use Rattle.dioc_terms.specs.Terms.{Term, Skip, Com, Set, Input, Seq, Par, If, While, Scope, cast_of, indexed, depth}

-- a name that the grammar takes for one
abbrev pub is_identifier : List ℕ → Bool
is_identifier name = is_name name && not (is_reserved name)

-- a value that a text can spell
abbrev pub is_constant : Value → Bool
is_constant (value.Int z) = int_le (negsuc largest) z && int_le z (pos largest)
is_constant (value.Text bytes) = is_text bytes
is_constant _ = true

-- an expression of a step: over the variables of the acting role alone
abbrev pub is_step_expression : Expression → Bool
is_step_expression (Const v) = is_constant v
is_step_expression (Var x) = is_identifier x
is_step_expression (Prop x) = false
is_step_expression (Env x) = false
is_step_expression (Not e) = is_step_expression e
is_step_expression (Neg e) = is_step_expression e
is_step_expression (Bin op a b) = is_step_expression a && is_step_expression b

abbrev pub joins : Oper → Bool
joins oper.Join = true
joins _ = false

-- the condition of a rule: over properties and environment too, and no text is joined
abbrev pub is_condition : Expression → Bool
is_condition (Const v) = is_constant v
is_condition (Var x) = is_identifier x
is_condition (Prop x) = is_identifier x
is_condition (Env x) = is_identifier x
is_condition (Not e) = is_condition e
is_condition (Neg e) = is_condition e
is_condition (Bin op a b) = not (joins op) && is_condition a && is_condition b

-- such an expression, of a depth of at most 64
abbrev pub is_formed_step : Expression → Bool
is_formed_step e = is_step_expression e && nat_le (expression_depth e) most_expression_depth

abbrev pub is_formed_condition : Expression → Bool
is_formed_condition e = is_condition e && nat_le (expression_depth e) most_expression_depth

abbrev pub is_formed_role : Role → Bool
is_formed_role r = is_identifier r.0

abbrev pub is_formed_binding : List ℕ × Value → Bool
is_formed_binding pair = is_identifier pair.0 && is_constant pair.1

-- each name is one of the grammar, each expression one of a step
abbrev pub has_formed_parts : Term → Bool
has_formed_parts Skip = true
has_formed_parts (Com i o a e b x) =
    is_identifier o && is_formed_role a && is_formed_step e && is_formed_role b && is_identifier x
has_formed_parts (Set i x r e) = is_identifier x && is_formed_role r && is_formed_step e
has_formed_parts (Input i x r) = is_identifier x && is_formed_role r
has_formed_parts (Seq I J) = has_formed_parts I && has_formed_parts J
has_formed_parts (Par I J) = has_formed_parts I && has_formed_parts J
has_formed_parts (If i r g I J) =
    is_formed_role r && is_formed_step g && has_formed_parts I && has_formed_parts J
has_formed_parts (While i r g I) = is_formed_role r && is_formed_step g && has_formed_parts I
has_formed_parts (Scope i r I extra props level) =
    is_formed_role r && has_formed_parts I && list_all is_formed_role extra
    && list_all is_formed_binding props

-- no scope names further roles
abbrev pub names_no_roles : Term → Bool
names_no_roles (Seq I J) = names_no_roles I && names_no_roles J
names_no_roles (Par I J) = names_no_roles I && names_no_roles J
names_no_roles (If i r g I J) = names_no_roles I && names_no_roles J
names_no_roles (While i r g I) = names_no_roles I
names_no_roles (Scope i r I [] props level) = names_no_roles I
names_no_roles (Scope i r I (q ∷ qs) props level) = false
names_no_roles _ = true

-- a choreography of a text: with the indices that the text gives it, and not too deep
pub record IsFormedTerm (I : Term) : Type 0 where
  pub indices : I ≡ indexed I
  pub parts : has_formed_parts I ≡ true
  pub depth : depth I ≤ most_depth

pub record IsFormedRule (rule : PlainRule) : Type 0 where
  pub name : is_identifier rule.name ≡ true
  pub least : int_le (negsuc (most_priority - 1)) rule.priority ≡ true
  pub most : int_le rule.priority (pos most_priority) ≡ true
  pub condition : is_formed_condition rule.cond ≡ true
  pub body : IsFormedTerm rule.body

-- each number from the first on, so many of them
abbrev pub numbers_from : ℕ → ℕ → List ℕ
numbers_from n zero = []
numbers_from n (suc count) = n ∷ numbers_from (suc n) count

-- the rules that a script adds, in its order
abbrev pub adds : List Timed → List ℕ
adds [] = []
adds (timed ∷ rest) = with_add timed.change (adds rest)
  where
    with_add : Change → List ℕ → List ℕ
    with_add (change.Add m) ms = m ∷ ms
    with_add _ ms = ms

abbrev pub is_formed_change : Change → Bool
is_formed_change (change.Add m) = true
is_formed_change (change.Drop name) = is_identifier name
is_formed_change (change.Env key v) = is_identifier key && is_constant v

abbrev pub is_formed_timed : Timed → Bool
is_formed_timed timed = nat_le timed.after largest && is_formed_change timed.change

abbrev pub is_formed_inputs : Role × List Value → Bool
is_formed_inputs given =
    is_formed_role given.0 && nat_lt 0 (length given.1) && list_all is_constant given.1

-- whether a note is one of a message with this tag
abbrev pub note_fits : Tag → Note → Bool
note_fits (Op o) (note.Val v) = is_identifier o && is_constant v
note_fits Choice (note.Flag b) = true
note_fits Go (note.Flag b) = true
note_fits Turn note.Done = true
note_fits Begin note.Keep = true
note_fits Begin (note.Part n) = nat_le n greatest_place
note_fits End note.Done = true
note_fits Out note.Done = true
note_fits _ _ = false

-- a take has a variable exactly where its tag is an operation
abbrev pub variable_fits : Tag → Option (List ℕ) → Bool
variable_fits (Op o) (Some x) = is_identifier o && is_identifier x
variable_fits (Op o) None = false
variable_fits _ None = true
variable_fits _ (Some x) = false

abbrev pub is_formed_index : Index → Bool
is_formed_index i = nat_le i.epoch greatest_place && nat_le i.place greatest_place

abbrev pub is_formed_key : Key → Bool
is_formed_key k = is_formed_role k.from && is_formed_role k.to && is_formed_index k.index

abbrev pub is_formed_choice : Chosen → Bool
is_formed_choice chosen.Keep = true
is_formed_choice (chosen.Rule name n) = is_identifier name && nat_le n greatest_place

-- an entry that a line of a trace can be
abbrev pub is_formed_entry : Entry → Bool
is_formed_entry (entry.Put k n) = is_formed_key k && note_fits k.tag n
is_formed_entry (entry.Take k x) = is_formed_key k && variable_fits k.tag x
is_formed_entry (entry.Set i r x v) =
    is_formed_index i && is_formed_role r && is_identifier x && is_constant v
is_formed_entry (entry.Input i r x v) =
    is_formed_index i && is_formed_role r && is_identifier x && is_constant v
is_formed_entry (entry.Pick i r b) = is_formed_index i && is_formed_role r
is_formed_entry (entry.Scope i r c) = is_formed_index i && is_formed_role r && is_formed_choice c
is_formed_entry (entry.Add name) = is_identifier name
is_formed_entry (entry.Drop name) = is_identifier name
is_formed_entry (entry.Env key v) = is_identifier key && is_constant v

abbrev pub is_formed_last : Option Last → Bool
is_formed_last None = true
is_formed_last (Some (Ended n)) = nat_le n largest
is_formed_last (Some (Stopped n)) = nat_le n largest

abbrev pub has_no_priority : PlainRule → Bool
has_no_priority rule = int_eq rule.priority (pos 0) && names_no_roles rule.body

-- version 1 knows neither named roles nor priorities
abbrev pub IsOfVersion : ℕ → PlainBundle → Type 0
IsOfVersion version b =
    ((version ≡ 1) × (names_no_roles b.choreo ≡ true) × (list_all has_no_priority b.rules ≡ true))
    ⊎ (version ≡ 2)

-- a bundle that a text of some length can spell
pub record IsFormed (b : PlainBundle) : Type 0 where
  pub version : IsOfVersion b.version b
  pub cast : b.cast ≡ cast_of b.choreo
  pub choreo : IsFormedTerm b.choreo
  pub rules : All IsFormedRule b.rules
  pub opening : b.opening ≤ length b.rules
  pub added : adds b.script ≡ numbers_from b.opening (length b.rules - b.opening)
  pub env : list_all is_formed_binding b.env ≡ true
  pub inputs : list_all is_formed_inputs b.inputs ≡ true
  pub script : list_all is_formed_timed b.script ≡ true
  pub trace : list_all is_formed_entry b.trace.entries ≡ true
  pub last : is_formed_last b.trace.last ≡ true
