-- What is written of a choreography is read again.
use Rattle.std.proofs.Common.{◌≡◌, ℕ, suc, ◌+◌, ◌-◌, ◌^◌, ◌<◌, ◌≤◌, ◌⊎◌, inl, inr, Bool, true, false, ◌&&◌, nat_le, List, [], ◌∷◌, length, Some, None, pos, negsuc, refl, ap, ap₂, sym, subst, arith, codes, decimal}
use Rattle.std.specs.Option.{option_map}
use Rattle.std.specs.Prelude.{int_le}
use Rattle.std.specs.Str.{all_ascii_digits}
use Rattle.std.specs.Str.Parse.{digits_value}
use Rattle.std.proofs.lemmas.Str.Parse.{tells_all_ascii_digits, numerals_by_value}
use Rattle.std.proofs.lemmas.Fmt.{digits_value-decimal}
use Rattle.std.proofs.lemmas.Bool.Decides.{nat_tests}
use borrow.Author.Tests.{leb-true}
use Rattle.std.specs.List.{list_all, AllByRecursion}
use Rattle.dioc_terms.specs.declared.names.Role.{Role}
use Rattle.dioc_terms.specs.declared.names.Index.{Index}
use Rattle.dioc_terms.specs.declared.values.Value.{Value}
use Rattle.dioc_terms.specs.declared.values.Value.TheVariants as value
use Rattle.dioc_terms.specs.Expressions.{Expression, Const, Var, expression_depth}
use Rattle.limits.specs.Limits.{most_brackets}
use Rattle.dioc_terms.specs.Terms.{Term, Skip, Com, Set, Input, Seq, Par, If, While, Scope, constructs, depth, indexed_from}
use Rattle.dioc_terms.specs.Names as names
use Rattle.dioc_terms.specs.Bundles.{is_identifier, is_constant, is_formed_step, is_step_expression, is_formed_role, is_formed_binding, has_formed_parts, names_no_roles, IsFormedTerm}
use Rattle.aioc_tokens.specs.declared.words.Word.TheVariants as word
use Rattle.aioc_tokens.specs.declared.words.Punctuator.TheVariants as punctuator
use Rattle.aioc_tokens.specs.declared.words.Sort.{Sort}
use Rattle.aioc_tokens.specs.declared.words.Sort.TheVariants as sorts
use Rattle.aioc_tokens.specs.Lexemes.{Lexeme, Name, Reserved, Symbol, sort_of, HasSpelling, HasLexemes}
use Rattle.aioc_tokens.specs.Fronts.{Longest}
use Rattle.aioc_tokens.specs.Spelling.{spelled}
use Rattle.aioc_tokens.proofs.Written.{spelled_lexemes}
use Rattle.aioc_tokens.proofs.Readings.{one_reading}
use Rattle.expr_syntax.specs.Constants.{constant, before, greatest, greatest_negated, number_up_to, positive, negative}
use Rattle.expr_syntax.specs.Levels.{operator}
use Rattle.expr_syntax.specs.Grammar.{IsExpression}
use Rattle.expr_syntax.specs.Writing.{written_value, with_open, with_close}
use Rattle.expr_syntax.specs.Writing.{written as written_expression}
use Rattle.expr_syntax.specs.declared.levels.ExprKind.TheVariants as kind
use Rattle.expr_syntax.specs.declared.levels.Level.{Level}
use Rattle.expr_syntax.specs.declared.levels.Level.TheVariants.{Disjunction, Conjunction, Negation, Comparison, Sum, Product, Unary}
use Rattle.expr_syntax.proofs.RoundTrip.{written_all}
use Rattle.expr_syntax.proofs.RoundTrip.{written_reads as expression_reads}
use Rattle.dioc_syntax.specs.Choreographies.{NamesRoles, last_role, more_roles, HasExtraRoles, no_roles, roles, GivesProperties, last_property, more_properties, HasProperties, no_properties, properties, Choreography, Sequence, Step, Block, Otherwise, Stands, one_part, beside, one_step, in_turn, nothing, interaction, input, assignment, choice, loop, scope, group, block, otherwise, IsChoreography}
use Rattle.dioc_syntax.specs.Writing.{is_joined, is_parallel, written_names, written_roles, written_property, written_list, written_properties, written}
use Rattle.dioc_syntax.specs.Laws.{closes, FitsVersion}
use Rattle.dioc_syntax.proofs.Tables.{choreography_goes}
use Rattle.dioc_syntax.proofs.Compare.{Compared, same, further, nearer, compare}
use Rattle.dioc_syntax.proofs.Fronts.{one_choreography}

pub both_true : (a b : Bool) → a && b ≡ true → (a ≡ true) × (b ≡ true)
both_true true b is = (refl, is)
both_true false b is = absurd cc

-- indices don't change how many constructs there are
constructs_marked : (n : ℕ) (whole : Term) → constructs (indexed_from n whole) ≡ constructs whole
constructs_marked n Skip = refl
constructs_marked n (Com index operation sender value receiver variable) = refl
constructs_marked n (Set index variable owner value) = refl
constructs_marked n (Input index variable owner) = refl
constructs_marked n (Seq first second) = ap₂ (λ a b. a + b) (constructs_marked n first) (constructs_marked (n + constructs first) second)
constructs_marked n (Par first second) = ap₂ (λ a b. a + b) (constructs_marked n first) (constructs_marked (n + constructs first) second)
constructs_marked n (If index leader guard first second) = ap₂ (λ a b. suc (a + b)) (constructs_marked (suc n) first) (constructs_marked (suc n + constructs first) second)
constructs_marked n (While index leader guard inner) = ap suc (constructs_marked (suc n) inner)
constructs_marked n (Scope index leader inner extra props level) = ap suc (constructs_marked (suc n) inner)

-- what may stand behind an expression of a choreography
abbrev pub quiet : Sort → Bool
quiet sorts.End = true
quiet (sorts.Symbol punctuator.RightBrace) = true
quiet (sorts.Symbol punctuator.RightParen) = true
quiet (sorts.Symbol punctuator.Semicolon) = true
quiet (sorts.Symbol punctuator.Bar) = true
quiet (sorts.Symbol punctuator.At) = true
quiet _ = false

no_operator : (level : Level) (sort : Sort) → quiet sort ≡ true → operator kind.Step level sort ≡ None
no_operator Disjunction sort is = none sort is
  where
    none : (sort : Sort) → quiet sort ≡ true → operator kind.Step Disjunction sort ≡ None
    none (sorts.Reserved word) is = absurd cc
    none (sorts.Symbol sign) is = refl
    none _ is = refl
no_operator Conjunction sort is = none sort is
  where
    none : (sort : Sort) → quiet sort ≡ true → operator kind.Step Conjunction sort ≡ None
    none (sorts.Reserved word) is = absurd cc
    none (sorts.Symbol sign) is = refl
    none _ is = refl
no_operator Negation sort is = none sort
  where
    none : (sort : Sort) → operator kind.Step Negation sort ≡ None
    none (sorts.Reserved word) = refl
    none (sorts.Symbol sign) = refl
    none _ = refl
no_operator Comparison sort is = none sort is
  where
    none : (sort : Sort) → quiet sort ≡ true → operator kind.Step Comparison sort ≡ None
    none (sorts.Symbol punctuator.RightBrace) is = refl
    none (sorts.Symbol punctuator.RightParen) is = refl
    none (sorts.Symbol punctuator.Semicolon) is = refl
    none (sorts.Symbol punctuator.Bar) is = refl
    none (sorts.Symbol punctuator.At) is = refl
    none (sorts.Symbol _) is = absurd cc
    none _ is = refl
no_operator Sum sort is = none sort is
  where
    none : (sort : Sort) → quiet sort ≡ true → operator kind.Step Sum sort ≡ None
    none (sorts.Symbol punctuator.RightBrace) is = refl
    none (sorts.Symbol punctuator.RightParen) is = refl
    none (sorts.Symbol punctuator.Semicolon) is = refl
    none (sorts.Symbol punctuator.Bar) is = refl
    none (sorts.Symbol punctuator.At) is = refl
    none (sorts.Symbol _) is = absurd cc
    none _ is = refl
no_operator Product sort is = none sort is
  where
    none : (sort : Sort) → quiet sort ≡ true → operator kind.Step Product sort ≡ None
    none (sorts.Symbol punctuator.RightBrace) is = refl
    none (sorts.Symbol punctuator.RightParen) is = refl
    none (sorts.Symbol punctuator.Semicolon) is = refl
    none (sorts.Symbol punctuator.Bar) is = refl
    none (sorts.Symbol punctuator.At) is = refl
    none (sorts.Symbol _) is = absurd cc
    none _ is = refl
no_operator Unary sort is = none sort
  where
    none : (sort : Sort) → operator kind.Step Unary sort ≡ None
    none (sorts.Reserved word) = refl
    none (sorts.Symbol sign) = refl
    none _ = refl

pub expression_stands : (e : Expression) (room : ℕ) (others : List Lexeme) → is_formed_step e ≡ true → 63 ≤ room → quiet (sort_of others) ≡ true → IsExpression kind.Step room (written_expression e others) e others
expression_stands e room others formed roomy calm = (expression_reads kind.Step e room others formed roomy (λ level. no_operator level (sort_of others) calm)).reads

-- the optional parts of a scope
names_stand : (first : Role) (rest : List Role) (others : List Lexeme) → NamesRoles (written_names (first ∷ rest) others) (first ∷ rest) others
names_stand first [] others = last_role {name = first.0} refl
names_stand first (next ∷ rest) others = more_roles {name = first.0} refl (names_stand next rest others)

roles_stand : (version : ℕ) (extra : List Role) (others : List Lexeme) → (version ≡ 2) ⊎ (extra ≡ []) → HasExtraRoles version (written_roles extra others) extra others
roles_stand version [] others fits = no_roles
roles_stand version (first ∷ rest) others (inl two) = roles two refl (names_stand first rest (Symbol punctuator.RightBrace ∷ others)) refl
roles_stand version (first ∷ rest) others (inr none) = absurd cc

pub decimal_number : (most n : ℕ) → n < 2 ^ 64 → n ≤ most → number_up_to most (decimal n) ≡ Some n
decimal_number most n fits small =
    let value : digits_value 10 (decimal n) ≡ n = digits_value-decimal (numerals_by_value (λ digits. all_ascii_digits digits ≡ true) tells_all_ascii_digits) n fits in
    rw value (grind (arith, nat_tests))

pub value_stands : (v : Value) (others : List Lexeme) → is_constant v ≡ true → constant (written_value v others) ≡ Some (before others v)
value_stands value.Nil others is = refl
value_stands (value.Bool true) others is = refl
value_stands (value.Bool false) others is = refl
value_stands (value.Int (pos n)) others is = ap (option_map (λ n. before others (positive n))) (let small : n ≤ greatest = leb-true n greatest is in decimal_number greatest n (omega arith) small)
value_stands (value.Int (negsuc n)) others is =
    ap (option_map (λ n. before others (negative n)))
    (let small : n ≤ greatest = leb-true n greatest (both_true (int_le (negsuc greatest) (negsuc n)) true is).0 in decimal_number greatest_negated (suc n) (omega arith) (omega arith))
value_stands (value.Text bytes) others is = refl

list_stands : (first : List ℕ × Value) (rest : List (List ℕ × Value)) (others : List Lexeme) → list_all is_formed_binding (first ∷ rest) ≡ true → GivesProperties (written_list (first ∷ rest) others) (first ∷ rest) others
list_stands first [] others is =
    let parts = both_true (is_formed_binding first) true is in
    let bound = both_true (is_identifier first.0) (is_constant first.1) parts.0 in
    last_property {key = first.0} refl (value_stands first.1 others bound.1)
list_stands first (next ∷ rest) others is =
    let parts = both_true (is_formed_binding first) (list_all is_formed_binding (next ∷ rest)) is in
    let bound = both_true (is_identifier first.0) (is_constant first.1) parts.0 in
    more_properties {key = first.0} refl (value_stands first.1 (Symbol punctuator.Comma ∷ written_list (next ∷ rest) others) bound.1) refl (list_stands next rest others parts.1)

properties_stand : (props : List (List ℕ × Value)) (others : List Lexeme) → list_all is_formed_binding props ≡ true → HasProperties (written_properties props others) props others
properties_stand [] others is = no_properties
properties_stand (first ∷ rest) others is = properties refl (list_stands first rest (Symbol punctuator.RightBrace ∷ others) is) refl

-- how a written choreography stands: as a step, as a sequence, and as a whole
record StandsWritten (version room earlier : ℕ) (whole : Term) (others : List Lexeme) : Type 0 where
  step : is_joined whole ≡ false → Stands version Step room earlier (written whole others) (indexed_from earlier whole) others
  sequence : is_parallel whole ≡ false → Stands version Sequence room earlier (written whole others) (indexed_from earlier whole) others
  full : Stands version Choreography room earlier (written whole others) (indexed_from earlier whole) others

step_stands : {version room earlier : ℕ} {whole : Term} {others : List Lexeme} → Stands version Step room earlier (written whole others) (indexed_from earlier whole) others → StandsWritten version room earlier whole others
step_stands r = record { step = λ is. r; sequence = λ is. one_step r; full = one_part (one_step r) }

-- a part, in brackets where it needs them
bracketed_stands : (version room earlier : ℕ) (whole : Term) (others : List Lexeme) → 0 < room → StandsWritten version (room - 1) earlier whole (Symbol punctuator.RightParen ∷ others)
    → Stands version Step room earlier (Symbol punctuator.LeftParen ∷ written whole (Symbol punctuator.RightParen ∷ others)) (indexed_from earlier whole) others
bracketed_stands version room earlier whole others roomy inside = group {left = room - 1} (omega arith) refl inside.full refl

block_stands : (version room earlier : ℕ) (whole : Term) (others : List Lexeme) → 0 < room → StandsWritten version (room - 1) earlier whole (Symbol punctuator.RightBrace ∷ others)
    → Stands version Block room earlier (Symbol punctuator.LeftBrace ∷ written whole (Symbol punctuator.RightBrace ∷ others)) (indexed_from earlier whole) others
block_stands version room earlier whole others roomy inside = block {left = room - 1} (omega arith) refl inside.full refl

step_part : (bracketed : Bool) (version room earlier : ℕ) (whole : Term) (others : List Lexeme) → 0 < room
    → (bracketed ≡ false → Stands version Step room earlier (written whole others) (indexed_from earlier whole) others)
    → (bracketed ≡ true → StandsWritten version (room - 1) earlier whole (Symbol punctuator.RightParen ∷ others))
    → Stands version Step room earlier (with_open bracketed (written whole (with_close bracketed others))) (indexed_from earlier whole) others
step_part false version room earlier whole others roomy simple held = simple refl
step_part true version room earlier whole others roomy simple held = bracketed_stands version room earlier whole others roomy (held refl)

sequence_part : (bracketed : Bool) (version room earlier : ℕ) (whole : Term) (others : List Lexeme) → 0 < room
    → (bracketed ≡ false → Stands version Sequence room earlier (written whole others) (indexed_from earlier whole) others)
    → (bracketed ≡ true → StandsWritten version (room - 1) earlier whole (Symbol punctuator.RightParen ∷ others))
    → Stands version Sequence room earlier (with_open bracketed (written whole (with_close bracketed others))) (indexed_from earlier whole) others
sequence_part false version room earlier whole others roomy simple held = simple refl
sequence_part true version room earlier whole others roomy simple held = one_step (bracketed_stands version room earlier whole others roomy (held refl))

-- what fits a version in all fits it in each part
fits_left : (version : ℕ) (a b : Bool) → (version ≡ 2) ⊎ (a && b ≡ true) → (version ≡ 2) ⊎ (a ≡ true)
fits_left version a b (inl two) = inl two
fits_left version a b (inr none) = inr (both_true a b none).0

fits_right : (version : ℕ) (a b : Bool) → (version ≡ 2) ⊎ (a && b ≡ true) → (version ≡ 2) ⊎ (b ≡ true)
fits_right version a b (inl two) = inl two
fits_right version a b (inr none) = inr (both_true a b none).1

fits_scope : (version : ℕ) (index : Index) (leader : Role) (inner : Term) (extra : List Role) (props : List (List ℕ × Value)) (level : ℕ) → FitsVersion version (Scope index leader inner extra props level)
    → FitsVersion version inner × ((version ≡ 2) ⊎ (extra ≡ []))
fits_scope version index leader inner extra props level (inl two) = (inl two, inl two)
fits_scope version index leader inner [] props level (inr none) = (inr none, inr refl)
fits_scope version index leader inner (first ∷ rest) props level (inr none) = absurd cc

-- each bracket that is open holds a term that is less deep, and 63 more may be open in an expression inside the last one
written_stands : (version : ℕ) (whole : Term) (room earlier : ℕ) (others : List Lexeme) → has_formed_parts whole ≡ true → FitsVersion version whole → depth whole + 63 ≤ room → quiet (sort_of others) ≡ true
    → StandsWritten version room earlier whole others
written_stands version Skip room earlier others formed fits roomy calm = step_stands (nothing refl)
written_stands version (Com index operation sender value receiver variable) room earlier others formed fits roomy calm =
    let tail = Symbol punctuator.RightParen ∷ Symbol punctuator.Arrow ∷ Name receiver.0 ∷ Symbol punctuator.LeftParen ∷ Name variable ∷ Symbol punctuator.RightParen ∷ others in
    let one = both_true (is_identifier operation && is_formed_role sender && is_formed_step value && is_formed_role receiver) (is_identifier variable) formed in
    let two = both_true (is_identifier operation && is_formed_role sender && is_formed_step value) (is_formed_role receiver) one.0 in
    let three = both_true (is_identifier operation && is_formed_role sender) (is_formed_step value) two.0 in
    step_stands (interaction {left = room - 1} {sender = sender.0} {receiver = receiver.0} (omega arith) refl (expression_stands value (room - 1) tail three.1 (omega arith) refl) refl)
written_stands version (Set index variable owner value) room earlier others formed fits roomy calm =
    let one = both_true (is_identifier variable && is_formed_role owner) (is_formed_step value) formed in
    step_stands (assignment {owner = owner.0} refl (expression_stands value room others one.1 (omega arith) calm))
written_stands version (Input index variable owner) room earlier others formed fits roomy calm = step_stands (input {left = room - 1} {owner = owner.0} (omega arith) refl)
written_stands version (Seq first second) room earlier others formed fits roomy calm =
    let parts = both_true (has_formed_parts first) (has_formed_parts second) formed in
    let fits_first = fits_left version (names_no_roles first) (names_no_roles second) fits in
    let fits_second = fits_right version (names_no_roles first) (names_no_roles second) fits in
    let places = earlier + constructs first in
    let right = with_open (is_parallel second) (written second (with_close (is_parallel second) others)) in
    let r = step_part (is_joined first) version room earlier first (Symbol punctuator.Semicolon ∷ right) (omega arith)
    (λ simple. (written_stands version first room earlier (Symbol punctuator.Semicolon ∷ right) parts.0 fits_first (omega arith) refl).step simple)
    (λ held. written_stands version first (room - 1) earlier (Symbol punctuator.RightParen ∷ Symbol punctuator.Semicolon ∷ right) parts.0 fits_first (omega arith) refl) in
    let s = sequence_part (is_parallel second) version room places second others (omega arith)
    (λ simple. (written_stands version second room places others parts.1 fits_second (omega arith) calm).sequence simple)
    (λ held. written_stands version second (room - 1) places (Symbol punctuator.RightParen ∷ others) parts.1 fits_second (omega arith) refl) in
    let whole = in_turn r refl (subst (λ n. Stands version Sequence room n right (indexed_from places second) others) (ap (λ n. earlier + n) (sym (constructs_marked earlier first))) s) in
    record { step = λ is. absurd cc; sequence = λ is. whole; full = one_part whole }
written_stands version (Par first second) room earlier others formed fits roomy calm =
    let parts = both_true (has_formed_parts first) (has_formed_parts second) formed in
    let fits_first = fits_left version (names_no_roles first) (names_no_roles second) fits in
    let fits_second = fits_right version (names_no_roles first) (names_no_roles second) fits in
    let places = earlier + constructs first in
    let right = written second others in
    let r = sequence_part (is_parallel first) version room earlier first (Symbol punctuator.Bar ∷ right) (omega arith)
    (λ simple. (written_stands version first room earlier (Symbol punctuator.Bar ∷ right) parts.0 fits_first (omega arith) refl).sequence simple)
    (λ held. written_stands version first (room - 1) earlier (Symbol punctuator.RightParen ∷ Symbol punctuator.Bar ∷ right) parts.0 fits_first (omega arith) refl) in
    let s = (written_stands version second room places others parts.1 fits_second (omega arith) calm).full in
    let whole = beside r refl (subst (λ n. Stands version Choreography room n right (indexed_from places second) others) (ap (λ n. earlier + n) (sym (constructs_marked earlier first))) s) in
    record { step = λ is. absurd cc; sequence = λ is. absurd cc; full = whole }
written_stands version (If index leader guard first second) room earlier others formed fits roomy calm =
    let one = both_true (is_formed_role leader && is_formed_step guard && has_formed_parts first) (has_formed_parts second) formed in
    let two = both_true (is_formed_role leader && is_formed_step guard) (has_formed_parts first) one.0 in
    let three = both_true (is_formed_role leader) (is_formed_step guard) two.0 in
    let fits_first = fits_left version (names_no_roles first) (names_no_roles second) fits in
    let fits_second = fits_right version (names_no_roles first) (names_no_roles second) fits in
    let places = suc earlier + constructs first in
    let other = Symbol punctuator.LeftBrace ∷ written second (Symbol punctuator.RightBrace ∷ others) in
    let behind = Reserved word.Else ∷ other in
    let r = block_stands version room (suc earlier) first behind (omega arith)
    (written_stands version first (room - 1) (suc earlier) (Symbol punctuator.RightBrace ∷ behind) two.1 fits_first (omega arith) refl) in
    let s = block_stands version room places second others (omega arith)
    (written_stands version second (room - 1) places (Symbol punctuator.RightBrace ∷ others) one.1 fits_second (omega arith) refl) in
    step_stands
    (choice {leader = leader.0} refl
    (expression_stands guard room (Symbol punctuator.At ∷ Name leader.0 ∷ Symbol punctuator.LeftBrace ∷ written first (Symbol punctuator.RightBrace ∷ behind)) three.1 (omega arith) refl) refl r
    (subst (λ n. Stands version Otherwise room n behind (indexed_from places second) others) (ap (λ n. suc earlier + n) (sym (constructs_marked (suc earlier) first))) (otherwise refl s)))
written_stands version (While index leader guard inner) room earlier others formed fits roomy calm =
    let one = both_true (is_formed_role leader && is_formed_step guard) (has_formed_parts inner) formed in
    let two = both_true (is_formed_role leader) (is_formed_step guard) one.0 in
    let r = block_stands version room (suc earlier) inner others (omega arith)
    (written_stands version inner (room - 1) (suc earlier) (Symbol punctuator.RightBrace ∷ others) one.1 fits (omega arith) refl) in
    step_stands
    (loop {leader = leader.0} refl
    (expression_stands guard room (Symbol punctuator.At ∷ Name leader.0 ∷ Symbol punctuator.LeftBrace ∷ written inner (Symbol punctuator.RightBrace ∷ others)) two.1 (omega arith) refl) refl r)
written_stands version (Scope index leader inner extra props level) room earlier others formed fits roomy calm =
    let one = both_true (is_formed_role leader && has_formed_parts inner && list_all is_formed_role extra) (list_all is_formed_binding props) formed in
    let two = both_true (is_formed_role leader && has_formed_parts inner) (list_all is_formed_role extra) one.0 in
    let three = both_true (is_formed_role leader) (has_formed_parts inner) two.0 in
    let scoped = fits_scope version index leader inner extra props level fits in
    let tail = written_roles extra (written_properties props others) in
    let r = block_stands version room (suc earlier) inner tail (omega arith)
    (written_stands version inner (room - 1) (suc earlier) (Symbol punctuator.RightBrace ∷ tail) three.1 scoped.0 (omega arith) refl) in
    step_stands (scope {leader = leader.0} refl r (roles_stand version extra (written_properties props others) scoped.1) (properties_stand props others one.1))

longest_go : {whole other : Term} {to end : List Lexeme} → choreography_goes (sort_of to) ≡ false → Compared choreography_goes whole other to end → length to ≤ length end
longest_go stops (same is at) = omega (arith, ap length at)
longest_go stops (further less going) = absurd cc
longest_go stops (nearer less going) = omega arith

closes_quiet : (sort : Sort) → closes sort ≡ true → (quiet sort ≡ true) × (choreography_goes sort ≡ false)
closes_quiet sorts.End is = (refl, refl)
closes_quiet (sorts.Symbol punctuator.RightBrace) is = (refl, refl)
closes_quiet (sorts.Symbol punctuator.RightParen) is = (refl, refl)
closes_quiet _ is = absurd cc

pub written_reads : (version : ℕ) (whole : Term) (room : ℕ) (others : List Lexeme) → IsFormedTerm whole → FitsVersion version whole → 319 ≤ room → closes (sort_of others) ≡ true
    → Longest (IsChoreography version room (written whole others)) whole others
written_reads version whole room others formed fits roomy closed_is =
    let shallow = formed.depth in
    let calm = closes_quiet (sort_of others) closed_is in
    let r = subst (λ term. Stands version Choreography room 0 (written whole others) term others) (sym formed.indices) (written_stands version whole room 0 others formed.parts fits (omega arith) calm.0).full in
    record {
      reads = record { stands = r; shallow = shallow };
      longest = λ other end is. longest_go calm.1 (compare r room 0 (written whole others) end other refl refl refl is.stands);
    }

-- each lexeme of what is written has a spelling
name_spelled : (name : List ℕ) → is_identifier name ≡ true → HasSpelling (Name name)
name_spelled name is = (written_all kind.Step (Var name) [] is tt).0

pub value_spelled : (v : Value) (others : List Lexeme) → is_constant v ≡ true → AllByRecursion HasSpelling others → AllByRecursion HasSpelling (written_value v others)
value_spelled v others is rest = written_all kind.Step (Const v) others is rest

expression_spelled : (e : Expression) (others : List Lexeme) → is_formed_step e ≡ true → AllByRecursion HasSpelling others → AllByRecursion HasSpelling (written_expression e others)
expression_spelled e others is rest = written_all kind.Step e others (both_true (is_step_expression e) (nat_le (expression_depth e) 64) is).0 rest

opened_all : (bracketed : Bool) (others : List Lexeme) → AllByRecursion HasSpelling others → AllByRecursion HasSpelling (with_open bracketed others)
opened_all true others rest = (tt, rest)
opened_all false others rest = rest

closed_all : (bracketed : Bool) (others : List Lexeme) → AllByRecursion HasSpelling others → AllByRecursion HasSpelling (with_close bracketed others)
closed_all true others rest = (tt, rest)
closed_all false others rest = rest

names_all : (first : Role) (rest : List Role) (others : List Lexeme) → list_all is_formed_role (first ∷ rest) ≡ true → AllByRecursion HasSpelling others → AllByRecursion HasSpelling (written_names (first ∷ rest) others)
names_all first [] others is behind = (name_spelled first.0 (both_true (is_formed_role first) true is).0, behind)
names_all first (next ∷ rest) others is behind =
    let parts = both_true (is_formed_role first) (list_all is_formed_role (next ∷ rest)) is in
    (name_spelled first.0 parts.0, (tt, names_all next rest others parts.1 behind))

-- `roles` is no reserved word
roles_free : is_identifier (codes "roles") ≡ true
unfolding names.is_reserved names.reserved_words
roles_free = refl

roles_all : (extra : List Role) (others : List Lexeme) → list_all is_formed_role extra ≡ true → AllByRecursion HasSpelling others → AllByRecursion HasSpelling (written_roles extra others)
roles_all [] others is behind = behind
roles_all (first ∷ rest) others is behind = (name_spelled (codes "roles") roles_free, (tt, names_all first rest (Symbol punctuator.RightBrace ∷ others) is (tt, behind)))

property_all : (property : List ℕ × Value) (others : List Lexeme) → is_formed_binding property ≡ true → AllByRecursion HasSpelling others → AllByRecursion HasSpelling (written_property property others)
property_all property others is behind =
    let parts = both_true (is_identifier property.0) (is_constant property.1) is in
    (tt, (tt, (name_spelled property.0 parts.0, (tt, value_spelled property.1 others parts.1 behind))))

list_all_spelled : (first : List ℕ × Value) (rest : List (List ℕ × Value)) (others : List Lexeme) → list_all is_formed_binding (first ∷ rest) ≡ true → AllByRecursion HasSpelling others
    → AllByRecursion HasSpelling (written_list (first ∷ rest) others)
list_all_spelled first [] others is behind = property_all first others (both_true (is_formed_binding first) true is).0 behind
list_all_spelled first (next ∷ rest) others is behind =
    let parts = both_true (is_formed_binding first) (list_all is_formed_binding (next ∷ rest)) is in
    property_all first (Symbol punctuator.Comma ∷ written_list (next ∷ rest) others) parts.0 (tt, list_all_spelled next rest others parts.1 behind)

properties_all : (props : List (List ℕ × Value)) (others : List Lexeme) → list_all is_formed_binding props ≡ true → AllByRecursion HasSpelling others → AllByRecursion HasSpelling (written_properties props others)
properties_all [] others is behind = behind
properties_all (first ∷ rest) others is behind = (tt, (tt, list_all_spelled first rest (Symbol punctuator.RightBrace ∷ others) is (tt, behind)))

pub written_spellings : (whole : Term) (others : List Lexeme) → has_formed_parts whole ≡ true → AllByRecursion HasSpelling others → AllByRecursion HasSpelling (written whole others)
written_spellings Skip others formed rest = (tt, rest)
written_spellings (Com index operation sender value receiver variable) others formed rest =
    let one = both_true (is_identifier operation && is_formed_role sender && is_formed_step value && is_formed_role receiver) (is_identifier variable) formed in
    let two = both_true (is_identifier operation && is_formed_role sender && is_formed_step value) (is_formed_role receiver) one.0 in
    let three = both_true (is_identifier operation && is_formed_role sender) (is_formed_step value) two.0 in
    let four = both_true (is_identifier operation) (is_formed_role sender) three.0 in (
      name_spelled operation four.0,
      (
        tt,
        (
          name_spelled sender.0 four.1,
          (
            tt,
            expression_spelled value
                (Symbol punctuator.RightParen ∷ Symbol punctuator.Arrow ∷ Name receiver.0 ∷ Symbol punctuator.LeftParen ∷ Name variable ∷ Symbol punctuator.RightParen ∷ others) three.1
                (tt, (tt, (name_spelled receiver.0 two.1, (tt, (name_spelled variable one.1, (tt, rest)))))),
          ),
        ),
      ),
    )
written_spellings (Set index variable owner value) others formed rest =
    let one = both_true (is_identifier variable && is_formed_role owner) (is_formed_step value) formed in
    let two = both_true (is_identifier variable) (is_formed_role owner) one.0 in
    (name_spelled variable two.0, (tt, (name_spelled owner.0 two.1, (tt, expression_spelled value others one.1 rest))))
written_spellings (Input index variable owner) others formed rest =
    let two = both_true (is_identifier variable) (is_formed_role owner) formed in
    (name_spelled variable two.0, (tt, (name_spelled owner.0 two.1, (tt, (tt, (tt, (tt, rest)))))))
written_spellings (Seq first second) others formed rest =
    let parts = both_true (has_formed_parts first) (has_formed_parts second) formed in
    let right = with_open (is_parallel second) (written second (with_close (is_parallel second) others)) in
    opened_all (is_joined first) (written first (with_close (is_joined first) (Symbol punctuator.Semicolon ∷ right)))
    (written_spellings first (with_close (is_joined first) (Symbol punctuator.Semicolon ∷ right)) parts.0
    (closed_all (is_joined first) (Symbol punctuator.Semicolon ∷ right)
    (tt, opened_all (is_parallel second) (written second (with_close (is_parallel second) others)) (written_spellings second (with_close (is_parallel second) others) parts.1 (closed_all (is_parallel second) others rest)))))
written_spellings (Par first second) others formed rest =
    let parts = both_true (has_formed_parts first) (has_formed_parts second) formed in
    let right = written second others in
    opened_all (is_parallel first) (written first (with_close (is_parallel first) (Symbol punctuator.Bar ∷ right)))
    (written_spellings first (with_close (is_parallel first) (Symbol punctuator.Bar ∷ right)) parts.0 (closed_all (is_parallel first) (Symbol punctuator.Bar ∷ right) (tt, written_spellings second others parts.1 rest)))
written_spellings (If index leader guard first second) others formed rest =
    let one = both_true (is_formed_role leader && is_formed_step guard && has_formed_parts first) (has_formed_parts second) formed in
    let two = both_true (is_formed_role leader && is_formed_step guard) (has_formed_parts first) one.0 in
    let three = both_true (is_formed_role leader) (is_formed_step guard) two.0 in
    let behind = Symbol punctuator.RightBrace ∷ Reserved word.Else ∷ Symbol punctuator.LeftBrace ∷ written second (Symbol punctuator.RightBrace ∷ others) in (
      tt,
      expression_spelled guard (Symbol punctuator.At ∷ Name leader.0 ∷ Symbol punctuator.LeftBrace ∷ written first behind) three.1
          (tt, (name_spelled leader.0 three.0, (tt, written_spellings first behind two.1 (tt, (tt, (tt, written_spellings second (Symbol punctuator.RightBrace ∷ others) one.1 (tt, rest))))))),
    )
written_spellings (While index leader guard inner) others formed rest =
    let one = both_true (is_formed_role leader && is_formed_step guard) (has_formed_parts inner) formed in
    let two = both_true (is_formed_role leader) (is_formed_step guard) one.0 in (
      tt,
      expression_spelled guard (Symbol punctuator.At ∷ Name leader.0 ∷ Symbol punctuator.LeftBrace ∷ written inner (Symbol punctuator.RightBrace ∷ others)) two.1
          (tt, (name_spelled leader.0 two.0, (tt, written_spellings inner (Symbol punctuator.RightBrace ∷ others) one.1 (tt, rest)))),
    )
written_spellings (Scope index leader inner extra props level) others formed rest =
    let one = both_true (is_formed_role leader && has_formed_parts inner && list_all is_formed_role extra) (list_all is_formed_binding props) formed in
    let two = both_true (is_formed_role leader && has_formed_parts inner) (list_all is_formed_role extra) one.0 in
    let three = both_true (is_formed_role leader) (has_formed_parts inner) two.0 in
    let tail = written_roles extra (written_properties props others) in
    (tt, (tt, (name_spelled leader.0 three.0, (tt, written_spellings inner (Symbol punctuator.RightBrace ∷ tail) three.1 (tt, roles_all extra (written_properties props others) two.1 (properties_all props others one.1 rest))))))

pub written_lexemes : (whole : Term) → has_formed_parts whole ≡ true → HasLexemes (spelled (written whole [])) (written whole [])
written_lexemes whole formed = spelled_lexemes (written whole []) (written_spellings whole [] formed tt)

pub written_text : (version : ℕ) (whole : Term) (found : List Lexeme) → IsFormedTerm whole → FitsVersion version whole → HasLexemes (spelled (written whole [])) found
    → Longest (IsChoreography version most_brackets found) whole [] × ((other : Term) (to : List Lexeme) → Longest (IsChoreography version most_brackets found) other to → other ≡ whole)
written_text version whole found formed fits has =
    let same = one_reading (spelled (written whole [])) (written whole []) found (written_lexemes whole formed.parts) has in
    let front = subst (λ list. Longest (IsChoreography version most_brackets list) whole []) same (written_reads version whole most_brackets [] formed fits (omega arith) refl) in
    (front, λ other to read. sym (one_choreography version most_brackets found [] to whole other front read).0)
