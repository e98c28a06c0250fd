-- Two terms that stand at one place in one form: they are the same, or behind the shorter one stands a token that can go on.
use Rattle.std.proofs.Common.{◌≡◌, ℕ, suc, ◌+◌, ◌<◌, Bool, true, false, List, [], ◌∷◌, length, drop, Some, refl, ap, sym, ◌∙◌, arith}
use Rattle.dioc_terms.specs.declared.names.Role.{Role}
use Rattle.dioc_terms.specs.declared.values.Value.{Value}
use Rattle.dioc_terms.specs.Expressions.{Expression}
use Rattle.dioc_terms.specs.Terms.{Term, Com, Set, Input, Seq, Par, If, While, Scope, constructs, index_at}
use Rattle.aioc_tokens.specs.declared.words.Word.TheVariants as word
use Rattle.aioc_tokens.specs.declared.words.Punctuator.TheVariants as punctuator
use Rattle.aioc_tokens.specs.declared.words.Sort.{Sort}
use Rattle.aioc_tokens.specs.declared.words.Sort.TheVariants as sorts
use Rattle.aioc_tokens.specs.Lexemes.{Lexeme, Name, Reserved, Symbol, sort_of}
use Rattle.expr_syntax.specs.Constants.{constant}
use Rattle.expr_syntax.specs.Grammar.{Reads, chain, denied, not_denied, alone, compared, single, negated, bracketed, leaf, IsExpression}
use Rattle.expr_syntax.specs.declared.levels.ExprKind.TheVariants as kind
use Rattle.expr_syntax.specs.declared.levels.Level.{Level}
use Rattle.expr_syntax.specs.declared.levels.Level.TheVariants.{Disjunction}
use Rattle.expr_syntax.proofs.LeafFacts.{same_pair}
use Rattle.expr_syntax.proofs.Tables as expressions
use Rattle.expr_syntax.proofs.Compare as expression
use Rattle.dioc_syntax.specs.Choreographies.{role, NamesRoles, last_role, more_roles, HasExtraRoles, no_roles, roles, GivesProperties, last_property, more_properties, HasProperties, no_properties, empty_properties, properties, Form, Choreography, Sequence, Step, Stands, one_part, beside, one_step, last_step, in_turn, nothing, interaction, input, assignment, choice, loop, scope, group, block, no_else, otherwise}
use Rattle.dioc_syntax.proofs.Shorter.{named_shorter, given_shorter, properties_shorter, stands_shorter}
use Rattle.dioc_syntax.proofs.Tables.{is_else, is_prop, is_name, is_comma, begins_step, step_goes, sequence_goes, choreography_goes, goes, else_step, prop_step, name_step, operator_step, step_sequence, first_sequence, sequence_choreography}

-- how two values compare that are read up to these rests of the list
pub data Compared {A : Type 0} (more : Sort → Bool) (whole other : A) (to end : List Lexeme) : Type 0 where
  same : whole ≡ other → to ≡ end → Compared more whole other to end
  further : length end < length to → more (sort_of to) ≡ true → Compared more whole other to end
  nearer : length to < length end → more (sort_of end) ≡ true → Compared more whole other to end

pub flip : {A : Type 0} {more : Sort → Bool} {whole other : A} {to end : List Lexeme} → Compared more whole other to end → Compared more other whole end to
flip (same is at) = same (sym is) (sym at)
flip (further less going) = nearer less going
flip (nearer less going) = further less going

-- parts that compare, with more tokens that go on
pub widen : {A B : Type 0} {tight wide : Sort → Bool} {left right : A} {whole other : B} {to end : List Lexeme} → ((sort : Sort) → tight sort ≡ true → wide sort ≡ true) → (left ≡ right → whole ≡ other)
    → Compared tight left right to end → Compared wide whole other to end
widen wider parts (same is at) = same (parts is) at
widen {to = to} wider parts (further less going) = further less (wider (sort_of to) going)
widen {end = end} wider parts (nearer less going) = nearer less (wider (sort_of end) going)

-- two parts that tokens follow which don't go on
pub settle : {A : Type 0} {more : Sort → Bool} {left right : A} {middle middle2 : List Lexeme} → Compared more left right middle middle2 → more (sort_of middle) ≡ false → more (sort_of middle2) ≡ false
    → (left ≡ right) × (middle ≡ middle2)
settle (same is at) stops stops2 = (is, at)
settle (further less going) stops stops2 = absurd cc
settle (nearer less going) stops stops2 = absurd cc

-- a part alone, and a part with something behind it
longer : {A B : Type 0} {tight wide : Sort → Bool} {part first : A} {whole other : B} {to middle end : List Lexeme} → ((sort : Sort) → tight sort ≡ true → wide sort ≡ true) → Compared tight part first to middle
    → tight (sort_of middle) ≡ false → wide (sort_of middle) ≡ true → length end < length middle → Compared wide whole other to end
longer {wide = wide} wider (same is at) stops going less = further (omega (arith, ap length at)) (ap (λ rest. wide (sort_of rest)) at ∙ going)
longer {to = to} wider (further before more) stops going less = further (omega arith) (wider (sort_of to) more)
longer wider (nearer before more) stops going less = absurd cc

-- a list that begins alike goes on alike
pub behind_is : {first first2 : Lexeme} {middle middle2 behind behind2 : List Lexeme} → middle ≡ middle2 → middle ≡ first ∷ behind → middle2 ≡ first2 ∷ behind2 → behind ≡ behind2
behind_is at ends ends2 = ap (drop 1) (sym ends ∙ at ∙ ends2)

-- expressions
pub expression_compared : {room room2 : ℕ} {from from2 to end : List Lexeme} {whole other : Expression} → room ≡ room2 → from ≡ from2 → IsExpression kind.Step room from whole to → IsExpression kind.Step room2 from2 other end
    → Compared (expressions.goes kind.Step Disjunction) whole other to end
expression_compared {room} {room2} {from} {from2} {to} {end} {whole} {other} rooms froms is is2 = go (expression.compare is.reads room2 from2 end other rooms froms is2.reads)
  where
    go : expression.Compared kind.Step Disjunction whole other to end → Compared (expressions.goes kind.Step Disjunction) whole other to end
    go (expression.same equal at) = same equal at
    go (expression.further less going) = further less going
    go (expression.nearer less going) = nearer less going

-- no expression begins with `input`
pub no_input : {level : Level} {room : ℕ} {from to : List Lexeme} {whole : Expression} → Reads kind.Step level room from whole to → (inside : List Lexeme) → from ≡ Reserved word.Input ∷ inside → ⊥
no_input (chain chains r f) inside begins = no_input r inside begins
no_input (denied begins2 r) inside begins = cc
no_input (not_denied r) inside begins = no_input r inside begins
no_input (alone r) inside begins = no_input r inside begins
no_input (compared r o s) inside begins = no_input r inside begins
no_input (single found) inside begins = cc (ap (leaf kind.Step) begins)
no_input (negated begins2 minus r) inside begins = cc
no_input (bracketed rooms begins2 r ends) inside begins = cc

-- roles
pub named_compared : {from to : List Lexeme} {names : List Role} → NamesRoles from names to → (from2 end : List Lexeme) (other : List Role) → from ≡ from2 → NamesRoles from2 other end → Compared is_comma names other to end
named_compared (last_role {to = to} {name = name} begins) from2 end other from_is (last_role {name = name2} begins2) =
    let names : name ≡ name2 = cc in
    let rests : to ≡ end = cc in
    same (λ i. role (names i) ∷ []) rests
named_compared (last_role {to = to} begins) from2 end other from_is (more_roles {others = others2} begins2 r2) =
    let at : to ≡ Symbol punctuator.Comma ∷ others2 = cc in
    let less = named_shorter r2 in
    further (omega (arith, ap length at)) (ap (λ rest. is_comma (sort_of rest)) at)
named_compared (more_roles {others = others} begins r) from2 end other from_is (last_role begins2) =
    let at : end ≡ Symbol punctuator.Comma ∷ others = cc in
    let less = named_shorter r in
    nearer (omega (arith, ap length at)) (ap (λ rest. is_comma (sort_of rest)) at)
named_compared (more_roles {others = others} {name = name} begins r) from2 end other from_is (more_roles {others = others2} {name = name2} {rest = rest2} begins2 r2) =
    let names : name ≡ name2 = cc in
    let others_are : others ≡ others2 = cc in
    widen (λ sort is. is) (λ is i. role (names i) ∷ is i) (named_compared r others2 end rest2 others_are r2)

pub roles_compared : {version : ℕ} {from to : List Lexeme} {extra : List Role} → HasExtraRoles version from extra to → (from2 end : List Lexeme) (other : List Role) → from ≡ from2 → HasExtraRoles version from2 other end
    → Compared is_name extra other to end
roles_compared no_roles from2 end other from_is no_roles = same refl from_is
roles_compared no_roles from2 end other from_is (roles two begins r ends) =
    let less = named_shorter r in
    further (omega (arith, ap length from_is, ap length begins, ap length ends)) (ap (λ rest. is_name (sort_of rest)) (from_is ∙ begins))
roles_compared (roles two begins r ends) from2 end other from_is no_roles =
    let less = named_shorter r in
    nearer (omega (arith, ap length from_is, ap length begins, ap length ends)) (ap (λ rest. is_name (sort_of rest)) (sym from_is ∙ begins))
roles_compared (roles {names = names} two begins r ends) from2 end other from_is (roles {names = names2} {behind = behind2} two2 begins2 r2 ends2) =
    let names_are : names ≡ names2 = cc in
    let both = settle (named_compared r names2 behind2 other names_are r2) (ap (λ rest. is_comma (sort_of rest)) ends) (ap (λ rest. is_comma (sort_of rest)) ends2) in
    same both.0 (behind_is both.1 ends ends2)

-- properties
pub given_begins : {from to : List Lexeme} {props : List (List ℕ × Value)} → GivesProperties from props to → sort_of from ≡ sorts.Reserved word.N
given_begins (last_property begins found) = ap sort_of begins
given_begins (more_properties begins found ends r) = ap sort_of begins

pub constant_same : {given given2 to end : List Lexeme} {value other : Value} → given ≡ given2 → constant given ≡ Some (value, to) → constant given2 ≡ Some (other, end) → (value ≡ other) × (to ≡ end)
constant_same is found found2 = same_pair (sym found ∙ ap constant is ∙ found2)

pub given_compared : {from to : List Lexeme} {props : List (List ℕ × Value)} → GivesProperties from props to → (from2 end : List Lexeme) (other : List (List ℕ × Value)) → from ≡ from2 → GivesProperties from2 other end
    → Compared is_comma props other to end
given_compared (last_property {given = given} {key = key} begins found) from2 end other from_is (last_property {given = given2} {key = key2} begins2 found2) =
    let keys : key ≡ key2 = cc in
    let givens : given ≡ given2 = cc in
    let both = constant_same givens found found2 in
    same (λ i. (keys i, both.0 i) ∷ []) both.1
given_compared (last_property {given = given} begins found) from2 end other from_is (more_properties {given = given2} begins2 found2 ends2 r2) =
    let givens : given ≡ given2 = cc in
    let both = constant_same givens found found2 in
    let less = given_shorter r2 in
    further (omega (arith, ap length both.1, ap length ends2)) (ap (λ rest. is_comma (sort_of rest)) (both.1 ∙ ends2))
given_compared (more_properties {given = given} begins found ends r) from2 end other from_is (last_property {given = given2} begins2 found2) =
    let givens : given ≡ given2 = cc in
    let both = constant_same givens found found2 in
    let less = given_shorter r in
    nearer (omega (arith, ap length both.1, ap length ends)) (ap (λ rest. is_comma (sort_of rest)) (sym both.1 ∙ ends))
given_compared (more_properties {given = given} {key = key} begins found ends r) from2 end other from_is (more_properties {given = given2} {others = others2} {key = key2} {rest = rest2} begins2 found2 ends2 r2) =
    let keys : key ≡ key2 = cc in
    let givens : given ≡ given2 = cc in
    let both = constant_same givens found found2 in
    widen (λ sort is. is) (λ is i. (keys i, both.0 i) ∷ is i) (given_compared r others2 end rest2 (behind_is both.1 ends ends2) r2)

pub properties_compared : {from to : List Lexeme} {props : List (List ℕ × Value)} → HasProperties from props to → (from2 end : List Lexeme) (other : List (List ℕ × Value)) → from ≡ from2 → HasProperties from2 other end
    → Compared is_prop props other to end
properties_compared no_properties from2 end other from_is no_properties = same refl from_is
properties_compared no_properties from2 end other from_is (empty_properties begins2) =
    further (omega (arith, ap length from_is, ap length begins2)) (ap (λ rest. is_prop (sort_of rest)) (from_is ∙ begins2))
properties_compared no_properties from2 end other from_is (properties begins2 r2 ends2) =
    let less = given_shorter r2 in
    further (omega (arith, ap length from_is, ap length begins2, ap length ends2)) (ap (λ rest. is_prop (sort_of rest)) (from_is ∙ begins2))
properties_compared (empty_properties begins) from2 end other from_is no_properties =
    nearer (omega (arith, ap length from_is, ap length begins)) (ap (λ rest. is_prop (sort_of rest)) (sym from_is ∙ begins))
properties_compared (empty_properties begins) from2 end other from_is (empty_properties begins2) = same refl cc
properties_compared (empty_properties {to = to} begins) from2 end other from_is (properties {inside = inside2} begins2 r2 ends2) =
    let inside : inside2 ≡ Symbol punctuator.RightBrace ∷ to = cc in
    absurd (cc (given_begins r2, ap sort_of inside))
properties_compared (properties begins r ends) from2 end other from_is no_properties =
    let less = given_shorter r in
    nearer (omega (arith, ap length from_is, ap length begins, ap length ends)) (ap (λ rest. is_prop (sort_of rest)) (sym from_is ∙ begins))
properties_compared (properties {inside = inside} begins r ends) from2 end other from_is (empty_properties begins2) =
    let inside2 : inside ≡ Symbol punctuator.RightBrace ∷ end = cc in
    absurd (cc (given_begins r, ap sort_of inside2))
properties_compared (properties {inside = inside} begins r ends) from2 end other from_is (properties {inside = inside2} {behind = behind2} begins2 r2 ends2) =
    let insides : inside ≡ inside2 = cc in
    let both = settle (given_compared r inside2 behind2 other insides r2) (ap (λ rest. is_comma (sort_of rest)) ends) (ap (λ rest. is_comma (sort_of rest)) ends2) in
    same both.0 (behind_is both.1 ends ends2)

-- no properties stand where a name does
pub ends_there : {from rest : List Lexeme} {props : List (List ℕ × Value)} → is_name (sort_of from) ≡ true → HasProperties from props rest → rest ≡ from
ends_there going no_properties = refl
ends_there going (empty_properties begins) = absurd cc
ends_there going (properties begins r ends) = absurd cc

-- the two optional parts behind a scope
scope_tail : {version : ℕ} {whole other : Term} {behind behind2 after after2 to end : List Lexeme} {extra extra2 : List Role} {props props2 : List (List ℕ × Value)} → behind ≡ behind2
    → HasExtraRoles version behind extra after → HasProperties after props to → HasExtraRoles version behind2 extra2 after2 → HasProperties after2 props2 end → (extra ≡ extra2 → props ≡ props2 → whole ≡ other)
    → Compared step_goes whole other to end
scope_tail {whole = whole} {other = other} {behind2 = behind2} {after = after} {after2 = after2} {to = to} {end = end} {extra = extra} {extra2 = extra2} {props2 = props2} at named given named2 given2 parts = go (roles_compared named behind2 after2 extra2 at named2)
  where
    go : Compared is_name extra extra2 after after2 → Compared step_goes whole other to end
    go (same is afters) = widen prop_step (parts is) (properties_compared given after2 end props2 afters given2)
    go (further less going) =
        let rest = ends_there going given in
        let after_end = properties_shorter given2 in
        further (omega (arith, ap length rest)) (name_step (sort_of to) (ap (λ list. is_name (sort_of list)) rest ∙ going))
    go (nearer less going) =
        let rest = ends_there going given2 in
        let after_to = properties_shorter given in
        nearer (omega (arith, ap length rest)) (name_step (sort_of end) (ap (λ list. is_name (sort_of list)) rest ∙ going))

-- the forms that begin with a step
abbrev opens : Form → Bool
opens Choreography = true
opens Sequence = true
opens Step = true
opens _ = false

stands_begins : {version : ℕ} {form : Form} {room earlier : ℕ} {from to : List Lexeme} {whole : Term} → Stands version form room earlier from whole to → opens form ≡ true → begins_step (sort_of from) ≡ true
stands_begins (one_part r) opening = stands_begins r refl
stands_begins (beside r ends s) opening = stands_begins r refl
stands_begins (one_step r) opening = stands_begins r refl
stands_begins (last_step r ends) opening = stands_begins r refl
stands_begins (in_turn r ends s) opening = stands_begins r refl
stands_begins (nothing begins) opening = ap (λ rest. begins_step (sort_of rest)) begins
stands_begins (interaction rooms begins is ends) opening = ap (λ rest. begins_step (sort_of rest)) begins
stands_begins (input rooms begins) opening = ap (λ rest. begins_step (sort_of rest)) begins
stands_begins (assignment begins is) opening = ap (λ rest. begins_step (sort_of rest)) begins
stands_begins (choice begins is head r s) opening = ap (λ rest. begins_step (sort_of rest)) begins
stands_begins (loop begins is head r) opening = ap (λ rest. begins_step (sort_of rest)) begins
stands_begins (scope begins r named given) opening = ap (λ rest. begins_step (sort_of rest)) begins
stands_begins (group rooms begins r ends) opening = ap (λ rest. begins_step (sort_of rest)) begins
stands_begins (block rooms begins r ends) opening = absurd cc
stands_begins no_else opening = absurd cc
stands_begins (otherwise begins r) opening = absurd cc

-- a step begins with one of its first tokens, and so do the forms around it
pub step_begins : {version room earlier : ℕ} {from to : List Lexeme} {whole : Term} → Stands version Step room earlier from whole to → begins_step (sort_of from) ≡ true
step_begins r = stands_begins r refl

pub sequence_begins : {version room earlier : ℕ} {from to : List Lexeme} {whole : Term} → Stands version Sequence room earlier from whole to → begins_step (sort_of from) ≡ true
sequence_begins r = stands_begins r refl

pub input_given : (from : List Lexeme) (inside : List Lexeme) (variable owner variable2 owner2 : List ℕ) (given : List Lexeme) → from ≡ Name variable ∷ Symbol punctuator.At ∷ Name owner ∷ Symbol punctuator.Equal ∷ Reserved word.Input ∷ inside
    → from ≡ Name variable2 ∷ Symbol punctuator.At ∷ Name owner2 ∷ Symbol punctuator.Equal ∷ given → given ≡ Reserved word.Input ∷ inside
input_given from inside variable owner variable2 owner2 given begins begins2 = cc

pub compare : {version : ℕ} {form : Form} {room earlier : ℕ} {from to : List Lexeme} {whole : Term} → Stands version form room earlier from whole to → (room2 earlier2 : ℕ) (from2 end : List Lexeme) (other : Term)
    → room ≡ room2 → earlier ≡ earlier2 → from ≡ from2 → Stands version form room2 earlier2 from2 other end → Compared (goes form) whole other to end
compare (one_part r) room2 earlier2 from2 end other room_is earlier_is from_is (one_part r2) = widen sequence_choreography (λ is. is) (compare r room2 earlier2 from2 end other room_is earlier_is from_is r2)
compare (one_part r) room2 earlier2 from2 end other room_is earlier_is from_is (beside {middle = middle2} {first = first2} r2 ends2 s2) =
    let less = stands_shorter s2 in
    longer sequence_choreography (compare r room2 earlier2 from2 middle2 first2 room_is earlier_is from_is r2) (ap (λ rest. sequence_goes (sort_of rest)) ends2) (ap (λ rest. choreography_goes (sort_of rest)) ends2) (omega (arith, ap length ends2))
compare (beside {middle = middle} {first = first} r ends s) room2 earlier2 from2 end other room_is earlier_is from_is (one_part r2) =
    let less = stands_shorter s in
    flip (longer sequence_choreography (flip (compare r room2 earlier2 from2 end other room_is earlier_is from_is r2)) (ap (λ rest. sequence_goes (sort_of rest)) ends) (ap (λ rest. choreography_goes (sort_of rest)) ends) (omega (arith, ap length ends)))
compare (beside {first = first} r ends s) room2 earlier2 from2 end other room_is earlier_is from_is (beside {middle = middle2} {behind = behind2} {first = first2} {second = second2} r2 ends2 s2) =
    let both = settle (compare r room2 earlier2 from2 middle2 first2 room_is earlier_is from_is r2) (ap (λ rest. sequence_goes (sort_of rest)) ends) (ap (λ rest. sequence_goes (sort_of rest)) ends2) in
    widen (λ sort is. is) (λ is i. Par (both.0 i) (is i)) (compare s room2 (earlier2 + constructs first2) behind2 end second2 room_is (omega (arith, ap constructs both.0)) (behind_is both.1 ends ends2) s2)
compare (one_step r) room2 earlier2 from2 end other room_is earlier_is from_is (one_step r2) = widen step_sequence (λ is. is) (compare r room2 earlier2 from2 end other room_is earlier_is from_is r2)
compare (one_step r) room2 earlier2 from2 end other room_is earlier_is from_is (last_step {middle = middle2} r2 ends2) =
    longer step_sequence (compare r room2 earlier2 from2 middle2 other room_is earlier_is from_is r2) (ap (λ rest. step_goes (sort_of rest)) ends2) (ap (λ rest. sequence_goes (sort_of rest)) ends2) (omega (arith, ap length ends2))
compare (one_step r) room2 earlier2 from2 end other room_is earlier_is from_is (in_turn {middle = middle2} {first = first2} r2 ends2 s2) =
    let less = stands_shorter s2 in
    longer step_sequence (compare r room2 earlier2 from2 middle2 first2 room_is earlier_is from_is r2) (ap (λ rest. step_goes (sort_of rest)) ends2) (ap (λ rest. sequence_goes (sort_of rest)) ends2) (omega (arith, ap length ends2))
compare (last_step r ends) room2 earlier2 from2 end other room_is earlier_is from_is (one_step r2) =
    flip (longer step_sequence (flip (compare r room2 earlier2 from2 end other room_is earlier_is from_is r2)) (ap (λ rest. step_goes (sort_of rest)) ends) (ap (λ rest. sequence_goes (sort_of rest)) ends) (omega (arith, ap length ends)))
compare (last_step r ends) room2 earlier2 from2 end other room_is earlier_is from_is (last_step {middle = middle2} r2 ends2) =
    let both = settle (compare r room2 earlier2 from2 middle2 other room_is earlier_is from_is r2) (ap (λ rest. step_goes (sort_of rest)) ends) (ap (λ rest. step_goes (sort_of rest)) ends2) in
    same both.0 (behind_is both.1 ends ends2)
compare (last_step {to = to} r ends) room2 earlier2 from2 end other room_is earlier_is from_is (in_turn {middle = middle2} {first = first2} r2 ends2 s2) =
    let both = settle (compare r room2 earlier2 from2 middle2 first2 room_is earlier_is from_is r2) (ap (λ rest. step_goes (sort_of rest)) ends) (ap (λ rest. step_goes (sort_of rest)) ends2) in
    let at = behind_is both.1 ends ends2 in
    let less = stands_shorter s2 in
    further (omega (arith, ap length at)) (first_sequence (sort_of to) (ap (λ rest. begins_step (sort_of rest)) at ∙ sequence_begins s2))
compare (in_turn r ends s) room2 earlier2 from2 end other room_is earlier_is from_is (one_step r2) =
    let less = stands_shorter s in
    flip (longer step_sequence (flip (compare r room2 earlier2 from2 end other room_is earlier_is from_is r2)) (ap (λ rest. step_goes (sort_of rest)) ends) (ap (λ rest. sequence_goes (sort_of rest)) ends) (omega (arith, ap length ends)))
compare (in_turn r ends s) room2 earlier2 from2 end other room_is earlier_is from_is (last_step {middle = middle2} r2 ends2) =
    let both = settle (compare r room2 earlier2 from2 middle2 other room_is earlier_is from_is r2) (ap (λ rest. step_goes (sort_of rest)) ends) (ap (λ rest. step_goes (sort_of rest)) ends2) in
    let at = behind_is both.1 ends ends2 in
    let less = stands_shorter s in
    nearer (omega (arith, ap length at)) (first_sequence (sort_of end) (ap (λ rest. begins_step (sort_of rest)) (sym at) ∙ sequence_begins s))
compare (in_turn {first = first} r ends s) room2 earlier2 from2 end other room_is earlier_is from_is (in_turn {middle = middle2} {behind = behind2} {first = first2} {second = second2} r2 ends2 s2) =
    let both = settle (compare r room2 earlier2 from2 middle2 first2 room_is earlier_is from_is r2) (ap (λ rest. step_goes (sort_of rest)) ends) (ap (λ rest. step_goes (sort_of rest)) ends2) in
    widen (λ sort is. is) (λ is i. Seq (both.0 i) (is i)) (compare s room2 (earlier2 + constructs first2) behind2 end second2 room_is (omega (arith, ap constructs both.0)) (behind_is both.1 ends ends2) s2)
compare (nothing begins) room2 earlier2 from2 end other room_is earlier_is from_is (nothing begins2) = same refl cc
compare (nothing begins) room2 earlier2 from2 end other room_is earlier_is from_is (interaction rooms2 begins2 is2 ends2) = absurd cc
compare (nothing begins) room2 earlier2 from2 end other room_is earlier_is from_is (input rooms2 begins2) = absurd cc
compare (nothing begins) room2 earlier2 from2 end other room_is earlier_is from_is (assignment begins2 is2) = absurd cc
compare (nothing begins) room2 earlier2 from2 end other room_is earlier_is from_is (choice begins2 is2 head2 r2 s2) = absurd cc
compare (nothing begins) room2 earlier2 from2 end other room_is earlier_is from_is (loop begins2 is2 head2 r2) = absurd cc
compare (nothing begins) room2 earlier2 from2 end other room_is earlier_is from_is (scope begins2 r2 named2 given2) = absurd cc
compare (nothing begins) room2 earlier2 from2 end other room_is earlier_is from_is (group rooms2 begins2 r2 ends2) = absurd cc
compare (interaction rooms begins is ends) room2 earlier2 from2 end other room_is earlier_is from_is (nothing begins2) = absurd cc
compare {earlier = earlier} (interaction {left = left} {sent = sent} {received = received} {to = to} {operation = operation} {sender = sender} {receiver = receiver} {variable = variable} {value = value} rooms begins is ends)
    room2 earlier2 from2 end other room_is earlier_is from_is (interaction {left = left2} {sent = sent2} {received = received2} {operation = operation2} {sender = sender2} {receiver = receiver2} {variable = variable2} {value = value2} rooms2 begins2 is2 ends2) =
    let sents : sent ≡ sent2 = cc in
    let operations : operation ≡ operation2 = cc in
    let senders : sender ≡ sender2 = cc in
    let both = settle (expression_compared {room = left} {room2 = left2} (omega arith) sents is is2) (ap (λ rest. expressions.goes kind.Step Disjunction (sort_of rest)) ends) (ap (λ rest. expressions.goes kind.Step Disjunction (sort_of rest)) ends2) in
    let tails : Symbol punctuator.RightParen ∷ Symbol punctuator.Arrow ∷ Name receiver ∷ Symbol punctuator.LeftParen ∷ Name variable ∷ Symbol punctuator.RightParen ∷ to
    ≡ Symbol punctuator.RightParen ∷ Symbol punctuator.Arrow ∷ Name receiver2 ∷ Symbol punctuator.LeftParen ∷ Name variable2 ∷ Symbol punctuator.RightParen ∷ end = sym ends ∙ both.1 ∙ ends2 in
    let receivers : receiver ≡ receiver2 = cc in
    let variables : variable ≡ variable2 = cc in
    let rests : to ≡ end = cc in
    same (λ i. Com (index_at (earlier_is i)) (operations i) (role (senders i)) (both.0 i) (role (receivers i)) (variables i)) rests
compare (interaction rooms begins is ends) room2 earlier2 from2 end other room_is earlier_is from_is (input rooms2 begins2) = absurd cc
compare (interaction rooms begins is ends) room2 earlier2 from2 end other room_is earlier_is from_is (assignment begins2 is2) = absurd cc
compare (interaction rooms begins is ends) room2 earlier2 from2 end other room_is earlier_is from_is (choice begins2 is2 head2 r2 s2) = absurd cc
compare (interaction rooms begins is ends) room2 earlier2 from2 end other room_is earlier_is from_is (loop begins2 is2 head2 r2) = absurd cc
compare (interaction rooms begins is ends) room2 earlier2 from2 end other room_is earlier_is from_is (scope begins2 r2 named2 given2) = absurd cc
compare (interaction rooms begins is ends) room2 earlier2 from2 end other room_is earlier_is from_is (group rooms2 begins2 r2 ends2) = absurd cc
compare (input rooms begins) room2 earlier2 from2 end other room_is earlier_is from_is (nothing begins2) = absurd cc
compare (input rooms begins) room2 earlier2 from2 end other room_is earlier_is from_is (interaction rooms2 begins2 is2 ends2) = absurd cc
compare (input {to = to} {variable = variable} {owner = owner} rooms begins) room2 earlier2 from2 end other room_is earlier_is from_is (input {variable = variable2} {owner = owner2} rooms2 begins2) =
    let variables : variable ≡ variable2 = cc in
    let owners : owner ≡ owner2 = cc in
    let rests : to ≡ end = cc in
    same (λ i. Input (index_at (earlier_is i)) (variables i) (role (owners i))) rests
compare (input {to = to} {variable = variable} {owner = owner} rooms begins) room2 earlier2 from2 end other room_is earlier_is from_is (assignment {given = given2} {variable = variable2} {owner = owner2} begins2 is2) =
    absurd (no_input is2.reads (Symbol punctuator.LeftParen ∷ Symbol punctuator.RightParen ∷ to) (input_given from2 _ variable owner variable2 owner2 given2 (sym from_is ∙ begins) begins2))
compare (input rooms begins) room2 earlier2 from2 end other room_is earlier_is from_is (choice begins2 is2 head2 r2 s2) = absurd cc
compare (input rooms begins) room2 earlier2 from2 end other room_is earlier_is from_is (loop begins2 is2 head2 r2) = absurd cc
compare (input rooms begins) room2 earlier2 from2 end other room_is earlier_is from_is (scope begins2 r2 named2 given2) = absurd cc
compare (input rooms begins) room2 earlier2 from2 end other room_is earlier_is from_is (group rooms2 begins2 r2 ends2) = absurd cc
compare (assignment begins is) room2 earlier2 from2 end other room_is earlier_is from_is (nothing begins2) = absurd cc
compare (assignment begins is) room2 earlier2 from2 end other room_is earlier_is from_is (interaction rooms2 begins2 is2 ends2) = absurd cc
compare (assignment {given = given} {variable = variable} {owner = owner} begins is) room2 earlier2 from2 end other room_is earlier_is from_is (input {variable = variable2} {owner = owner2} rooms2 begins2) =
    absurd (no_input is.reads (Symbol punctuator.LeftParen ∷ Symbol punctuator.RightParen ∷ end) (input_given from2 _ variable2 owner2 variable owner given begins2 (sym from_is ∙ begins)))
compare (assignment {given = given} {variable = variable} {owner = owner} begins is) room2 earlier2 from2 end other room_is earlier_is from_is (assignment {given = given2} {variable = variable2} {owner = owner2} begins2 is2) =
    let givens : given ≡ given2 = cc in
    let variables : variable ≡ variable2 = cc in
    let owners : owner ≡ owner2 = cc in
    widen operator_step (λ values i. Set (index_at (earlier_is i)) (variables i) (role (owners i)) (values i)) (expression_compared room_is givens is is2)
compare (assignment begins is) room2 earlier2 from2 end other room_is earlier_is from_is (choice begins2 is2 head2 r2 s2) = absurd cc
compare (assignment begins is) room2 earlier2 from2 end other room_is earlier_is from_is (loop begins2 is2 head2 r2) = absurd cc
compare (assignment begins is) room2 earlier2 from2 end other room_is earlier_is from_is (scope begins2 r2 named2 given2) = absurd cc
compare (assignment begins is) room2 earlier2 from2 end other room_is earlier_is from_is (group rooms2 begins2 r2 ends2) = absurd cc
compare (choice begins is head r s) room2 earlier2 from2 end other room_is earlier_is from_is (nothing begins2) = absurd cc
compare (choice begins is head r s) room2 earlier2 from2 end other room_is earlier_is from_is (interaction rooms2 begins2 is2 ends2) = absurd cc
compare (choice begins is head r s) room2 earlier2 from2 end other room_is earlier_is from_is (input rooms2 begins2) = absurd cc
compare (choice begins is head r s) room2 earlier2 from2 end other room_is earlier_is from_is (assignment begins2 is2) = absurd cc
compare (choice {guarded = guarded} {head = head} {body = body} {behind = behind} {leader = leader} {first = first} begins is heads r s)
    room2 earlier2 from2 end other room_is earlier_is from_is (choice {guarded = guarded2} {head = head2} {body = body2} {behind = behind2} {leader = leader2} {first = first2} {second = second2} begins2 is2 heads2 r2 s2) =
    let guards_at : guarded ≡ guarded2 = cc in
    let guards = settle (expression_compared room_is guards_at is is2) (ap (λ rest. expressions.goes kind.Step Disjunction (sort_of rest)) heads) (ap (λ rest. expressions.goes kind.Step Disjunction (sort_of rest)) heads2) in
    let tails : Symbol punctuator.At ∷ Name leader ∷ body ≡ Symbol punctuator.At ∷ Name leader2 ∷ body2 = sym heads ∙ guards.1 ∙ heads2 in
    let leaders : leader ≡ leader2 = cc in
    let bodies : body ≡ body2 = cc in
    let firsts = settle (compare r room2 (suc earlier2) body2 behind2 first2 room_is (ap suc earlier_is) bodies r2) refl refl in
    widen else_step (λ seconds i. If (index_at (earlier_is i)) (role (leaders i)) (guards.0 i) (firsts.0 i) (seconds i))
    (compare s room2 (suc earlier2 + constructs first2) behind2 end second2 room_is (omega (arith, ap constructs firsts.0)) firsts.1 s2)
compare (choice begins is head r s) room2 earlier2 from2 end other room_is earlier_is from_is (loop begins2 is2 head2 r2) = absurd cc
compare (choice begins is head r s) room2 earlier2 from2 end other room_is earlier_is from_is (scope begins2 r2 named2 given2) = absurd cc
compare (choice begins is head r s) room2 earlier2 from2 end other room_is earlier_is from_is (group rooms2 begins2 r2 ends2) = absurd cc
compare (loop begins is head r) room2 earlier2 from2 end other room_is earlier_is from_is (nothing begins2) = absurd cc
compare (loop begins is head r) room2 earlier2 from2 end other room_is earlier_is from_is (interaction rooms2 begins2 is2 ends2) = absurd cc
compare (loop begins is head r) room2 earlier2 from2 end other room_is earlier_is from_is (input rooms2 begins2) = absurd cc
compare (loop begins is head r) room2 earlier2 from2 end other room_is earlier_is from_is (assignment begins2 is2) = absurd cc
compare (loop begins is head r) room2 earlier2 from2 end other room_is earlier_is from_is (choice begins2 is2 head2 r2 s2) = absurd cc
compare (loop {guarded = guarded} {body = body} {leader = leader} begins is heads r) room2 earlier2 from2 end other room_is earlier_is from_is (loop {guarded = guarded2} {body = body2} {leader = leader2} {inner = inner2} begins2 is2 heads2 r2) =
    let guards_at : guarded ≡ guarded2 = cc in
    let guards = settle (expression_compared room_is guards_at is is2) (ap (λ rest. expressions.goes kind.Step Disjunction (sort_of rest)) heads) (ap (λ rest. expressions.goes kind.Step Disjunction (sort_of rest)) heads2) in
    let tails : Symbol punctuator.At ∷ Name leader ∷ body ≡ Symbol punctuator.At ∷ Name leader2 ∷ body2 = sym heads ∙ guards.1 ∙ heads2 in
    let leaders : leader ≡ leader2 = cc in
    let bodies : body ≡ body2 = cc in
    let inners = settle (compare r room2 (suc earlier2) body2 end inner2 room_is (ap suc earlier_is) bodies r2) refl refl in
    same (λ i. While (index_at (earlier_is i)) (role (leaders i)) (guards.0 i) (inners.0 i)) inners.1
compare (loop begins is head r) room2 earlier2 from2 end other room_is earlier_is from_is (scope begins2 r2 named2 given2) = absurd cc
compare (loop begins is head r) room2 earlier2 from2 end other room_is earlier_is from_is (group rooms2 begins2 r2 ends2) = absurd cc
compare (scope begins r named given) room2 earlier2 from2 end other room_is earlier_is from_is (nothing begins2) = absurd cc
compare (scope begins r named given) room2 earlier2 from2 end other room_is earlier_is from_is (interaction rooms2 begins2 is2 ends2) = absurd cc
compare (scope begins r named given) room2 earlier2 from2 end other room_is earlier_is from_is (input rooms2 begins2) = absurd cc
compare (scope begins r named given) room2 earlier2 from2 end other room_is earlier_is from_is (assignment begins2 is2) = absurd cc
compare (scope begins r named given) room2 earlier2 from2 end other room_is earlier_is from_is (choice begins2 is2 head2 r2 s2) = absurd cc
compare (scope begins r named given) room2 earlier2 from2 end other room_is earlier_is from_is (loop begins2 is2 head2 r2) = absurd cc
compare (scope {body = body} {leader = leader} begins r named given) room2 earlier2 from2 end other room_is earlier_is from_is (scope {body = body2} {behind = behind2} {leader = leader2} {inner = inner2} begins2 r2 named2 given2) =
    let leaders : leader ≡ leader2 = cc in
    let bodies : body ≡ body2 = cc in
    let inners = settle (compare r room2 (suc earlier2) body2 behind2 inner2 room_is (ap suc earlier_is) bodies r2) refl refl in
    scope_tail inners.1 named given named2 given2 (λ extras props i. Scope (index_at (earlier_is i)) (role (leaders i)) (inners.0 i) (extras i) (props i) 0)
compare (scope begins r named given) room2 earlier2 from2 end other room_is earlier_is from_is (group rooms2 begins2 r2 ends2) = absurd cc
compare (group rooms begins r ends) room2 earlier2 from2 end other room_is earlier_is from_is (nothing begins2) = absurd cc
compare (group rooms begins r ends) room2 earlier2 from2 end other room_is earlier_is from_is (interaction rooms2 begins2 is2 ends2) = absurd cc
compare (group rooms begins r ends) room2 earlier2 from2 end other room_is earlier_is from_is (input rooms2 begins2) = absurd cc
compare (group rooms begins r ends) room2 earlier2 from2 end other room_is earlier_is from_is (assignment begins2 is2) = absurd cc
compare (group rooms begins r ends) room2 earlier2 from2 end other room_is earlier_is from_is (choice begins2 is2 head2 r2 s2) = absurd cc
compare (group rooms begins r ends) room2 earlier2 from2 end other room_is earlier_is from_is (loop begins2 is2 head2 r2) = absurd cc
compare (group rooms begins r ends) room2 earlier2 from2 end other room_is earlier_is from_is (scope begins2 r2 named2 given2) = absurd cc
compare (group {inside = inside} rooms begins r ends) room2 earlier2 from2 end other room_is earlier_is from_is (group {left = left2} {inside = inside2} {middle = middle2} rooms2 begins2 r2 ends2) =
    let insides : inside ≡ inside2 = cc in
    let both = settle (compare r left2 earlier2 inside2 middle2 other (omega arith) earlier_is insides r2) (ap (λ rest. choreography_goes (sort_of rest)) ends) (ap (λ rest. choreography_goes (sort_of rest)) ends2) in
    same both.0 (behind_is both.1 ends ends2)
compare (block {inside = inside} rooms begins r ends) room2 earlier2 from2 end other room_is earlier_is from_is (block {left = left2} {inside = inside2} {middle = middle2} rooms2 begins2 r2 ends2) =
    let insides : inside ≡ inside2 = cc in
    let both = settle (compare r left2 earlier2 inside2 middle2 other (omega arith) earlier_is insides r2) (ap (λ rest. choreography_goes (sort_of rest)) ends) (ap (λ rest. choreography_goes (sort_of rest)) ends2) in
    same both.0 (behind_is both.1 ends ends2)
compare no_else room2 earlier2 from2 end other room_is earlier_is from_is no_else = same refl from_is
compare no_else room2 earlier2 from2 end other room_is earlier_is from_is (otherwise begins2 r2) =
    let less = stands_shorter r2 in
    further (omega (arith, ap length from_is, ap length begins2)) (ap (λ rest. is_else (sort_of rest)) (from_is ∙ begins2))
compare (otherwise begins r) room2 earlier2 from2 end other room_is earlier_is from_is no_else =
    let less = stands_shorter r in
    nearer (omega (arith, ap length from_is, ap length begins)) (ap (λ rest. is_else (sort_of rest)) (sym from_is ∙ begins))
compare (otherwise {body = body} begins r) room2 earlier2 from2 end other room_is earlier_is from_is (otherwise {body = body2} begins2 r2) =
    let bodies : body ≡ body2 = cc in
    let both = settle (compare r room2 earlier2 body2 end other room_is earlier_is bodies r2) refl refl in
    same both.0 both.1
