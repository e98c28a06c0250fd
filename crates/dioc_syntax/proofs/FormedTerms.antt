-- What is read of a text is formed: its names are names of the grammar, its expressions those of a step, its values in their bounds.
use Rattle.std.proofs.Common.{◌≡◌, ℕ, ◌⊎◌, inl, inr, Bool, true, ◌&&◌, List, ◌∷◌, drop, refl, subst}
use Rattle.std.specs.List.{list_all, AllByRecursion}
use Rattle.dioc_terms.specs.declared.names.Role.{Role}
use Rattle.dioc_terms.specs.declared.values.Value.{Value}
use Rattle.dioc_terms.specs.Expressions.{Expression}
use Rattle.dioc_terms.specs.Terms.{Term}
use Rattle.dioc_terms.specs.Bundles.{is_formed_step, is_formed_role, is_formed_binding, has_formed_parts, IsFormedTerm}
use Rattle.aioc_tokens.specs.Lexemes.{Lexeme, Name, HasLexemes}
use Rattle.expr_syntax.specs.Grammar.{IsExpression}
use Rattle.expr_syntax.specs.declared.levels.ExprKind.TheVariants as kind
use Rattle.expr_syntax.proofs.ReadFormed.{CanBeWritten, identifier_valid, constant_valid, expression_formed, all_valid, valid_from}
use Rattle.dioc_syntax.specs.Choreographies.{NamesRoles, last_role, more_roles, HasExtraRoles, no_roles, roles, GivesProperties, last_property, more_properties, HasProperties, no_properties, empty_properties, properties, Form, Stands, one_part, beside, one_step, last_step, in_turn, nothing, interaction, input, assignment, choice, loop, scope, group, block, no_else, otherwise, IsChoreography}
use Rattle.dioc_syntax.specs.Laws.{FitsVersion}
use Rattle.dioc_syntax.proofs.Marks.{stands_marked}

abbrev CanAllBeWritten : List Lexeme → Type 0
CanAllBeWritten lexemes = AllByRecursion CanBeWritten lexemes

-- a list whose first lexemes are known
all_of : {from others : List Lexeme} → from ≡ others → CanAllBeWritten from → CanAllBeWritten others
all_of is all = subst CanAllBeWritten is all

name_of : (name : List ℕ) → CanBeWritten (Name name) → is_formed_role (record { 0 = name }) ≡ true
name_of name written = identifier_valid name (written (λ long. cc))

expression_valid : {room : ℕ} {from to : List Lexeme} {whole : Expression} → IsExpression kind.Step room from whole to → CanAllBeWritten from → (is_formed_step whole ≡ true) × CanAllBeWritten to
expression_valid is all = expression_formed all is

-- the optional parts of a scope
named_valid : {from to : List Lexeme} {names : List Role} → NamesRoles from names to → CanAllBeWritten from → (list_all is_formed_role names ≡ true) × CanAllBeWritten to
named_valid (last_role {name = name} begins) all = let parts = all_of begins all in let named = name_of name parts.0 in ((λ j. named j && true), parts.1)
named_valid (more_roles {name = name} begins r) all =
    let parts = all_of begins all in
    let named = name_of name parts.0 in
    let rest = named_valid r parts.1.1 in
    ((λ j. named j && rest.0 j), rest.1)

roles_valid : {version : ℕ} {from to : List Lexeme} {extra : List Role} → HasExtraRoles version from extra to → CanAllBeWritten from → (list_all is_formed_role extra ≡ true) × CanAllBeWritten to
roles_valid no_roles all = (refl, all)
roles_valid (roles two begins r ends) all = let one = named_valid r (all_of begins all).1.1 in (one.0, (all_of ends one.1).1)

given_valid : {from to : List Lexeme} {props : List (List ℕ × Value)} → GivesProperties from props to → CanAllBeWritten from → (list_all is_formed_binding props ≡ true) × CanAllBeWritten to
given_valid {to = to} (last_property {given = given} {key = key} {value = value} begins found) all =
    let parts = all_of begins all in
    let named = name_of key parts.1.1.0 in
    let valued = constant_valid given value to parts.1.1.1.1 found in
    ((λ j. (named j && valued.0 j) && true), valued.1)
given_valid (more_properties {given = given} {behind = behind} {key = key} {value = value} begins found ends r) all =
    let parts = all_of begins all in
    let named = name_of key parts.1.1.0 in
    let valued = constant_valid given value behind parts.1.1.1.1 found in
    let rest = given_valid r (all_of ends valued.1).1 in
    ((λ j. (named j && valued.0 j) && rest.0 j), rest.1)

properties_valid : {from to : List Lexeme} {props : List (List ℕ × Value)} → HasProperties from props to → CanAllBeWritten from → (list_all is_formed_binding props ≡ true) × CanAllBeWritten to
properties_valid no_properties all = (refl, all)
properties_valid (empty_properties begins) all = (refl, (all_of begins all).1.1.1)
properties_valid (properties begins r ends) all = let one = given_valid r (all_of begins all).1.1 in (one.0, (all_of ends one.1).1)

pub stands_valid : {version : ℕ} {form : Form} {room earlier : ℕ} {from to : List Lexeme} {whole : Term} → Stands version form room earlier from whole to → CanAllBeWritten from → (has_formed_parts whole ≡ true) × CanAllBeWritten to
stands_valid (one_part r) all = stands_valid r all
stands_valid (beside r ends s) all =
    let one = stands_valid r all in
    let two = stands_valid s (all_of ends one.1).1 in
    ((λ j. one.0 j && two.0 j), two.1)
stands_valid (one_step r) all = stands_valid r all
stands_valid (last_step r ends) all = let one = stands_valid r all in (one.0, (all_of ends one.1).1)
stands_valid (in_turn r ends s) all =
    let one = stands_valid r all in
    let two = stands_valid s (all_of ends one.1).1 in
    ((λ j. one.0 j && two.0 j), two.1)
stands_valid (nothing begins) all = (refl, (all_of begins all).1)
stands_valid (interaction {operation = operation} {sender = sender} {receiver = receiver} {variable = variable} rooms begins is ends) all =
    let parts = all_of begins all in
    let operated = name_of operation parts.0 in
    let sent = name_of sender parts.1.1.0 in
    let one = expression_valid is parts.1.1.1.1 in
    let tail = all_of ends one.1 in
    let received = name_of receiver tail.1.1.0 in
    let kept = name_of variable tail.1.1.1.1.0 in
    ((λ j. operated j && sent j && one.0 j && received j && kept j), tail.1.1.1.1.1.1)
stands_valid (input {variable = variable} {owner = owner} rooms begins) all =
    let parts = all_of begins all in
    let kept = name_of variable parts.0 in
    let owned = name_of owner parts.1.1.0 in
    ((λ j. kept j && owned j), parts.1.1.1.1.1.1.1)
stands_valid (assignment {variable = variable} {owner = owner} begins is) all =
    let parts = all_of begins all in
    let kept = name_of variable parts.0 in
    let owned = name_of owner parts.1.1.0 in
    let one = expression_valid is parts.1.1.1.1 in
    ((λ j. kept j && owned j && one.0 j), one.1)
stands_valid (choice {leader = leader} begins is heads r s) all =
    let guard = expression_valid is (all_of begins all).1 in
    let head = all_of heads guard.1 in
    let led = name_of leader head.1.0 in
    let one = stands_valid r head.1.1 in
    let two = stands_valid s one.1 in
    ((λ j. led j && guard.0 j && one.0 j && two.0 j), two.1)
stands_valid (loop {leader = leader} begins is heads r) all =
    let guard = expression_valid is (all_of begins all).1 in
    let head = all_of heads guard.1 in
    let led = name_of leader head.1.0 in
    let one = stands_valid r head.1.1 in
    ((λ j. led j && guard.0 j && one.0 j), one.1)
stands_valid (scope {leader = leader} begins r named given) all =
    let head = all_of begins all in
    let led = name_of leader head.1.1.0 in
    let one = stands_valid r head.1.1.1 in
    let extra = roles_valid named one.1 in
    let props = properties_valid given extra.1 in
    ((λ j. led j && one.0 j && extra.0 j && props.0 j), props.1)
stands_valid (group rooms begins r ends) all = let one = stands_valid r (all_of begins all).1 in (one.0, (all_of ends one.1).1)
stands_valid (block rooms begins r ends) all = let one = stands_valid r (all_of begins all).1 in (one.0, (all_of ends one.1).1)
stands_valid no_else all = (refl, all)
stands_valid (otherwise begins r) all = stands_valid r (all_of begins all).1

-- two parts that fit a version
fits_both : {version : ℕ} {a b : Bool} → (version ≡ 2) ⊎ (a ≡ true) → (version ≡ 2) ⊎ (b ≡ true) → (version ≡ 2) ⊎ (a && b ≡ true)
fits_both (inl two) other = inl two
fits_both (inr one) (inl two) = inl two
fits_both (inr one) (inr other) = inr (λ j. one j && other j)

pub stands_fits : {version : ℕ} {form : Form} {room earlier : ℕ} {from to : List Lexeme} {whole : Term} → Stands version form room earlier from whole to → FitsVersion version whole
stands_fits (one_part r) = stands_fits r
stands_fits (beside r ends s) = fits_both (stands_fits r) (stands_fits s)
stands_fits (one_step r) = stands_fits r
stands_fits (last_step r ends) = stands_fits r
stands_fits (in_turn r ends s) = fits_both (stands_fits r) (stands_fits s)
stands_fits (nothing begins) = inr refl
stands_fits (interaction rooms begins is ends) = inr refl
stands_fits (input rooms begins) = inr refl
stands_fits (assignment begins is) = inr refl
stands_fits (choice begins is heads r s) = fits_both (stands_fits r) (stands_fits s)
stands_fits (loop begins is heads r) = stands_fits r
stands_fits (scope begins r no_roles given) = stands_fits r
stands_fits (scope begins r (roles two begins2 names ends) given) = inl two
stands_fits (group rooms begins r ends) = stands_fits r
stands_fits (block rooms begins r ends) = stands_fits r
stands_fits no_else = inr refl
stands_fits (otherwise begins r) = stands_fits r

pub read_formed : (bytes : List ℕ) (found : List Lexeme) (at version room : ℕ) (whole : Term) (to : List Lexeme) → HasLexemes bytes found → IsChoreography version room (drop at found) whole to
    → IsFormedTerm whole × FitsVersion version whole
read_formed bytes found at version room whole to has is =
    let all = valid_from at found (all_valid bytes found has) in
    (record { indices = stands_marked is.stands; parts = (stands_valid is.stands all).0; depth = is.shallow }, stands_fits is.stands)
