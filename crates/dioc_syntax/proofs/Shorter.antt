-- A choreography takes at least one lexeme, and at least one for each of its indexed constructs.
use Rattle.std.proofs.Common.{ℕ, ◌+◌, ◌<◌, ◌≤◌, List, length, ap, arith}
use Rattle.dioc_terms.specs.declared.names.Role.{Role}
use Rattle.dioc_terms.specs.declared.values.Value.{Value}
use Rattle.dioc_terms.specs.Terms.{Term, constructs}
use Rattle.aioc_tokens.specs.Lexemes.{Lexeme}
use Rattle.expr_syntax.proofs.LeafFacts.{constant_shorter}
use Rattle.expr_syntax.proofs.Shorter.{reads_shorter}
use Rattle.dioc_syntax.specs.Choreographies.{NamesRoles, last_role, more_roles, HasExtraRoles, no_roles, roles, GivesProperties, last_property, more_properties, HasProperties, no_properties, empty_properties, properties, Form, Otherwise, Stands, one_part, beside, one_step, last_step, in_turn, nothing, interaction, input, assignment, choice, loop, scope, group, block, no_else, otherwise}

pub named_shorter : {from to : List Lexeme} {names : List Role} → NamesRoles from names to → length to < length from
named_shorter (last_role begins) = omega (arith, ap length begins)
named_shorter (more_roles begins r) = let one = named_shorter r in omega (arith, ap length begins)

pub roles_shorter : {version : ℕ} {from to : List Lexeme} {extra : List Role} → HasExtraRoles version from extra to → length to ≤ length from
roles_shorter no_roles = omega arith
roles_shorter (roles two begins r ends) = let one = named_shorter r in omega (arith, ap length begins, ap length ends)

pub given_shorter : {from to : List Lexeme} {props : List (List ℕ × Value)} → GivesProperties from props to → length to < length from
given_shorter {from} {to} (last_property {given = given} {value = value} begins found) = let one = constant_shorter given to value found in omega (arith, ap length begins)
given_shorter (more_properties {given = given} {behind = behind} {value = value} begins found ends r) =
    let one = constant_shorter given behind value found in
    let two = given_shorter r in
    omega (arith, ap length begins, ap length ends)

pub properties_shorter : {from to : List Lexeme} {props : List (List ℕ × Value)} → HasProperties from props to → length to ≤ length from
properties_shorter no_properties = omega arith
properties_shorter (empty_properties begins) = omega (arith, ap length begins)
properties_shorter (properties begins r ends) = let one = given_shorter r in omega (arith, ap length begins, ap length ends)

-- how many lexemes a form takes at least
abbrev pub least : Form → ℕ
least Otherwise = 0
least _ = 1

pub stands_shorter : {version : ℕ} {form : Form} {room earlier : ℕ} {from to : List Lexeme} {whole : Term} → Stands version form room earlier from whole to → length to + least form ≤ length from
stands_shorter (one_part r) = stands_shorter r
stands_shorter (beside r ends s) = let one = stands_shorter r in let two = stands_shorter s in omega (arith, ap length ends)
stands_shorter (one_step r) = stands_shorter r
stands_shorter (last_step r ends) = let one = stands_shorter r in omega (arith, ap length ends)
stands_shorter (in_turn r ends s) = let one = stands_shorter r in let two = stands_shorter s in omega (arith, ap length ends)
stands_shorter (nothing begins) = omega (arith, ap length begins)
stands_shorter (interaction rooms begins is ends) = let one = reads_shorter is.reads in omega (arith, ap length begins, ap length ends)
stands_shorter (input rooms begins) = omega (arith, ap length begins)
stands_shorter (assignment begins is) = let one = reads_shorter is.reads in omega (arith, ap length begins)
stands_shorter (choice begins is head r s) =
    let guard = reads_shorter is.reads in
    let one = stands_shorter r in
    let two = stands_shorter s in
    omega (arith, ap length begins, ap length head)
stands_shorter (loop begins is head r) =
    let guard = reads_shorter is.reads in
    let one = stands_shorter r in
    omega (arith, ap length begins, ap length head)
stands_shorter (scope begins r extra props) =
    let one = stands_shorter r in
    let two = roles_shorter extra in
    let three = properties_shorter props in
    omega (arith, ap length begins)
stands_shorter (group rooms begins r ends) = let one = stands_shorter r in omega (arith, ap length begins, ap length ends)
stands_shorter (block rooms begins r ends) = let one = stands_shorter r in omega (arith, ap length begins, ap length ends)
stands_shorter no_else = omega arith
stands_shorter (otherwise begins r) = let one = stands_shorter r in omega (arith, ap length begins)

pub stands_places : {version : ℕ} {form : Form} {room earlier : ℕ} {from to : List Lexeme} {whole : Term} → Stands version form room earlier from whole to → length to + constructs whole ≤ length from
stands_places (one_part r) = stands_places r
stands_places (beside r ends s) = let one = stands_places r in let two = stands_places s in omega (arith, ap length ends)
stands_places (one_step r) = stands_places r
stands_places (last_step r ends) = let one = stands_places r in omega (arith, ap length ends)
stands_places (in_turn r ends s) = let one = stands_places r in let two = stands_places s in omega (arith, ap length ends)
stands_places (nothing begins) = omega (arith, ap length begins)
stands_places (interaction rooms begins is ends) = let one = reads_shorter is.reads in omega (arith, ap length begins, ap length ends)
stands_places (input rooms begins) = omega (arith, ap length begins)
stands_places (assignment begins is) = let one = reads_shorter is.reads in omega (arith, ap length begins)
stands_places (choice begins is head r s) =
    let guard = reads_shorter is.reads in
    let one = stands_places r in
    let two = stands_places s in
    omega (arith, ap length begins, ap length head)
stands_places (loop begins is head r) =
    let guard = reads_shorter is.reads in
    let one = stands_places r in
    omega (arith, ap length begins, ap length head)
stands_places (scope begins r extra props) =
    let one = stands_places r in
    let two = roles_shorter extra in
    let three = properties_shorter props in
    omega (arith, ap length begins)
stands_places (group rooms begins r ends) = let one = stands_places r in omega (arith, ap length begins, ap length ends)
stands_places (block rooms begins r ends) = let one = stands_places r in omega (arith, ap length begins, ap length ends)
stands_places no_else = omega arith
stands_places (otherwise begins r) = let one = stands_places r in omega (arith, ap length begins)
