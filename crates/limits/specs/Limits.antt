-- The limits of texts, bundles and runs, as the definitions name them.
use Rattle.std.specs.Prelude.{ℕ}
use Rattle.limits.specs.declared.limits.TheConstants.{MOST_BYTES, MOST_BRACKETS, MOST_DEPTH, MOST_EXPRESSION_DEPTH, MOST_NAME_BYTES, MOST_TEXT_BYTES, MOST_NODES, MOST_ROLES, MOST_RULES, MOST_CHANGES, MOST_SESSIONS, MOST_BODY_NODES, MOST_BODY_DEPTH, MOST_PRIORITY, TOP_LEVEL}

-- bytes of a bundle's text
abbrev pub most_bytes : ℕ
most_bytes = MOST_BYTES

-- brackets that are open at once
abbrev pub most_brackets : ℕ
most_brackets = MOST_BRACKETS

-- depth of a choreography's tree, and of an expression's
abbrev pub most_depth : ℕ
most_depth = MOST_DEPTH

abbrev pub most_expression_depth : ℕ
most_expression_depth = MOST_EXPRESSION_DEPTH

-- bytes of a name, and of a text's value
abbrev pub most_name_bytes : ℕ
most_name_bytes = MOST_NAME_BYTES

abbrev pub most_text_bytes : ℕ
most_text_bytes = MOST_TEXT_BYTES

-- the greatest place or epoch of an index
abbrev pub greatest_place : ℕ
greatest_place = 4294967295

-- the greatest whole number of 64 bits with a sign
abbrev pub largest : ℕ
largest = 9223372036854775807

-- a rule's priority, up and down
abbrev pub most_priority : ℕ
most_priority = MOST_PRIORITY

-- nodes of the program, and roles of the cast
abbrev pub most_nodes : ℕ
most_nodes = MOST_NODES

abbrev pub most_roles : ℕ
most_roles = MOST_ROLES

-- rules that are alive at once, and changes of the script
abbrev pub most_rules : ℕ
most_rules = MOST_RULES

abbrev pub most_changes : ℕ
most_changes = MOST_CHANGES

-- sessions of a text
abbrev pub most_sessions : ℕ
most_sessions = MOST_SESSIONS

-- nodes and depth of a rule's body
abbrev pub most_body_nodes : ℕ
most_body_nodes = MOST_BODY_NODES

abbrev pub most_body_depth : ℕ
most_body_depth = MOST_BODY_DEPTH

-- the level at which scopes are no longer replaced
abbrev pub top_level : ℕ
top_level = TOP_LEVEL
