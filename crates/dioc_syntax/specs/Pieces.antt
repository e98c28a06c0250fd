-- The text of a choreography, byte by byte.
use Rattle.std.specs.Prelude.{ℕ, Bool, false, List, [], ◌∷◌, ◌++◌, codes}
use Rattle.std.specs.List.{flat_map}
use Rattle.dioc_terms.specs.declared.names.Role.{Role}
use Rattle.dioc_terms.specs.declared.values.Value.{Value}
use Rattle.dioc_terms.specs.Expressions.{Expression}
use Rattle.dioc_terms.specs.Terms.{Term, Skip, Com, Set, Input, Seq, Par, If, While, Scope}
use Rattle.aioc_tokens.specs.Spelling.{spelled}
use Rattle.expr_syntax.specs.Writing.{written_value}
use Rattle.expr_syntax.specs.Writing.{written as written_expression}
use Rattle.expr_syntax.specs.Pieces.{opening_text, closing_text}
use Rattle.dioc_syntax.specs.Writing.{is_joined, is_parallel}

abbrev pub expression_text : Expression → List ℕ
expression_text e = spelled (written_expression e [])

abbrev pub value_text : Value → List ℕ
value_text v = spelled (written_value v [])

abbrev pub next_role_text : Role → List ℕ
next_role_text next = codes " , " ++ next.0

abbrev pub roles_text : List Role → List ℕ
roles_text [] = []
roles_text (first ∷ rest) =
    codes " roles { " ++ first.0 ++ flat_map next_role_text rest ++ codes " }"

abbrev pub property_text : List ℕ × Value → List ℕ
property_text property = codes "N . " ++ property.0 ++ codes " = " ++ value_text property.1

abbrev pub next_property_text : List ℕ × Value → List ℕ
next_property_text next = codes " , " ++ property_text next

abbrev pub properties_text : List (List ℕ × Value) → List ℕ
properties_text [] = []
properties_text (first ∷ rest) =
    codes " prop { " ++ property_text first ++ flat_map next_property_text rest ++ codes " }"

-- what receives a message
abbrev pub receiver_text : Role → List ℕ → List ℕ
receiver_text receiver variable =
    codes " ) -> " ++ receiver.0 ++ codes " ( " ++ variable ++ codes " )"

-- what is set
abbrev pub target_text : List ℕ → Role → List ℕ
target_text variable owner = variable ++ codes " @ " ++ owner.0 ++ codes " = "

-- a leader, up to the bracket
abbrev pub leader_text : Role → List ℕ
leader_text leader = codes " @ " ++ leader.0 ++ codes " { "

-- what stands between two parts
abbrev pub between_text : Bool → List ℕ → Bool → List ℕ
between_text left sign right = closing_text left ++ sign ++ opening_text right

-- what stands before the parts of a choreography; of a step, its text
abbrev pub head_text : Term → List ℕ
head_text Skip = codes "skip"
head_text (Com index operation sender value receiver variable) =
    operation ++ codes " : " ++ sender.0
    ++ codes " ( " ++ expression_text value ++ receiver_text receiver variable
head_text (Set index variable owner value) = target_text variable owner ++ expression_text value
head_text (Input index variable owner) = target_text variable owner ++ codes "input ( )"
head_text (Seq first second) = opening_text (is_joined first)
head_text (Par first second) = opening_text (is_parallel first)
head_text (If index leader guard first second) =
    codes "if " ++ expression_text guard ++ leader_text leader
head_text (While index leader guard inner) =
    codes "while " ++ expression_text guard ++ leader_text leader
head_text (Scope index leader inner extra props level) = codes "scope" ++ leader_text leader

abbrev pub choreography_text : Term → List ℕ
choreography_text (Seq first second) =
    head_text (Seq first second) ++ choreography_text first
    ++ between_text (is_joined first) (codes " ; ") (is_parallel second) ++ choreography_text second
    ++ closing_text (is_parallel second)
choreography_text (Par first second) =
    head_text (Par first second) ++ choreography_text first
    ++ between_text (is_parallel first) (codes " | ") false ++ choreography_text second
choreography_text (If index leader guard first second) =
    head_text (If index leader guard first second) ++ choreography_text first ++ codes " } else { "
    ++ choreography_text second ++ codes " }"
choreography_text (While index leader guard inner) =
    head_text (While index leader guard inner) ++ choreography_text inner ++ codes " }"
choreography_text (Scope index leader inner extra props level) =
    head_text (Scope index leader inner extra props level) ++ choreography_text inner ++ codes " }"
    ++ roles_text extra ++ properties_text props
choreography_text step = head_text step
