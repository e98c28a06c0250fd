-- The text of a process.
use Rattle.std.specs.Prelude.{ℕ, List, [], ◌∷◌, ◌++◌, Bool, true, false, ◌&&◌, codes, flat_map}
use Rattle.dioc_terms.specs.declared.names.Role.{Role}
use Rattle.dioc_terms.specs.declared.values.Value.{Value}
use Rattle.dioc_terms.specs.Expressions.{Expression}
use Rattle.dioc_terms.specs.Processes.{Process, Skip, Send, Recv, Assign, Read, Seq, Par, IfLead, IfFollow, WhileLead, WhileFollow, ScopeLead, ScopeFollow, Tell, Gather}
use Rattle.aioc_tokens.specs.Spelling.{spelled}
use Rattle.expr_syntax.specs.Writing.{written}
use Rattle.trace_text.specs.Lines.{index_text, value_text}

-- neither messages that are still to be sent nor some that are still to be taken stand in it
abbrev pub has_text : Process → Bool
has_text (Seq P Q) = has_text P && has_text Q
has_text (Par P Q) = has_text P && has_text Q
has_text (IfLead i g others P Q) = has_text P && has_text Q
has_text (IfFollow i r P Q) = has_text P && has_text Q
has_text (WhileLead i g others P) = has_text P
has_text (WhileFollow i r P) = has_text P
has_text (ScopeLead head others P) = has_text P
has_text (ScopeFollow i r P) = has_text P
has_text (Tell ms) = false
has_text (Gather ks) = false
has_text leaf = true

-- an expression as it is written in a choreography
abbrev pub expression_text : Expression → List ℕ
expression_text e = spelled (written e [])

abbrev pub next_role_text : Role → List ℕ
next_role_text next = codes ", " ++ next.0

-- the other roles: `b, c`
abbrev pub roles_text : List Role → List ℕ
roles_text [] = []
roles_text (first ∷ rest) = first.0 ++ flat_map next_role_text rest

-- `k = v`, the value as in a line of a trace
abbrev pub property_text : List ℕ × Value → List ℕ
property_text property = property.0 ++ codes " = " ++ value_text property.1

abbrev pub next_property_text : List ℕ × Value → List ℕ
next_property_text next = codes ", " ++ property_text next

abbrev pub properties_text : List (List ℕ × Value) → List ℕ
properties_text [] = []
properties_text (first ∷ rest) = property_text first ++ flat_map next_property_text rest

-- who is told
abbrev pub tell_text : List Role → List ℕ
tell_text others = codes " tell [" ++ roles_text others ++ codes "]"

-- the leader that is listened to
abbrev pub from_text : Role → List ℕ
from_text leader = codes " from " ++ leader.0

-- what stands before the parts of a process; of a step, its text
abbrev pub head_text : Process → List ℕ
head_text Skip = codes "skip"
head_text (Send i o b e) = o ++ index_text i ++ codes "(" ++ expression_text e ++ codes ") to " ++
    b.0
head_text (Recv i o a x) = o ++ index_text i ++ codes "(" ++ x ++ codes ")" ++ from_text a
head_text (Assign i x e) = x ++ index_text i ++ codes " = " ++ expression_text e
head_text (Read i x) = x ++ index_text i ++ codes " = input()"
head_text (Seq P Q) = codes "("
head_text (Par P Q) = codes "("
head_text (IfLead i g others P Q) = codes "if" ++ index_text i ++ codes " " ++ expression_text g ++
    tell_text others
head_text (IfFollow i r P Q) = codes "if" ++ index_text i ++ from_text r
head_text (WhileLead i g others P) = codes "while" ++ index_text i ++ codes " " ++
    expression_text g ++ tell_text others
head_text (WhileFollow i r P) = codes "while" ++ index_text i ++ from_text r
head_text (ScopeLead head others P) = codes "scope" ++ index_text head.index ++ tell_text others ++
    codes " prop [" ++ properties_text head.props ++ codes "]"
head_text (ScopeFollow i r P) = codes "scope" ++ index_text i ++ from_text r
head_text (Tell ms) = []
head_text (Gather ks) = []

-- a process whose messages are still to be sent or taken has no text
abbrev pub process_text : Process → List ℕ
process_text (Seq P Q) = head_text (Seq P Q) ++ process_text P ++ codes "; " ++ process_text Q ++
    codes ")"
process_text (Par P Q) = head_text (Par P Q) ++ process_text P ++ codes " | " ++ process_text Q ++
    codes ")"
process_text (IfLead i g others P Q) = head_text (IfLead i g others P Q) ++ codes " { " ++
    process_text P ++ codes " } else { " ++ process_text Q ++ codes " }"
process_text (IfFollow i r P Q) = head_text (IfFollow i r P Q) ++ codes " { " ++ process_text P ++
    codes " } else { " ++ process_text Q ++ codes " }"
process_text (WhileLead i g others P) = head_text (WhileLead i g others P) ++ codes " { " ++
    process_text P ++ codes " }"
process_text (WhileFollow i r P) = head_text (WhileFollow i r P) ++ codes " { " ++ process_text P ++
    codes " }"
process_text (ScopeLead head others P) = head_text (ScopeLead head others P) ++ codes " { " ++
    process_text P ++ codes " }"
process_text (ScopeFollow i r P) = head_text (ScopeFollow i r P) ++ codes " { " ++ process_text P ++
    codes " }"
process_text leaf = head_text leaf
