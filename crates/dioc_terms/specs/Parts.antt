-- What stands inside a process, inside messages and inside a payload.
use Rattle.std.specs.Prelude.{ℕ, List, [], Bool, true, false, Option, Some, None}
use Rattle.dioc_terms.specs.declared.processes.Key.{Key}
use Rattle.dioc_terms.specs.declared.values.Value.{Value}
use Rattle.dioc_terms.specs.Processes.{Process, Skip, Seq, Par, IfLead, IfFollow, WhileLead, WhileFollow, ScopeLead, ScopeFollow, Tell, Gather, Letters, Nothing, More, Load, Val, Part}

-- the two parts of a process that has two
abbrev pub has_two : Process → Bool
has_two (Seq P Q) = true
has_two (Par P Q) = true
has_two (IfLead i g others P Q) = true
has_two (IfFollow i leader P Q) = true
has_two _ = false

abbrev pub first_of : Process → Process
first_of (Seq P Q) = P
first_of (Par P Q) = P
first_of (IfLead i g others P Q) = P
first_of (IfFollow i leader P Q) = P
first_of _ = Skip

abbrev pub second_of : Process → Process
second_of (Seq P Q) = Q
second_of (Par P Q) = Q
second_of (IfLead i g others P Q) = Q
second_of (IfFollow i leader P Q) = Q
second_of _ = Skip

-- the body of a loop or of a scope
abbrev pub has_body : Process → Bool
has_body (WhileLead i g others P) = true
has_body (WhileFollow i leader P) = true
has_body (ScopeLead head others P) = true
has_body (ScopeFollow i leader P) = true
has_body _ = false

abbrev pub body_of : Process → Process
body_of (WhileLead i g others P) = P
body_of (WhileFollow i leader P) = P
body_of (ScopeLead head others P) = P
body_of (ScopeFollow i leader P) = P
body_of _ = Skip

-- the messages that are still to be sent
abbrev pub is_tell : Process → Bool
is_tell (Tell ms) = true
is_tell _ = false

abbrev pub messages_of : Process → Letters
messages_of (Tell ms) = ms
messages_of _ = Nothing

-- the keys whose messages are still to be taken
abbrev pub is_gather : Process → Bool
is_gather (Gather ks) = true
is_gather _ = false

abbrev pub keys_of : Process → List Key
keys_of (Gather ks) = ks
keys_of _ = []

-- the messages behind the first
abbrev pub has_more : Letters → Bool
has_more Nothing = false
has_more (More k l ms) = true

abbrev pub behind_first : Letters → Letters
behind_first Nothing = Nothing
behind_first (More k l ms) = ms

-- the value of a payload that is one
abbrev pub value_of : Load → Option Value
value_of (Val v) = Some v
value_of _ = None

-- the process of a payload that is a part of an update
abbrev pub is_part : Load → Bool
is_part (Part n P) = true
is_part _ = false

abbrev pub part_of : Load → Process
part_of (Part n P) = P
part_of _ = Skip
