-- One step of a role's process: what it offers, and what it becomes.
use Rattle.std.specs.Prelude.{ℕ, List, [], ◌∷◌, ◌++◌, map, Bool, true, false, ◌&&◌, if◌then◌else◌, Option, Some, None}
use Rattle.std.specs.List.{list_any}
use Rattle.dioc_terms.specs.declared.names.Role.{Role}
use Rattle.dioc_terms.specs.declared.names.Index.{Index}
use Rattle.dioc_terms.specs.declared.values.Value.{Value}
use Rattle.dioc_terms.specs.declared.processes.Key.{Key}
use Rattle.dioc_terms.specs.declared.processes.Tag.{Tag}
use Rattle.dioc_terms.specs.declared.processes.Tag.TheVariants.{Op, Choice, Go, Turn, Begin, End, Out}
use Rattle.dioc_terms.specs.declared.processes.ScopeHead.{ScopeHead}
use Rattle.dioc_terms.specs.declared.entries.Act.{Act}
use Rattle.dioc_terms.specs.declared.entries.Act.TheVariants as act
use Rattle.dioc_terms.specs.declared.entries.Chosen.{Chosen}
use Rattle.dioc_terms.specs.declared.entries.Chosen.TheVariants as chosen
use Rattle.dioc_terms.specs.declared.entries.Entry.{Entry}
use Rattle.dioc_terms.specs.declared.entries.Entry.TheVariants as entry
use Rattle.dioc_terms.specs.Equality.{act_eq}
use Rattle.dioc_terms.specs.Attempts.{Attempt, Stuck, Does, under, when}
use Rattle.dioc_terms.specs.Processes.{Process, Skip, Send, Recv, Assign, Read, Seq, Par, IfLead, IfFollow, WhileLead, WhileFollow, ScopeLead, ScopeFollow, Tell, Gather, Letters, Nothing, More, Load, Val, Flag, Keep, Part, Done, noted}
use Rattle.dioc_terms.specs.Stores.{Store, set_variable, next_input, drop_input}
use Rattle.dioc_terms.specs.Values.{eval, is_true}

-- nothing is left to do; a tell or a gather with nothing left is as good as Skip
abbrev pub ended : Process → Bool
ended Skip = true
ended (Seq P Q) = ended P && ended Q
ended (Par P Q) = ended P && ended Q
ended (Tell Nothing) = true
ended (Gather []) = true
ended _ = false

-- the first, and then the second
abbrev pub after : Process → Process → Process
after P Q = if ended P then Q else Seq P Q

abbrev pub key : Role → Role → Index → Tag → Key
key from to i tag = record { from = from; to = to; index = i; tag = tag }

-- one message with this tag to each of these roles, one by one
abbrev pub letters_to : Role → List Role → Index → Tag → (Role → Load) → Letters
letters_to from [] i tag carries = Nothing
letters_to from (q ∷ qs) i tag carries =
    More (key from q i tag) (carries q) (letters_to from qs i tag carries)

abbrev pub telling : Letters → Process
telling Nothing = Skip
telling (More k l ms) = Tell (More k l ms)

abbrev pub gathering : List Key → Process
gathering [] = Skip
gathering (k ∷ ks) = Gather (k ∷ ks)

-- tells each of these roles
abbrev pub tell : Role → List Role → Index → Tag → (Role → Load) → Process
tell from qs i tag carries = telling (letters_to from qs i tag carries)

-- takes one message with this tag from each of these roles, one by one
abbrev pub gather : Role → List Role → Index → Tag → Process
gather to qs i tag = gathering (map (λ q. key q to i tag) qs)

-- sends one message
abbrev pub send_one : Key → Load → Process
send_one k l = Tell (More k l Nothing)

-- what the book decides of a scope: it keeps its body, or a rule of that name replaces it as the
-- update of that number, with a part for each role
pub data Decision : Type 0 where
  Keeps : Decision
  Replaces : List ℕ → ℕ → (Role → Process) → Decision

-- what comes to a step from outside of its role
pub data Given : Type 0 where
  -- nothing is there
  Alone : Given
  -- the message that is taken
  Got : Load → Given
  -- what the book says of a scope that is begun
  FromBook : (ScopeHead → Decision) → Given

-- what a role did in a step: all that the entry, the mail and its store need to know
pub data Deed : Type 0 where
  Puts : Key → Load → Deed
  -- the variable is there for an operation alone
  Takes : Key → Option (List ℕ) → Load → Deed
  Sets : Index → Role → List ℕ → Value → Deed
  Inputs : Index → Role → List ℕ → Value → Deed
  Picks : Index → Role → Bool → Deed
  Chooses : Index → Role → Chosen → Deed

abbrev pub entry_of : Deed → Entry
entry_of (Puts k l) = entry.Put k (noted l)
entry_of (Takes k x l) = entry.Take k x
entry_of (Sets i r x v) = entry.Set i r x v
entry_of (Inputs i r x v) = entry.Input i r x v
entry_of (Picks i r b) = entry.Pick i r b
entry_of (Chooses i r c) = entry.Scope i r c

-- the role's store after it
abbrev pub store_after : Deed → Store → Store
store_after (Takes k (Some x) (Val v)) s = set_variable x v s
store_after (Sets i r x v) s = set_variable x v s
store_after (Inputs i r x v) s = set_variable x v (drop_input s)
store_after _ s = s

-- what a leader does after its pick: it tells the flag, and runs the branch
abbrev pub if_leads : Role → Index → List Role → Bool → Process → Process → Process
if_leads me i others b P Q = after (tell me others i Choice (λ q. Flag b)) (if b then P else Q)

-- where it picked true, a loop's leader tells so, runs the body, gathers the ends of the turn and
-- begins again; else it tells so
abbrev pub while_leads : Role → Index → List Role → Bool → Process → Process → Process
while_leads me i others b P again =
    if b then after (tell me others i Go (λ q. Flag b))
    (after P (after (gather me others i Turn) again))
    else tell me others i Go (λ q. Flag b)

-- a follower's turn of a loop: the body, the end of the turn for the leader, and the loop again
abbrev pub while_follows : Role → Role → Index → Process → Process → Process
while_follows leader me i P again = after P (Seq (send_one (key me leader i Turn) Done) again)

-- the leader of a scope tells the begin, runs its own part, gathers the ends, and tells the release
abbrev pub scope_leads : Role → List Role → Index → (Role → Load) → Process → Process
scope_leads me others i begin P =
    after (tell me others i Begin begin)
    (after P (after (gather me others i End) (tell me others i Out (λ q. Done))))

-- a follower of a scope runs its part, puts its end, and waits for the release
abbrev pub scope_follows : Role → Role → Index → Process → Process
scope_follows leader me i P =
    after P (Seq (send_one (key me leader i End) Done) (Gather (key leader me i Out ∷ [])))

abbrev pub take_value : Key → List ℕ → Given → Attempt Deed Process
take_value k x (Got (Val v)) = Does (Takes k (Some x) (Val v)) Skip
take_value k x _ = Stuck

-- the follower of a choice or of a loop: one way where the flag is true, the other where it is
-- false
abbrev pub take_flag : Key → Process → Process → Given → Attempt Deed Process
take_flag k P Q (Got (Flag b)) = Does (Takes k None (Flag b)) (if b then P else Q)
take_flag k P Q _ = Stuck

-- a gather takes whatever came under its key
abbrev pub take_any : Key → Process → Given → Attempt Deed Process
take_any k P (Got l) = Does (Takes k None l) P
take_any k P _ = Stuck

abbrev pub take_begin : Role → Role → Index → Process → Given → Attempt Deed Process
take_begin leader me i P (Got Keep) =
    Does (Takes (key leader me i Begin) None Keep) (scope_follows leader me i P)
take_begin leader me i P (Got (Part n R)) =
    Does (Takes (key leader me i Begin) None (Part n R)) (scope_follows leader me i R)
take_begin leader me i P _ = Stuck

abbrev pub begin_scope : Role → Index → List Role → Process → Decision → Attempt Deed Process
begin_scope me i others P Keeps =
    Does (Chooses i me chosen.Keep) (scope_leads me others i (λ q. Keep) P)
begin_scope me i others P (Replaces name n part) =
    Does (Chooses i me (chosen.Rule name n))
    (scope_leads me others i (λ q. Part n (part q)) (part me))

abbrev pub choose_scope : Role → ScopeHead → List Role → Process → Given → Attempt Deed Process
choose_scope me head others P (FromBook decide) = begin_scope me head.index others P (decide head)
choose_scope me head others P _ = Stuck

-- the acts that a process offers, from left to right
abbrev pub offers : Role → Process → List Act
offers me Skip = []
offers me (Send i o b e) = act.Put (key me b i (Op o)) ∷ []
offers me (Recv i o a x) = act.Take (key a me i (Op o)) ∷ []
offers me (Assign i x e) = act.Set i ∷ []
offers me (Read i x) = act.Input i ∷ []
offers me (Seq P Q) = if ended P then offers me Q else offers me P
offers me (Par P Q) = offers me P ++ offers me Q
offers me (IfLead i g others P Q) = act.Pick i ∷ []
offers me (IfFollow i leader P Q) = act.Take (key leader me i Choice) ∷ []
offers me (WhileLead i g others P) = act.Pick i ∷ []
offers me (WhileFollow i leader P) = act.Take (key leader me i Go) ∷ []
offers me (ScopeLead head others P) = act.Scope head.index ∷ []
offers me (ScopeFollow i leader P) = act.Take (key leader me i Begin) ∷ []
offers me (Tell Nothing) = []
offers me (Tell (More k l ms)) = act.Put k ∷ []
offers me (Gather []) = []
offers me (Gather (k ∷ ks)) = act.Take k ∷ []

abbrev pub is_offered : Act → List Act → Bool
is_offered a acts = list_any (act_eq a) acts

-- The step of a process by an act: what was done, and what the process becomes. The role, its
-- store, the process, the act, and what comes from outside.
abbrev pub step : Role → Store → Process → Act → Given → Attempt Deed Process
step me s Skip a given = Stuck
-- sends the value of its expression
step me s (Send i o b e) a given =
    when (act_eq a (act.Put (key me b i (Op o)))) (Does (Puts (key me b i (Op o)) (Val (eval e s)))
    Skip)
-- keeps the value that came
step me s (Recv i o from x) a given =
    when (act_eq a (act.Take (key from me i (Op o)))) (take_value (key from me i (Op o)) x given)
step me s (Assign i x e) a given = when (act_eq a (act.Set i)) (Does (Sets i me x (eval e s)) Skip)
-- the next input, Nil where none is left
step me s (Read i x) a given =
    when (act_eq a (act.Input i)) (Does (Inputs i me x (next_input s)) Skip)
-- the second part acts only where the first has ended
step me s (Seq P Q) a given =
    if ended P then step me s Q a given else under (λ p. after p Q) (step me s P a given)
-- the part that offers the act, the left one where both do
step me s (Par P Q) a given =
    if is_offered a (offers me P) then under (λ p. Par p Q) (step me s P a given) else under (Par P)
    (step me s Q a given)
step me s (IfLead i g others P Q) a given =
    when (act_eq a (act.Pick i))
    (Does (Picks i me (is_true (eval g s))) (if_leads me i others (is_true (eval g s)) P Q))
step me s (IfFollow i leader P Q) a given =
    when (act_eq a (act.Take (key leader me i Choice)))
    (take_flag (key leader me i Choice) P Q given)
step me s (WhileLead i g others P) a given =
    when (act_eq a (act.Pick i))
    (Does (Picks i me (is_true (eval g s)))
    (while_leads me i others (is_true (eval g s)) P (WhileLead i g others P)))
step me s (WhileFollow i leader P) a given =
    when (act_eq a (act.Take (key leader me i Go)))
    (take_flag (key leader me i Go) (while_follows leader me i P (WhileFollow i leader P)) Skip
    given)
step me s (ScopeLead head others P) a given =
    when (act_eq a (act.Scope head.index)) (choose_scope me head others P given)
step me s (ScopeFollow i leader P) a given =
    when (act_eq a (act.Take (key leader me i Begin))) (take_begin leader me i P given)
step me s (Tell Nothing) a given = Stuck
step me s (Tell (More k l ms)) a given = when (act_eq a (act.Put k)) (Does (Puts k l) (telling ms))
step me s (Gather []) a given = Stuck
step me s (Gather (k ∷ ks)) a given = when (act_eq a (act.Take k)) (take_any k (gathering ks) given)
