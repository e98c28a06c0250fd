-- What is made ready of a step before it is known what comes with it.
use Rattle.std.specs.Prelude.{ℕ, List, [], ◌∷◌, Bool, true, false, Option, Some, None}
use Rattle.dioc_terms.specs.declared.names.Role.{Role}
use Rattle.dioc_terms.specs.declared.names.Index.{Index}
use Rattle.dioc_terms.specs.declared.values.Value.{Value}
use Rattle.dioc_terms.specs.declared.values.Value.TheVariants as value
use Rattle.dioc_terms.specs.declared.processes.Tag.TheVariants.{Op, Choice, Go, Turn, Begin, End, Out}
use Rattle.dioc_terms.specs.declared.entries.Entry.{Entry}
use Rattle.dioc_terms.specs.declared.entries.Entry.TheVariants as entry
use Rattle.dioc_terms.specs.Processes.{Process, Skip, Send, Recv, Assign, Read, Seq, IfLead, IfFollow, WhileLead, WhileFollow, ScopeLead, ScopeFollow, Tell, Gather, More, Load, Val, Flag, Keep, Part, Done, noted}
use Rattle.dioc_terms.specs.Stores.{Store, set_variable, next_input, drop_input}
use Rattle.dioc_terms.specs.Values.{eval, is_true}
use Rattle.dpoc_process.specs.Changes.{Change, Becomes, Rest, Branches, Turns, Enters}
use Rattle.dpoc_process.specs.Handed.{Handed, Message, Parted}
use Rattle.process_steps.specs.Steps.{key, after, telling, tell, gather, send_one}

-- the one value that the part needs of its store
abbrev pub value_at : Store → Process → Value
value_at s (Send i o b e) = eval e s
value_at s (Assign i x e) = eval e s
value_at s (Read i x) = next_input s
value_at s (IfLead i g others P Q) = eval g s
value_at s (WhileLead i g others P) = eval g s
value_at s _ = value.Nil

-- a change, or what is known of it
pub data Growth : Type 0 where
  Certain : Change → Growth
  -- a branch, by the flag that comes
  ByFlag : Growth
  -- a turn of this body with this end where the flag that comes is true
  Looping : Process → Process → Growth
  -- a scope: what is told where it keeps its body, and what stands after the body
  Leading : Process → Process → Growth
  -- a scope of another role: what stands after the body
  Following : Process → Growth

-- a loop by its leader's pick
abbrev pub leads_loop : Role → Index → List Role → Process → Bool → Growth
leads_loop me i others P true = Certain (Turns (tell me others i Go (λ q. Flag true)) P
    (gather me others i Turn))
leads_loop me i others P false = Certain (Becomes (tell me others i Go (λ q. Flag false)))

-- what follows the body of a scope for its leader, and for another role
abbrev pub leader_end : Role → List Role → Index → Process
leader_end me others i = after (gather me others i End) (tell me others i Out (λ q. Done))

abbrev pub follower_end : Role → Role → Index → Process
follower_end me leader i = Seq (send_one (key me leader i End) Done)
    (Gather (key leader me i Out ∷ []))

-- what is made ready of a part, with the value that it needs
abbrev pub growth : Role → Value → Process → Growth
growth me v (IfLead i g others P Q) = Certain (Branches
    (tell me others i Choice (λ q. Flag (is_true v))) (is_true v))
growth me v (IfFollow i leader P Q) = ByFlag
growth me v (WhileLead i g others P) = leads_loop me i others P (is_true v)
growth me v (WhileFollow i leader P) = Looping P (send_one (key me leader i Turn) Done)
growth me v (ScopeLead head others P) = Leading (tell me others head.index Begin (λ q. Keep))
    (leader_end me others head.index)
growth me v (ScopeFollow i leader P) = Following (follower_end me leader i)
growth me v (Tell ms) = Certain Rest
growth me v (Gather ks) = Certain Rest
growth me v _ = Certain (Becomes Skip)

-- the change, once it is known what comes with the act
abbrev pub grown : Growth → Handed → Change
grown (Certain c) h = c
grown ByFlag (Message (Flag b)) = Branches Skip b
grown ByFlag _ = Becomes Skip
grown (Looping body last) (Message (Flag true)) = Turns Skip body last
grown (Looping body last) _ = Becomes Skip
grown (Leading first last) (Parted own ms) = Becomes (after (telling ms) (after own last))
grown (Leading first last) _ = Enters first last
grown (Following last) (Message (Part n R)) = Becomes (after R last)
grown (Following last) _ = Enters Skip last

-- what a step writes into the store
pub data Write : Type 0 where
  Nothing : Write
  -- the value that comes
  Keeps : List ℕ → Write
  Sets : List ℕ → Value → Write
  -- the next input
  Reads : List ℕ → Write

abbrev pub write_at : Value → Process → Write
write_at v (Recv i o a x) = Keeps x
write_at v (Assign i x e) = Sets x v
write_at v (Read i x) = Reads x
write_at v _ = Nothing

-- the value that comes with the act
abbrev pub handed_value : Handed → Option Value
handed_value (Message (Val v)) = Some v
handed_value _ = None

abbrev pub with_written : Write → Option Value → Store → Store
with_written (Keeps x) (Some v) s = set_variable x v s
with_written (Sets x v) came s = set_variable x v s
with_written (Reads x) came s = set_variable x (next_input s) (drop_input s)
with_written _ came s = s

-- what is known of the entry before the act is done
abbrev pub entry_at : Role → Value → Process → Option Entry
entry_at me v (Send i o b e) = Some (entry.Put (key me b i (Op o)) (noted (Val v)))
entry_at me v (Recv i o a x) = Some (entry.Take (key a me i (Op o)) (Some x))
entry_at me v (Assign i x e) = Some (entry.Set i me x v)
entry_at me v (Read i x) = Some (entry.Input i me x v)
entry_at me v (IfLead i g others P Q) = Some (entry.Pick i me (is_true v))
entry_at me v (IfFollow i leader P Q) = Some (entry.Take (key leader me i Choice) None)
entry_at me v (WhileLead i g others P) = Some (entry.Pick i me (is_true v))
entry_at me v (WhileFollow i leader P) = Some (entry.Take (key leader me i Go) None)
entry_at me v (ScopeFollow i leader P) = Some (entry.Take (key leader me i Begin) None)
entry_at me v (Tell (More k l ms)) = Some (entry.Put k (noted l))
entry_at me v (Gather (k ∷ ks)) = Some (entry.Take k None)
entry_at me v _ = None

-- what the act sends
abbrev pub load_at : Value → Process → Option Load
load_at v (Send i o b e) = Some (Val v)
load_at v (Tell (More k l ms)) = Some l
load_at v _ = None
