-- How far a static process has come: a status for each construct that runs, and what it reads as.
use Rattle.std.specs.Prelude.{List, [], ◌∷◌, ◌++◌, map, Bool, true, false, ◌&&◌, if◌then◌else◌}
use Rattle.dioc_terms.specs.declared.names.Role.{Role}
use Rattle.dioc_terms.specs.declared.names.Index.{Index}
use Rattle.dioc_terms.specs.declared.processes.Key.{Key}
use Rattle.dioc_terms.specs.declared.processes.Tag.{Tag}
use Rattle.dioc_terms.specs.declared.processes.Tag.TheVariants.{Turn, End, Out}
use Rattle.dioc_terms.specs.declared.entries.Act.{Act}
use Rattle.dioc_terms.specs.declared.entries.Act.TheVariants as act
use Rattle.dioc_terms.specs.Processes.{Process, Skip, Seq, Par, IfLead, IfFollow, WhileLead, WhileFollow, ScopeLead, ScopeFollow, Tell, Gather, Letters, More, Load, Done}
use Rattle.process_steps.specs.Steps.{ended, after, key, gather, tell, send_one, offers}

-- how far the construct at a place has come; a status that does not fit its construct is as good
-- as Finished
pub data Status : Type 0 where
  -- the process is the static one
  Untouched : Status
  -- nothing is left: it reads as Skip
  Finished : Status
  -- of a sequence: in the first part, the second is still static
  First : Status → Status
  -- of a sequence: the first part is gone
  Second : Status → Status
  -- of a parallel
  Both : Status → Status → Status
  -- a leader tells the others, and has this message and these to send, and then goes on: to the
  -- branch for the flag, to the turn, or to the body
  Telling : Bool → Key → Load → Letters → Status
  -- of a choice: in this branch
  Branch : Bool → Status → Status
  -- of a loop or a scope: in its body
  Body : Status → Status
  -- of a leader: it gathers the ends of the others, under this key and these
  Gathering : Key → List Key → Status
  -- of a follower: it puts the end of the turn or of its part
  Ending : Status
  -- this message and these are all that is left
  Left : Key → Load → Letters → Status
  -- the messages under this key and these are all that is left
  Waiting : Key → List Key → Status
  -- of a scope that an update replaced, or of a tell: it has become this process, which runs on its
  -- own
  Became : Process → Status

abbrev pub keys_of : Role → List Role → Index → Tag → List Key
keys_of me others i tag = map (λ q. key q me i tag) others

-- what stands behind the body of a loop that the role leads
abbrev pub lead_turn : Role → List Role → Index → Process → Process
lead_turn me others i again = after (gather me others i Turn) again

abbrev pub follow_turn : Role → Role → Index → Process → Process
follow_turn me leader i again = Seq (send_one (key me leader i Turn) Done) again

-- what stands behind the body of a scope
abbrev pub lead_end : Role → List Role → Index → Process
lead_end me others i = after (gather me others i End) (tell me others i Out (λ q. Done))

abbrev pub follow_end : Role → Role → Index → Process
follow_end me leader i =
    Seq (send_one (key me leader i End) Done) (Gather (key leader me i Out ∷ []))

-- the process that a static process has become
abbrev pub read : Role → Status → Process → Process
read me Untouched P = P
read me (Became R) P = R
read me (First x) (Seq P Q) = Seq (read me x P) Q
read me (Second x) (Seq P Q) = read me x Q
read me (Both x y) (Par P Q) = Par (read me x P) (read me y Q)
read me (Telling b k l ms) (IfLead i g others P Q) = Seq (Tell (More k l ms)) (if b then P else Q)
read me (Branch b x) (IfLead i g others P Q) = read me x (if b then P else Q)
read me (Branch b x) (IfFollow i leader P Q) = read me x (if b then P else Q)
read me (Telling b k l ms) (WhileLead i g others P) =
    Seq (Tell (More k l ms)) (after P (lead_turn me others i (WhileLead i g others P)))
read me (Body x) (WhileLead i g others P) =
    Seq (read me x P) (lead_turn me others i (WhileLead i g others P))
read me (Gathering k ks) (WhileLead i g others P) =
    Seq (Gather (k ∷ ks)) (WhileLead i g others P)
read me (Left k l ms) (WhileLead i g others P) = Tell (More k l ms)
read me (Body x) (WhileFollow i leader P) =
    Seq (read me x P) (follow_turn me leader i (WhileFollow i leader P))
read me Ending (WhileFollow i leader P) = follow_turn me leader i (WhileFollow i leader P)
read me (Telling b k l ms) (ScopeLead head others P) =
    Seq (Tell (More k l ms)) (after P (lead_end me others head.index))
read me (Body x) (ScopeLead head others P) = Seq (read me x P) (lead_end me others head.index)
read me (Gathering k ks) (ScopeLead head others P) =
    Seq (Gather (k ∷ ks)) (tell me others head.index Out (λ q. Done))
read me (Left k l ms) (ScopeLead head others P) = Tell (More k l ms)
read me (Body x) (ScopeFollow i leader P) = Seq (read me x P) (follow_end me leader i)
read me Ending (ScopeFollow i leader P) = follow_end me leader i
read me (Waiting k ks) (ScopeFollow i leader P) = Gather (k ∷ ks)
read me (Waiting k ks) (Gather ls) = Gather (k ∷ ks)
read me x P = Skip

abbrev pub is_alone : List Role → Bool
is_alone [] = true
is_alone (q ∷ qs) = false

-- nothing is left to do
abbrev pub is_over : Role → Status → Process → Bool
is_over me Untouched P = ended P
is_over me (Became R) P = ended R
is_over me (First x) (Seq P Q) = is_over me x P && ended Q
is_over me (Second x) (Seq P Q) = is_over me x Q
is_over me (Both x y) (Par P Q) = is_over me x P && is_over me y Q
is_over me (Telling b k l ms) (IfLead i g others P Q) = false
is_over me (Branch b x) (IfLead i g others P Q) = is_over me x (if b then P else Q)
is_over me (Branch b x) (IfFollow i leader P Q) = is_over me x (if b then P else Q)
is_over me (Telling b k l ms) (WhileLead i g others P) = false
is_over me (Body x) (WhileLead i g others P) = false
is_over me (Gathering k ks) (WhileLead i g others P) = false
is_over me (Left k l ms) (WhileLead i g others P) = false
is_over me (Body x) (WhileFollow i leader P) = false
is_over me Ending (WhileFollow i leader P) = false
is_over me (Telling b k l ms) (ScopeLead head others P) = false
is_over me (Body x) (ScopeLead head others P) = is_over me x P && is_alone others
is_over me (Gathering k ks) (ScopeLead head others P) = false
is_over me (Left k l ms) (ScopeLead head others P) = false
is_over me (Body x) (ScopeFollow i leader P) = false
is_over me Ending (ScopeFollow i leader P) = false
is_over me (Waiting k ks) (ScopeFollow i leader P) = false
is_over me (Waiting k ks) (Gather ls) = false
is_over me x P = true

-- the acts that it offers, from left to right
abbrev pub leaves : Role → Status → Process → List Act
leaves me Untouched P = offers me P
leaves me (Became R) P = offers me R
leaves me (First x) (Seq P Q) = if is_over me x P then offers me Q else leaves me x P
leaves me (Second x) (Seq P Q) = leaves me x Q
leaves me (Both x y) (Par P Q) = leaves me x P ++ leaves me y Q
leaves me (Telling b k l ms) (IfLead i g others P Q) = act.Put k ∷ []
leaves me (Branch b x) (IfLead i g others P Q) = leaves me x (if b then P else Q)
leaves me (Branch b x) (IfFollow i leader P Q) = leaves me x (if b then P else Q)
leaves me (Telling b k l ms) (WhileLead i g others P) = act.Put k ∷ []
leaves me (Body x) (WhileLead i g others P) =
    if is_over me x P then offers me (lead_turn me others i (WhileLead i g others P))
    else leaves me x P
leaves me (Gathering k ks) (WhileLead i g others P) = act.Take k ∷ []
leaves me (Left k l ms) (WhileLead i g others P) = act.Put k ∷ []
leaves me (Body x) (WhileFollow i leader P) =
    if is_over me x P then act.Put (key me leader i Turn) ∷ [] else leaves me x P
leaves me Ending (WhileFollow i leader P) = act.Put (key me leader i Turn) ∷ []
leaves me (Telling b k l ms) (ScopeLead head others P) = act.Put k ∷ []
leaves me (Body x) (ScopeLead head others P) =
    if is_over me x P then offers me (lead_end me others head.index) else leaves me x P
leaves me (Gathering k ks) (ScopeLead head others P) = act.Take k ∷ []
leaves me (Left k l ms) (ScopeLead head others P) = act.Put k ∷ []
leaves me (Body x) (ScopeFollow i leader P) =
    if is_over me x P then act.Put (key me leader i End) ∷ [] else leaves me x P
leaves me Ending (ScopeFollow i leader P) = act.Put (key me leader i End) ∷ []
leaves me (Waiting k ks) (ScopeFollow i leader P) = act.Take k ∷ []
leaves me (Waiting k ks) (Gather ls) = act.Take k ∷ []
leaves me x P = []
