-- A construct that its leader has begun: its kind, how far each role is with it, what processes it makes of the roles, and which of
-- its messages are pending. A choice, a turn of a loop, the end of a loop, a chosen scope and its release are one such form.
use Rattle.std.proofs.Common.{◌≡◌, ◌⊎◌, ℕ, List, [], ◌∷◌, filter, Bool, true, false, not, if◌then◌else◌, Option, Some, None}
use Rattle.dioc_terms.specs.declared.names.Role.{Role}
use Rattle.dioc_terms.specs.declared.names.Index.{Index}
use Rattle.dioc_terms.specs.declared.values.Value.{Value}
use Rattle.dioc_terms.specs.declared.processes.Key.{Key}
use Rattle.dioc_terms.specs.declared.processes.Tag.{Tag}
use Rattle.dioc_terms.specs.declared.processes.Tag.TheVariants.{Choice, Go, Turn, Begin, End, Out}
use Rattle.dioc_terms.specs.Equality.{role_eq, key_eq}
use Rattle.dioc_terms.specs.Expressions.{Expression}
use Rattle.dioc_terms.specs.Processes as process
use Rattle.dioc_terms.specs.Processes.{Process, Load, Flag, Keep, Part, Done}
use Rattle.dioc_terms.specs.Terms as term
use Rattle.dioc_terms.specs.Terms.{Term, is_in, others}
use Rattle.projection.specs.Projection.{projected}
use Rattle.process_steps.specs.Steps.{key, tell, gather, send_one}
use Rattle.global_steps.specs.Running as running
use Rattle.global_steps.specs.Running.{Running}

-- how far a role other than the leader is with a construct
pub data Phase : Type 0 where
  -- nothing was told to it yet
  Waits : Phase
  -- the leader's message for it is pending
  Told : Phase
  -- it took the message
  Inside : Phase
  -- its message that it is through is pending
  Sent : Phase
  -- the leader took that message
  Gone : Phase

abbrev pub waits : Phase → Bool
waits Waits = true
waits _ = false

abbrev pub gone : Phase → Bool
gone Gone = true
gone _ = false

-- it hasn't begun its part
abbrev pub is_early : Phase → Bool
is_early Waits = true
is_early Told = true
is_early _ = false

-- it is through with its part
abbrev pub is_late : Phase → Bool
is_late Sent = true
is_late Gone = true
is_late _ = false

abbrev pub Phases : Type 0
Phases = Role → Phase

abbrev pub all_wait : Phases
all_wait q = Waits

pub data Kind : Type 0 where
  -- a choice: index, leader, guard, the branches, the flag that was picked
  Branch : Index → Role → Expression → Term → Term → Bool → Kind
  -- a turn of a loop: index, leader, guard, body
  Turning : Index → Role → Expression → Term → Kind
  -- a loop whose leader picked false
  Stopping : Index → Role → Expression → Term → Kind
  -- a chosen scope: the scope, what its begin carries for each role, and the body that runs
  Scoped : Index → Role → Term → List Role → List (List ℕ × Value) → ℕ → (Role → Load) → Term → Kind
  -- a scope in which all have arrived, and whose leader lets them out
  Releasing : Index → Role → Term → List Role → List (List ℕ × Value) → ℕ → Kind

abbrev pub leader : Kind → Role
leader (Branch i r g I J b) = r
leader (Turning i r g I) = r
leader (Stopping i r g I) = r
leader (Scoped i r I extra props level begin B) = r
leader (Releasing i r I extra props level) = r

abbrev pub index : Kind → Index
index (Branch i r g I J b) = i
index (Turning i r g I) = i
index (Stopping i r g I) = i
index (Scoped i r I extra props level begin B) = i
index (Releasing i r I extra props level) = i

-- the tag of the leader's messages
abbrev pub tag : Kind → Tag
tag (Branch i r g I J b) = Choice
tag (Turning i r g I) = Go
tag (Stopping i r g I) = Go
tag (Scoped i r I extra props level begin B) = Begin
tag (Releasing i r I extra props level) = Out

-- what the leader's message for a role carries
abbrev pub told : Kind → Role → Load
told (Branch i r g I J b) q = Flag b
told (Turning i r g I) q = Flag true
told (Stopping i r g I) q = Flag false
told (Scoped i r I extra props level begin B) q = begin q
told (Releasing i r I extra props level) q = Done

-- the construct
abbrev pub whole : Kind → Term
whole (Branch i r g I J b) = term.If i r g I J
whole (Turning i r g I) = term.While i r g I
whole (Stopping i r g I) = term.While i r g I
whole (Scoped i r I extra props level begin B) = term.Scope i r I extra props level
whole (Releasing i r I extra props level) = term.Scope i r I extra props level

-- what runs inside
abbrev pub body : Kind → Term
body (Branch i r g I J b) = if b then I else J
body (Turning i r g I) = I
body (Stopping i r g I) = term.Skip
body (Scoped i r I extra props level begin B) = B
body (Releasing i r I extra props level) = term.Skip

-- no construct is the empty program
pub whole_not_skip : (k : Kind) → whole k ≡ term.Skip → ⊥
whole_not_skip (Branch i r g I J b) h = cc
whole_not_skip (Turning i r g I) h = cc
whole_not_skip (Stopping i r g I) h = cc
whole_not_skip (Scoped i r I extra props level begin B) h = cc
whole_not_skip (Releasing i r I extra props level) h = cc

-- the kinds whose other roles tell the leader that they are through, and by which tag
pub data Backs : Kind → Tag → Type 0 where
  turn_backs : {i : Index} {r : Role} {g : Expression} {I : Term} → Backs (Turning i r g I) Turn
  end_backs : {i : Index} {r : Role} {I : Term} {extra : List Role} {props : List (List ℕ × Value)} {level : ℕ} {begin : Role → Load} {B : Term}
      → Backs (Scoped i r I extra props level begin B) End

-- the running term of the construct, with the body's inside
abbrev pub runs : Kind → Running → Running
runs (Branch i r g I J b) G = G
runs (Turning i r g I) G = running.Again i r g I G
runs (Stopping i r g I) G = running.Skip
runs (Scoped i r I extra props level begin B) G = running.Bar (λ q. is_in q (term.Scope i r I extra props level)) G
runs (Releasing i r I extra props level) G = running.Bar (λ q. is_in q (term.Scope i r I extra props level)) G

-- the message that the leader sends to a role
abbrev pub telling_key : Kind → Role → Key
telling_key k q = key (leader k) q (index k) (tag k)

-- the message by which a role tells the leader that it is through
abbrev pub backing_key : Kind → Tag → Role → Key
backing_key k t q = key q (leader k) (index k) t

-- the one message that is pending between the leader and a role at a phase
abbrev pub letter : Kind → Role → Phase → Option (Key × Load)
letter k q Told = Some (telling_key k q, told k q)
letter (Turning i r g I) q Sent = Some (key q r i Turn, Done)
letter (Scoped i r I extra props level begin B) q Sent = Some (key q r i End, Done)
letter _ q _ = None

-- the role at the other end from the leader
abbrev pub peer : Kind → Key → Role
peer k j = if role_eq j.from (leader k) then j.to else j.from

abbrev pub opened : Option (Key × Load) → Key → Option Load
opened None j = None
opened (Some message) j = if key_eq j message.0 then Some message.1 else None

-- the construct's own pending message of a key
abbrev pub own_mail : Kind → Phases → Key → Option Load
own_mail k phases j = opened (letter k (peer k j) (phases (peer k j))) j

module _ (cast : List Role) where
  -- the roles of the construct but its leader, in the order of the cast
  abbrev pub followers : Kind → List Role
  followers k = others cast (leader k) (whole k)

  -- the roles that the leader still has to tell
  abbrev pub untold : Kind → Phases → List Role
  untold k phases = filter (λ q. waits (phases q)) (followers k)

  -- the roles whose message the leader still has to take
  abbrev pub ungone : Kind → Phases → List Role
  ungone k phases = filter (λ q. not (gone (phases q))) (followers k)

  -- the leader's process, where P is what is left of its body
  abbrev pub leads : Kind → Phases → Process → Process
  leads (Branch i r g I J b) phases P = process.Seq (tell r (untold (Branch i r g I J b) phases) i Choice (λ q. Flag b)) P
  leads (Turning i r g I) phases P =
      process.Seq (tell r (untold (Turning i r g I) phases) i Go (λ q. Flag true))
      (process.Seq P (process.Seq (gather r (ungone (Turning i r g I) phases) i Turn) (projected cast (term.While i r g I) r)))
  leads (Stopping i r g I) phases P = tell r (untold (Stopping i r g I) phases) i Go (λ q. Flag false)
  leads (Scoped i r I extra props level begin B) phases P =
      process.Seq (tell r (untold (Scoped i r I extra props level begin B) phases) i Begin begin)
      (process.Seq P (process.Seq (gather r (ungone (Scoped i r I extra props level begin B) phases) i End)
      (tell r (others cast r (term.Scope i r I extra props level)) i Out (λ q. Done))))
  leads (Releasing i r I extra props level) phases P = tell r (untold (Releasing i r I extra props level) phases) i Out (λ q. Done)

  -- a role's process before it takes the leader's message
  abbrev pub before : Kind → Role → Process
  before (Releasing i r I extra props level) q =
      if is_in q (term.Scope i r I extra props level) then process.Gather (key r q i Out ∷ []) else process.Skip
  before k q = projected cast (whole k) q

  -- a role's process once it took it, where P is what is left of its body
  abbrev pub inside : Kind → Role → Process → Process
  inside (Branch i r g I J b) q P = P
  inside (Turning i r g I) q P = process.Seq P (process.Seq (send_one (key q r i Turn) Done) (projected cast (term.While i r g I) q))
  inside (Stopping i r g I) q P = process.Skip
  inside (Scoped i r I extra props level begin B) q P =
      process.Seq P (process.Seq (send_one (key q r i End) Done) (process.Gather (key r q i Out ∷ [])))
  inside (Releasing i r I extra props level) q P = process.Skip

  -- a role's process once it told the leader that it is through
  abbrev pub outside : Kind → Role → Process
  outside (Turning i r g I) q = projected cast (term.While i r g I) q
  outside (Scoped i r I extra props level begin B) q = process.Gather (key r q i Out ∷ [])
  outside k q = process.Skip

  -- the process of a role that isn't the leader
  abbrev pub follows : Kind → Role → Phase → Process → Process
  follows k q Waits P = before k q
  follows k q Told P = before k q
  follows k q Inside P = inside k q P
  follows k q Sent P = outside k q
  follows k q Gone P = outside k q

  -- whether the role may act inside the construct now
  abbrev pub Busy : Kind → Phases → Role → Type 0
  Busy k phases q = ((role_eq q (leader k) ≡ true) × (untold k phases ≡ [])) ⊎ ((role_eq q (leader k) ≡ false) × (phases q ≡ Inside))

  -- what a scope's begin makes a role run: the scope's own body, or its part of a rule's
  abbrev pub Begins : Kind → Type 0
  Begins (Scoped i r I extra props level begin B) =
      ((B ≡ I) × ((q : Role) → begin q ≡ Keep)) ⊎ ((n : ℕ) × ((q : Role) → begin q ≡ Part n (projected cast B q)))
  Begins _ = Unit {0}
