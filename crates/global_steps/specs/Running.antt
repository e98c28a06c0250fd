-- The running term: what is left of the choreography in the middle of a run. It has three more
-- forms than a term.
use Rattle.std.specs.Prelude.{ℕ, List, Bool, true, false, ◌&&◌, ◌||◌}
use Rattle.dioc_terms.specs.declared.names.Role.{Role}
use Rattle.dioc_terms.specs.declared.names.Index.{Index}
use Rattle.dioc_terms.specs.declared.values.Value.{Value}
use Rattle.dioc_terms.specs.Equality.{role_eq}
use Rattle.dioc_terms.specs.Expressions.{Expression}
use Rattle.dioc_terms.specs.Terms as term
use Rattle.dioc_terms.specs.Terms.{Term}

pub data Running : Type 0 where
  Skip : Running
  Com : Index → List ℕ → Role → Expression → Role → List ℕ → Running
  Set : Index → List ℕ → Role → Expression → Running
  Input : Index → List ℕ → Role → Running
  Seq : Running → Running → Running
  Par : Running → Running → Running
  If : Index → Role → Expression → Term → Term → Running
  While : Index → Role → Expression → Term → Running
  Scope : Index → Role → Term → List Role → List (List ℕ × Value) → ℕ → Running
  -- a message in flight: index, operation, sender, receiver, the receiver's variable, the value
  Fly : Index → List ℕ → Role → Role → List ℕ → Value → Running
  -- a chosen scope: whether a role is of it, and what its body has become
  Bar : (Role → Bool) → Running → Running
  -- a running turn of a loop: the loop's index, leader, guard and body, and what the body of this
  -- turn has become
  Again : Index → Role → Expression → Term → Running → Running

-- a term that has not begun to run
abbrev pub started : Term → Running
started term.Skip = Skip
started (term.Com i o a e b x) = Com i o a e b x
started (term.Set i x r e) = Set i x r e
started (term.Input i x r) = Input i x r
started (term.Seq I J) = Seq (started I) (started J)
started (term.Par I J) = Par (started I) (started J)
started (term.If i r g I J) = If i r g I J
started (term.While i r g I) = While i r g I
started (term.Scope i r I extra props level) = Scope i r I extra props level

-- nothing is left to play
abbrev pub ended : Running → Bool
ended Skip = true
ended (Seq G H) = ended G && ended H
ended (Par G H) = ended G && ended H
ended (Bar roles G) = ended G
ended _ = false

-- nothing is left but messages in flight
abbrev pub light : Running → Bool
light Skip = true
light (Fly i o a b x v) = true
light (Seq G H) = light G && light H
light (Par G H) = light G && light H
light (Bar roles G) = ended G
light _ = false

-- whether a message in flight is for the role
abbrev pub is_due : Role → Running → Bool
is_due q (Fly i o a b x v) = role_eq q b
is_due q (Seq G H) = is_due q G || is_due q H
is_due q (Par G H) = is_due q G || is_due q H
is_due q (Bar roles G) = is_due q G
is_due q (Again i r g I G) = is_due q G
is_due q _ = false
