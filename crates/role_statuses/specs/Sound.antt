-- The statuses that a role comes to.
use Rattle.std.specs.Prelude.{◌≡◌, Bool, true, false, not, ◌&&◌, if◌then◌else◌}
use Rattle.dioc_terms.specs.declared.names.Role.{Role}
use Rattle.dioc_terms.specs.Attempts.{Attempt, Stuck, Does}
use Rattle.dioc_terms.specs.Processes.{Process, Seq, Par, IfLead, IfFollow, WhileLead, WhileFollow, ScopeLead, ScopeFollow}
use Rattle.process_steps.specs.Steps.{Deed}
use Rattle.role_statuses.specs.Statuses.{Status, First, Second, Both, Branch, Body, is_over}

-- each status fits its construct, and the first part of a sequence and the body of a loop or a
-- scope is left as soon as it has ended
abbrev pub is_sound : Role → Status → Process → Bool
is_sound me (First x) (Seq P Q) = not (is_over me x P) && is_sound me x P
is_sound me (Second x) (Seq P Q) = is_sound me x Q
is_sound me (Both x y) (Par P Q) = is_sound me x P && is_sound me y Q
is_sound me (Branch b x) (IfLead i g others P Q) = is_sound me x (if b then P else Q)
is_sound me (Branch b x) (IfFollow i leader P Q) = is_sound me x (if b then P else Q)
is_sound me (Body x) (WhileLead i g others P) = not (is_over me x P) && is_sound me x P
is_sound me (Body x) (WhileFollow i leader P) = not (is_over me x P) && is_sound me x P
is_sound me (Body x) (ScopeLead head others P) = not (is_over me x P) && is_sound me x P
is_sound me (Body x) (ScopeFollow i leader P) = not (is_over me x P) && is_sound me x P
is_sound me (First x) P = false
is_sound me (Second x) P = false
is_sound me (Both x y) P = false
is_sound me (Branch b x) P = false
is_sound me (Body x) P = false
is_sound me x P = true

abbrev pub SoundAfter : Role → Process → Attempt Deed Status → Type 0
SoundAfter me P Stuck = Unit {0}
SoundAfter me P (Does d x) = is_sound me x P ≡ true
