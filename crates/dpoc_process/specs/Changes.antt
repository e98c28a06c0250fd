-- What a step makes of the part that does it, and the process with that part changed.
use Rattle.std.specs.Prelude.{◌∷◌, Bool, if◌then◌else◌}
use Rattle.std.specs.Option.{is_some}
use Rattle.dioc_terms.specs.declared.names.Role.{Role}
use Rattle.dioc_terms.specs.declared.entries.Act.{Act}
use Rattle.dioc_terms.specs.Processes.{Process, Skip, Seq, Par, IfLead, IfFollow, ScopeLead, ScopeFollow, Tell, Gather, More}
use Rattle.dpoc_process.specs.Acting.{acting}
use Rattle.process_steps.specs.Steps.{ended, after, telling, gathering}

pub data Change : Type 0 where
  -- this process in its place
  Becomes : Process → Change
  -- what is left to tell or to gather
  Rest : Change
  -- this first, and then the branch for the flag
  Branches : Process → Bool → Change
  -- this first, then a turn of the body and its end, and then the loop again
  Turns : Process → Process → Process → Change
  -- this first, then the body of the scope, and then its end
  Enters : Process → Process → Change

abbrev pub rest_of : Process → Process
rest_of (Tell (More k l ms)) = telling ms
rest_of (Gather (k ∷ ks)) = gathering ks
rest_of _ = Skip

abbrev pub branched : Process → Bool → Process → Process
branched first b (IfLead i g others P Q) = after first (if b then P else Q)
branched first b (IfFollow i leader P Q) = after first (if b then P else Q)
branched first b _ = Skip

abbrev pub body_entered : Process → Process → Process → Process
body_entered first last (ScopeLead head others P) = after first (after P last)
body_entered first last (ScopeFollow i leader P) = after first (after P last)
body_entered first last _ = Skip

-- what a part becomes, Skip where the change is none of its kind
abbrev pub changed : Change → Process → Process
changed (Becomes P) R = P
changed Rest R = rest_of R
changed (Branches first b) R = branched first b R
changed (Turns first body last) R = after first (after body (after last R))
changed (Enters first last) R = body_entered first last R

-- the process with the part that does the act changed
abbrev pub replaced : Role → Act → Process → Change → Process
replaced me a (Seq P Q) c = if ended P then replaced me a Q c else after (replaced me a P c) Q
replaced me a (Par P Q) c = if is_some (acting me a P) then Par (replaced me a P c) Q
    else Par P (replaced me a Q c)
replaced me a P c = changed c P
