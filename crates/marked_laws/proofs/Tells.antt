-- Telling and gathering have ended exactly where nobody is left.
use Rattle.std.proofs.Common.{◌≡◌, List, [], ◌∷◌, true, refl, ap}
use Rattle.dioc_terms.specs.declared.names.Role.{Role}
use Rattle.dioc_terms.specs.declared.names.Index.{Index}
use Rattle.dioc_terms.specs.declared.processes.Tag.{Tag}
use Rattle.dioc_terms.specs.Processes.{Load}
use Rattle.process_steps.specs.Steps.{ended, tell, gather}

pub tell_ended : (from : Role) (qs : List Role) (i : Index) (t : Tag) (carries : Role → Load) → ended (tell from qs i t carries) ≡ true → qs ≡ []
tell_ended from [] i t carries h = refl
tell_ended from (q ∷ qs) i t carries h = cc

pub gather_ended : (to : Role) (qs : List Role) (i : Index) (t : Tag) → ended (gather to qs i t) ≡ true → qs ≡ []
gather_ended to [] i t h = refl
gather_ended to (q ∷ qs) i t h = cc

pub tell_done : (from : Role) (qs : List Role) (i : Index) (t : Tag) (carries : Role → Load) → qs ≡ [] → ended (tell from qs i t carries) ≡ true
tell_done from qs i t carries h = ap (λ l. ended (tell from l i t carries)) h

pub gather_done : (to : Role) (qs : List Role) (i : Index) (t : Tag) → qs ≡ [] → ended (gather to qs i t) ≡ true
gather_done to qs i t h = ap (λ l. ended (gather to l i t)) h
