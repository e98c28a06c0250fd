-- Whom the leader of a scope tells, in every process of a run: the others that the scope's head
-- shows.
use Rattle.std.specs.Prelude.{◌≡◌, List, Some}
use Rattle.dioc_terms.specs.declared.names.Role.{Role}
use Rattle.dioc_terms.specs.declared.processes.ScopeHead.{ScopeHead}
use Rattle.dioc_terms.specs.declared.entries.Act.{Act}
use Rattle.dioc_terms.specs.declared.entries.Act.TheVariants as act
use Rattle.dioc_terms.specs.Attempts.{Does}
use Rattle.dioc_terms.specs.Processes.{Process, Seq, Par, IfLead, IfFollow, WhileLead, WhileFollow, ScopeLead, ScopeFollow, Tell, Letters, Nothing, More, Load, Part}
use Rattle.dioc_terms.specs.Stores.{Store}
use Rattle.dioc_terms.specs.Terms.{Term}
use Rattle.dpoc_process.specs.Acting.{acting_lead, Lead}
use Rattle.dpoc_process.specs.LocalStates.{LocalState}
use Rattle.process_steps.specs.Steps.{Deed, Puts, Given, Got, FromBook, Decision, Replaces, step}
use Rattle.projection.specs.Projection.{projected}
use Rattle.scope_leader.specs.Plans.{told_roles}

-- the role leads the scope, and tells the others that its head shows
pub record TellsOthers (cast : List Role) (me : Role) (head : ScopeHead)
    (others : List Role) : Type 0 where
  pub leads : head.leader ≡ me
  pub tells : others ≡ told_roles cast head

abbrev mutual
  -- so does the role with each scope that it leads in the process
  pub TellsAll : List Role → Role → Process → Type 0
  TellsAll cast me (Seq P Q) = TellsAll cast me P × TellsAll cast me Q
  TellsAll cast me (Par P Q) = TellsAll cast me P × TellsAll cast me Q
  TellsAll cast me (IfLead i g others P Q) = TellsAll cast me P × TellsAll cast me Q
  TellsAll cast me (IfFollow i leader P Q) = TellsAll cast me P × TellsAll cast me Q
  TellsAll cast me (WhileLead i g others P) = TellsAll cast me P
  TellsAll cast me (WhileFollow i leader P) = TellsAll cast me P
  TellsAll cast me (ScopeLead head others P) = TellsOthers cast me head others × TellsAll cast me P
  TellsAll cast me (ScopeFollow i leader P) = TellsAll cast me P
  TellsAll cast me (Tell ms) = AllTell cast ms
  TellsAll cast me _ = Unit {0}

  -- and each receiver in the part that a message carries
  pub AllTell : List Role → Letters → Type 0
  AllTell cast Nothing = Unit {0}
  AllTell cast (More k l ms) = CarriesTelling cast k.to l × AllTell cast ms

  pub CarriesTelling : List Role → Role → Load → Type 0
  CarriesTelling cast to (Part n P) = TellsAll cast to P
  CarriesTelling cast to _ = Unit {0}

-- so it is with what comes from outside: the message of a take, and the parts of an update
abbrev pub DecidesTelling : List Role → Decision → Type 0
DecidesTelling cast (Replaces name n part) = (q : Role) → TellsAll cast q (part q)
DecidesTelling cast _ = Unit {0}

abbrev pub GivesTelling : List Role → Act → Given → Type 0
GivesTelling cast (act.Take k) (Got l) = CarriesTelling cast k.to l
GivesTelling cast a (FromBook decide) = (head : ScopeHead) → DecidesTelling cast (decide head)
GivesTelling cast a _ = Unit {0}

abbrev pub SendsTelling : List Role → Deed → Type 0
SendsTelling cast (Puts k l) = CarriesTelling cast k.to l
SendsTelling cast _ = Unit {0}

pub record LeadersTell : Type 0 where
  -- so it is in each projection
  pub projections : (cast : List Role) (I : Term) (q : Role) → TellsAll cast q (projected cast I q)
  -- a step keeps it
  pub steps : (cast : List Role) (me : Role) (s : Store) (P : Process) (a : Act) (given : Given)
      (d : Deed) (Q : Process)
      → TellsAll cast me P → GivesTelling cast a given → step me s P a given ≡ Does d Q
      → TellsAll cast me Q × SendsTelling cast d
  -- and so it is with the scope that an act begins
  pub scopes : (cast : List Role) (s : LocalState) (a : Act) (scope : Lead)
      → TellsAll cast s.role s.process
      → acting_lead s a ≡ Some scope → TellsOthers cast s.role scope.head scope.others
