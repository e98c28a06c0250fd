-- Processes, messages on the way to their sending, and payloads, without where they lie in memory.
use Rattle.std.specs.Prelude.{ℕ, List, Bool}
use Rattle.dioc_terms.specs.declared.names.Role.{Role}
use Rattle.dioc_terms.specs.declared.names.Index.{Index}
use Rattle.dioc_terms.specs.declared.values.Value.{Value}
use Rattle.dioc_terms.specs.declared.processes.Key.{Key}
use Rattle.dioc_terms.specs.declared.processes.ScopeHead.{ScopeHead}
use Rattle.dioc_terms.specs.declared.processes.Proc.{Proc}
use Rattle.dioc_terms.specs.declared.processes.Proc as proc
use Rattle.dioc_terms.specs.declared.processes.Messages.{Messages}
use Rattle.dioc_terms.specs.declared.processes.Messages as messages
use Rattle.dioc_terms.specs.declared.processes.Payload.{Payload}
use Rattle.dioc_terms.specs.declared.processes.Payload as payload
use Rattle.dioc_terms.specs.declared.entries.Note.{Note}
use Rattle.dioc_terms.specs.declared.entries.Note.TheVariants as note
use Rattle.dioc_terms.specs.Expressions.{Expression, expression}

mutual
  pub data Process : Type 0 where
    Skip : Process
    -- index, operation, receiver, what is sent
    Send : Index → List ℕ → Role → Expression → Process
    -- index, operation, sender, variable
    Recv : Index → List ℕ → Role → List ℕ → Process
    -- index, variable, what it becomes
    Assign : Index → List ℕ → Expression → Process
    -- index, variable
    Read : Index → List ℕ → Process
    Seq : Process → Process → Process
    Par : Process → Process → Process
    -- index, guard, the other roles, the branches
    IfLead : Index → Expression → List Role → Process → Process → Process
    -- index, leader, the branches
    IfFollow : Index → Role → Process → Process → Process
    -- index, guard, the other roles, body
    WhileLead : Index → Expression → List Role → Process → Process
    -- index, leader, body
    WhileFollow : Index → Role → Process → Process
    -- what the book sees of the scope, the other roles, body
    ScopeLead : ScopeHead → List Role → Process → Process
    -- index, leader, body
    ScopeFollow : Index → Role → Process → Process
    -- messages that are still to be sent
    Tell : Letters → Process
    -- keys whose messages are still to be taken
    Gather : List Key → Process

  -- messages in the order of their sending
  pub data Letters : Type 0 where
    Nothing : Letters
    More : Key → Load → Letters → Letters

  -- what a message carries; an update's part has its epoch and the process
  pub data Load : Type 0 where
    Val : Value → Load
    Flag : Bool → Load
    Keep : Load
    Part : ℕ → Process → Load
    Done : Load

abbrev mutual
  -- the process that a program's value stands for
  pub process : Proc → Process
  process proc.Skip = Skip
  process (proc.Send i o b e) = Send i o b (expression e)
  process (proc.Recv i o a x) = Recv i o a x
  process (proc.Assign i x e) = Assign i x (expression e)
  process (proc.Read i x) = Read i x
  process (proc.Seq' _ P _ Q) = Seq (process P) (process Q)
  process (proc.Par' _ P _ Q) = Par (process P) (process Q)
  process (proc.IfLead' i g others _ P _ Q) = IfLead i (expression g) others (process P) (process Q)
  process (proc.IfFollow' i r _ P _ Q) = IfFollow i r (process P) (process Q)
  process (proc.WhileLead' i g others _ P) = WhileLead i (expression g) others (process P)
  process (proc.WhileFollow' i r _ P) = WhileFollow i r (process P)
  process (proc.ScopeLead' head others _ P) = ScopeLead head others (process P)
  process (proc.ScopeFollow' i r _ P) = ScopeFollow i r (process P)
  process (proc.Tell ms) = Tell (letters ms)
  process (proc.Gather ks) = Gather ks

  pub letters : Messages → Letters
  letters messages.Nothing = Nothing
  letters (messages.More' k _ p _ ms) = More k (load p) (letters ms)

  pub load : Payload → Load
  load (payload.Val v) = Val v
  load (payload.Flag b) = Flag b
  load payload.Keep = Keep
  load (payload.Part n P) = Part n (process P)
  load payload.Done = Done

-- what an entry shows of a payload: of a part its epoch alone
abbrev pub noted : Load → Note
noted (Val v) = note.Val v
noted (Flag b) = note.Flag b
noted Keep = note.Keep
noted (Part n P) = note.Part n
noted Done = note.Done

-- what was noted so, with the process that a part brings
abbrev pub noted_load : Note → Process → Load
noted_load (note.Val v) P = Val v
noted_load (note.Flag b) P = Flag b
noted_load note.Keep P = Keep
noted_load (note.Part n) P = Part n P
noted_load note.Done P = Done
