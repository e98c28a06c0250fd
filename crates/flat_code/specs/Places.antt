-- The processes of ops, each made of those that stand before it.
use Rattle.std.specs.Prelude.{◌≡◌, ◌<◌, ℕ, suc, List, [], ◌∷◌, ◌++◌, Bool, true, ◌&&◌, get_or, length, nat_lt}
use Rattle.std.specs.List.{list_all}
use Rattle.dioc_terms.specs.Expressions.{expression}
use Rattle.dioc_terms.specs.Processes.{Process, Skip, Send, Recv, Assign, Read, Seq, Par, IfLead, IfFollow, WhileLead, WhileFollow, ScopeLead, ScopeFollow, Tell, Gather, letters}
use Rattle.flat_code.specs.declared.ops.Op.{Op}
use Rattle.flat_code.specs.declared.ops.Op.TheVariants as op

-- the process at a place
abbrev pub at : List Process → ℕ → Process
at done place = get_or done place Skip

-- the process that an op stands for, with the processes at the places of its parts
abbrev pub op_process : List Process → Op → Process
op_process done op.Skip = Skip
op_process done (op.Send i o b e) = Send i o b (expression e)
op_process done (op.Recv i o a x) = Recv i o a x
op_process done (op.Assign i x e) = Assign i x (expression e)
op_process done (op.Read i x) = Read i x
op_process done (op.Seq p q) = Seq (at done p) (at done q)
op_process done (op.Par p q) = Par (at done p) (at done q)
op_process done (op.IfLead i g others p q) =
    IfLead i (expression g) others (at done p) (at done q)
op_process done (op.IfFollow i leader p q) = IfFollow i leader (at done p) (at done q)
op_process done (op.WhileLead i g others p) = WhileLead i (expression g) others (at done p)
op_process done (op.WhileFollow i leader p) = WhileFollow i leader (at done p)
op_process done (op.ScopeLead head others p) = ScopeLead head others (at done p)
op_process done (op.ScopeFollow i leader p) = ScopeFollow i leader (at done p)
op_process done (op.Tell ms) = Tell (letters ms)
op_process done (op.Gather ks) = Gather ks

-- the processes of ops that stand behind those of which these are the processes
abbrev pub processes_from : List Process → List Op → List Process
processes_from done [] = done
processes_from done (o ∷ ops) = processes_from (done ++ op_process done o ∷ []) ops

-- the processes of ops, place by place
abbrev pub processes : List Op → List Process
processes ops = processes_from [] ops

-- the places of an op's parts
abbrev pub part_places : Op → List ℕ
part_places (op.Seq p q) = p ∷ q ∷ []
part_places (op.Par p q) = p ∷ q ∷ []
part_places (op.IfLead i g others p q) = p ∷ q ∷ []
part_places (op.IfFollow i leader p q) = p ∷ q ∷ []
part_places (op.WhileLead i g others p) = p ∷ []
part_places (op.WhileFollow i leader p) = p ∷ []
part_places (op.ScopeLead head others p) = p ∷ []
part_places (op.ScopeFollow i leader p) = p ∷ []
part_places _ = []

-- of ops that stand from a place on, each has its parts at earlier places than its own
abbrev pub are_placed : ℕ → List Op → Bool
are_placed n [] = true
are_placed n (o ∷ ops) = list_all (λ p. nat_lt p n) (part_places o) && are_placed (suc n) ops

-- these places stand before that one
abbrev pub AreBelow : ℕ → List ℕ → Type 0
AreBelow n [] = Unit {0}
AreBelow n (p ∷ ps) = (p < n) × AreBelow n ps

-- the new ops are the old ones with more behind them
abbrev pub Extends : List Op → List Op → Type 0
Extends old new = (more : List Op) × (new ≡ old ++ more)

-- the process at that place of the ops
pub record IsProcessAt (ops : List Op) (place : ℕ) (P : Process) : Type 0 where
  pub inside : place < length ops
  pub stands : at (processes ops) place ≡ P

-- an op with these parts, and the process that it stands for
pub record IsForm (o : Op) (places : List ℕ) (made : List Process → Process) : Type 0 where
  pub places_are : part_places o ≡ places
  pub stands : (done : List Process) → op_process done o ≡ made done

-- an op whose parts stand among the ops, and the process that it stands for with them
pub record IsOpOf (ops : List Op) (o : Op) (P : Process) : Type 0 where
  pub earlier : AreBelow (length ops) (part_places o)
  pub stands : op_process (processes ops) o ≡ P
