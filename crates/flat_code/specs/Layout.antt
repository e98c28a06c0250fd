-- Where code has the parts of a process: the places of a part are a range, in which its own is the
-- last and those of its parts stand before it, from left to right.
use Rattle.std.specs.Prelude.{◌≡◌, ◌<◌, ◌+◌, ℕ, suc, List, [], ◌∷◌, ◌++◌, get_or, length}
use Rattle.std.specs.Coded.{×_prop, Unit-prop, le_prop, Coded-set, coded_list, coded_ℕ}
use Rattle.dioc_terms.specs.Processes.{Process, Seq, Par, IfLead, IfFollow, WhileLead, WhileFollow, ScopeLead, ScopeFollow}
pub use Rattle.role_statuses.specs.Flat.{inner, size}
use Rattle.flat_code.specs.declared.ops.Op.{Op}
use Rattle.flat_code.specs.declared.ops.Op.TheVariants as op
use Rattle.flat_code.specs.Places.{at, processes, part_places, IsOpOf, IsProcessAt}

-- the places of the parts of a process whose places begin at this one
abbrev pub parts_at : ℕ → Process → List ℕ
parts_at b (Seq P Q) = (b + inner P) ∷ (b + size P + inner Q) ∷ []
parts_at b (Par P Q) = (b + inner P) ∷ (b + size P + inner Q) ∷ []
parts_at b (IfLead i g others P Q) = (b + inner P) ∷ (b + size P + inner Q) ∷ []
parts_at b (IfFollow i leader P Q) = (b + inner P) ∷ (b + size P + inner Q) ∷ []
parts_at b (WhileLead i g others P) = (b + inner P) ∷ []
parts_at b (WhileFollow i leader P) = (b + inner P) ∷ []
parts_at b (ScopeLead head others P) = (b + inner P) ∷ []
parts_at b (ScopeFollow i leader P) = (b + inner P) ∷ []
parts_at b P = []

-- what is so of each part of a process whose places begin at this one, and of the parts of that one
-- too: it is told the place of the construct around the part, and where the part's places begin
abbrev pub EachPart : (ℕ → ℕ → Process → Type 0) → ℕ → Process → Type 0
EachPart F b (Seq P Q) =
    (F (b + inner (Seq P Q)) b P × EachPart F b P)
    × (F (b + inner (Seq P Q)) (b + size P) Q × EachPart F (b + size P) Q)
EachPart F b (Par P Q) =
    (F (b + inner (Par P Q)) b P × EachPart F b P)
    × (F (b + inner (Par P Q)) (b + size P) Q × EachPart F (b + size P) Q)
EachPart F b (IfLead i g others P Q) =
    (F (b + inner (IfLead i g others P Q)) b P × EachPart F b P)
    × (F (b + inner (IfLead i g others P Q)) (b + size P) Q × EachPart F (b + size P) Q)
EachPart F b (IfFollow i leader P Q) =
    (F (b + inner (IfFollow i leader P Q)) b P × EachPart F b P)
    × (F (b + inner (IfFollow i leader P Q)) (b + size P) Q × EachPart F (b + size P) Q)
EachPart F b (WhileLead i g others P) =
    F (b + inner (WhileLead i g others P)) b P × EachPart F b P
EachPart F b (WhileFollow i leader P) =
    F (b + inner (WhileFollow i leader P)) b P × EachPart F b P
EachPart F b (ScopeLead head others P) =
    F (b + inner (ScopeLead head others P)) b P × EachPart F b P
EachPart F b (ScopeFollow i leader P) =
    F (b + inner (ScopeFollow i leader P)) b P × EachPart F b P
EachPart F b P = Unit {0}

-- where that has one proof at most of a part, it has one of all
pub EachPart-prop : (F : ℕ → ℕ → Process → Type 0) → ((up b : ℕ) (P : Process) → IsProp (F up b P))
    → (b : ℕ) (P : Process) → IsProp (EachPart F b P)
EachPart-prop F once b (Seq P Q) =
    ×_prop (×_prop (once (b + inner (Seq P Q)) b P) (EachPart-prop F once b P))
    (×_prop (once (b + inner (Seq P Q)) (b + size P) Q) (EachPart-prop F once (b + size P) Q))
EachPart-prop F once b (Par P Q) =
    ×_prop (×_prop (once (b + inner (Par P Q)) b P) (EachPart-prop F once b P))
    (×_prop (once (b + inner (Par P Q)) (b + size P) Q) (EachPart-prop F once (b + size P) Q))
EachPart-prop F once b (IfLead i g others P Q) =
    ×_prop (×_prop (once (b + inner (IfLead i g others P Q)) b P) (EachPart-prop F once b P))
    (×_prop (once (b + inner (IfLead i g others P Q)) (b + size P) Q)
    (EachPart-prop F once (b + size P) Q))
EachPart-prop F once b (IfFollow i leader P Q) =
    ×_prop (×_prop (once (b + inner (IfFollow i leader P Q)) b P) (EachPart-prop F once b P))
    (×_prop (once (b + inner (IfFollow i leader P Q)) (b + size P) Q)
    (EachPart-prop F once (b + size P) Q))
EachPart-prop F once b (WhileLead i g others P) =
    ×_prop (once (b + inner (WhileLead i g others P)) b P) (EachPart-prop F once b P)
EachPart-prop F once b (WhileFollow i leader P) =
    ×_prop (once (b + inner (WhileFollow i leader P)) b P) (EachPart-prop F once b P)
EachPart-prop F once b (ScopeLead head others P) =
    ×_prop (once (b + inner (ScopeLead head others P)) b P) (EachPart-prop F once b P)
EachPart-prop F once b (ScopeFollow i leader P) =
    ×_prop (once (b + inner (ScopeFollow i leader P)) b P) (EachPart-prop F once b P)
EachPart-prop F once b P = Unit-prop

-- the last of the places of a process that begin at this one has its op
abbrev pub HasOp : List Op → ℕ → Process → Type 0
HasOp ops b P =
    (b + inner P < length ops) × (part_places (get_or ops (b + inner P) op.Skip) ≡ parts_at b P)

pub HasOp-prop : (ops : List Op) (b : ℕ) (P : Process) → IsProp (HasOp ops b P)
HasOp-prop ops b P = ×_prop le_prop (Coded-set (coded_list coded_ℕ)
    (part_places (get_or ops (b + inner P) op.Skip)) (parts_at b P))

-- the places of a process, from this one on, have its ops
abbrev pub Lies : List Op → ℕ → Process → Type 0
Lies ops b P = HasOp ops b P × EachPart (λ up. HasOp ops) b P

-- the process at this place has the first places of the code
abbrev pub IsLaid : List Op → ℕ → Type 0
IsLaid ops start =
    (start ≡ inner (at (processes ops) start)) × Lies ops 0 (at (processes ops) start)

pub IsLaid-prop : (ops : List Op) (start : ℕ) → IsProp (IsLaid ops start)
IsLaid-prop ops start =
    ×_prop (Coded-set coded_ℕ start (inner (at (processes ops) start)))
    (×_prop (HasOp-prop ops 0 (at (processes ops) start))
    (EachPart-prop (λ up. HasOp ops) (λ up. HasOp-prop ops) 0 (at (processes ops) start)))

-- What adding does, to the ops as they were.

-- a process: it has the last place
pub record IsAdded (old new : List Op) (place : ℕ) (P : Process) : Type 0 where
  pub stands : IsProcessAt new place P
  pub is_last : length new ≡ suc place
  pub place_is : place ≡ length old + inner P
  pub lies : Lies new (length old) P

-- the parts of a process, for which there is this op
pub record AreAdded (old new : List Op) (o : Op) (P : Process) : Type 0 where
  pub whole : IsOpOf new o P
  pub places : part_places o ≡ parts_at (length old) P
  pub longer : length new ≡ length old + inner P
  pub lie : EachPart (λ up. HasOp new) (length old) P

-- two parts, one after the other
pub record TwoAreAdded (old new : List Op) (p q : ℕ) (P Q : Process) : Type 0 where
  pub first : IsProcessAt new p P
  pub second : IsProcessAt new q Q
  pub first_is : p ≡ length old + inner P
  pub second_is : q ≡ length old + size P + inner Q
  pub longer : length new ≡ length old + (size P + size Q)
  pub first_lies : Lies new (length old) P
  pub second_lies : Lies new (length old + size P) Q

-- an op
pub record IsPushed (old new : List Op) (o : Op) (place : ℕ) : Type 0 where
  pub place_is : place ≡ length old
  pub longer : new ≡ old ++ o ∷ []
