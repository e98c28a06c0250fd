-- What a step may give: nothing, or what was done and what it leaves.
use Rattle.std.specs.Prelude.{Bool, if◌then◌else◌}

pub data Attempt (D A : Type 0) : Type 0 where
  Stuck : Attempt D A
  Does : D → A → Attempt D A

-- the step of a part, with the whole around what it leaves
abbrev pub under : {D A B : Type 0} → (A → B) → Attempt D A → Attempt D B
under f Stuck = Stuck
under f (Does d a) = Does d (f a)

-- the first step where there is one, else the second
abbrev pub orelse : {D A : Type 0} → Attempt D A → Attempt D A → Attempt D A
orelse Stuck m = m
orelse (Does d a) m = Does d a

abbrev pub when : {D A : Type 0} → Bool → Attempt D A → Attempt D A
when b m = if b then m else Stuck
