-- A step of a role, as a loop over the places of its code does it.
use Rattle.std.specs.Prelude.{◌≡◌, ◌+◌, ◌<◌, ℕ, List, ◌∷◌, ◌++◌, true, false, Option}
use Rattle.dioc_terms.specs.declared.names.Role.{Role}
use Rattle.dioc_terms.specs.declared.entries.Act.{Act}
use Rattle.dioc_terms.specs.Attempts.{Does}
use Rattle.dioc_terms.specs.Processes.{Process}
use Rattle.dioc_terms.specs.Stores.{Store}
use Rattle.process_steps.specs.Steps.{Deed, Given, ended, is_offered, offers, step}
use Rattle.role_statuses.specs.Asking.{AsksActing}
use Rattle.role_statuses.specs.Entering.{entered, stop}
use Rattle.role_statuses.specs.Flat.{Marks, PathAt, inner, mark_of}
use Rattle.role_statuses.specs.Kept.{IsKept, kept, marked, running}
use Rattle.role_statuses.specs.Local.{Layout, PathLays, walk, write}
use Rattle.role_statuses.specs.Marks as mark
use Rattle.role_statuses.specs.Moves.{move}
use Rattle.role_statuses.specs.Paths.{Hole, top_static}
use Rattle.role_statuses.specs.Spots.{Spot, acts_of, spots}
use Rattle.role_statuses.specs.Statuses.{Status, Became, Finished, is_over, leaves, read}

-- the status of a place that acts, by its mark alone
abbrev pub status_at : Marks → ℕ → Status
status_at marks place = marked (marks place) Finished Finished

-- the marks once a process, whose places begin at this one and of which that is the last, came to
-- this status: that of its own place, and those that the loop writes
abbrev pub stepped : Role → Layout → ℕ → Marks → ℕ → ℕ → Process → Status → Marks
stepped me code n marks place low P y =
    walk me code n (write marks low place P (mark_of me y P)) place (is_over me y P)

-- the place did what the process there does, and the whole is what the definition says
pub record IsPlaceDone (me : Role) (s : Store) (a : Act) (given : Given) (marks after : Marks)
    (W : Process) (d : Deed) : Type 0 where
  pub steps : step me s (running me marks W) a given ≡ Does d (running me after W)
  pub keeps : IsKept me after W

-- the place that does the act, of a process with this status: among those that can act it is the
-- first that offers it; its step is that of the whole, and others come in its place
pub record IsStepOf (me : Role) (code : Layout) (n : ℕ) (marks : Marks) (W : Process) (a : Act)
    (place : ℕ) (x : Status) (P : Process) (low : ℕ) : Type 0 where
  pub offered : is_offered a (leaves me x P) ≡ true
  pub before : List Spot
  pub behind : List Spot
  pub stands : spots me 0 (kept marks 0 W) W
      ≡ before ++ record { place = place; acts = leaves me x P } ∷ behind
  pub none_before : is_offered a (acts_of before) ≡ false
  pub does : (s : Store) (given : Given) (d : Deed) (y : Status) → move me s x P a given ≡ Does d y
      → IsPlaceDone me s a given marks (stepped me code n marks place low P y) W d
      × (spots me 0 (kept (stepped me code n marks place low P y) 0 W) W
      ≡ before ++ (entered me code (stepped me code n marks place low P y)
      (stop me code (is_over me y P) n (write marks low place P (mark_of me y P)) place) ++ behind))
  -- and so it is where a process comes in the place of the one there
  pub replaced : (R : Process) → IsKept me (stepped me code n marks place low P (Became R)) W
      × (spots me 0 (kept (stepped me code n marks place low P (Became R)) 0 W) W
      ≡ before ++ (entered me code (stepped me code n marks place low P (Became R))
      (stop me code (ended R) n (write marks low place P (mark.Became R)) place) ++ behind))
  pub only : (s : Store) (given : Given) (d : Deed) (Q : Process)
      → step me s (running me marks W) a given ≡ Does d Q
      → (y : Status) × (move me s x P a given ≡ Does d y)
  pub asks : (F : Process → Option Process) → AsksActing me a F
      → F (running me marks W) ≡ F (read me x P)

abbrev pub IsPlaceStep : Role → Layout → ℕ → Marks → Process → Act → ℕ → Type 0
IsPlaceStep me code n marks W a place = IsStepOf me code n marks W a place (status_at marks place)
    (code.statics place)
    (code.lows place)

-- what code says of a part, whose places begin at this one, and of its way to the top
pub record SaysWay (code : Layout) (b : ℕ) (hs : List Hole) (P : Process) : Type 0 where
  pub way : PathLays code b hs P
  pub low : code.lows (b + inner P) ≡ b
  pub static : code.statics (b + inner P) ≡ P

-- it says so of each part of the process, which has no more than so many places
pub record IsCodeOf (code : Layout) (n : ℕ) (W : Process) : Type 0 where
  pub ways : (hs : List Hole) (P : Process) (b : ℕ) → PathAt 0 b hs P → top_static hs P ≡ W
      → SaysWay code b hs P
  pub room : inner W < n

abbrev pub PlacesAreExact : Type 0
PlacesAreExact = (me : Role) (code : Layout) (n : ℕ) (marks : Marks) (W : Process) (a : Act)
    → IsCodeOf code n W
    → IsKept me marks W
    → is_offered a (offers me (running me marks W)) ≡ true
    → (place : ℕ) × IsPlaceStep me code n marks W a place
