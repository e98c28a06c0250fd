-- What is known of the places of code before a role runs.
use Rattle.std.specs.Prelude.{◌≡◌, ◌<◌, ◌≤◌, ◌+◌, ℕ, List, [], ◌∷◌, ◌++◌, Bool, false, Option, None, Some, if◌then◌else◌, get_or, length, nat_lt}
use Rattle.std.specs.Coded.{Coded, Coded-set, code_by, coded×, coded_bool, coded_ℕ, le_prop}
use Rattle.std.specs.List.{list_all}
use mathlib.Core.Path.{ap₂, refl}
use Rattle.dioc_terms.specs.Processes.{Process}
use Rattle.flat_code.specs.declared.levels.Level.{Level}
use Rattle.flat_code.specs.declared.ops.Op.{Op}
use Rattle.flat_code.specs.declared.ops.Op.TheVariants as op
use Rattle.flat_code.specs.declared.ops.PartPlaces.{PartPlaces}
use Rattle.flat_code.specs.declared.ops.PartPlaces.TheVariants as kept
use Rattle.flat_code.specs.Layout.{EachPart, EachPart-prop, inner, size}
use Rattle.flat_code.specs.Places.{at, part_places, processes}
use Rattle.process_steps.specs.Steps.{ended}
use Rattle.role_statuses.specs.Local.{Layout}

-- the places that are named
abbrev pub places_of : PartPlaces → List ℕ
places_of kept.Zero = []
places_of (kept.One p) = p ∷ []
places_of (kept.Two p q) = p ∷ q ∷ []

-- nothing is left to do at each of these places
abbrev pub all_ended : List Process → List ℕ → Bool
all_ended done places = list_all (λ p. ended (at done p)) places

abbrev pub level_at : List Level → ℕ → Level
level_at levels place = get_or levels place (record { parent = 0; low = 0; ended = false })

-- what is known of the place of a process whose places begin at this one
pub record HasLevel (levels : List Level) (up b : ℕ) (P : Process) : Type 0 where
  pub inside : b + inner P < length levels
  pub is : level_at levels (b + inner P) ≡ record { parent = up; low = b; ended = ended P }

-- of it and of its parts
pub record AreLevels (levels : List Level) (up b : ℕ) (P : Process) : Type 0 where
  pub own : HasLevel levels up b P
  pub parts : EachPart (HasLevel levels) b P

-- Each of these has one proof at most.

abbrev pub level_code : Coded Level
level_code = code_by (ℕ × (ℕ × Bool)) (coded× coded_ℕ (coded× coded_ℕ coded_bool))
    (λ l. (l.parent, (l.low, l.ended)))
    (λ p. record { parent = p.0; low = p.1.0; ended = p.1.1 })
    (λ _. refl)

pub HasLevel-prop : (levels : List Level) (up b : ℕ) (P : Process)
    → IsProp (HasLevel levels up b P)
HasLevel-prop levels up b P h k =
    ap₂ (λ inside is. record { inside = inside; is = is }) (le_prop h.inside k.inside)
    (Coded-set level_code (level_at levels (b + inner P)) (record {
      parent = up;
      low = b;
      ended = ended P;
    }) h.is k.is)

pub AreLevels-prop : (levels : List Level) (up b : ℕ) (P : Process)
    → IsProp (AreLevels levels up b P)
AreLevels-prop levels up b P h k =
    ap₂ (λ own parts. record { own = own; parts = parts })
    (HasLevel-prop levels up b P h.own k.own)
    (EachPart-prop (HasLevel levels) (HasLevel-prop levels) b P h.parts k.parts)

-- those of the parts of a process were added
pub record ArePartLevels (old new : List Level) (P : Process) : Type 0 where
  pub longer : length new ≡ length old + inner P
  pub more : List Level
  pub behind : new ≡ old ++ more
  pub parts : EachPart (HasLevel new) (length old) P

-- those of a process were added
pub record AreLevelsAdded (old new : List Level) (up : ℕ) (P : Process) : Type 0 where
  pub longer : length new ≡ length old + size P
  pub more : List Level
  pub behind : new ≡ old ++ more
  pub levels : AreLevels new up (length old) P

-- What loops over places need.

-- the body of the construct at that place: it stands right before it
pub record IsBody (levels : List Level) (place p : ℕ) : Type 0 where
  pub last : p + 1 ≡ place
  pub parent : (level_at levels p).parent ≡ place
  pub low : (level_at levels p).low ≡ (level_at levels place).low

-- the two parts of the construct at that place: the second stands right before it, and the places
-- of the second begin behind the first
pub record AreTwo (levels : List Level) (place p q : ℕ) : Type 0 where
  pub first_not_last : p + 1 < place
  pub first_parent : (level_at levels p).parent ≡ place
  pub first_low : (level_at levels p).low ≡ (level_at levels place).low
  pub second_last : q + 1 ≡ place
  pub second_parent : (level_at levels q).parent ≡ place
  pub second_low : (level_at levels q).low ≡ p + 1

abbrev pub PartsHang : List Level → ℕ → List ℕ → Type 0
PartsHang levels place [] = Unit {0}
PartsHang levels place (p ∷ []) = IsBody levels place p
PartsHang levels place (p ∷ q ∷ more) = AreTwo levels place p q

-- what is known of a place of the code: it is the last of the places of the process there; it
-- stands before the construct around it, which for the whole is behind all places; and its parts
-- hang together with it
pub record IsLevel (levels : List Level) (ops : List Op) (place : ℕ) : Type 0 where
  pub inside : place < length ops
  pub low_is : (level_at levels place).low + inner (at (processes ops) place) ≡ place
  pub ended_is : (level_at levels place).ended ≡ ended (at (processes ops) place)
  pub before : place < (level_at levels place).parent
  pub known : (level_at levels place).parent ≤ length levels
  pub whole : (level_at levels place).parent ≡ length levels → place + 1 ≡ length levels
  pub parts : PartsHang levels place (part_places (get_or ops place op.Skip))

-- The code of a process, as laws on marks see it.

-- the construct around the whole is named by a place of which nothing is known
abbrev pub parent_at : ℕ → ℕ → Option ℕ
parent_at n up = if nat_lt up n then Some up else None

abbrev pub layout_of : List Op → List Level → Layout
layout_of ops levels = record {
  statics = at (processes ops);
  parents = λ place. parent_at (length levels) (level_at levels place).parent;
  lows = λ place. (level_at levels place).low;
}
