-- What the list of the places that can act says of code and marks.
use Rattle.std.specs.Prelude.{◌≡◌, ◌≤◌, ℕ, suc, List, [], ◌∷◌, ◌++◌, Bool, true, ◌&&◌, length, map, nat_le, nat_lt}
use Rattle.std.specs.List.{list_all}
use Rattle.dioc_terms.specs.declared.names.Role.{Role}
use Rattle.dioc_terms.specs.Processes.{Process}
use Rattle.process_steps.specs.Steps.{ended}
use Rattle.role_statuses.specs.Flat.{Marks, PathAt, Stands, inner}
use Rattle.role_statuses.specs.Kept.{IsKept, kept, running}
use Rattle.role_statuses.specs.Local.{Layout}
use Rattle.role_statuses.specs.Paths.{Hole, top_static}
use Rattle.role_statuses.specs.PlaceLaws.{IsCodeOf, status_at}
use Rattle.role_statuses.specs.Spots.{Spot, spots}
use Rattle.role_statuses.specs.Statuses.{leaves}

-- what a place that can act offers, by its own mark and static process
abbrev pub spot_at : Role → Layout → Marks → ℕ → Spot
spot_at me code marks p = record {
  place = p;
  acts = leaves me (status_at marks p) (code.statics p);
}

abbrev pub places_of : List Spot → List ℕ
places_of ss = map (λ s. s.place) ss

-- the places of a whole that can act
abbrev pub active : Role → Marks → Process → List ℕ
active me marks W = places_of (spots me 0 (kept marks 0 W) W)

-- each place stands before the next, and all of them from this one on and before that
abbrev pub rises : ℕ → ℕ → List ℕ → Bool
rises low high [] = nat_le low high
rises low high (p ∷ ps) = nat_le low p && rises (suc p) high ps

pub record PlacesAreListed : Type 0 where
  -- what each place offers is told by the place
  pub listed : (me : Role) (code : Layout) (n : ℕ) (marks : Marks) (W : Process)
      → IsCodeOf code n W → IsKept me marks W
      → spots me 0 (kept marks 0 W) W ≡ map (spot_at me code marks) (active me marks W)
  -- and so is that of each part, where the marks say its status
  pub part : (me : Role) (code : Layout) (n : ℕ) (marks : Marks) (W : Process)
      → IsCodeOf code n W → (hs : List Hole) (P : Process) (b : ℕ) → PathAt 0 b hs P
      → top_static hs P ≡ W → Stands me marks b (kept marks b P) P
      → spots me b (kept marks b P) P
      ≡ map (spot_at me code marks) (places_of (spots me b (kept marks b P) P))
  -- and of some that stand side by side
  pub some : (me : Role) (code : Layout) (n : ℕ) (marks : Marks) (W : Process)
      (before between behind : List Spot) → IsCodeOf code n W → IsKept me marks W
      → spots me 0 (kept marks 0 W) W ≡ before ++ (between ++ behind)
      → between ≡ map (spot_at me code marks) (places_of between)
  pub inside : (me : Role) (code : Layout) (n : ℕ) (marks : Marks) (W : Process)
      → IsCodeOf code n W → list_all (λ p. nat_lt p n) (active me marks W) ≡ true
  -- they rise
  pub sorted : (me : Role) (marks : Marks) (W : Process)
      → rises 0 (suc (inner W)) (active me marks W) ≡ true
  pub few : (me : Role) (marks : Marks) (W : Process)
      → length (active me marks W) ≤ suc (inner W)
  -- there is none exactly where nothing is left to do
  pub none_over : (me : Role) (marks : Marks) (W : Process) → IsKept me marks W
      → spots me 0 (kept marks 0 W) W ≡ [] → ended (running me marks W) ≡ true
  pub over_none : (me : Role) (marks : Marks) (W : Process) → IsKept me marks W
      → ended (running me marks W) ≡ true → spots me 0 (kept marks 0 W) W ≡ []
