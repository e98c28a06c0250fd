-- The rule of a turn lock, which holds between any two steps, and what each step tells its seat.
-- The one word is twice the number of items, and one more while a seat has the turn. The one slot
-- has the value while no seat has the turn.
use Rattle.std.specs.Prelude.{◌≡◌, ◌≢◌, ℕ, ◌+◌, ◌*◌, ◌<◌, ◌≤◌, List, [], ◌∷◌, ◌++◌, length, true, Option, Some}
use mathlib.Core.Option.{some}
use lib.ListN.{get_elem?}
use Rattle.atomic_table.specs.Table.{State, Me, Step}
use Rattle.turn_lock.specs.declared.views.Known.{Known}
use Rattle.turn_lock.specs.Items.{total, items_of, BeginsWith, Each, IsOwn, IsOwnOfOne, times}
use Rattle.turn_lock.specs.Views.{number, mine, BeginsWithAll, entered_known, left_with_known}

-- What holds of what the seat in place j knows, where the list is `items`, the mark is `mark`,
-- `made` seats were made, and `holder` has the turn where `held` is 1
pub record Knows {I B M : Type 0} (owner : I → ℕ) (grows : M → M → Type 0) (b : B) (items : List I)
    (mark : M) (made held holder j : ℕ) (v : Known I B M) : Type 0 where
  pub base : 0 < length v.view.claims → v.view.base ≡ Some b
  pub seen : BeginsWithAll items v.view
  pub own : Each (IsOwn owner items) v.view.claims
  -- no item of the seat's came since the seat last looked
  pub met : IsOwnOfOne owner v.view.seen v.view.claims
  pub turn : v.view.holds ≡ true → (j ≡ holder) × (held ≡ 1) × (v.view.seen ≡ items)
      × (v.found ≡ Some mark)
  pub makes : 0 < v.view.made → (j ≡ 0) × (v.view.made ≡ made)
  -- turns may have made the mark of the one that the seat knows
  pub grown : (m : M) → v.at ≡ Some m → grows m mark

module _ {H I B M : Type 0} (items : H → List I) (base : H → B) (owner : B → I → ℕ)
    (mark_of : H → M) (grows : M → M → Type 0) where
  pub record LockRule (b : B) (s : State (Option H) (Known I B M)) : Type 0 where
    pub list : List I
    pub mark : M
    pub held : ℕ
    pub holder : ℕ
    pub made : ℕ
    pub most : held ≤ 1
    pub word : s.words ≡ (2 * length list + held) ∷ []
    pub home : held ≡ 0
        → (h : H) × (get_elem? s.homes 0 ≡ some (some (Some h))) × (items h ≡ list) × (base h ≡ b)
        × (mark_of h ≡ mark)
    pub busy : held ≡ 1
        → (v : Known I B M) × (get_elem? s.views holder ≡ some v) × (v.view.holds ≡ true)
        × (0 < length v.view.claims)
    pub each : (j : ℕ) (v : Known I B M) → get_elem? s.views j ≡ some v
        → Knows (owner b) grows b list mark made held holder j v
    -- each number below `made` is claimed once, and each other neither is claimed nor owns an item
    pub once : (n : ℕ) → n < made → total (λ (v : Known I B M). times n v.view.claims) s.views ≡ 1
    pub none : (n : ℕ) → made ≤ n
        → (total (λ (v : Known I B M). times n v.view.claims) s.views ≡ 0)
        × (items_of (owner b) n list ≡ [])

  -- the value that a seat finds under the lock fits what the seat knew
  pub record Fits (v : Known I B M) (h : H) : Type 0 where
    pub same_base : v.view.base ≡ Some (base h)
    pub begins : BeginsWith (items h) v.view.seen
    pub own : IsOwnOfOne (owner (base h)) (items h) v.view.claims
    pub met : IsOwnOfOne (owner (base h)) v.view.seen v.view.claims
    pub grown : (m : M) → v.at ≡ Some m → grows m (mark_of h)

  -- a try to take the turn: where the word was as expected the seat has the turn and the value, and
  -- else nothing changed
  pub record Tried (step : Step (Option H)) (before : Me (Option H) (Known I B M)) (found : ℕ)
      (after : Me (Option H) (Known I B M)) : Type 0 where
    pub took : found ≡ step.first
        → (h : H) × (after ≡ (entered_known before.0 (items h) (mark_of h), (0, Some h) ∷ []))
        × Fits before.0 h × (found ≡ 2 * length (items h))
    pub missed : found ≢ step.first → after ≡ before

  -- the end of a turn, after which the list has some items more
  abbrev pub Left : Step (Option H) → Me (Option H) (Known I B M) → ℕ → Me (Option H) (Known I B M)
      → Type 0
  Left step before stored after =
      (h : H) (more : List I) → before.1 ≡ (0, Some h) ∷ [] → items h ≡ before.0.view.seen ++ more
      → (after ≡ (left_with_known before.0 more (mark_of h), []))
      × (items_of (owner (base h)) (number before.0.view) (items h) ≡ mine before.0.view ++ more)
