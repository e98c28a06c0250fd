-- What a worker has before it works, and what it leaves.
use Rattle.std.specs.Prelude.{◌≡◌, All, ◌≤◌, ℕ, List, [], ◌∷◌, ◌++◌, length, map, Some, slice_get}
use Rattle.std.specs.List.{AllByRecursion}
use Rattle.dioc_terms.specs.Bundles.{IsFormed}
use Rattle.dioc_terms.specs.Plain.{plain}
use Rattle.ticket_table.specs.declared.tickets.Tickets.{Tickets}
use Rattle.ticket_table.specs.Views.{holding}
use Rattle.ticket_table.specs.Words.{IsDrawerOf, drawn_by, parts_of, view}
use Rattle.session_pool.specs.declared.jobs.Job.{Job}
use Rattle.session_pool.specs.declared.jobs.Numbered.{Numbered}
use Rattle.session_pool.specs.declared.jobs.Order.{Order}
use Rattle.session_pool.specs.Answers.{PlainAnswer, answers_of, numbered}

-- an order that may be run: its bundles are formed and at most 1,000, and a run has less than 2^32
-- entries
pub record MayRun (order : Order) : Type 0 where
  pub formed : All (λ b. IsFormed (plain b)) order.bundles.now
  pub few : length order.bundles.now ≤ 1000
  pub limit : order.limit ≤ 4294967295

-- what is to be made of the answers of all sessions of an order
abbrev pub expected : {V : Type 0} → (ℕ → PlainAnswer → V) → Order → List V
expected made_of order =
    numbered made_of 0 (answers_of order.seed order.limit (map plain order.bundles.now))

-- a worker that has claimed nothing
pub record HasClaimedNothing {T : Type 0} (tickets : Tickets) (job : Job T) : Type 0 where
  pub of : IsDrawerOf tickets job.drawer
  pub view : view job.drawer ≡ holding 1 []
  pub none : job.made.items ≡ []

abbrev pub numbers_of : {T : Type 0} → List (Numbered T) → List ℕ
numbers_of {T} made = map (λ (one : Numbered T). one.number) made

module _ {T V : Type 0} (seen : T → V) where
  -- it is what was to be made of the answer of the session of its number
  abbrev pub IsRight : List V → Numbered T → Type 0
  IsRight wanted one = slice_get wanted one.number ≡ Some (seen one.made)

  -- of each session that was claimed the right was made, but for the last claim, which was past the
  -- last session
  pub record HasWorked (wanted : List V) (claims : List ℕ) (kept : List (Numbered T)) : Type 0 where
    pub last : ℕ
    pub past : length wanted ≤ last
    pub drawn : claims ≡ numbers_of kept ++ last ∷ []
    pub right : AllByRecursion (IsRight wanted) kept

  -- what a worker leaves that has done its work
  pub record IsWorkDone (tickets : Tickets) (wanted : List V) (job : Job T) : Type 0 where
    pub of : IsDrawerOf tickets job.drawer
    pub one : parts_of job.drawer ≡ 1
    pub worked : HasWorked wanted (drawn_by job.drawer) job.made.items
