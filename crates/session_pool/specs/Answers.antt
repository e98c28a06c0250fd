-- What a session is answered.
use Rattle.std.specs.Prelude.{ℕ, suc, List, [], ◌∷◌, map, Bool, Option, Some, None, Result, Ok, Err}
use Rattle.dioc_terms.specs.declared.entries.Entry.{Entry}
use Rattle.dioc_terms.specs.Plain.{PlainBundle}
use Rattle.network_steps.specs.Network.{network_ended}
use Rattle.network_steps.specs.Schedule.{sched}
use Rattle.net_core.specs.Nets.{network_at}
use Rattle.rule_checks.specs.declared.refusals.Refusal.{Refusal}
use Rattle.rule_checks.specs.Refusals.{refusal}
use Rattle.session_pool.specs.declared.answers.Answer.{Answer}
use Rattle.session_pool.specs.declared.answers.Answer.TheVariants.{Ran, Refused}

-- an answer without places in memory: the entries of a run and whether it has ended, or a refusal
abbrev pub PlainAnswer : Type 0
PlainAnswer = Result (List Entry × Bool) Refusal

-- whether the network of a bundle has ended after a history
abbrev pub ended_after : PlainBundle → List Entry → Bool
ended_after b history = network_ended b.cast (network_at b history)

-- by whether there is a refusal: it, or else the run that the schedule takes of the bundle
abbrev pub answered : PlainBundle → Option ℕ → ℕ → Option Refusal → PlainAnswer
answered b seed limit (Some why) = Err why
answered b seed limit None = Ok (sched b seed limit, ended_after b (sched b seed limit))

-- the first refusal of a bundle, or else its run
abbrev pub answer_of : PlainBundle → Option ℕ → ℕ → PlainAnswer
answer_of b seed limit = answered b seed limit (refusal b)

abbrev pub answer_seen : Answer → PlainAnswer
answer_seen (Ran history ended) = Ok (history.entries, ended)
answer_seen (Refused why) = Err why

-- the answers of sessions, in their order
abbrev pub answers_of : Option ℕ → ℕ → List PlainBundle → List PlainAnswer
answers_of seed limit bundles = map (λ b. answer_of b seed limit) bundles

-- what is made of each by its number and itself, where the first has this number
abbrev pub numbered : {A B : Type 0} → (ℕ → A → B) → ℕ → List A → List B
numbered f n [] = []
numbered f n (x ∷ xs) = f n x ∷ numbered f (suc n) xs
