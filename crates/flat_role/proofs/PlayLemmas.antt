-- A list of acts that can be done, by its first act and the others.
use Rattle.std.proofs.Common.{◌≡◌, List, [], ◌∷◌, ◌++◌, true, Option, refl, sym, ap, ap₂, ◌∙◌, subst}
use Rattle.std.proofs.lemmas.List.{append_assoc, append-nil}
use Rattle.dioc_terms.specs.declared.entries.Act.{Act}
use Rattle.dioc_terms.specs.declared.entries.Entry.{Entry}
use Rattle.dioc_terms.specs.Attempts.{Does}
use Rattle.dpoc_process.specs.declared.runs.Got.{Got}
use Rattle.dpoc_process.specs.Handed.{Brings, IsEnabled, given_like, handed}
use Rattle.dpoc_process.specs.LocalStates.{LocalState, local_done, offered}
use Rattle.dpoc_process.specs.RoleSteps.{IsStep}
use Rattle.flat_role.specs.Plays.{AddsEntry, CanPlay, PlayedSoFar, Plays, PlaysAgree, PlaysFront, acts_of, played, then_plays, with_entry}
use Rattle.process_steps.proofs.Lemmas.{offers-are_steps}
use Rattle.process_steps.specs.Steps.{Given, is_offered}

abbrev pub CanAll : LocalState → List (Act × Got) → Type 0
CanAll s xs = (givens : List Given) × CanPlay s xs givens

pub first_enabled : (s : LocalState) (x : Act × Got) (xs : List (Act × Got)) → CanAll s (x ∷ xs)
    → IsEnabled s x.0 (handed x.1)
first_enabled s x xs can = first can.0 can.1
  where
    first : (givens : List Given) → CanPlay s (x ∷ xs) givens → IsEnabled s x.0 (handed x.1)
    first [] h = absurd h
    first (given ∷ givens) h = h.0

-- an act that can be done is offered
pub enabled_offered : (s : LocalState) (x : Act × Got) → IsEnabled s x.0 (handed x.1)
    → is_offered x.0 (offered s) ≡ true
enabled_offered s x can =
    offers-are_steps.only s.role s.store s.process x.0 (given_like (handed x.1)) can

-- the role did the act, whatever came
abbrev pub DidAct : LocalState → Act × Got → LocalState → Type 0
DidAct s x mid = (given : Given) → Brings s x.0 (handed x.1) given → IsStep s x.0 given mid

module _ (s mid : LocalState) (x : Act × Got) (xs : List (Act × Got)) (did : DidAct s x mid) where
  step_on : (given : Given) (givens : List Given) → CanPlay s (x ∷ xs) (given ∷ givens)
      → CanPlay mid xs givens
  step_on given givens can =
      let step = did given can.1 in
      subst (λ m. CanPlay m xs givens) (sym step.becomes) (can.2 step.deed step.left step.does)

  pub goes_on : CanAll s (x ∷ xs) → CanAll mid xs
  goes_on can = others can.0 can.1
    where
      others : (givens : List Given) → CanPlay s (x ∷ xs) givens → CanAll mid xs
      others [] h = absurd h
      others (given ∷ givens) h = (givens, step_on given givens h)

  pub plays_more : (last : LocalState) (old between new : List (Option Entry))
      → AddsEntry s x.0 old between → Plays mid xs between new last
      → Plays s (x ∷ xs) old new last
  plays_more last old between new adds others [] can = absurd can
  plays_more last old between new adds others (given ∷ givens) can =
      let step = did given can.1 in
      let rest = others givens (step_on given givens can) in
      let plays : played (local_done s step.deed step.left) (acts_of xs) givens ≡ Does rest.0 last =
      ap (λ m. played m (acts_of xs) givens) (sym step.becomes) ∙ rest.1 in (
        adds.entry ∷ rest.0,
        ap (λ m. then_plays m (λ d P. played (local_done s d P) (acts_of xs) givens)) step.does
            ∙ ap₂ with_entry (sym (adds.shows given step.deed step.left step.does)) plays,
        rest.2 ∙ ap (λ es. es ++ rest.0) adds.added ∙ append_assoc old (adds.entry ∷ []) rest.0,
      )

pub front_more : (s mid : LocalState) (x : Act × Got) (xs : List (Act × Got))
    → DidAct s x mid → (last : LocalState) (old between new : List (Option Entry))
    → AddsEntry s x.0 old between → PlaysFront mid xs between new last
    → PlaysFront s (x ∷ xs) old new last
front_more s mid x xs did last old between new adds done = (
  x ∷ done.0,
  done.1,
  ap (λ ys. x ∷ ys) done.2,
  plays_more s mid x done.0 did last old between new adds done.3,
)

pub plays_nothing : (s : LocalState) (old : List (Option Entry)) → Plays s [] old old s
plays_nothing s old = λ givens can. ([], refl, sym (append-nil old))

pub front_nothing : (s : LocalState) (xs : List (Act × Got)) (old : List (Option Entry))
    → PlaysFront s xs old old s
front_nothing s xs old = ([], xs, refl, plays_nothing s old)

pub plays-agree : PlaysAgree
plays-agree s xs ys givens same can other_can old new other last end plays other_plays =
    let one = plays givens can in
    let two = other_plays givens other_can in
    let both : ◌≡◌ {A = PlayedSoFar} (Does one.0 last) (Does two.0 end) =
    sym one.1 ∙ ap (λ acts. played s acts givens) same ∙ two.1 in
    let entries : one.0 ≡ two.0 = cc in
    (one.2 ∙ ap (λ es. old ++ es) entries ∙ sym two.2, cc)
