-- What is driven is exactly what the choreography plays and what is settled.
use Rattle.std.proofs.Common.{◌≡◌, ◌≤◌, ℕ, suc, ◌+◌, ◌*◌, List, [], ◌∷◌, ◌++◌, length, true, not, Option, Some, IsSome, IfSome, IsSomeAnd, refl, sym, ◌∙◌, subst, ⊎_elim, arith}
use Rattle.std.specs.List.{list_all}
use Rattle.std.proofs.lemmas.Bool.{and_from, not_from_false}
use Rattle.dioc_terms.specs.declared.entries.Entry.{Entry}
use Rattle.dioc_terms.specs.Messages.{is_aux, visible}
use Rattle.dioc_terms.specs.Plain.{PlainBundle, Setting, setting}
use Rattle.process_steps.specs.Laws.{OffersAreSteps}
use Rattle.global_steps.specs.Follow.{State, follow, play, play_from, play_start}
use Rattle.global_steps.specs.Settled.{Settled, SettledFrom, IsSettled}
use Rattle.global_steps.proofs.Lemmas.{plays-go_on}
use Rattle.drive_laws.specs.Laws.{Readiness, AuxiliaryEnds}
use Rattle.marked_laws.specs.Laws.{IsSound, Simulation, Settlement}
use Rattle.network_steps.specs.Network.{Network, network_start, network_run, network_step}
use Rattle.marked_laws.proofs.Premise.{Known}
use Rattle.marked_laws.proofs.Shapes.{none_some, some_same}
use Rattle.net_laws.proofs.MoveLemmas.{some_got}
use Rattle.net_drive.specs.Driven.{turns_for, driven}
use Rattle.net_drive.specs.Laws.{Drives, DrivenRuns, SameTraces, DrivenExactly, StraysAreExact}
use Rattle.net_drive.proofs.Coming.{none_quiet, comes}
use Rattle.net_drive.proofs.Driving.{follow_shown, and_then_got, Drove, drove, drives}

-- each entry that is played is visible
played_shown : (b : Setting) (S : State) (t : List Entry) → IsSome (play_from b S t) → list_all (λ e. not (is_aux e)) t ≡ true
played_shown b S [] h = refl
played_shown b S (e ∷ t) h =
    let got = some_got (play_from b S (e ∷ t)) h in
    let next = and_then_got (follow b S e) (λ T. play_from b T t) got.0 got.1 in
    and_from (not (is_aux e)) (list_all (λ x. not (is_aux x)) t) (not_from_false (is_aux e) (follow_shown b S next.0 e next.1))
    (played_shown b next.0 t (subst (λ o. IsSome o) (sym next.2) refl))

-- the last entry of a settled trace is settled
settled_last : (b : Setting) (S S' : State) (t : List Entry) (e : Entry) → play_from b S t ≡ Some S' → SettledFrom b S (t ++ e ∷ []) → Settled b S' e
settled_last b S S' [] e h settled = subst (λ X. Settled b X e) (some_same h) settled.0
settled_last b S S' (x ∷ t) e h settled =
    let next = and_then_got (follow b S x) (λ T. play_from b T t) S' h in
    settled_last b next.0 S' t e next.2 (subst (λ o. IfSome o (λ T. SettledFrom b T (t ++ e ∷ []))) next.1 settled.1)

turns_room : (l w : ℕ) → suc ((0 + l) * w) ≤ suc (l * w) + 0
turns_room l w = omega arith

some_and : {A : Type 0} (P : A → Type 0) (o : Option A) (a : A) → o ≡ Some a → P a → IsSomeAnd o P
some_and P o a h p = subst (λ x. IsSomeAnd x P) (sym h) p

module _ (known : Known) (offered_steps : OffersAreSteps) (readiness : Readiness) (ends : AuxiliaryEnds) where
  drives_start : (b : PlainBundle) (t : List Entry) → IsSound b → IsSome (play b t) → IsSettled b t → (es : List Entry) × (driven b t ≡ Some es)
  drives_start b t sound plays settled =
      drives known offered_steps b sound readiness ends (turns_for b t) [] (network_start b) (play_start b) t refl refl plays settled
      (turns_room (length t) (suc (6 * length b.cast)))

  drove_start : (b : PlainBundle) (t es : List Entry) → IsSound b → list_all (λ e. not (is_aux e)) t ≡ true → driven b t ≡ Some es → Drove (setting b) (network_start b) t es
  drove_start b t es sound all h = drove known offered_steps b sound (turns_for b t) [] (network_start b) t es refl all h

  pub driven_runs : DrivenRuns
  driven_runs b t sound plays settled =
      let found = drives_start b t sound plays settled in
      let run = drove_start b t found.0 sound (played_shown (setting b) (play_start b) t plays) found.1 in
      some_and (Drives b t) (driven b t) found.0 found.1 (record { network = run.network; runs = run.runs; shows = run.shows; quiet = run.quiet })

  pub strays_are_exact : StraysAreExact
  strays_are_exact b H N e sound runs stuck why plays settled =
      let got = some_got (play b (visible H ++ e ∷ [])) plays in
      let before = and_then_got (play b (visible H)) (λ next. play_from (setting b) next (e ∷ [])) got.0
      (sym (plays-go_on.appended (setting b) (play_start b) (visible H) (e ∷ [])) ∙ got.1) in
      let last = and_then_got (follow (setting b) before.0 e) (λ T. Some T) got.0 before.2 in
      let settles : Settled (setting b) before.0 e = settled_last (setting b) (play_start b) before.0 (visible H) e before.1 settled in
      ⊎_elim
      (λ may. none_some (sym stuck ∙ (comes known offered_steps b sound H N runs before.0 last.0 e before.1 last.1 may).1))
      (λ none. let ready = some_got (network_step (setting b) N e)
      (readiness b H N before.0 last.0 e sound runs (none_quiet known offered_steps b sound H N runs none) before.1 last.1 settles) in
      none_some (sym stuck ∙ ready.1))
      why

  module _ (simulation : Simulation) (settlement : Settlement) where
    -- what is visible of a run is played and settled
    shown_played : (b : PlainBundle) (H : List Entry) (N : Network) (t : List Entry) → IsSound b → network_run b H ≡ Some N → visible H ≡ t → IsSome (play b t) × IsSettled b t
    shown_played b H N t sound runs shows = (
      subst (λ l. IsSome (play b l)) shows (subst (λ o. IsSome o) (sym (simulation b H N sound runs).plays) refl),
      subst (λ l. IsSettled b l) shows (settlement b H N sound runs),
    )

    pub same_traces : SameTraces
    same_traces b t sound = (
      λ h. let found = drives_start b t sound h.0 h.1 in
          let run = drove_start b t found.0 sound (played_shown (setting b) (play_start b) t h.0) found.1 in
          (found.0, subst (λ o. IsSome o) (sym run.runs) refl, run.shows),
      λ h. let got = some_got (network_run b h.0) h.1 in shown_played b h.0 got.0 t sound got.1 h.2,
    )

    pub driven_exactly : DrivenExactly
    driven_exactly b t sound all = (
      λ h. let got = some_got (driven b t) h in
          let run = drove_start b t got.0 sound all got.1 in
          shown_played b got.0 run.network t sound run.runs run.shows,
      λ h. subst (λ o. IsSome o) (sym (drives_start b t sound h.0 h.1).1) refl,
    )
