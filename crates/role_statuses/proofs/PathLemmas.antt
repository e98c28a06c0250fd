-- A move touches the status of the part that acts, and those of the parts around it that end.
use Rattle.std.proofs.Common.{◌≡◌, List, [], ◌∷◌, ◌++◌, Bool, true, false, ◌&&◌, if◌then◌else◌, refl, ap, ◌∙◌, sym, ⊎_elim}
use Rattle.std.proofs.lemmas.Bool.{cases_Bool, cond-true, cond-false, or_left, or_right}
use Rattle.std.proofs.lemmas.List.Folds.{list_any-append}
use Rattle.dioc_terms.specs.declared.names.Role.{Role}
use Rattle.dioc_terms.specs.declared.entries.Act.{Act}
use Rattle.dioc_terms.specs.Equality.{act_eq}
use Rattle.dioc_terms.specs.Attempts.{Attempt, Stuck, Does, under}
use Rattle.dioc_terms.specs.Processes.{Process}
use Rattle.dioc_terms.specs.Stores.{Store}
use Rattle.process_steps.specs.Steps.{Deed, Given, ended, offers, is_offered}
use Rattle.role_statuses.specs.Statuses.{Status, Untouched, Body, read, is_over, leaves}
use Rattle.role_statuses.specs.Moves.{bodied, move, start}
use Rattle.role_statuses.specs.Paths.{Hole, InFirst, InSecond, InLeft, InRight, InLeadBranch, InFollowBranch, InLeadTurn, InFollowTurn, InLeadScope, InFollowScope, static_of, status_of, rise, top_static, top_status, climb, left_of, right_of, IsActing, touch, IsQuiet, IsStarting}
use Rattle.role_statuses.proofs.MoveLemmas.{under_twice}
use Rattle.role_statuses.proofs.ReadLemmas.{over-reads}

pub append_none : {A : Type 0} (xs : List A) → xs ≡ xs ++ []
append_none [] = refl
append_none (x ∷ xs) = ap (λ ys. x ∷ ys) (append_none xs)

false_left : (x y : Bool) → x ≡ false → (x && y) ≡ false
false_left x y h = ap (λ t. t && y) h

false_right : (x y : Bool) → y ≡ false → (x && y) ≡ false
false_right true y h = h
false_right false y h = refl

module _ (me : Role) where
  -- a construct has not ended where a part of it that runs has not
  pub over-hole : (h : Hole) (P : Process) (x : Status) → is_over me x P ≡ false → is_over me (status_of h P x) (static_of h P) ≡ false
  over-hole (InFirst Q) P x h = false_left _ _ h
  over-hole (InSecond R) P x h = h
  over-hole (InLeft y Q) P x h = false_left _ _ h
  over-hole (InRight y R) P x h = false_right _ _ h
  over-hole (InLeadBranch true i g others Q) P x h = h
  over-hole (InLeadBranch false i g others Q) P x h = h
  over-hole (InFollowBranch true i leader Q) P x h = h
  over-hole (InFollowBranch false i leader Q) P x h = h
  over-hole (InLeadTurn i g others) P x h = refl
  over-hole (InFollowTurn i leader) P x h = refl
  over-hole (InLeadScope head others) P x h = false_left _ _ h
  over-hole (InFollowScope i leader) P x h = refl

  pub goes_on : (P : Process) (x : Status) → is_over me x P ≡ false → ended (read me x P) ≡ false
  goes_on P x h = sym (over-reads me x P) ∙ h

  body_stays : (next : Status) (P : Process) (x : Status) → is_over me x P ≡ false → bodied me next P x ≡ Body x
  body_stays next P x h = cond-false _ _ _ (goes_on P x h)

  -- and it is not touched
  pub rise-stays : (h : Hole) (P : Process) (x : Status) → is_over me x P ≡ false → rise me h P x ≡ status_of h P x
  rise-stays (InFirst Q) P x h = cond-false _ _ _ (goes_on P x h)
  rise-stays (InSecond R) P x h = refl
  rise-stays (InLeft y Q) P x h = refl
  rise-stays (InRight y R) P x h = refl
  rise-stays (InLeadBranch b i g others Q) P x h = refl
  rise-stays (InFollowBranch b i leader Q) P x h = refl
  rise-stays (InLeadTurn i g others) P x h = body_stays _ P x h
  rise-stays (InFollowTurn i leader) P x h = body_stays _ P x h
  rise-stays (InLeadScope head others) P x h = body_stays _ P x h
  rise-stays (InFollowScope i leader) P x h = body_stays _ P x h

  pub touch-stays : (hs : List Hole) (P : Process) (x : Status) → is_over me x P ≡ false → touch me hs P x ≡ top_status hs P x
  touch-stays [] P x h = refl
  touch-stays (k ∷ hs) P x h = ap (touch me hs (static_of k P)) (rise-stays k P x h) ∙ touch-stays hs (static_of k P) (status_of k P x) (over-hole k P x h)

  pub climb-touches : (hs : List Hole) (P : Process) (x : Status) → climb me hs P x ≡ touch me hs P x
  climb-touches [] P x = refl
  climb-touches (h ∷ hs) P x = ⊎_elim
      (λ offers_it. cond-true _ _ _ offers_it ∙ climb-touches hs (static_of h P) (rise me h P x))
      (λ gone. cond-false _ _ _ gone ∙ sym (touch-stays hs (static_of h P) (status_of h P x) (over-hole h P x gone)) ∙ ap (touch me hs (static_of h P)) (sym (rise-stays h P x gone)))
      (cases_Bool (is_over me x P))

  -- what it offers stands in the place of the part
  pub leaves-hole : (h : Hole) (P : Process) (x : Status) → is_over me x P ≡ false
      → leaves me (status_of h P x) (static_of h P) ≡ left_of me h ++ (leaves me x P ++ right_of me h)
  leaves-hole (InFirst Q) P x h = cond-false _ _ _ h ∙ append_none _
  leaves-hole (InSecond R) P x h = append_none _
  leaves-hole (InLeft y Q) P x h = refl
  leaves-hole (InRight y R) P x h = ap (λ acts. leaves me y R ++ acts) (append_none _)
  leaves-hole (InLeadBranch true i g others Q) P x h = append_none _
  leaves-hole (InLeadBranch false i g others Q) P x h = append_none _
  leaves-hole (InFollowBranch true i leader Q) P x h = append_none _
  leaves-hole (InFollowBranch false i leader Q) P x h = append_none _
  leaves-hole (InLeadTurn i g others) P x h = cond-false _ _ _ h ∙ append_none _
  leaves-hole (InFollowTurn i leader) P x h = cond-false _ _ _ h ∙ append_none _
  leaves-hole (InLeadScope head others) P x h = cond-false _ _ _ h ∙ append_none _
  leaves-hole (InFollowScope i leader) P x h = cond-false _ _ _ h ∙ append_none _

  pub offered-hole : (a : Act) (h : Hole) (P : Process) (x : Status) → is_over me x P ≡ false → is_offered a (leaves me x P) ≡ true
      → is_offered a (leaves me (status_of h P x) (static_of h P)) ≡ true
  offered-hole a h P x gone offers_it = ap (is_offered a) (leaves-hole h P x gone)
      ∙ list_any-append (act_eq a) (left_of me h) (leaves me x P ++ right_of me h)
      ∙ or_right (is_offered a (left_of me h)) _ (list_any-append (act_eq a) (leaves me x P) (right_of me h) ∙ or_left _ (is_offered a (right_of me h)) offers_it)

  pub offered-start : (a : Act) (h : Hole) (P : Process) → IsQuiet a h P → is_offered a (offers me P) ≡ true → is_offered a (offers me (static_of h P)) ≡ true
  offered-start a (InFirst Q) P quiet offers_it = ap (is_offered a) (cond-false _ _ _ quiet) ∙ offers_it
  offered-start a (InSecond R) P quiet offers_it = ap (is_offered a) (cond-true _ _ _ quiet) ∙ offers_it
  offered-start a (InLeft Untouched Q) P quiet offers_it = list_any-append (act_eq a) (offers me P) (offers me Q) ∙ or_left _ (is_offered a (offers me Q)) offers_it
  offered-start a (InRight Untouched R) P quiet offers_it = list_any-append (act_eq a) (offers me R) (offers me P) ∙ or_right (is_offered a (offers me R)) _ offers_it
  offered-start a h P quiet offers_it = absurd quiet

module _ (me : Role) (s : Store) (a : Act) (given : Given) where
  body_moves : (next : Status) (P : Process) (x : Status) (rest : Attempt Deed Status) → is_over me x P ≡ false
      → (if ended (read me x P) then rest else under (bodied me next P) (move me s x P a given)) ≡ under (bodied me next P) (move me s x P a given)
  body_moves next P x rest h = cond-false _ _ _ (goes_on me P x h)

  move-hole : (h : Hole) (P : Process) (x : Status) → is_over me x P ≡ false → is_offered a (left_of me h) ≡ false → is_offered a (leaves me x P) ≡ true
      → move me s (status_of h P x) (static_of h P) a given ≡ under (rise me h P) (move me s x P a given)
  move-hole (InFirst Q) P x h gone offers_it = cond-false _ _ _ (goes_on me P x h)
  move-hole (InSecond R) P x h gone offers_it = refl
  move-hole (InLeft y Q) P x h gone offers_it = cond-true _ _ _ offers_it
  move-hole (InRight y R) P x h gone offers_it = cond-false _ _ _ gone
  move-hole (InLeadBranch true i g others Q) P x h gone offers_it = refl
  move-hole (InLeadBranch false i g others Q) P x h gone offers_it = refl
  move-hole (InFollowBranch true i leader Q) P x h gone offers_it = refl
  move-hole (InFollowBranch false i leader Q) P x h gone offers_it = refl
  move-hole (InLeadTurn i g others) P x h gone offers_it = body_moves _ P x _ h
  move-hole (InFollowTurn i leader) P x h gone offers_it = body_moves _ P x _ h
  move-hole (InLeadScope head others) P x h gone offers_it = body_moves _ P x _ h
  move-hole (InFollowScope i leader) P x h gone offers_it = body_moves _ P x _ h

  move-rises : (hs : List Hole) (P : Process) (x : Status) → is_offered a (leaves me x P) ≡ true → IsActing me a hs P x
      → move me s (top_status hs P x) (top_static hs P) a given ≡ under (touch me hs P) (move me s x P a given)
  move-rises [] P x offers_it acts = same (move me s x P a given)
    where
      same : (m : Attempt Deed Status) → m ≡ under (λ y. y) m
      same Stuck = refl
      same (Does d y) = refl
  move-rises (h ∷ hs) P x offers_it acts = move-rises hs (static_of h P) (status_of h P x) (offered-hole me a h P x acts.0 offers_it) acts.2
      ∙ ap (under (touch me hs (static_of h P))) (move-hole h P x acts.0 acts.1 offers_it)
      ∙ under_twice (touch me hs (static_of h P)) (rise me h P) (move me s x P a given)

  -- a move of a part is a move of the whole, which touches what climb touches
  pub move-climbs : (hs : List Hole) (P : Process) (x : Status) → is_offered a (leaves me x P) ≡ true → IsActing me a hs P x
      → move me s (top_status hs P x) (top_static hs P) a given ≡ under (climb me hs P) (move me s x P a given)
  move-climbs hs P x offers_it acts = move-rises hs P x offers_it acts ∙ each (move me s x P a given)
    where
      each : (m : Attempt Deed Status) → under (touch me hs P) m ≡ under (climb me hs P) m
      each Stuck = refl
      each (Does d y) = ap (Does d) (sym (climb-touches me hs P y))

  start-hole : (h : Hole) (P : Process) → IsQuiet a h P → is_offered a (left_of me h) ≡ false → is_offered a (offers me P) ≡ true
      → start me s (static_of h P) a given ≡ under (rise me h P) (start me s P a given)
  start-hole (InFirst Q) P quiet gone offers_it = cond-false _ _ _ quiet
  start-hole (InSecond R) P quiet gone offers_it = cond-true _ _ _ quiet
  start-hole (InLeft Untouched Q) P quiet gone offers_it = cond-true _ _ _ offers_it
  start-hole (InRight Untouched R) P quiet gone offers_it = cond-false _ _ _ gone
  start-hole h P quiet gone offers_it = absurd quiet

  -- the first act of a part of a static process
  pub start-touches : (hs : List Hole) (P : Process) → is_offered a (offers me P) ≡ true → IsStarting me a hs P
      → start me s (top_static hs P) a given ≡ under (touch me hs P) (start me s P a given)
  start-touches [] P offers_it starts = same (start me s P a given)
    where
      same : (m : Attempt Deed Status) → m ≡ under (λ y. y) m
      same Stuck = refl
      same (Does d y) = refl
  start-touches (h ∷ hs) P offers_it starts = start-touches hs (static_of h P) (offered-start me a h P starts.0 offers_it) starts.2
      ∙ ap (under (touch me hs (static_of h P))) (start-hole h P starts.0 starts.1 offers_it)
      ∙ under_twice (touch me hs (static_of h P)) (rise me h P) (start me s P a given)
