-- What a move changes of the acts that are offered: those of the part that acts.
use Rattle.std.proofs.Common.{◌≡◌, List, [], ◌∷◌, ◌++◌, true, false, refl, ap, ap₂, ◌∙◌, sym, append_assoc, ⊎_elim}
use Rattle.std.proofs.lemmas.Bool.{and_parts, cases_Bool, cond-true, cond-false}
use Rattle.dioc_terms.specs.declared.names.Role.{Role}
use Rattle.dioc_terms.specs.declared.entries.Act.{Act}
use Rattle.dioc_terms.specs.Processes.{Process, Skip, Seq, Par, WhileLead, WhileFollow, ScopeLead, ScopeFollow, Tell, Gather, Nothing}
use Rattle.process_steps.specs.Steps.{ended, offers}
use Rattle.role_statuses.specs.Statuses.{Status, Ending, Body, read, is_over, leaves}
use Rattle.role_statuses.specs.Moves.{bodied, next_turn, scope_end}
use Rattle.role_statuses.specs.Paths.{Hole, InFirst, InSecond, InLeft, InRight, InLeadBranch, InFollowBranch, InLeadTurn, InFollowTurn, InLeadScope, InFollowScope, static_of, status_of, rise, top_static, top_status, climb, touch, left_of, right_of, lefts, rights, fresh, news}
use Rattle.role_statuses.proofs.PathLemmas.{over-hole, touch-stays, climb-touches, leaves-hole, append_none}
use Rattle.role_statuses.proofs.ReadLemmas.{over-reads, leaves-reads}

ended_none : (me : Role) (P : Process) → ended P ≡ true → offers me P ≡ []
ended_none me Skip h = refl
ended_none me (Seq P Q) h = let parts = and_parts (ended P) (ended Q) h in cond-true _ _ _ parts.0 ∙ ended_none me Q parts.1
ended_none me (Par P Q) h = let parts = and_parts (ended P) (ended Q) h in ap₂ (λ xs ys. xs ++ ys) (ended_none me P parts.0) (ended_none me Q parts.1)
ended_none me (Tell Nothing) h = refl
ended_none me (Gather []) h = refl
ended_none me P h = cc

module _ (me : Role) where
  pub over_none : (x : Status) (P : Process) → is_over me x P ≡ true → leaves me x P ≡ []
  over_none x P h = leaves-reads me x P ∙ ended_none me (read me x P) (sym (over-reads me x P) ∙ h)

  ends : (P : Process) (x : Status) → is_over me x P ≡ true → ended (read me x P) ≡ true
  ends P x h = sym (over-reads me x P) ∙ h

  next_leaves : (S P : Process) (next : Status) (x : Status) → is_over me x P ≡ true → leaves me (bodied me next P x) S ≡ leaves me next S ++ []
  next_leaves S P next x h = ap (λ y. leaves me y S) (cond-true (ended (read me x P)) next (Body x) (ends P x h)) ∙ append_none _

  -- where a part has ended, what is next stands in its place
  fresh-rises : (h : Hole) (P : Process) (x : Status) → is_over me x P ≡ true
      → leaves me (rise me h P x) (static_of h P) ≡ left_of me h ++ (fresh me h P ++ right_of me h)
  fresh-rises (InFirst Q) P x h = ap (λ y. leaves me y (Seq P Q)) (cond-true _ _ _ (ends P x h)) ∙ append_none _
  fresh-rises (InSecond R) P x h = over_none x P h
  fresh-rises (InLeft y Q) P x h = ap (λ acts. acts ++ leaves me y Q) (over_none x P h)
  fresh-rises (InRight y R) P x h = ap (λ acts. leaves me y R ++ acts) (over_none x P h)
  fresh-rises (InLeadBranch true i g others Q) P x h = over_none x P h
  fresh-rises (InLeadBranch false i g others Q) P x h = over_none x P h
  fresh-rises (InFollowBranch true i leader Q) P x h = over_none x P h
  fresh-rises (InFollowBranch false i leader Q) P x h = over_none x P h
  fresh-rises (InLeadTurn i g others) P x h = next_leaves (WhileLead i g others P) P (next_turn me others i) x h
  fresh-rises (InFollowTurn i leader) P x h = next_leaves (WhileFollow i leader P) P Ending x h
  fresh-rises (InLeadScope head others) P x h = next_leaves (ScopeLead head others P) P (scope_end me others head.index) x h
  fresh-rises (InFollowScope i leader) P x h = next_leaves (ScopeFollow i leader P) P Ending x h

  wrapped : (ls l n r rs : List Act) → ls ++ ((l ++ (n ++ r)) ++ rs) ≡ (ls ++ l) ++ (n ++ (r ++ rs))
  wrapped ls l n r rs = simp append_assoc

  -- before a move
  pub leaves-path : (hs : List Hole) (P : Process) (x : Status) → is_over me x P ≡ false
      → leaves me (top_status hs P x) (top_static hs P) ≡ lefts me hs ++ (leaves me x P ++ rights me hs)
  leaves-path [] P x h = append_none _
  leaves-path (k ∷ hs) P x h = leaves-path hs (static_of k P) (status_of k P x) (over-hole me k P x h)
      ∙ ap (λ acts. lefts me hs ++ (acts ++ rights me hs)) (leaves-hole me k P x h)
      ∙ wrapped (lefts me hs) (left_of me k) (leaves me x P) (right_of me k) (rights me hs)

  none_left : (h : Hole) (P : Process) (x : Status) → is_over me x P ≡ true → is_over me (rise me h P x) (static_of h P) ≡ true → left_of me h ≡ []
  none_left (InRight y R) P x h k = over_none y R (and_parts (is_over me y R) (is_over me x P) k).0
  none_left h P x over k = refl

  none_right : (h : Hole) (P : Process) (x : Status) → is_over me x P ≡ true → is_over me (rise me h P x) (static_of h P) ≡ true → right_of me h ≡ []
  none_right (InLeft y Q) P x h k = over_none y Q (and_parts (is_over me x P) (is_over me y Q) k).1
  none_right h P x over k = refl

  widened : (ls n rs l r : List Act) → l ≡ [] → r ≡ [] → ls ++ (n ++ rs) ≡ (ls ++ l) ++ (n ++ (r ++ rs))
  widened ls n rs l r hl hr =
      ap (λ m. m ++ (n ++ rs)) (append_none ls) ∙ ap₂ (λ p q. (ls ++ p) ++ (n ++ (q ++ rs))) (sym hl) (sym hr)

  -- and after it
  pub leaves-touch : (hs : List Hole) (P : Process) (x : Status)
      → leaves me (touch me hs P x) (top_static hs P) ≡ lefts me hs ++ (news me hs P x ++ rights me hs)
  leaves-touch [] P x = append_none _
  leaves-touch (k ∷ hs) P x = ⊎_elim
      (λ over. ⊎_elim (all_over (leaves-touch hs (static_of k P) (rise me k P x)) over) (next_on over) (cases_Bool (is_over me (rise me k P x) (static_of k P))))
      goes_on
      (cases_Bool (is_over me x P))
    where
      all_over : leaves me (touch me hs (static_of k P) (rise me k P x)) (top_static hs (static_of k P))
          ≡ lefts me hs ++ (news me hs (static_of k P) (rise me k P x) ++ rights me hs) → is_over me x P ≡ true → is_over me (rise me k P x) (static_of k P) ≡ true
          → leaves me (touch me (k ∷ hs) P x) (top_static (k ∷ hs) P) ≡ lefts me (k ∷ hs) ++ (news me (k ∷ hs) P x ++ rights me (k ∷ hs))
      all_over rest over whole = rest
          ∙ widened (lefts me hs) (news me hs (static_of k P) (rise me k P x)) (rights me hs) (left_of me k) (right_of me k) (none_left k P x over whole) (none_right k P x over whole)
          ∙ ap (λ n. (lefts me hs ++ left_of me k) ++ (n ++ (right_of me k ++ rights me hs))) (sym (cond-true _ _ _ over ∙ cond-true _ _ _ whole))

      beyond : is_over me (rise me k P x) (static_of k P) ≡ false
          → leaves me (touch me (k ∷ hs) P x) (top_static (k ∷ hs) P) ≡ lefts me hs ++ (leaves me (rise me k P x) (static_of k P) ++ rights me hs)
      beyond part = ap (λ z. leaves me z (top_static (k ∷ hs) P)) (touch-stays me hs (static_of k P) (rise me k P x) part)
          ∙ leaves-path hs (static_of k P) (rise me k P x) part

      next_on : is_over me x P ≡ true → is_over me (rise me k P x) (static_of k P) ≡ false
          → leaves me (touch me (k ∷ hs) P x) (top_static (k ∷ hs) P) ≡ lefts me (k ∷ hs) ++ (news me (k ∷ hs) P x ++ rights me (k ∷ hs))
      next_on over part = beyond part
          ∙ ap (λ acts. lefts me hs ++ (acts ++ rights me hs)) (fresh-rises k P x over)
          ∙ wrapped (lefts me hs) (left_of me k) (fresh me k P) (right_of me k) (rights me hs)
          ∙ ap (λ n. (lefts me hs ++ left_of me k) ++ (n ++ (right_of me k ++ rights me hs))) (sym (cond-true _ _ _ over ∙ cond-false _ _ _ part))

      goes_on : is_over me x P ≡ false
          → leaves me (touch me (k ∷ hs) P x) (top_static (k ∷ hs) P) ≡ lefts me (k ∷ hs) ++ (news me (k ∷ hs) P x ++ rights me (k ∷ hs))
      goes_on goes = ap (λ z. leaves me z (top_static (k ∷ hs) P)) (touch-stays me (k ∷ hs) P x goes)
          ∙ leaves-path (k ∷ hs) P x goes
          ∙ ap (λ n. lefts me (k ∷ hs) ++ (n ++ rights me (k ∷ hs))) (sym (cond-false _ _ _ goes))

  pub leaves-climb : (hs : List Hole) (P : Process) (x : Status)
      → leaves me (climb me hs P x) (top_static hs P) ≡ lefts me hs ++ (news me hs P x ++ rights me hs)
  leaves-climb hs P x = ap (λ z. leaves me z (top_static hs P)) (climb-touches me hs P x) ∙ leaves-touch hs P x
