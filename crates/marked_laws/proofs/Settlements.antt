-- In the play of what is visible of a run each entry is settled.
use Rattle.std.proofs.Common.{◌≡◌, List, [], ◌∷◌, true, false, not, Option, Some, None, IfSome, sym, ap, ◌∙◌, subst, ⊎_elim}
use Rattle.std.proofs.lemmas.Bool.{cond-true, cond-false, not_from_true, not_from_false}
use Rattle.dioc_terms.specs.declared.entries.Entry.{Entry}
use Rattle.dioc_terms.specs.declared.entries.Entry.TheVariants as entry
use Rattle.dioc_terms.specs.Plain.{Setting}
use Rattle.dioc_terms.specs.Messages.{is_aux, doer, visible}
use Rattle.dioc_terms.specs.Terms.{distinct_roles}
use Rattle.process_steps.specs.Steps.{Deed, Puts, Takes, Sets, Inputs, Picks, Chooses, entry_of}
use Rattle.global_steps.specs.Follow.{State, book_choice, follow}
use Rattle.global_steps.specs.Settled.{SettledAt, Settled, SettledFrom, nobody}
use Rattle.network_steps.specs.Network.{Network, network_step, run_from}
use Rattle.marked_laws.proofs.Mark.{Mark, Order}
use Rattle.marked_laws.proofs.MarkSteps.{SoundAnswers, doer_of}
use Rattle.marked_laws.proofs.Shapes.{none_some}
use Rattle.marked_laws.proofs.Orders.{order_step}
use Rattle.marked_laws.proofs.Settles.{settled_step}
use Rattle.marked_laws.proofs.Simulate.{Marks, Moved, state_of, answers_in, moves, after_both}

-- whether a deed's entry is settled in a state
deed_settled : (b : Setting) (S : State) (d : Deed)
    → SettledAt b.cast S.stores (λ head. book_choice b.rules S.book head (S.stores head.leader)) S.updates nobody S.running (entry_of d) (doer_of d)
    → Settled b S (entry_of d)
deed_settled b S (Puts k l) h = h
deed_settled b S (Takes k x l) h = h
deed_settled b S (Sets i r x v) h = h
deed_settled b S (Inputs i r x v) h = h
deed_settled b S (Picks i r t) h = h
deed_settled b S (Chooses i r c) h = h

-- a change is
change_settled : (b : Setting) (S : State) (e : Entry) → doer e ≡ None → Settled b S e
change_settled b S (entry.Add name) h = tt
change_settled b S (entry.Drop name) h = tt
change_settled b S (entry.Env key v) h = tt
change_settled b S e h = absurd (none_some (sym h))

if_some : {A : Type 0} (P : A → Type 0) (o : Option A) (a : A) → o ≡ Some a → P a → IfSome o P
if_some P o a h p = subst (λ x. IfSome x P) (sym h) p

module _ (b : Setting) (unique : distinct_roles b.cast ≡ true) (sound : (N : Network) → SoundAnswers b.cast (answers_in b N) N.updates) where
  moved_order : (N : Network) (M : Mark) (e : Entry) (N' : Network) → Marks b.cast N M → Order b.cast M → (moved : Moved b N M e N') → Order b.cast moved.mark
  moved_order N M e N' marks order moved = ⊎_elim
      (λ step. order_step b.cast N.stores (answers_in b N) N.updates step.2 marks.fine order)
      (λ still. subst (Order b.cast) (sym still.1) order)
      moved.why

  moved_settled : (N : Network) (M : Mark) (e : Entry) (N' : Network) → Marks b.cast N M → Order b.cast M → Moved b N M e N' → is_aux e ≡ false
      → Settled b (state_of N M) e
  moved_settled N M e N' marks order moved visible = ⊎_elim
      (λ step. subst (Settled b (state_of N M)) (sym step.1)
      (deed_settled b (state_of N M) step.0
      (settled_step b.cast N.stores (answers_in b N) N.updates step.2 marks.fine order (ap is_aux (sym step.1) ∙ visible))))
      (λ still. change_settled b (state_of N M) e still.0)
      moved.why

  pub runs_settled : (H : List Entry) (N N' : Network) (M : Mark) → Marks b.cast N M → Order b.cast M → run_from b N H ≡ Some N'
      → SettledFrom b (state_of N M) (visible H)
  runs_settled [] N N' M marks order h = tt
  runs_settled (e ∷ es) N N' M marks order h =
      let parts = after_both b unique sound (network_step b N e) es N' h in
      let moved = moves b unique sound N M e parts.0 marks parts.1 in
      let rest = runs_settled es parts.0 N' moved.mark moved.marks (moved_order N M e parts.0 marks order moved) parts.2 in
      ⊎_elim
      (λ aux. subst (SettledFrom b (state_of N M)) (sym (cond-false (not (is_aux e)) (e ∷ visible es) (visible es) (not_from_true (is_aux e) aux.0)))
      (subst (λ S. SettledFrom b S (visible es)) aux.1 rest))
      (λ shown. subst (SettledFrom b (state_of N M)) (sym (cond-true (not (is_aux e)) (e ∷ visible es) (visible es) (not_from_false (is_aux e) shown.0))) (
        moved_settled N M e parts.0 marks order moved shown.0,
        if_some (λ S. SettledFrom b S (visible es)) (follow b (state_of N M) e) (state_of parts.0 moved.mark) shown.1 rest,
      ))
      moved.shown
