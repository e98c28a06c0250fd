-- What is made ready of a part is the part's step.
use Rattle.std.proofs.Common.{◌≡◌, ℕ, List, [], ◌∷◌, Bool, true, false, Some, None, refl, sym, ap, ap₂, ◌∙◌, subst}
use Rattle.dioc_terms.specs.declared.names.Role.{Role}
use Rattle.dioc_terms.specs.declared.names.Index.{Index}
use Rattle.dioc_terms.specs.declared.entries.Act.{Act}
use Rattle.dioc_terms.specs.declared.entries.Chosen.TheVariants as chosen
use Rattle.dioc_terms.specs.declared.processes.Key.{Key}
use Rattle.dioc_terms.specs.declared.processes.ScopeHead.{ScopeHead}
use Rattle.dioc_terms.specs.declared.processes.Tag.TheVariants.{Op, Choice, Go, Begin}
use Rattle.dioc_terms.specs.Expressions.{Expression}
use Rattle.dioc_terms.specs.Attempts.{Attempt, Stuck, Does, when}
use Rattle.dioc_terms.specs.Processes.{Process, Skip, Send, Recv, Assign, Read, Seq, Par, IfLead, IfFollow, WhileLead, WhileFollow, ScopeLead, ScopeFollow, Tell, Gather, Letters, Nothing, More, Load, Val, Flag, Keep, Part, Done}
use Rattle.dioc_terms.specs.Stores.{Store, next_input}
use Rattle.dioc_terms.specs.Values.{eval, is_true}
use Rattle.dpoc_process.proofs.ActingLemmas.{acting-single, replaced-steps, step-acting}
use Rattle.dpoc_process.specs.Acting.{Lead, is_single, lead_of}
use Rattle.dpoc_process.specs.Changes.{changed, replaced}
use Rattle.dpoc_process.specs.Growth.{value_at, growth, grown, leads_loop, leader_end, write_at, handed_value, with_written, entry_at, load_at}
use Rattle.dpoc_process.specs.Handed.{Handed, Empty, Message, Kept, Parted, BookKeeps, BookReplaces, StandsFor, given_like}
use Rattle.process_steps.specs.Laws.{is_done}
use Rattle.dpoc_process.specs.RoleLaws.{local, AdvancesAreSteps, IsShown, PreparedIsDone}
use Rattle.dpoc_process.specs.RoleSteps.{entry_before, sent}
use Rattle.process_steps.specs.Steps.{Deed, Puts, Takes, Sets, Inputs, Picks, Chooses, Given, Alone, Got, FromBook, Decision, Keeps, Replaces, key, after, telling, gathering, letters_to, while_leads, while_follows, take_value, take_flag, take_any, take_begin, begin_scope, choose_scope, store_after, step}

-- a part's step, from what was made ready
record PartStep (me : Role) (s : Store) (a : Act) (R : Process) (h : Handed)
    (given : Given) : Type 0 where
  deed : Deed
  does : step me s R a given ≡ Does deed (changed (grown (growth me (value_at s R) R) h) R)
  stored : store_after deed s ≡ with_written (write_at (value_at s R) R) (handed_value h) s

-- a move that is done under a test is the move
done_when : {D A : Type 0} (t : Bool) (m : Attempt D A) → is_done (when t m) ≡ true → when t m ≡ m
done_when true m h = refl
done_when false m h = cc

stuck : (t : Bool) → is_done {D = Deed} {A = Process} (when t Stuck) ≡ true → ⊥
stuck true h = cc
stuck false h = cc

loop_as : (me : Role) (i : Index) (g : Expression) (others : List Role) (P : Process) (h : Handed)
    (b : Bool)
    → while_leads me i others b P (WhileLead i g others P)
    ≡ changed (grown (leads_loop me i others P b) h) (WhileLead i g others P)
loop_as me i g others P h true = refl
loop_as me i g others P h false = refl

module _ (me : Role) (s : Store) (a : Act) where
  -- a part that takes a message: it is handed the message or does nothing
  take_step : (R : Process) (h : Handed) (given : Given) → StandsFor me None h given
      → ((l : Load) → is_done (step me s R a (Got l)) ≡ true
      → PartStep me s a R (Message l) (Got l))
      → (is_done (step me s R a Alone) ≡ true → ⊥)
      → is_done (step me s R a given) ≡ true → PartStep me s a R h given
  take_step R Empty given stands at none done = absurd
      (none (subst (λ g. is_done (step me s R a g) ≡ true) stands done))
  take_step R (Message l) given stands at none done =
      subst (λ g. PartStep me s a R (Message l) g) (sym stands)
      (at l (subst (λ g. is_done (step me s R a g) ≡ true) stands done))
  take_step R Kept given stands at none done = let led = stands.is_led in cc
  take_step R (Parted own ms) given stands at none done = let led = stands.is_led in cc

  value_step : (i : Index) (o x : List ℕ) (from : Role) (l : Load)
      → is_done (step me s (Recv i o from x) a (Got l)) ≡ true
      → PartStep me s a (Recv i o from x) (Message l) (Got l)
  value_step i o x from (Val v) done =
      record {
        deed = Takes (key from me i (Op o)) (Some x)
            (Val v);
        does = done_when _ _ done;
        stored = refl;
      }
  value_step i o x from l done = absurd (stuck _ done)

  branch_step : (i : Index) (leader : Role) (P Q : Process) (l : Load)
      → is_done (step me s (IfFollow i leader P Q) a (Got l)) ≡ true
      → PartStep me s a (IfFollow i leader P Q) (Message l) (Got l)
  branch_step i leader P Q (Flag b) done =
      record {
        deed = Takes (key leader me i Choice) None
            (Flag b);
        does = done_when _ _ done;
        stored = refl;
      }
  branch_step i leader P Q l done = absurd (stuck _ done)

  turn_step : (i : Index) (leader : Role) (P : Process) (l : Load)
      → is_done (step me s (WhileFollow i leader P) a (Got l)) ≡ true
      → PartStep me s a (WhileFollow i leader P) (Message l) (Got l)
  turn_step i leader P (Flag true) done =
      record {
        deed = Takes (key leader me i Go) None
            (Flag true);
        does = done_when _ _ done;
        stored = refl;
      }
  turn_step i leader P (Flag false) done =
      record {
        deed = Takes (key leader me i Go) None
            (Flag false);
        does = done_when _ _ done;
        stored = refl;
      }
  turn_step i leader P l done = absurd (stuck _ done)

  part_step : (i : Index) (leader : Role) (P : Process) (l : Load)
      → is_done (step me s (ScopeFollow i leader P) a (Got l)) ≡ true
      → PartStep me s a (ScopeFollow i leader P) (Message l) (Got l)
  part_step i leader P Keep done =
      record {
        deed = Takes (key leader me i Begin) None Keep;
        does = done_when _ _ done;
        stored =
            refl;
      }
  part_step i leader P (Part n R) done =
      record {
        deed = Takes (key leader me i Begin) None
            (Part n R);
        does = done_when _ _ done;
        stored = refl;
      }
  part_step i leader P l done = absurd (stuck _ done)

  module _ (head : ScopeHead) (others : List Role) (P : Process) where
    -- the scope that the leader begins is this one
    same_scope : {scope : Lead} → lead_of (ScopeLead head others P) ≡ Some scope
        → record { head = head; others = others } ≡ scope
    same_scope h = cc

    kept_step : (given : Given) → BookKeeps (lead_of (ScopeLead head others P)) given
        → is_done (step me s (ScopeLead head others P) a given) ≡ true
        → PartStep me s a (ScopeLead head others P) Kept given
    kept_step given kept done =
        let same = same_scope kept.is_led in
        let keeps : kept.decide head ≡ Keeps = ap (λ lead. kept.decide lead.head) same
        ∙ kept.keeps in
        record {
          deed = Chooses head.index me chosen.Keep;
          does = done_when _ _ done ∙ ap (choose_scope me head others P) kept.decides
              ∙ ap (begin_scope me head.index others P) keeps;
          stored = refl;
        }

    replaced_step : (own : Process) (ms : Letters) (given : Given)
        → BookReplaces me (lead_of (ScopeLead head others P)) own ms given
        → is_done (step me s (ScopeLead head others P) a given) ≡ true
        → PartStep me s a (ScopeLead head others P) (Parted own ms) given
    replaced_step own ms given new done =
        let same = same_scope new.is_led in
        let replaces : new.decide head ≡ Replaces new.name new.epoch new.part = ap
        (λ lead. new.decide lead.head) same ∙ new.replaces in
        let told : ms ≡ letters_to me others head.index Begin (λ q. Part new.epoch (new.part q)) =
        new.told ∙ ap (λ lead. letters_to me lead.others lead.head.index Begin
        (λ q. Part new.epoch (new.part q))) (sym same) in
        record {
          deed = Chooses head.index me (chosen.Rule new.name new.epoch);
          does = done_when _ _ done ∙ ap (choose_scope me head others P) new.decides
              ∙ ap (begin_scope me head.index others P) replaces
              ∙ ap₂ (λ tells part. Does (Chooses head.index me (chosen.Rule new.name new.epoch))
              (after (telling tells) (after part (leader_end me others head.index))))
              (sym told) (sym new.own_part);
          stored = refl;
        }

    scope_step : (h : Handed) (given : Given) → StandsFor me
        (lead_of (ScopeLead head others P)) h given
        → is_done (step me s (ScopeLead head others P) a given) ≡ true
        → PartStep me s a (ScopeLead head others P) h given
    scope_step Empty given stands done = absurd (stuck _
        (subst (λ g. is_done (step me s (ScopeLead head others P) a g) ≡ true) stands done))
    scope_step (Message l) given stands done = absurd
        (stuck _ (subst (λ g. is_done (step me s (ScopeLead head others P) a g) ≡ true) stands
        done))
    scope_step Kept given stands done = kept_step given stands done
    scope_step (Parted own ms) given stands done = replaced_step own ms given stands done

  part-steps : (R : Process) (h : Handed) (given : Given) → is_single R ≡ true
      → is_done (step me s R a given) ≡ true
      → StandsFor me (lead_of R) h given → PartStep me s a R h given
  part-steps Skip h given single done stands = cc
  part-steps (Send i o b e) h given single done stands =
      record {
        deed = Puts (key me b i (Op o)) (Val (eval e s));
        does = done_when _ _ done;
        stored =
            refl;
      }
  part-steps (Recv i o from x) h given single done stands =
      take_step (Recv i o from x) h given stands (value_step i o x from) (λ none. stuck _ none) done
  part-steps (Assign i x e) h given single done stands =
      record { deed = Sets i me x (eval e s); does = done_when _ _ done; stored = refl }
  part-steps (Read i x) h given single done stands =
      record { deed = Inputs i me x (next_input s); does = done_when _ _ done; stored = refl }
  part-steps (Seq P Q) h given single done stands = cc
  part-steps (Par P Q) h given single done stands = cc
  part-steps (IfLead i g others P Q) h given single done stands =
      record { deed = Picks i me (is_true (eval g s)); does = done_when _ _ done; stored = refl }
  part-steps (IfFollow i leader P Q) h given single done stands =
      take_step (IfFollow i leader P Q) h given stands (branch_step i leader P Q)
      (λ none. stuck _ none) done
  part-steps (WhileLead i g others P) h given single done stands = record {
    deed = Picks i me (is_true (eval g s));
    does = done_when _ _ done ∙ ap (λ x. Does (Picks i me (is_true (eval g s))) x)
        (loop_as me i g others P h (is_true (eval g s)));
    stored = refl;
  }
  part-steps (WhileFollow i leader P) h given single done stands =
      take_step (WhileFollow i leader P) h given stands (turn_step i leader P)
      (λ none. stuck _ none) done
  part-steps (ScopeLead head others P) h given single done stands = scope_step head others P h given
      stands done
  part-steps (ScopeFollow i leader P) h given single done stands =
      take_step (ScopeFollow i leader P) h given stands (part_step i leader P)
      (λ none. stuck _ none) done
  part-steps (Tell Nothing) h given single done stands = cc
  part-steps (Tell (More k l ms)) h given single done stands =
      record { deed = Puts k l; does = done_when _ _ done; stored = refl }
  part-steps (Gather []) h given single done stands = cc
  part-steps (Gather (k ∷ ks)) h given single done stands =
      take_step (Gather (k ∷ ks)) h given stands (λ l done. record
      { deed = Takes k None l; does = done_when _ _ done; stored = refl })
      (λ none. stuck _ none) done

-- what is done by a step that is known is what was shown
same_deed : {d e : Deed} {x y : Process} → Does d x ≡ Does e y → d ≡ e
same_deed h = cc

when_does : (t : Bool) (m : Attempt Deed Process) {d : Deed} {Q : Process} → when t m ≡ Does d Q → m
    ≡ Does d Q
when_does true m h = h
when_does false m h = cc

module _ (me : Role) (s : Store) (R : Process) where
  -- where the shown parts are those of one deed, they are those of the deed
  shown_of : {e d : Deed} → entry_at me (value_at s R) R ≡ entry_before e → load_at (value_at s R) R
      ≡ sent e → e ≡ d → IsShown me s R d
  shown_of {e} {d} entry payload same = record {
    entry = entry
        ∙ ap entry_before same;
    payload = payload ∙ ap sent same;
  }

  free_shown : (t : Bool) (e : Deed) (P : Process) {d : Deed} {Q : Process}
      → entry_at me (value_at s R) R ≡ entry_before e → load_at (value_at s R) R ≡ sent e
      → when t (Does e P) ≡ Does d Q → IsShown me s R d
  free_shown t e P entry payload h = shown_of entry payload (same_deed (when_does t (Does e P) h))

-- every message that a part takes shows the same
module _ (k : Key) {d : Deed} {Q : Process} where
  value_shown : (x : List ℕ) (given : Given) → take_value k x given ≡ Does d Q
      → (entry_before d ≡ entry_before (Takes k (Some x) Done)) × (sent d ≡ None)
  value_shown x (Got (Val v)) h = (ap entry_before (sym (same_deed h)), ap sent (sym (same_deed h)))
  value_shown x given h = cc

  flag_shown : (P P' : Process) (given : Given) → take_flag k P P' given ≡ Does d Q
      → (entry_before d ≡ entry_before (Takes k None Done)) × (sent d ≡ None)
  flag_shown P P' (Got (Flag b)) h = (
    ap entry_before (sym (same_deed h)),
    ap sent
        (sym (same_deed h)),
  )
  flag_shown P P' given h = cc

  any_shown : (P : Process) (given : Given) → take_any k P given ≡ Does d Q
      → (entry_before d ≡ entry_before (Takes k None Done)) × (sent d ≡ None)
  any_shown P (Got l) h = (ap entry_before (sym (same_deed h)), ap sent (sym (same_deed h)))
  any_shown P given h = cc

begin_shown : (leader me : Role) (i : Index) (P : Process) (given : Given) {d : Deed} {Q : Process}
    → take_begin leader me i P given ≡ Does d Q
    → (entry_before d ≡ entry_before (Takes (key leader me i Begin) None Done)) × (sent d ≡ None)
begin_shown leader me i P (Got Keep) h = (
  ap entry_before (sym (same_deed h)),
  ap sent
      (sym (same_deed h)),
)
begin_shown leader me i P (Got (Part n R)) h =
    (ap entry_before (sym (same_deed h)), ap sent (sym (same_deed h)))
begin_shown leader me i P given h = cc

scope_shown : (me : Role) (head : ScopeHead) (others : List Role) (P : Process)
    (given : Given) {d : Deed} {Q : Process}
    → choose_scope me head others P given ≡ Does d Q → (entry_before d ≡ None) × (sent d ≡ None)
scope_shown me head others P (FromBook decide) {d} {Q} h = begun (decide head) h
  where
    begun : (decision : Decision) → begin_scope me head.index others P decision ≡ Does d Q
        → (entry_before d ≡ None) × (sent d ≡ None)
    begun Keeps k = (ap entry_before (sym (same_deed k)), ap sent (sym (same_deed k)))
    begun (Replaces name n part) k = (
      ap entry_before (sym (same_deed k)),
      ap sent
          (sym (same_deed k)),
    )
scope_shown me head others P given h = cc

module _ (me : Role) (s : Store) (a : Act) (given : Given) {d : Deed} {Q : Process} where
  taken_shown : (R : Process) (t : Bool) (m : Attempt Deed Process) (e : Deed)
      → entry_at me (value_at s R) R ≡ entry_before e → load_at (value_at s R) R ≡ None
      → (m ≡ Does d Q → (entry_before d ≡ entry_before e) × (sent d ≡ None)) → when t m ≡ Does d Q
      → IsShown me s R d
  taken_shown R t m e entry payload known h =
      let known = known (when_does t m h) in
      record { entry = entry ∙ sym known.0; payload = payload ∙ sym known.1 }

  part-shown : (R : Process) → is_single R ≡ true → step me s R a given ≡ Does d Q
      → IsShown me s R d
  part-shown Skip single h = cc
  part-shown (Send i o b e) single h = free_shown me s (Send i o b e) _
      (Puts (key me b i (Op o)) (Val (eval e s))) _ refl refl h
  part-shown (Recv i o from x) single h =
      taken_shown (Recv i o from x) _ _ (Takes (key from me i (Op o)) (Some x) Done) refl refl
      (value_shown (key from me i (Op o)) x given) h
  part-shown (Assign i x e) single h = free_shown me s (Assign i x e) _
      (Sets i me x (eval e s)) _ refl refl h
  part-shown (Read i x) single h = free_shown me s (Read i x) _
      (Inputs i me x (next_input s)) _ refl refl h
  part-shown (Seq P R) single h = cc
  part-shown (Par P R) single h = cc
  part-shown (IfLead i g others P R) single h = free_shown me s (IfLead i g others P R) _
      (Picks i me (is_true (eval g s))) _ refl refl h
  part-shown (IfFollow i leader P R) single h =
      taken_shown (IfFollow i leader P R) _ _ (Takes (key leader me i Choice) None Done) refl refl
      (flag_shown (key leader me i Choice) P R given) h
  part-shown (WhileLead i g others P) single h = free_shown me s (WhileLead i g others P) _
      (Picks i me (is_true (eval g s))) _ refl refl h
  part-shown (WhileFollow i leader P) single h =
      taken_shown (WhileFollow i leader P) _ _ (Takes (key leader me i Go) None Done) refl refl
      (flag_shown (key leader me i Go) (while_follows leader me i P (WhileFollow i leader P)) Skip
      given) h
  part-shown (ScopeLead head others P) single h =
      let known = scope_shown me head others P given (when_does _ _ h) in
      record { entry = sym known.0; payload = sym known.1 }
  part-shown (ScopeFollow i leader P) single h =
      taken_shown (ScopeFollow i leader P) _ _ (Takes (key leader me i Begin) None Done) refl refl
      (begin_shown leader me i P given) h
  part-shown (Tell Nothing) single h = cc
  part-shown (Tell (More k l ms)) single h = free_shown me s (Tell (More k l ms)) _
      (Puts k l) _ refl refl h
  part-shown (Gather []) single h = cc
  part-shown (Gather (k ∷ ks)) single h =
      taken_shown (Gather (k ∷ ks)) _ _ (Takes k None Done) refl refl
      (any_shown k (gathering ks) given) h

-- a step that is done does something
deed_done : (m : Attempt Deed Process) → is_done m ≡ true → (d : Deed)
    × ((Q : Process) × (m ≡ Does d Q))
deed_done Stuck h = cc
deed_done (Does d Q) h = (d, (Q, refl))

-- with another move that is done, the same test lets it be done
when_other : (t : Bool) (m n : Attempt Deed Process) → is_done n ≡ true → is_done (when t m) ≡ true
    → is_done (when t n) ≡ true
when_other true m n other h = other
when_other false m n other h = h

begun : (me : Role) (head : ScopeHead) (others : List Role) (P : Process) (decision : Decision)
    → is_done (begin_scope me head.index others P decision) ≡ true
begun me head others P Keeps = refl
begun me head others P (Replaces name n part) = refl

module _ (me : Role) (s : Store) (a : Act) where
  -- whatever the book says of a scope, it can be begun
  book_done : (R : Process) {scope : Lead} → lead_of R ≡ Some scope
      → (decide other : ScopeHead → Decision)
      → is_done (step me s R a (FromBook other)) ≡ true → is_done (step me s R a (FromBook decide))
      ≡ true
  book_done (ScopeLead head others P) led decide other h =
      when_other _ (choose_scope me head others P (FromBook other))
      (choose_scope me head others P (FromBook decide))
      (begun me head others P (decide head)) h
  book_done R led decide other h = cc

  -- what stands for something of its kind lets the part act as well
  part_done : (R : Process) (h : Handed) (given : Given) → StandsFor me (lead_of R) h given
      → is_done (step me s R a (given_like h)) ≡ true → is_done (step me s R a given) ≡ true
  part_done R Empty given stands done = subst (λ g. is_done (step me s R a g) ≡ true)
      (sym stands) done
  part_done R (Message l) given stands done = subst (λ g. is_done (step me s R a g) ≡ true)
      (sym stands) done
  part_done R Kept given stands done =
      subst (λ g. is_done (step me s R a g) ≡ true) (sym stands.decides)
      (book_done R stands.is_led stands.decide (λ head. Keeps) done)
  part_done R (Parted own ms) given stands done =
      subst (λ g. is_done (step me s R a g) ≡ true) (sym stands.decides)
      (book_done R stands.is_led stands.decide (λ head. Keeps) done)

pub advances-are_steps : AdvancesAreSteps
advances-are_steps me s a P R h given acts can stands =
    let whole = deed_done (step me s P a (given_like h)) can in
    let part = step-acting me s a (given_like h) P acts whole.1.1 in
    let single = (acting-single me a P acts).0 in
    let made = part-steps me s a R h given single (part_done me s a R h given stands
    (ap is_done part.1)) stands in
    record {
      deed = made.deed;
      left = replaced me a P (grown (growth me (value_at s R) R) h);
      does = replaced-steps me s a given P (grown (growth me (value_at s R) R) h) acts made.does;
      becomes = ap (λ t. local me (replaced me a P (grown (growth me (value_at s R) R) h)) t)
          (sym made.stored);
    }

pub prepared-is_done : PreparedIsDone
prepared-is_done me s a P R given d Q acts does =
    part-shown me s a given R (acting-single me a P acts).0 (step-acting me s a given P acts does).1
