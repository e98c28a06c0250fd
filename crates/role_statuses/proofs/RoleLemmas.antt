-- A role that runs over marks does what the definition says.
use Rattle.std.proofs.Common.{◌≡◌, ℕ, List, true, refl, ap, ap₂, ◌∙◌, sym, subst, ⊎_elim}
use Rattle.dioc_terms.specs.declared.names.Role.{Role}
use Rattle.dioc_terms.specs.declared.entries.Act.{Act}
use Rattle.dioc_terms.specs.Attempts.{Attempt, Stuck, Does, under}
use Rattle.dioc_terms.specs.Processes.{Process}
use Rattle.dioc_terms.specs.Stores.{Store}
use Rattle.process_steps.specs.Laws.{OffersAreSteps, is_done}
use Rattle.process_steps.specs.Steps.{Deed, Given, offers, is_offered, step}
use Rattle.role_statuses.specs.Statuses.{Status, Untouched, read, leaves}
use Rattle.role_statuses.specs.Moves.{move, start}
use Rattle.role_statuses.specs.Paths.{Hole, top_static, top_status, climb, touch, IsActing}
use Rattle.role_statuses.specs.Flat.{Marks, Stands, PathStands, settle, climb_marks, touch_marks}
use Rattle.role_statuses.specs.FlatLaws.{IsMarkStep, MarksAreExact}
use Rattle.role_statuses.specs.Kept.{kept, running, IsKept}
use Rattle.role_statuses.specs.Marks as mark
use Rattle.role_statuses.specs.Sound.{is_sound, SoundAfter}
use Rattle.role_statuses.proofs.KeptLemmas.{kept-is}
use Rattle.role_statuses.proofs.LeafLemmas.{IsLeaf}
use Rattle.role_statuses.proofs.MoveLemmas.{move-reads}
use Rattle.role_statuses.proofs.PathLemmas.{move-climbs, start-touches}
use Rattle.role_statuses.proofs.ReadLemmas.{leaves-reads, over-reads}
use Rattle.role_statuses.proofs.SoundLemmas.{move-sound}
use Rattle.role_statuses.proofs.SpotLemmas.{IsDeep, IsFound, found, spots-offer}
use Rattle.role_statuses.proofs.StepLemmas.{flat-step, flat-start}

same_deed : {A : Type 0} {d e : Deed} {x y : A} → Does d x ≡ Does e y → d ≡ e
same_deed h = cc

same_left : {A : Type 0} {d e : Deed} {x y : A} → Does d x ≡ Does e y → x ≡ y
same_left h = cc

pub under_back : {A B : Type 0} (f : A → B) (m : Attempt Deed A) (d : Deed) (z : B) → under f m ≡ Does d z → (y : A) × (m ≡ Does d y) × (f y ≡ z)
under_back f Stuck d z h = cc
under_back f (Does e y) d z h = (y, ap (λ c. Does c y) (same_deed h), same_left h)

done_is : {m : Attempt Deed Process} {d : Deed} {P : Process} → m ≡ Does d P → is_done m ≡ true
done_is h = ap is_done h

-- the new marks stand for the new status
pub record IsKeptAfter (me : Role) (W : Process) (y : Status) : Type 0 where
  pub after : Marks
  pub stands : Stands me after 0 y W

module _ (me : Role) (s : Store) (a : Act) (given : Given) (marks : Marks) (d : Deed) where
  keep_as : (W : Process) (after : Marks) (z y : Status) → z ≡ y → Stands me after 0 z W → IsKeptAfter me W y
  keep_as W after z y e h = record { after = after; stands = subst (λ w. Stands me after 0 w W) e h }

  by_leaf : (hs : List Hole) (b : ℕ) (P : Process) (x y : Status) → PathStands me marks 0 b hs P → Stands me marks b x P → IsLeaf x P
      → is_offered a (leaves me x P) ≡ true → IsActing me a hs P x → move me s (top_status hs P x) (top_static hs P) a given ≡ Does d y
      → IsKeptAfter me (top_static hs P) y
  by_leaf hs b P x y path stands leaf offered acts h =
      let back = under_back (climb me hs P) (move me s x P a given) d y (sym (move-climbs me s a given hs P x offered acts) ∙ h) in
      let does = flat-step me s a given marks 0 b hs P x d back.0 path stands leaf offered acts back.1 in
      keep_as (top_static hs P) (climb_marks me (settle me marks b back.0 P) b hs P back.0) (climb me hs P back.0) y back.2 does.stands

  by_deep : (hs : List Hole) (c : ℕ) (M : Process) (y : Status) (place : ℕ) → PathStands me marks 0 c hs M
      → is_offered a (offers me M) ≡ true → IsActing me a hs M Untouched → IsDeep me marks a c M place
      → move me s (top_status hs M Untouched) (top_static hs M) a given ≡ Does d y
      → IsKeptAfter me (top_static hs M) y
  by_deep hs c M y place path offered acts p h = at_static M p.is_static path offered acts h
    where
      at_static : (N : Process) → top_static p.qs p.leaf ≡ N → PathStands me marks 0 c hs N → is_offered a (offers me N) ≡ true → IsActing me a hs N Untouched
          → move me s (top_status hs N Untouched) (top_static hs N) a given ≡ Does d y → IsKeptAfter me (top_static hs N) y
      at_static N e = subst (λ N. PathStands me marks 0 c hs N → is_offered a (offers me N) ≡ true → IsActing me a hs N Untouched
          → move me s (top_status hs N Untouched) (top_static hs N) a given ≡ Does d y → IsKeptAfter me (top_static hs N) y) e there
        where
          there : PathStands me marks 0 c hs (top_static p.qs p.leaf) → is_offered a (offers me (top_static p.qs p.leaf)) ≡ true → IsActing me a hs (top_static p.qs p.leaf) Untouched
              → move me s (top_status hs (top_static p.qs p.leaf) Untouched) (top_static hs (top_static p.qs p.leaf)) a given ≡ Does d y
              → IsKeptAfter me (top_static hs (top_static p.qs p.leaf)) y
          there path offered acts h =
              let outer = under_back (climb me hs (top_static p.qs p.leaf)) (start me s (top_static p.qs p.leaf) a given) d y
              (sym (move-climbs me s a given hs (top_static p.qs p.leaf) Untouched offered acts) ∙ h) in
              let own = under_back (touch me p.qs p.leaf) (start me s p.leaf a given) d outer.0
              (sym (start-touches me s a given p.qs p.leaf p.offered p.starts) ∙ outer.1) in
              let does = flat-start me s a given marks 0 c p.base hs p.qs p.leaf d own.0 path p.quiet p.stands p.is_leaf p.offered p.starts offered acts own.1 in
              keep_as (top_static hs (top_static p.qs p.leaf))
              (climb_marks me (touch_marks me (settle me marks p.base own.0 p.leaf) p.base p.qs p.leaf own.0) c hs (top_static p.qs p.leaf) (touch me p.qs p.leaf own.0))
              (climb me hs (top_static p.qs p.leaf) (touch me p.qs p.leaf own.0)) y
              (ap (climb me hs (top_static p.qs p.leaf)) own.2 ∙ outer.2) does.stands

  moved : (X : Status) (W : Process) (y : Status) (place : ℕ) → IsFound me marks a 0 X W place → move me s X W a given ≡ Does d y → IsKeptAfter me W y
  moved X W y place f h = subst (λ V. IsKeptAfter me V y) f.is_static (⊎_elim
      (λ leaf. by_leaf f.hs f.base f.part f.status y f.path f.stands leaf.0 f.offered f.acts there)
      (λ far. by_deep f.hs f.base f.part y place f.path (subst (λ x. is_offered a (leaves me x f.part) ≡ true) far.0 f.offered)
      (subst (λ x. IsActing me a f.hs f.part x) far.0 f.acts) far.1
      (subst (λ x. move me s (top_status f.hs f.part x) (top_static f.hs f.part) a given ≡ Does d y) far.0 there))
      f.at)
    where
      there : move me s (top_status f.hs f.part f.status) (top_static f.hs f.part) a given ≡ Does d y
      there = ap₂ (λ x P. move me s x P a given) f.is_status f.is_static ∙ h

-- the status after a move is sound
pub sound_done : (me : Role) (W : Process) (m : Attempt Deed Status) (d : Deed) (y : Status) → m ≡ Does d y → SoundAfter me W m → is_sound me y W ≡ true
sound_done me W m d y e h = subst (SoundAfter me W) e h

all_kept : (me : Role) (W : Process) (y : Status) (k : IsKeptAfter me W y) → is_sound me y W ≡ true → IsKept me k.after W
all_kept me W y k sound = let e = kept-is me k.after 0 y W k.stands sound in record {
  stands = subst (λ z. Stands me k.after 0 z W) (sym e) k.stands;
  sound = ap (λ z. is_sound me z W) e ∙ sound;
}

role-steps : OffersAreSteps → (me : Role) (s : Store) (a : Act) (given : Given) (marks : Marks) (W P : Process) (d : Deed) → IsKept me marks W
    → step me s (running me marks W) a given ≡ Does d P → IsMarkStep me a marks W P
role-steps laws me s a given marks W P d k h =
    let X : Status = kept marks 0 W in
    let back = under_back (λ y. read me y W) (move me s X W a given) d P (sym (move-reads me s a given X W) ∙ h) in
    let offered : is_offered a (leaves me X W) ≡ true =
    ap (is_offered a) (leaves-reads me X W) ∙ laws.only me s (running me marks W) a given (done_is h) in
    let f = found me marks a 0 X W k.stands k.sound offered in
    let new = moved me s a given marks d X W back.0 f.0 f.2 back.1 in
    let sound : is_sound me back.0 W ≡ true = sound_done me W (move me s X W a given) d back.0 back.1 (move-sound me s a given X W k.sound).after in
    record {
      place = f.0;
      first = f.1;
      after = new.after;
      keeps = all_kept me W back.0 new sound;
      becomes = ap (λ z. read me z W) (kept-is me new.after 0 back.0 W new.stands sound) ∙ back.2;
    }

-- before any step
fresh_stands : (me : Role) (W : Process) → Stands me (λ k. mark.Untouched) 0 Untouched W
fresh_stands me W = (refl, record { fresh = λ k l u. refl })

fresh-kept : (me : Role) (W : Process) → kept (λ k. mark.Untouched) 0 W ≡ Untouched
fresh-kept me W = kept-is me (λ k. mark.Untouched) 0 Untouched W (fresh_stands me W) refl

pub marks-are_exact : MarksAreExact
marks-are_exact = record {
  begins = λ me W. (
    record {
      stands = subst (λ x. Stands me (λ k. mark.Untouched) 0 x W) (sym (fresh-kept me W)) (fresh_stands me W);
      sound = ap (λ x. is_sound me x W) (fresh-kept me W);
    },
    ap (λ x. read me x W) (fresh-kept me W),
  );
  offered = λ me marks W k. spots-offer me 0 (kept marks 0 W) W k.sound ∙ leaves-reads me (kept marks 0 W) W;
  over = λ me marks W. over-reads me (kept marks 0 W) W;
  steps = role-steps;
}
