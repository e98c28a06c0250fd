-- A step of a process taken apart: which part acted, and what was told, gathered or taken.
use Rattle.std.proofs.Common.{◌≡◌, ◌⊎◌, List, [], ◌∷◌, map, Bool, true, false, if◌then◌else◌, Option, Some, None, refl, sym, ap, ◌∙◌, inl, inr, ⊎_elim}
use Rattle.dioc_terms.specs.declared.names.Role.{Role}
use Rattle.dioc_terms.specs.declared.names.Index.{Index}
use Rattle.dioc_terms.specs.declared.processes.Key.{Key}
use Rattle.dioc_terms.specs.declared.processes.Tag.{Tag}
use Rattle.dioc_terms.specs.declared.processes.ScopeHead.{ScopeHead}
use Rattle.dioc_terms.specs.declared.entries.Act.{Act}
use Rattle.dioc_terms.specs.declared.entries.Act.TheVariants as act
use Rattle.dioc_terms.specs.Equality.{act_eq}
use Rattle.dioc_terms.specs.Attempts.{Attempt, Does, under, when}
use Rattle.dioc_terms.specs.Processes.{Process, Seq, Par, Load}
use Rattle.dioc_terms.specs.Stores.{Store}
use Rattle.process_steps.specs.Steps.{Deed, Puts, Takes, Given, Alone, Got, FromBook, Decision, ended, after, key, letters_to, tell, gather, telling, gathering, take_any, offers, is_offered, step}
use Rattle.marked_laws.proofs.Equality.{act_same}
use Rattle.marked_laws.proofs.MarkSteps.{given_by}
use Rattle.marked_laws.proofs.Moves.{does_same, stuck_does, when_does, under_does}

-- a take that is given a message has it pending
pub taken_message : (m : Option Load) (decide : ScopeHead → Decision) (j : Key) (l : Load) → given_by (λ k. m) decide (act.Take j) ≡ Got l → m ≡ Some l
taken_message None decide j l h = cc
taken_message (Some n) decide j l h = cc

pub given_message : (mails : Key → Option Load) (decide : ScopeHead → Decision) (j : Key) (l : Load) → given_by mails decide (act.Take j) ≡ Got l → mails j ≡ Some l
given_message mails decide j l h = taken_message (mails j) decide j l h

-- what is given to an act by the act that it is
pub taken_by : (mails : Key → Option Load) (decide : ScopeHead → Decision) (a : Act) (j : Key) (l : Load) → a ≡ act.Take j → given_by mails decide a ≡ Got l → mails j ≡ Some l
taken_by mails decide a j l is h = given_message mails decide j l (sym (ap (given_by mails decide) is) ∙ h)

-- a test that passed, and what is done then
pub when_act : (a b : Act) (m : Attempt Deed Process) {d : Deed} {R : Process} → when (act_eq a b) m ≡ Does d R → (a ≡ b) × (m ≡ Does d R)
when_act a b m h = let parts = when_does (act_eq a b) m h in (act_same a b parts.0, parts.1)

-- which of two moves was done
pub either_does : (t : Bool) (m n : Attempt Deed Process) {d : Deed} {R : Process} → (if t then m else n) ≡ Does d R
    → ((t ≡ true) × (m ≡ Does d R)) ⊎ ((t ≡ false) × (n ≡ Does d R))
either_does true m n h = inl (refl, h)
either_does false m n h = inr (refl, h)

-- a take of whatever came
pub take_any_does : (k : Key) (P : Process) (given : Given) {d : Deed} {R : Process} → take_any k P given ≡ Does d R
    → (l : Load) × (given ≡ Got l) × (d ≡ Takes k None l) × (R ≡ P)
take_any_does k P (Got l) h = let same = does_same h in (l, refl, sym same.0, sym same.1)
take_any_does k P Alone h = absurd (stuck_does h)
take_any_does k P (FromBook decide) h = absurd (stuck_does h)

module _ (me : Role) (s : Store) (a : Act) (given : Given) where
  -- a sequence: its second part where the first has ended, else its first
  pub seq_does : (P Q : Process) {d : Deed} {R : Process} → step me s (Seq P Q) a given ≡ Does d R
      → ((ended P ≡ true) × (step me s Q a given ≡ Does d R)) ⊎ ((ended P ≡ false) × (P' : Process) × (step me s P a given ≡ Does d P') × (after P' Q ≡ R))
  seq_does P Q h = ⊎_elim (λ k. inl k)
      (λ k. let part = under_does (λ p. after p Q) (step me s P a given) k.1 in inr (k.0, part.0, part.1, part.2))
      (either_does (ended P) (step me s Q a given) (under (λ p. after p Q) (step me s P a given)) h)

  pub par_does : (P Q : Process) {d : Deed} {R : Process} → step me s (Par P Q) a given ≡ Does d R
      → ((P' : Process) × (step me s P a given ≡ Does d P') × (Par P' Q ≡ R)) ⊎ ((Q' : Process) × (step me s Q a given ≡ Does d Q') × (Par P Q' ≡ R))
  par_does P Q h = ⊎_elim
      (λ k. inl (under_does (λ p. Par p Q) (step me s P a given) k.1))
      (λ k. inr (under_does (Par P) (step me s Q a given) k.1))
      (either_does (is_offered a (offers me P)) (under (λ p. Par p Q) (step me s P a given)) (under (Par P) (step me s Q a given)) h)

  -- telling: the first of the roles is told
  pub tell_does : (from : Role) (qs : List Role) (i : Index) (t : Tag) (carries : Role → Load) {d : Deed} {R : Process}
      → step me s (tell from qs i t carries) a given ≡ Does d R
      → (q : Role) × (rest : List Role) × (qs ≡ q ∷ rest) × (d ≡ Puts (key from q i t) (carries q)) × (R ≡ tell from rest i t carries)
  tell_does from [] i t carries h = absurd (stuck_does h)
  tell_does from (q ∷ rest) i t carries h =
      let done = when_act a (act.Put (key from q i t)) (Does (Puts (key from q i t) (carries q)) (telling (letters_to from rest i t carries))) h in
      let same = does_same done.1 in
      (q, rest, refl, sym same.0, sym same.1)

  -- gathering: the message of the first of the roles is taken
  pub gather_does : (to : Role) (qs : List Role) (i : Index) (t : Tag) {d : Deed} {R : Process}
      → step me s (gather to qs i t) a given ≡ Does d R
      → (q : Role) × (rest : List Role) × (l : Load) × (qs ≡ q ∷ rest) × (a ≡ act.Take (key q to i t)) × (given ≡ Got l)
      × (d ≡ Takes (key q to i t) None l) × (R ≡ gather to rest i t)
  gather_does to [] i t h = absurd (stuck_does h)
  gather_does to (q ∷ rest) i t h =
      let done = when_act a (act.Take (key q to i t)) (take_any (key q to i t) (gathering (map (λ r. key r to i t) rest)) given) h in
      let took = take_any_does (key q to i t) (gathering (map (λ r. key r to i t) rest)) given done.1 in
      (q, rest, took.0, refl, done.0, took.1, took.2, took.3)

-- a tell that has ended has nobody left to tell
