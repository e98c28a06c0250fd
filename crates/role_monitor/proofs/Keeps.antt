-- What every state of a monitor keeps: its messages have distinct keys, its process gathers ends alone and tells the others whom a scope's
-- head shows, and so do the parts in its messages.
use Rattle.std.proofs.Common.{◌≡◌, ℕ, zero, suc, List, [], ◌∷◌, ◌++◌, length, Bool, true, false, Option, Some, None, if◌then◌else◌, refl, sym, ap, ◌∙◌, subst, ⊎_elim}
use Rattle.std.specs.Prelude.{is_some, option_and_then, slice_get}
use Rattle.std.proofs.lemmas.Bool.{cases_Bool, cond-true, cond-false}
use Rattle.dioc_terms.specs.declared.names.Role.{Role}
use Rattle.dioc_terms.specs.declared.processes.Key.{Key}
use Rattle.dioc_terms.specs.declared.processes.ScopeHead.{ScopeHead}
use Rattle.dioc_terms.specs.declared.bundles.Timed.{Timed}
use Rattle.dioc_terms.specs.declared.entries.Act.{Act}
use Rattle.dioc_terms.specs.declared.entries.Act.TheVariants as act
use Rattle.dioc_terms.specs.declared.entries.Chosen.TheVariants as chosen
use Rattle.dioc_terms.specs.declared.entries.Entry.{Entry}
use Rattle.dioc_terms.specs.declared.entries.Entry.TheVariants as entry
use Rattle.dioc_terms.specs.declared.entries.Note.{Note}
use Rattle.dioc_terms.specs.declared.entries.Note.TheVariants as note
use Rattle.dioc_terms.specs.Attempts.{Attempt, Stuck, Does}
use Rattle.dioc_terms.specs.Equality.{role_eq, key_eq, entry_eq}
use Rattle.dioc_terms.specs.Messages.{doer, act_of}
use Rattle.dioc_terms.specs.Plain.{PlainRule, PlainBundle, Setting, setting}
use Rattle.dioc_terms.specs.Processes.{Process, Load, Part}
use Rattle.dioc_terms.specs.Terms.{stamped}
use Rattle.dpoc_process.specs.LocalStates.{step_at}
use Rattle.global_steps.specs.Follow.{BookChoice, KeepsBody, TakesRule, book_choice, shows}
use Rattle.marked_laws.proofs.Equality.{key_same}
use Rattle.marked_laws.proofs.Shapes.{none_some, some_same, if_some}
use Rattle.marked_laws.specs.MailLaws.{HasDistinctKeys, MailIsAMap}
use Rattle.network_steps.specs.Network.{decision, pending_at, without}
use Rattle.process_steps.specs.Laws.{is_done}
use Rattle.process_steps.specs.Steps.{Deed, Puts, Takes, Sets, Inputs, Picks, Chooses, Got, entry_of}
use Rattle.projection.specs.Projection.{projected}
use Rattle.net_core.specs.Scopes.{Tells}
use Rattle.scope_leader.specs.Leaders.{CarriesTelling, DecidesTelling, GivesTelling, LeadersTell, SendsTelling, TellsAll}
use Rattle.role_monitor.proofs.Ends.{CarriesEnds, DecidesEnds, GathersEnds, GivesEnds, SendsEnds, ends_kept, misfit_stays, projection_ends}
use Rattle.role_monitor.proofs.Listings.{map_some, then_some}
use Rattle.role_monitor.specs.Judging.{MisfitsStay}
use Rattle.role_monitor.specs.Monitoring.{MonitorState, update_numbered, rule_part, update_part, noted_load, arrived, comes_to, mail_with, mail_with_some, own_mail, received, after_own, own_outcome, own_entry, others_entry, with_change, change_outcome, judged_by, mon, mon_start, mon_from, mon_run}
use Rattle.role_monitor.specs.declared.updates.Update.{Update}

-- a message whose part, if it is one, does so
abbrev pub CarriesGood : List Role → Key → Load → Type 0
CarriesGood cast k l = CarriesTelling cast k.to l × CarriesEnds l

abbrev pub AllCarryGood : List Role → List (Key × Load) → Type 0
AllCarryGood cast [] = Unit {0}
AllCarryGood cast (message ∷ rest) = CarriesGood cast message.0 message.1 × AllCarryGood cast rest

pub record IsKept (cast : List Role) (me : Role) (M : MonitorState) : Type 0 where
  pub role : M.local.role ≡ me
  pub distinct : HasDistinctKeys M.mail
  pub tells : TellsAll cast me M.local.process
  pub ends : GathersEnds M.local.process
  pub mail : AllCarryGood cast M.mail

pub found_good : (cast : List Role) (pending : List (Key × Load)) (k : Key) (l : Load) → AllCarryGood cast pending → pending_at k pending ≡ Some l → CarriesGood cast k l
found_good cast [] k l good h = absurd (none_some h)
found_good cast (message ∷ rest) k l good h = ⊎_elim
    (λ here. subst (λ (j : Key). CarriesGood cast j l) (sym (key_same k message.0 here))
    (subst (CarriesGood cast message.0) (some_same (sym (cond-true (key_eq k message.0) (Some message.1) (pending_at k rest) here) ∙ h)) good.0))
    (λ there. found_good cast rest k l good.1 (sym (cond-false (key_eq k message.0) (Some message.1) (pending_at k rest) there) ∙ h))
    (cases_Bool (key_eq k message.0))

put_good : (cast : List Role) (pending : List (Key × Load)) (k : Key) (l : Load) → AllCarryGood cast pending → CarriesGood cast k l → AllCarryGood cast (pending ++ (k, l) ∷ [])
put_good cast [] k l good carries = (carries, tt)
put_good cast (message ∷ rest) k l good carries = (good.0, put_good cast rest k l good.1 carries)

taken_good : (cast : List Role) (pending : List (Key × Load)) (k : Key) → AllCarryGood cast pending → AllCarryGood cast (without k pending)
taken_good cast [] k good = tt
taken_good cast (message ∷ rest) k good = ⊎_elim
    (λ here. subst (AllCarryGood cast) (sym (cond-true (key_eq k message.0) rest (message ∷ without k rest) here)) good.1)
    (λ there. subst (AllCarryGood cast) (sym (cond-false (key_eq k message.0) rest (message ∷ without k rest) there)) (good.0, taken_good cast rest k good.1))
    (cases_Bool (key_eq k message.0))

-- such messages, of distinct keys
abbrev GoodMail : List Role → List (Key × Load) → Type 0
GoodMail cast pending = HasDistinctKeys pending × AllCarryGood cast pending

module _ (maps : MailIsAMap) (cast : List Role) where
  with_good : (pending : List (Key × Load)) (k : Key) (l : Load) → GoodMail cast pending → CarriesGood cast k l → GoodMail cast (mail_with k l pending)
  with_good pending k l good carries = by_found (pending_at k pending) refl
    where
      by_found : (o : Option Load) → pending_at k pending ≡ o → GoodMail cast (if is_some o then pending else pending ++ (k, l) ∷ [])
      by_found (Some m) at = good
      by_found None at = (maps.put_distinct pending k l good.0 at, put_good cast pending k l good.1 carries)

  some_good : (pending : List (Key × Load)) (k : Key) (o : Option Load) → GoodMail cast pending → ((l : Load) → o ≡ Some l → CarriesGood cast k l) → GoodMail cast (mail_with_some k o pending)
  some_good pending k None good carries = good
  some_good pending k (Some l) good carries = with_good pending k l good (carries l refl)

  -- what a role's deed puts to itself
  own_good : (me : Role) (d : Deed) (pending : List (Key × Load)) → GoodMail cast pending → SendsTelling cast d → SendsEnds d → GoodMail cast (own_mail me d pending)
  own_good me (Puts k l) pending good tells ends = by_role (role_eq k.to me)
    where
      by_role : (t : Bool) → GoodMail cast (if t then mail_with k l pending else pending)
      by_role true = with_good pending k l good (tells, ends)
      by_role false = good
  own_good me (Takes k x l) pending good tells ends = (maps.take_distinct pending k x l good.0, taken_good cast pending k good.1)
  own_good me (Sets i r x v) pending good tells ends = good
  own_good me (Inputs i r x v) pending good tells ends = good
  own_good me (Picks i r t) pending good tells ends = good
  own_good me (Chooses i r c) pending good tells ends = good

-- an outcome that is there is that of a step
pub own_done : (b : Setting) (M : MonitorState) (e : Entry) (m : Attempt Deed Process) (M' : MonitorState) → own_outcome b M e m ≡ Some M'
    → (d : Deed) × (P : Process) × (m ≡ Does d P) × (M' ≡ after_own b M d P)
own_done b M e Stuck M' h = absurd (none_some h)
own_done b M e (Does d P) M' h = (d, P, refl, (if_some (entry_eq e (entry_of d)) (after_own b M d P) h).1)

module _ (leaders : LeadersTell) (maps : MailIsAMap) (b : PlainBundle) (me : Role) where
  abbrev Good : MonitorState → Type 0
  Good M = IsKept b.cast me M

  -- a role's part of an update that was seen
  part_good : (q : Role) (us : List Update) (n : ℕ) (R : Process) → update_part (setting b) q us n ≡ Some R → TellsAll b.cast q R × GathersEnds R
  part_good q us zero R h = absurd (none_some h)
  part_good q us (suc n) R h =
      let found = then_some (λ (u : Update). rule_part (setting b) q u (suc n)) (update_numbered (suc n) us) R h in
      let rule = map_some (λ (rule : PlainRule). projected b.cast (stamped rule.body (suc n) (found.0).level) q) (slice_get b.rules (found.0).rule) R found.2 in
      let body = stamped (rule.0).body (suc n) (found.0).level in
      (subst (TellsAll b.cast q) (some_same rule.2) (leaders.projections b.cast body q), subst GathersEnds (some_same rule.2) (projection_ends b.cast body q))

  noted_good : (k : Key) (us : List Update) (sent : Note) (l : Load) → noted_load (setting b) k.to us sent ≡ Some l → CarriesGood b.cast k l
  noted_good k us (note.Val v) l h = subst (CarriesGood b.cast k) (some_same h) (tt, tt)
  noted_good k us (note.Flag t) l h = subst (CarriesGood b.cast k) (some_same h) (tt, tt)
  noted_good k us note.Keep l h = subst (CarriesGood b.cast k) (some_same h) (tt, tt)
  noted_good k us note.Done l h = subst (CarriesGood b.cast k) (some_same h) (tt, tt)
  noted_good k us (note.Part n) l h =
      let part = map_some (Part n) (update_part (setting b) k.to us n) l h in
      subst (CarriesGood b.cast k) (some_same part.2) (part_good k.to us n part.0 part.1)

  decides_telling : (count : ℕ) (head : ScopeHead) (what : BookChoice) → DecidesTelling b.cast (decision b.cast count head what)
  decides_telling count head KeepsBody = tt
  decides_telling count head (TakesRule name body) = λ q. leaders.projections b.cast (stamped body (suc count) (suc head.level)) q

  decides_ends : (count : ℕ) (head : ScopeHead) (what : BookChoice) → DecidesEnds (decision b.cast count head what)
  decides_ends count head KeepsBody = tt
  decides_ends count head (TakesRule name body) = λ q. projection_ends b.cast (stamped body (suc count) (suc head.level)) q

  arrived_telling : (k : Key) (o : Option Load) → ((l : Load) → o ≡ Some l → CarriesGood b.cast k l) → GivesTelling b.cast (act.Take k) (arrived o)
  arrived_telling k None carries = tt
  arrived_telling k (Some l) carries = (carries l refl).0

  arrived_ends : (k : Key) (o : Option Load) → ((l : Load) → o ≡ Some l → CarriesGood b.cast k l) → GivesEnds (act.Take k) (arrived o)
  arrived_ends k None carries = tt
  arrived_ends k (Some l) carries = (carries l refl).1

  comes_telling : (M : MonitorState) (a : Act) → AllCarryGood b.cast M.mail → GivesTelling b.cast a (comes_to (setting b) M a)
  comes_telling M (act.Take k) good = arrived_telling k (pending_at k M.mail) (λ l h. found_good b.cast M.mail k l good h)
  comes_telling M (act.Scope i) good = λ head. decides_telling (length M.updates) head (book_choice b.rules M.book head M.local.store)
  comes_telling M (act.Put k) good = tt
  comes_telling M (act.Set i) good = tt
  comes_telling M (act.Input i) good = tt
  comes_telling M (act.Pick i) good = tt

  comes_ends : (M : MonitorState) (a : Act) → AllCarryGood b.cast M.mail → GivesEnds a (comes_to (setting b) M a)
  comes_ends M (act.Take k) good = arrived_ends k (pending_at k M.mail) (λ l h. found_good b.cast M.mail k l good h)
  comes_ends M (act.Scope i) good = λ head. decides_ends (length M.updates) head (book_choice b.rules M.book head M.local.store)
  comes_ends M (act.Put k) good = tt
  comes_ends M (act.Set i) good = tt
  comes_ends M (act.Input i) good = tt
  comes_ends M (act.Pick i) good = tt

  own_keeps : (M : MonitorState) (e : Entry) (a : Act) (M' : MonitorState) → own_entry (setting b) M e a ≡ Some M' → Good M → Good M'
  own_keeps M e a M' h good =
      let given = comes_to (setting b) M a in
      let did = own_done (setting b) M e (step_at M.local a given) M' h in
      let tells = leaders.steps b.cast M.local.role M.local.store M.local.process a given did.0 did.1
      (subst (λ r. TellsAll b.cast r M.local.process) (sym good.role) good.tells) (comes_telling M a good.mail) did.2 in
      let ends = ends_kept M.local.role M.local.store M.local.process a given did.0 did.1 good.ends (comes_ends M a good.mail) did.2 in
      let mail = own_good maps b.cast M.local.role did.0 M.mail (good.distinct, good.mail) tells.1 ends.1 in
      subst Good (sym did.3) (record {
        role = good.role;
        distinct = mail.0;
        tells = subst (λ r. TellsAll b.cast r did.1) good.role tells.0;
        ends = ends.0;
        mail = mail.1;
      })

  keeps_if : (t : Bool) (M N : MonitorState) → Good M → Good N → Good (if t then M else N)
  keeps_if true M N m n = m
  keeps_if false M N m n = n

  received_keeps : (M : MonitorState) (k : Key) (sent : Note) → Good M → Good (received (setting b) M k sent)
  received_keeps M k sent good =
      let mail = some_good maps b.cast M.mail k (noted_load (setting b) k.to M.updates sent) (good.distinct, good.mail) (λ l h. noted_good k M.updates sent l h) in
      record { role = good.role; distinct = mail.0; tells = good.tells; ends = good.ends; mail = mail.1 }

  others_keeps : (M : MonitorState) (e : Entry) → Good M → Good (others_entry (setting b) M e)
  others_keeps M (entry.Put k sent) good = keeps_if (role_eq k.to M.local.role) (received (setting b) M k sent) M (received_keeps M k sent good) good
  others_keeps M (entry.Scope i r (chosen.Rule name n)) good = record { role = good.role; distinct = good.distinct; tells = good.tells; ends = good.ends; mail = good.mail }
  others_keeps M (entry.Scope i r chosen.Keep) good = good
  others_keeps M (entry.Take k x) good = good
  others_keeps M (entry.Set i r x v) good = good
  others_keeps M (entry.Input i r x v) good = good
  others_keeps M (entry.Pick i r t) good = good
  others_keeps M (entry.Add name) good = good
  others_keeps M (entry.Drop name) good = good
  others_keeps M (entry.Env key v) good = good

  outcome_keeps : (M : MonitorState) (e : Entry) (o : Option Timed) → Good M → Good (change_outcome (setting b) M e o)
  outcome_keeps M e None good = good
  outcome_keeps M e (Some timed) good =
      keeps_if (shows b.rules e timed.change) (with_change (setting b) M timed) M
      (record { role = good.role; distinct = good.distinct; tells = good.tells; ends = good.ends; mail = good.mail }) good

  judged_if : (t : Bool) (M : MonitorState) (e : Entry) (a : Act) (M' : MonitorState)
      → (if t then own_entry (setting b) M e a else Some (others_entry (setting b) M e)) ≡ Some M' → Good M → Good M'
  judged_if true M e a M' h good = own_keeps M e a M' h good
  judged_if false M e a M' h good = subst Good (some_same h) (others_keeps M e good)

  judged_keeps : (M : MonitorState) (e : Entry) (q : Option Role) (a : Option Act) (M' : MonitorState) → judged_by (setting b) M e q a ≡ Some M' → Good M → Good M'
  judged_keeps M e (Some q) (Some a) M' h good = judged_if (role_eq q M.local.role) M e a M' h good
  judged_keeps M e (Some q) None M' h good = subst Good (some_same h) (outcome_keeps M e (slice_get b.script M.changes) good)
  judged_keeps M e None a M' h good = subst Good (some_same h) (outcome_keeps M e (slice_get b.script M.changes) good)

  from_keeps : (es : List Entry) (M M' : MonitorState) → mon_from (setting b) M es ≡ Some M' → Good M → Good M'
  from_keeps [] M M' h good = subst Good (some_same h) good
  from_keeps (e ∷ es) M M' h good =
      let next = then_some (λ N. mon_from (setting b) N es) (mon (setting b) M e) M' h in
      from_keeps es next.0 M' next.2 (judged_keeps M e (doer e) (act_of e) next.0 next.1 good)

  -- so it is after all entries that the role kept
  pub run_keeps : (es : List Entry) (M : MonitorState) → mon_run b me es ≡ Some M → IsKept b.cast me M
  run_keeps es M h = from_keeps es (mon_start b me) M h (record {
    role = refl;
    distinct = refl;
    tells = leaders.projections b.cast b.choreo me;
    ends = projection_ends b.cast b.choreo me;
    mail = tt;
  })

  -- the role tells the others of the scope that it begins
  pub kept_tells : (M : MonitorState) (a : Act) → IsKept b.cast me M → Tells b.cast M.local a
  kept_tells M a good = λ lead led. leaders.scopes b.cast M.local a lead (subst (λ r. TellsAll b.cast r M.local.process) (sym good.role) good.tells) led

-- a message that doesn't fit its tag can't be taken
pub kept_misfits : (cast : List Role) (me : Role) (M : MonitorState) (a : Act) → IsKept cast me M → MisfitsStay M.local a
kept_misfits cast me M a good = λ k l is misfit.
    subst (λ x. is_done (step_at M.local x (Got l)) ≡ false) (sym is) (misfit_stays M.local.role M.local.store k l misfit M.local.process good.ends)

-- entries with one more
pub run_more : (b : Setting) (es : List Entry) (e : Entry) (M N : MonitorState) → mon_from b M es ≡ Some N → mon_from b M (es ++ e ∷ []) ≡ mon b N e
run_more b [] e M N h = ap (λ X. option_and_then (λ next. Some next) (mon b X e)) (some_same h) ∙ whole (mon b N e)
  where
    whole : (o : Option MonitorState) → option_and_then (λ next. Some next) o ≡ o
    whole None = refl
    whole (Some X) = refl
run_more b (x ∷ es) e M N h =
    let next = then_some (λ Q. mon_from b Q es) (mon b M x) N h in
    ap (option_and_then (λ Q. mon_from b Q (es ++ e ∷ []))) next.1 ∙ run_more b es e next.0 N next.2
