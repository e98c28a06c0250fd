-- In every network of a run each role tells the others of the scopes that it leads, and so it is with the parts that pending messages carry.
use Rattle.std.proofs.Common.{◌≡◌, ℕ, suc, List, [], ◌∷◌, ◌++◌, Option, Some, None, option_and_then, refl, sym, ◌∙◌, subst, ⊎_elim}
use Rattle.std.proofs.lemmas.Bool.{cases_Bool, cond-true, cond-false}
use Rattle.dioc_terms.specs.declared.entries.Act.{Act}
use Rattle.dioc_terms.specs.declared.entries.Act.TheVariants as act
use Rattle.dioc_terms.specs.declared.entries.Entry.{Entry}
use Rattle.dioc_terms.specs.declared.names.Role.{Role}
use Rattle.dioc_terms.specs.declared.processes.Key.{Key}
use Rattle.dioc_terms.specs.declared.processes.ScopeHead.{ScopeHead}
use Rattle.dioc_terms.specs.Equality.{key_eq}
use Rattle.dioc_terms.specs.Plain.{PlainBundle, setting}
use Rattle.dioc_terms.specs.Processes.{Load}
use Rattle.dioc_terms.specs.Terms.{stamped}
use Rattle.dpoc_process.specs.Acting.{Lead, acting_lead}
use Rattle.global_steps.specs.Follow.{BookChoice, KeepsBody, TakesRule, book_choice, updated}
use Rattle.marked_laws.proofs.Equality.{key_same}
use Rattle.marked_laws.proofs.Networks.{RoleStep, ChangeStep, network_cases}
use Rattle.marked_laws.proofs.Roles.{role_cases, updated_here, updated_there}
use Rattle.marked_laws.proofs.Shapes.{none_some, some_same}
use Rattle.network_steps.specs.Network.{Network, decision, given_at, network_run, network_start, network_step, pending_after, pending_at, run_from, without}
use Rattle.process_steps.specs.Steps.{Deed, Puts, Takes, Sets, Inputs, Picks, Chooses}
use Rattle.scope_leader.specs.Leaders.{CarriesTelling, DecidesTelling, GivesTelling, LeadersTell, SendsTelling, TellsAll, TellsOthers}
use Rattle.net_core.specs.Deeds.{message_given}
use Rattle.net_core.specs.Standing.{local_in}

-- so it is with the parts that these messages carry
abbrev MailTells : List Role → List (Key × Load) → Type 0
MailTells cast [] = Unit {0}
MailTells cast (message ∷ rest) = CarriesTelling cast (message.0).to message.1 × MailTells cast rest

record NetworkTells (cast : List Role) (N : Network) : Type 0 where
  roles : (q : Role) → TellsAll cast q (N.processes q)
  mail : MailTells cast N.pending

mail_at : (cast : List Role) (pending : List (Key × Load)) (k : Key) (l : Load) → MailTells cast pending → pending_at k pending ≡ Some l → CarriesTelling cast k.to l
mail_at cast [] k l tells h = absurd (none_some h)
mail_at cast (message ∷ rest) k l tells h = ⊎_elim
    (λ here. subst (λ (j : Key). CarriesTelling cast j.to l) (sym (key_same k message.0 here))
    (subst (CarriesTelling cast (message.0).to) (some_same (sym (cond-true (key_eq k message.0) (Some message.1) (pending_at k rest) here) ∙ h)) tells.0))
    (λ there. mail_at cast rest k l tells.1 (sym (cond-false (key_eq k message.0) (Some message.1) (pending_at k rest) there) ∙ h))
    (cases_Bool (key_eq k message.0))

mail_put : (cast : List Role) (pending : List (Key × Load)) (k : Key) (l : Load) → MailTells cast pending → CarriesTelling cast k.to l → MailTells cast (pending ++ (k, l) ∷ [])
mail_put cast [] k l tells carries = (carries, tt)
mail_put cast (message ∷ rest) k l tells carries = (tells.0, mail_put cast rest k l tells.1 carries)

mail_taken : (cast : List Role) (pending : List (Key × Load)) (k : Key) → MailTells cast pending → MailTells cast (without k pending)
mail_taken cast [] k tells = tt
mail_taken cast (message ∷ rest) k tells = ⊎_elim
    (λ here. subst (MailTells cast) (sym (cond-true (key_eq k message.0) rest (message ∷ without k rest) here)) tells.1)
    (λ there. subst (MailTells cast) (sym (cond-false (key_eq k message.0) rest (message ∷ without k rest) there)) (tells.0, mail_taken cast rest k tells.1))
    (cases_Bool (key_eq k message.0))

mail_after : (cast : List Role) (pending : List (Key × Load)) (d : Deed) → MailTells cast pending → SendsTelling cast d → MailTells cast (pending_after d pending)
mail_after cast pending (Puts k l) tells sends = mail_put cast pending k l tells sends
mail_after cast pending (Takes k x l) tells sends = mail_taken cast pending k tells
mail_after cast pending (Sets i r x v) tells sends = tells
mail_after cast pending (Inputs i r x v) tells sends = tells
mail_after cast pending (Picks i r b) tells sends = tells
mail_after cast pending (Chooses i r c) tells sends = tells

module _ (leaders : LeadersTell) (b : PlainBundle) where
  decides : (count : ℕ) (head : ScopeHead) (what : BookChoice) → DecidesTelling b.cast (decision b.cast count head what)
  decides count head KeepsBody = tt
  decides count head (TakesRule name body) = λ q. leaders.projections b.cast (stamped body (suc count) (suc head.level)) q

  taken_gives : (k : Key) (o : Option Load) → ((l : Load) → o ≡ Some l → CarriesTelling b.cast k.to l) → GivesTelling b.cast (act.Take k) (message_given o)
  taken_gives k None carries = tt
  taken_gives k (Some l) carries = carries l refl

  gives : (N : Network) (q : Role) (a : Act) → MailTells b.cast N.pending → GivesTelling b.cast a (given_at (setting b) N q a)
  gives N q (act.Take k) mail = taken_gives k (pending_at k N.pending) (λ l h. mail_at b.cast N.pending k l mail h)
  gives N q (act.Scope i) mail = λ head. decides N.updates head (book_choice b.rules N.book head (N.stores q))
  gives N q (act.Put k) mail = tt
  gives N q (act.Set i) mail = tt
  gives N q (act.Input i) mail = tt
  gives N q (act.Pick i) mail = tt

  role_tells : (N N' : Network) (e : Entry) → RoleStep (setting b) N e N' → NetworkTells b.cast N → NetworkTells b.cast N'
  role_tells N N' e stepped tells =
      let q = stepped.role in
      let goes = leaders.steps b.cast q (N.stores q) (N.processes q) stepped.act (given_at (setting b) N q stepped.act) stepped.deed stepped.next
      (tells.roles q) (gives N q stepped.act tells.mail) stepped.steps in
      subst (NetworkTells b.cast) (sym stepped.gives) (record {
        roles = λ r. ⊎_elim
            (λ same. subst (λ x. TellsAll b.cast x (updated q stepped.next N.processes x)) (sym same)
            (subst (TellsAll b.cast q) (sym (updated_here q stepped.next N.processes)) goes.0))
            (λ differs. subst (TellsAll b.cast r) (sym (updated_there q stepped.next N.processes r differs)) (tells.roles r))
            (role_cases r q);
        mail = mail_after b.cast N.pending stepped.deed tells.mail goes.1;
      })

  change_tells : (N N' : Network) (e : Entry) → ChangeStep (setting b) N e N' → NetworkTells b.cast N → NetworkTells b.cast N'
  change_tells N N' e changed tells = subst (NetworkTells b.cast) (sym changed.gives) (record { roles = tells.roles; mail = tells.mail })

  step_tells : (N N' : Network) (e : Entry) → network_step (setting b) N e ≡ Some N' → NetworkTells b.cast N → NetworkTells b.cast N'
  step_tells N N' e h tells = ⊎_elim
      (λ stepped. role_tells N N' e stepped tells) (λ changed. change_tells N N' e changed tells) (network_cases (setting b) N e N' h)

  run_tells : (H : List Entry) (N N' : Network) → run_from (setting b) N H ≡ Some N' → NetworkTells b.cast N → NetworkTells b.cast N'
  run_tells [] N N' h tells = subst (NetworkTells b.cast) (some_same h) tells
  run_tells (e ∷ es) N N' h tells = by_step (network_step (setting b) N e) refl h (λ M goes rest. run_tells es M N' rest (step_tells N M e goes tells))
    where
      by_step : (o : Option Network) → network_step (setting b) N e ≡ o → option_and_then (λ next. run_from (setting b) next es) o ≡ Some N'
          → ((M : Network) → network_step (setting b) N e ≡ Some M → run_from (setting b) M es ≡ Some N' → NetworkTells b.cast N') → NetworkTells b.cast N'
      by_step None at h more = absurd (none_some h)
      by_step (Some M) at h more = more M at h

  -- a role of a run tells the others of the scope that it begins
  pub tells_run : (H : List Entry) (N : Network) → network_run b H ≡ Some N → (q : Role) (a : Act) (lead : Lead) → acting_lead (local_in N q) a ≡ Some lead
      → TellsOthers b.cast q lead.head lead.others
  tells_run H N runs q a lead is =
      let tells = run_tells H (network_start b) N runs (record { roles = λ r. leaders.projections b.cast b.choreo r; mail = tt }) in
      leaders.scopes b.cast (local_in N q) a lead (tells.roles q) is
