-- Each monitor goes along with each step of the network: what the network shows it before the step and after it is a step of the monitor.
use Rattle.std.proofs.Common.{arith, ◌≡◌, ℕ, suc, List, [], ◌∷◌, ◌++◌, Bool, true, false, Option, Some, None, refl, sym, ap, ap₂, ◌∙◌, subst, ⊎_elim}
use Rattle.std.specs.Prelude.{find, is_some, option_map, option_and_then}
use Rattle.std.proofs.lemmas.Bool.{cases_Bool, cond-true, cond-false}
use Rattle.dioc_terms.specs.declared.names.Role.{Role}
use Rattle.dioc_terms.specs.declared.names.Index.{Index}
use Rattle.dioc_terms.specs.declared.processes.Key.{Key}
use Rattle.dioc_terms.specs.declared.processes.ScopeHead.{ScopeHead}
use Rattle.dioc_terms.specs.declared.bundles.Change.{Change}
use Rattle.dioc_terms.specs.declared.entries.Act.{Act}
use Rattle.dioc_terms.specs.declared.entries.Act.TheVariants as act
use Rattle.dioc_terms.specs.declared.entries.Chosen.TheVariants as chosen
use Rattle.dioc_terms.specs.declared.entries.Entry.{Entry}
use Rattle.dioc_terms.specs.declared.entries.Entry.TheVariants as entry
use Rattle.dioc_terms.specs.Attempts.{Does}
use Rattle.dioc_terms.specs.Equality.{role_eq, entry_eq}
use Rattle.dioc_terms.specs.Messages.{doer, act_of}
use Rattle.dioc_terms.specs.Plain.{PlainRule, Setting}
use Rattle.dioc_terms.specs.Processes.{Process, ScopeLead, Load, Val, Flag, Keep, Part, Done, noted}
use Rattle.dioc_terms.specs.Rules.{Book, is_named}
use Rattle.dioc_terms.specs.Stores.{Store}
use Rattle.dpoc_process.specs.Acting.{acting}
use Rattle.global_steps.specs.Follow.{book_choice, change_entry, shows}
use Rattle.marked_laws.specs.MailLaws.{HasDistinctKeys}
use Rattle.network_steps.specs.Network.{Network, decision, given_at, pending_at, pending_after}
use Rattle.marked_laws.proofs.Equality.{entry_itself, role_itself}
use Rattle.marked_laws.proofs.MarkSteps.{given_by}
use Rattle.marked_laws.proofs.Networks.{RoleStep, ChangeStep, after_deed, given_same}
use Rattle.marked_laws.proofs.Roles.{updated_here, updated_there, role_cases, role_swap}
use Rattle.marked_laws.proofs.Shapes.{none_some, some_same}
use Rattle.process_steps.specs.Steps.{Deed, Puts, Takes, Sets, Inputs, Picks, Chooses, FromBook, entry_of, store_after, step}
use Rattle.role_monitor.specs.Monitoring.{MonitorState, update_numbered, epoch_level, noted_load, arrived, comes_to, mail_with, mail_with_some, received, own_mail, own_updates, after_own, own_outcome, own_entry, heard_update, with_update, others_entry, with_change, change_outcome, judged_by, mon}
use Rattle.role_monitor.specs.declared.updates.Update.{Update}
use Rattle.role_monitor.proofs.Books.{chosen_found}
use Rattle.role_monitor.proofs.Goods.{Genuine, GoodDeed, head_good}
use Rattle.role_monitor.proofs.GoodSteps.{begun}
use Rattle.role_monitor.proofs.Listings.{stated}
use Rattle.role_monitor.proofs.Mailboxes.{to_role, to_role-at, to_role-without, to_role-untouched, to_role-put, to_role-unput, free_before}
use Rattle.role_monitor.proofs.Truths.{shown, Truth, Decided, us_after, grew, deed_good, truth_step, truth_change}

-- a take is its receiver's
pub take_doer : (e : Entry) (a : Act) (q : Role) → doer e ≡ Some q → act_of e ≡ Some a → (k : Key) → a ≡ act.Take k → k.to ≡ q
take_doer (entry.Take j x) a q does acts k is = ap (λ (k : Key). k.to) (same (some_same acts ∙ is)) ∙ some_same does
  where
    same : act.Take j ≡ act.Take k → k ≡ j
    same h = cc
take_doer (entry.Put j n) a q does acts k is = absurd (other (some_same acts ∙ is))
  where
    other : act.Put j ≡ act.Take k → ⊥
    other h = cc
take_doer (entry.Set i r x v) a q does acts k is = absurd (other (some_same acts ∙ is))
  where
    other : act.Set i ≡ act.Take k → ⊥
    other h = cc
take_doer (entry.Input i r x v) a q does acts k is = absurd (other (some_same acts ∙ is))
  where
    other : act.Input i ≡ act.Take k → ⊥
    other h = cc
take_doer (entry.Pick i r t) a q does acts k is = absurd (other (some_same acts ∙ is))
  where
    other : act.Pick i ≡ act.Take k → ⊥
    other h = cc
take_doer (entry.Scope i r c) a q does acts k is = absurd (other (some_same acts ∙ is))
  where
    other : act.Scope i ≡ act.Take k → ⊥
    other h = cc
take_doer (entry.Add name) a q does acts k is = absurd (none_some does)
take_doer (entry.Drop name) a q does acts k is = absurd (none_some does)
take_doer (entry.Env key v) a q does acts k is = absurd (none_some does)

abbrev build : Role → List (Key × Load) → Book → ℕ → List Update → Process → Store → MonitorState
build r mail book changes us P s = record { local = record { role = r; process = P; store = s }; mail = mail; book = book; changes = changes; updates = us }

-- the update of this number that a scope with this index begins, by a rule of the book
abbrev heard_from : List Update → Index → ℕ → Option ℕ → Option Update
heard_from us i n o = option_and_then (λ m. option_map (λ level. stated n m (suc level)) (epoch_level us i.epoch)) o

module _ (b : Setting) (us : List Update) (N : Network) (truth : Truth b us N) where
  -- what comes to an act is the same in the network and in the role's monitor
  pub given_alike : (q : Role) (a : Act) → ((k : Key) → a ≡ act.Take k → k.to ≡ q) → comes_to b (shown q us N) a ≡ given_at b N q a
  given_alike q (act.Take k) mine =
      ap arrived (to_role-at q k N.pending (subst (λ r. role_eq k.to r ≡ true) (mine k refl) (role_itself k.to)))
      ∙ (arrived_same (pending_at k N.pending) ∙ sym (given_same b N q (act.Take k)))
    where
      arrived_same : (o : Option Load) → arrived o ≡ given_by (λ k. o) (λ head. decision b.cast N.updates head (book_choice b.rules N.book head (N.stores q))) (act.Take k)
      arrived_same None = refl
      arrived_same (Some l) = refl
  given_alike q (act.Scope i) mine = ap (λ n. FromBook (λ head. decision b.cast n head (book_choice b.rules N.book head (N.stores q)))) truth.counted
  given_alike q (act.Put k) mine = refl
  given_alike q (act.Set i) mine = refl
  given_alike q (act.Input i) mine = refl
  given_alike q (act.Pick i) mine = refl

  with_free : (r : Role) (k : Key) (l : Load) → role_eq k.to r ≡ true → HasDistinctKeys (N.pending ++ (k, l) ∷ []) → mail_with k l (to_role r N.pending) ≡ to_role r (N.pending ++ (k, l) ∷ [])
  with_free r k l mine apart =
      cond-false (is_some (pending_at k (to_role r N.pending))) (to_role r N.pending) (to_role r N.pending ++ (k, l) ∷ [])
      (ap is_some (to_role-at r k N.pending mine ∙ free_before k l N.pending apart))
      ∙ sym (to_role-put r k l N.pending mine)

  own_mail_is : (q : Role) (d : Deed) → doer (entry_of d) ≡ Some q → HasDistinctKeys (pending_after d N.pending) → own_mail q d (to_role q N.pending) ≡ to_role q (pending_after d N.pending)
  own_mail_is q (Puts k l) does apart = ⊎_elim
      (λ yes. cond-true (role_eq k.to q) (mail_with k l (to_role q N.pending)) (to_role q N.pending) yes ∙ with_free q k l yes apart)
      (λ no. cond-false (role_eq k.to q) (mail_with k l (to_role q N.pending)) (to_role q N.pending) no ∙ sym (to_role-unput q k l N.pending no))
      (cases_Bool (role_eq k.to q))
  own_mail_is q (Takes k x l) does apart = to_role-without q k N.pending (subst (λ r. role_eq k.to r ≡ true) (some_same does) (role_itself k.to))
  own_mail_is q (Sets i r x v) does apart = refl
  own_mail_is q (Inputs i r x v) does apart = refl
  own_mail_is q (Picks i r t) does apart = refl
  own_mail_is q (Chooses i r c) does apart = refl

  -- what a message to the role carries is known by its entry
  noted_is : (k : Key) (l : Load) → Genuine b us k l → noted_load b k.to us (noted l) ≡ Some l
  noted_is k (Val v) genuine = refl
  noted_is k (Flag t) genuine = refl
  noted_is k Keep genuine = refl
  noted_is k (Part n R) genuine = ap (option_map (Part n)) genuine
  noted_is k Done genuine = refl

  module _ (q : Role) (a : Act) (d : Deed) (P : Process) (does : doer (entry_of d) ≡ Some q) (acts : act_of (entry_of d) ≡ Some a)
      (steps : step q (N.stores q) (N.processes q) a (given_at b N q a) ≡ Does d P) (apart : HasDistinctKeys (pending_after d N.pending)) where
    abbrev vs : List Update
    vs = us_after b us N truth q a d P acts steps

    own_is : after_own b (shown q us N) d P ≡ shown q vs (after_deed N q d P)
    own_is =
        ap (λ mail. build q mail N.book N.changes vs P (store_after d (N.stores q))) (own_mail_is q d does apart)
        ∙ ap₂ (build q (to_role q (pending_after d N.pending)) N.book N.changes vs) (sym (updated_here q P N.processes)) (sym (updated_here q (store_after d (N.stores q)) N.stores))

    pub own_goes : mon b (shown q us N) (entry_of d) ≡ Some (shown q vs (after_deed N q d P))
    own_goes =
        let M = shown q us N in
        let e = entry_of d in
        ap₂ (judged_by b M e) does acts
        ∙ (cond-true (role_eq q q) (own_entry b M e a) (Some (others_entry b M e)) (role_itself q)
        ∙ (ap (λ g. own_outcome b M e (step q (N.stores q) (N.processes q) a g)) (given_alike q a (take_doer e a q does acts))
        ∙ (ap (own_outcome b M e) steps
        ∙ (cond-true (entry_eq e e) (Some (after_own b M d P)) None (entry_itself e)
        ∙ ap Some own_is))))

    module _ (r : Role) (other : role_eq q r ≡ false) where
      -- the monitor of another role, with these messages and updates
      abbrev seen : List (Key × Load) → List Update → MonitorState
      seen mail ws = build r mail N.book N.changes ws (N.processes r) (N.stores r)

      heard_is : (head : ScopeHead) (qs : List Role) (B : Process) (i : Index) (name : List ℕ) (n : ℕ) (part : Role → Process)
          → acting q a (N.processes q) ≡ Some (ScopeLead head qs B) → i ≡ head.index → (made : Decided b N.book head (N.stores q) N.updates name n part)
          → heard_update b.rules N.book us i name n ≡ Some (stated n made.number (suc head.level))
      heard_is head qs B i name n part is index made =
          let found : find (is_named b.rules name) N.book.order ≡ Some made.number =
          subst (λ x. find (is_named b.rules x) N.book.order ≡ Some made.number) (sym made.named)
          (chosen_found b.rules N.book head (N.stores q) made.number made.rule truth.apart made.picked made.at) in
          let level : epoch_level us i.epoch ≡ Some head.level =
          subst (λ (j : Index). epoch_level us j.epoch ≡ Some head.level) (sym index) (head_good b us q a (N.processes q) head qs B (truth.good q) is) in
          ap (heard_update b.rules N.book us i name) made.next
          ∙ (cond-false (is_some (update_numbered (suc N.updates) us)) None (heard_from us i (suc N.updates) (find (is_named b.rules name) N.book.order))
          (ap is_some (truth.fresh (suc N.updates) (omega arith)))
          ∙ (ap (heard_from us i (suc N.updates)) found
          ∙ (ap (option_map (λ level. stated (suc N.updates) made.number (suc level))) level
          ∙ ap (λ k. Some (stated k made.number (suc head.level))) (sym made.next))))

      heard_rule : (i : Index) (p : Role) (name : List ℕ) (n : ℕ) → d ≡ Chooses i p (chosen.Rule name n)
          → with_update us (heard_update b.rules N.book us i name n) ≡ own_updates b (shown q us N) (Chooses i p (chosen.Rule name n))
      heard_rule i p name n did =
          let g = begun q (N.stores q) a (given_at b N q a) i p name n (N.processes q) (subst (λ e. step q (N.stores q) (N.processes q) a (given_at b N q a) ≡ Does e P) did steps) in
          let grown = grew b us N truth q a d P acts steps g.head g.others g.body i p g.decide name n g.part g.acts g.given_is g.replaces did in
          ap (with_update us) (heard_is g.head g.others g.body i name n g.part g.acts g.index grown.made)
          ∙ (sym grown.list ∙ ap (own_updates b (shown q us N)) did)

      by_deed : (e : Deed) → d ≡ e → others_entry b (shown r us N) (entry_of e) ≡ seen (to_role r (pending_after e N.pending)) (own_updates b (shown q us N) e)
      by_deed (Puts k l) did =
          let M = shown r us N in
          let genuine : Genuine b us k l = subst (λ e. GoodDeed b (own_updates b (shown q us N) e) e) did (deed_good b us N truth q a d P acts steps) in
          let distinct : HasDistinctKeys (N.pending ++ (k, l) ∷ []) = subst (λ e. HasDistinctKeys (pending_after e N.pending)) did apart in
          ⊎_elim
          (λ yes. cond-true (role_eq k.to r) (received b M k (noted l)) M yes
          ∙ (ap (λ o. seen (mail_with_some k o (to_role r N.pending)) us) (noted_is k l genuine)
          ∙ ap (λ mail. seen mail us) (with_free r k l yes distinct)))
          (λ no. cond-false (role_eq k.to r) (received b M k (noted l)) M no ∙ ap (λ mail. seen mail us) (sym (to_role-unput r k l N.pending no)))
          (cases_Bool (role_eq k.to r))
      by_deed (Takes k x l) did =
          let mine : k.to ≡ q = some_same (sym (ap (λ e. doer (entry_of e)) did) ∙ does) in
          ap (λ mail. seen mail us) (sym (to_role-untouched r k N.pending (subst (λ p. role_eq p r ≡ false) (sym mine) other)))
      by_deed (Sets i p x v) did = refl
      by_deed (Inputs i p x v) did = refl
      by_deed (Picks i p t) did = refl
      by_deed (Chooses i p chosen.Keep) did = refl
      by_deed (Chooses i p (chosen.Rule name n)) did = ap (seen (to_role r N.pending)) (heard_rule i p name n did)

      pub other_goes : mon b (shown r us N) (entry_of d) ≡ Some (shown r vs (after_deed N q d P))
      other_goes =
          let M = shown r us N in
          let e = entry_of d in
          ap₂ (judged_by b M e) does acts
          ∙ (cond-false (role_eq q r) (own_entry b M e a) (Some (others_entry b M e)) other
          ∙ ap Some (by_deed d refl
          ∙ ap₂ (build r (to_role r (pending_after d N.pending)) N.book N.changes vs) (sym (updated_there q P N.processes r (role_swap q r other)))
          (sym (updated_there q (store_after d (N.stores q)) N.stores r (role_swap q r other)))))

    -- each monitor goes along with the step of a role
    pub all_go : (r : Role) → mon b (shown r us N) (entry_of d) ≡ Some (shown r vs (after_deed N q d P))
    all_go r = ⊎_elim
        (λ same. subst (λ x. mon b (shown x us N) (entry_of d) ≡ Some (shown x vs (after_deed N q d P))) same own_goes)
        (λ other. other_goes r other)
        (role_cases q r)

-- what a step leaves: a list of updates that is true after it, by which each monitor goes along
pub record Along (b : Setting) (us : List Update) (N : Network) (e : Entry) (N' : Network) : Type 0 where
  pub updates : List Update
  pub truth : Truth b updates N'
  pub all : (r : Role) → mon b (shown r us N) e ≡ Some (shown r updates N')

pub role_along : (b : Setting) (us : List Update) (N : Network) (e : Entry) (N' : Network) → Truth b us N → RoleStep b N e N' → HasDistinctKeys N'.pending → Along b us N e N'
role_along b us N e N' truth s apart =
    let does : doer (entry_of s.deed) ≡ Some s.role = sym (ap doer s.shows) ∙ s.does in
    let acts : act_of (entry_of s.deed) ≡ Some s.act = sym (ap act_of s.shows) ∙ s.acts in
    let distinct : HasDistinctKeys (pending_after s.deed N.pending) = subst (λ (M : Network). HasDistinctKeys M.pending) s.gives apart in
    subst (λ M. Along b us N e M) (sym s.gives) (subst (λ x. Along b us N x (after_deed N s.role s.deed s.next)) (sym s.shows) (record {
      updates = us_after b us N truth s.role s.act s.deed s.next acts s.steps;
      truth = truth_step b us N truth s.role s.act s.deed s.next acts s.steps;
      all = λ r. all_go b us N truth s.role s.act s.deed s.next does acts s.steps distinct r;
    }))

abbrev pub that_option : Entry → Option Entry → Bool
that_option e None = false
that_option e (Some d) = entry_eq e d

pub shows_is : (rules : List PlainRule) (e : Entry) (c : Change) → shows rules e c ≡ that_option e (change_entry rules c)
shows_is rules e c = refl

pub change_along : (b : Setting) (us : List Update) (N : Network) (e : Entry) (N' : Network) → Truth b us N → ChangeStep b N e N' → Along b us N e N'
change_along b us N e N' truth s = subst (λ M. Along b us N e M) (sym s.gives) (record {
  updates = us;
  truth = truth_change b us N s.timed truth;
  all = λ r. let M = shown r us N in
      ap (λ o. judged_by b M e o (act_of e)) s.nobody
      ∙ ap Some (ap (change_outcome b M e) s.stands
      ∙ cond-true (shows b.rules e (s.timed).change) (with_change b M s.timed) M
      (shows_is b.rules e (s.timed).change ∙ (ap (that_option e) s.shows ∙ entry_itself e)));
})
