-- The begin of a scope by a leader that is tied to its seat.
use Rattle.std.proofs.Common.{◌≡◌, ◌<◌, ℕ, suc, List, [], ◌∷◌, ◌++◌, length, map, true, false, Option, Some, None, IsSome, slice_get, refl, sym, ap, ◌∙◌, subst, ⊎_elim, arith}
use Rattle.std.specs.Option.{option_and_then}
use Rattle.std.specs.Prelude.{option_map}
use Rattle.std.proofs.lemmas.Bool.{cases_Bool, cond-true, cond-false, or_cases, both_ways}
use Rattle.std.proofs.lemmas.List.{length-map}
use Rattle.std.proofs.lemmas.Option.{slice_get-map}
use Rattle.dioc_terms.specs.declared.bundles.Bundle.{Bundle}
use Rattle.dioc_terms.specs.declared.bundles.Rule.{Rule}
use Rattle.dioc_terms.specs.declared.entries.Act.{Act}
use Rattle.dioc_terms.specs.declared.entries.Act.TheVariants as act
use Rattle.dioc_terms.specs.declared.entries.Chosen.{Chosen}
use Rattle.dioc_terms.specs.declared.entries.Entry.{Entry}
use Rattle.dioc_terms.specs.declared.entries.Entry.TheVariants as entry
use Rattle.dioc_terms.specs.declared.names.Index.{Index}
use Rattle.dioc_terms.specs.declared.names.Role.{Role}
use Rattle.dioc_terms.specs.declared.processes.ScopeHead.{ScopeHead}
use Rattle.dioc_terms.specs.Equality.{act_eq, member, role_eq}
use Rattle.dioc_terms.specs.Plain.{PlainBundle, PlainRule, plain, plain_rule, setting}
use Rattle.dioc_terms.specs.Processes.{Letters, Process, Skip, Send, Recv, Assign, Read, Seq, Par, IfLead, IfFollow, WhileLead, WhileFollow, ScopeLead, ScopeFollow, Tell, Gather}
use Rattle.dioc_terms.specs.Rules.{Book, choose}
use Rattle.dioc_terms.specs.RuleLaws.{ChoicesGoOn}
use Rattle.dioc_terms.specs.Stores.{Store}
use Rattle.dioc_terms.specs.TermLaws.{MentionsAreRoles}
use Rattle.dioc_terms.specs.Terms.{is_in, term}
use Rattle.dpoc_process.proofs.ActingLemmas.{acting-single}
use Rattle.dpoc_process.specs.declared.runs.Shown.{Shown}
use Rattle.dpoc_process.specs.Acting.{Lead, acting, acting_lead, lead_head, lead_of}
use Rattle.dpoc_process.specs.Handed.{BookKeeps, BookReplaces}
use Rattle.dpoc_process.specs.LocalStates.{LocalState}
use Rattle.dpoc_process.specs.RoleSteps.{IsShown, IsStep}
use Rattle.dpoc_process.specs.Shows.{head_shown}
use Rattle.global_steps.specs.Follow.{TakesRule, book_choice, updated}
use Rattle.marked_laws.proofs.Equality.{act_same, role_same}
use Rattle.marked_laws.proofs.Extension.{extensions}
use Rattle.marked_laws.proofs.Networks.{RoleStep, ChangeStep, network_cases}
use Rattle.marked_laws.proofs.Shapes.{none_some, some_same}
use Rattle.marked_laws.specs.Laws.{IsSound}
use Rattle.network_steps.specs.Network.{Network, decision, network_run, network_start, network_step}
use Rattle.process_steps.specs.Steps.{Deed, Puts, Takes, Sets, Inputs, Picks, Chooses, Decision, FromBook, entry_of, is_offered, offers, store_after}
use Rattle.net_core.proofs.NetLemmas.{network_is}
use Rattle.net_core.proofs.ScopeLemmas.{Answer, answer_of, body_in_cast, choice_is, choice_none, kept_brings, lead_there, replaced_brings}
use Rattle.net_core.proofs.TellLemmas.{tells_run}
use Rattle.net_core.specs.Scopes.{Tells, choice_of_body}
use Rattle.net_core.specs.Standing.{Body, body_of, local_in}
use Rattle.role_runner.specs.Acts.{book_given}
use Rattle.role_runner.specs.declared.acting.Tried.TheVariants as tried
use Rattle.role_runner.specs.Ties.{IsTied, Leaves}
use Rattle.role_runner.proofs.TieLemmas.{added_went, moved_leaves}
use Rattle.scope_leader.specs.Leaders.{LeadersTell, TellsOthers}
use Rattle.scope_leader.specs.Plans.{begin_messages, part_of}
use Rattle.stage.proofs.BeginLemmas.{name_within}
use Rattle.stage.specs.Homes.{names_of}
use Rattle.stage.specs.Begins.{CanBegin, begin_in, update_of}
use Rattle.stage.specs.Faults.{role_fault}
use Rattle.stage.specs.Holds.{CanCommitScope, CommittedScope}
use Rattle.stage.specs.Owners.{cast_place}
use Rattle.stage.specs.Roles.{RoleStandsAt}
use Rattle.stage.specs.Seats.{Base}
use Rattle.turn_lock.specs.declared.views.View.{View}
use Rattle.turn_lock.specs.Views.{number}

scope_same : {i j : Index} → act.Scope i ≡ act.Scope j → i ≡ j
scope_same e = cc

-- a part that offers the begin of a scope and leads one begins that one
index_of : (me : Role) (i : Index) (R : Process) (lead : Lead) → lead_of R ≡ Some lead → is_offered (act.Scope i) (offers me R) ≡ true → i ≡ lead.head.index
index_of me i (ScopeLead head others P) lead is offers_it =
    ⊎_elim (λ same. scope_same (act_same (act.Scope i) (act.Scope head.index) same) ∙ ap (λ (l : Lead). l.head.index) (some_same is))
    (λ never. absurd (both_ways false refl never))
    (or_cases (act_eq (act.Scope i) (act.Scope head.index)) false offers_it)
index_of me i Skip lead is offers_it = absurd (none_some is)
index_of me i (Send j o b e) lead is offers_it = absurd (none_some is)
index_of me i (Recv j o a x) lead is offers_it = absurd (none_some is)
index_of me i (Assign j x e) lead is offers_it = absurd (none_some is)
index_of me i (Read j x) lead is offers_it = absurd (none_some is)
index_of me i (Seq P Q) lead is offers_it = absurd (none_some is)
index_of me i (Par P Q) lead is offers_it = absurd (none_some is)
index_of me i (IfLead j g others P Q) lead is offers_it = absurd (none_some is)
index_of me i (IfFollow j leader P Q) lead is offers_it = absurd (none_some is)
index_of me i (WhileLead j g others P) lead is offers_it = absurd (none_some is)
index_of me i (WhileFollow j leader P) lead is offers_it = absurd (none_some is)
index_of me i (ScopeFollow j leader P) lead is offers_it = absurd (none_some is)
index_of me i (Tell ms) lead is offers_it = absurd (none_some is)
index_of me i (Gather ks) lead is offers_it = absurd (none_some is)

part_of_lead : (o : Option Process) (lead : Lead) → option_and_then lead_of o ≡ Some lead → (R : Process) × (o ≡ Some R) × (lead_of R ≡ Some lead)
part_of_lead None lead h = absurd (none_some h)
part_of_lead (Some R) lead h = (R, refl, h)

-- the begin of a scope changes no store
choice_keeps : (d : Deed) (s : Store) (i : Index) (r : Role) (c : Chosen) → entry_of d ≡ entry.Scope i r c → store_after d s ≡ s
choice_keeps (Chooses j q e) s i r c h = refl
choice_keeps (Puts k l) s i r c h = cc
choice_keeps (Takes k x l) s i r c h = cc
choice_keeps (Sets j q x v) s i r c h = cc
choice_keeps (Inputs j q x v) s i r c h = cc
choice_keeps (Picks j q t) s i r c h = cc

updated_alike : (r q : Role) (x : Store) (f : Role → Store) → x ≡ f r → updated r x f q ≡ f q
updated_alike r q x f same = ⊎_elim
    (λ here. cond-true (role_eq q r) x (f q) here ∙ same ∙ ap f (sym (role_same q r here)))
    (λ there. cond-false (role_eq q r) x (f q) there)
    (cases_Bool (role_eq q r))

begin_keeps : (b : PlainBundle) (H : List Entry) (N M : Network) (i : Index) (r : Role) (c : Chosen) → network_run b H ≡ Some N → network_run b (H ++ entry.Scope i r c ∷ []) ≡ Some M
    → (q : Role) → M.stores q ≡ N.stores q
begin_keeps b H N M i r c runs more q = ⊎_elim by_role by_change (network_cases (setting b) N (entry.Scope i r c) M next)
  where
    next : network_step (setting b) N (entry.Scope i r c) ≡ Some M
    next = ap (option_and_then (λ (L : Network). network_step (setting b) L (entry.Scope i r c))) (sym runs)
        ∙ sym (extensions.run_one (setting b) (network_start b) H (entry.Scope i r c)) ∙ more

    by_role : RoleStep (setting b) N (entry.Scope i r c) M → M.stores q ≡ N.stores q
    by_role s = ap (λ (L : Network). L.stores q) s.gives
        ∙ updated_alike s.role q (store_after s.deed (N.stores s.role)) N.stores (choice_keeps s.deed (N.stores s.role) i r c (sym s.shows))

    by_change : ChangeStep (setting b) N (entry.Scope i r c) M → M.stores q ≡ N.stores q
    by_change s = ap (λ (L : Network). L.stores q) s.gives

module _ (leaders : LeadersTell) (bundle : PlainBundle) (q : Role) (v : View Entry Base) (s : LocalState) (tied : IsTied bundle q v s) (i : Index) (p : Shown)
    (prepared : IsShown s (act.Scope i) p) where
  pub led : (lead : Lead) × (acting_lead s (act.Scope i) ≡ Some lead)
  led = lead_there s (act.Scope i) refl prepared.can_act

  pub head_there : IsSome (head_shown p)
  head_there = subst IsSome (sym (prepared.head ∙ ap (option_map lead_head) led.1)) refl

  -- the role in the network after what its seat has seen
  local_there : local_in tied.stands.network q ≡ s
  local_there = λ j. record { role = sym tied.role j; process = tied.stands.process j; store = tied.stands.store j }

  pub tells : Tells bundle.cast s (act.Scope i)
  tells lead is =
      subst (λ r. TellsOthers bundle.cast r lead.head lead.others) (sym tied.role)
      (tells_run leaders bundle v.seen tied.stands.network tied.stands.runs q (act.Scope i) lead
      (ap (λ l. acting_lead l (act.Scope i)) local_there ∙ is))

  module _ (head : ScopeHead) (is_head : head_shown p ≡ Some head) where
    pub heads : (led.0).head ≡ head
    heads = some_same (sym (prepared.head ∙ ap (option_map lead_head) led.1) ∙ is_head)

    pub leads : head.leader ≡ q
    leads = ap (λ (h : ScopeHead). h.leader) (sym heads) ∙ (tells led.0 led.1).leads ∙ tied.role

    pub index_is : i ≡ head.index
    index_is =
        let part = part_of_lead (acting s.role (act.Scope i) s.process) led.0 led.1 in
        let single = acting-single s.role (act.Scope i) s.process part.1 in
        index_of s.role i part.0 led.0 part.2 single.1 ∙ ap (λ (h : ScopeHead). h.index) heads

    pub begin_can : (kept : Store) → kept ≡ s.store → CanCommitScope v head kept
    begin_can kept same base at =
        subst (λ t. (number v ≡ cast_place base.0.cast head.leader) × CanBegin base.0 v.seen head t) (sym same)
        (subst (λ (b : Base). (number v ≡ cast_place b.0.cast head.leader) × CanBegin b.0 v.seen head s.store) (some_same (sym tied.base ∙ at)) (
          tied.number_is ∙ ap (cast_place bundle.cast) (sym leads),
          record {
            process = s.process;
            stands = subst (λ r. RoleStandsAt bundle v.seen r s.process s.store) (sym leads) tied.stands;
            lead = led.0;
            leads = (λ j. acting_lead (record { role = (leads ∙ sym tied.role) j; process = s.process; store = s.store }) (act.Scope (sym index_is j))) ∙ led.1;
            same = heads;
          },
        ))

    module _ (w : View Entry Base) (update : Option (ℕ × ℕ)) (done : CommittedScope v w head s.store update) where
      abbrev found_network : Network
      found_network = done.done.added.found.sound.network

      bundles : done.done.added.home.bundle ≡ bundle
      bundles = ap (λ (b : Base). b.0) (some_same (sym done.done.added.found.base ∙ tied.base))

      -- what the book of the home that was found chose
      pub chosen : update ≡ update_of bundle.rules found_network.book found_network.updates head s.store
      chosen =
          let home = done.done.added.home in
          let there = network_is home.bundle home.history found_network done.done.added.found.sound.runs in
          done.chosen ∙ (λ j. update_of (bundles j).rules (there j).book (there j).updates head s.store)

      -- the leader's store there is its own
      stored : found_network.stores head.leader ≡ s.store
      stored =
          let home = done.done.added.home in
          let moved = done.done.moved (bundle, tied.limit) s.process s.store (tied.base, tied.number_is ∙ ap (cast_place bundle.cast) (sym leads))
          (subst (λ r. RoleStandsAt bundle v.seen r s.process s.store) (sym leads) tied.stands) in
          let at = moved.2 in
          let runs : network_run home.bundle (home.history ++ begin_in home head s.store ∷ []) ≡ Some at.network =
          (λ j. network_run (bundles j) (home.history ++ sym done.shows j ∷ [])) ∙ ap (network_run bundle) (sym done.done.added.seen) ∙ at.runs in
          sym (begin_keeps home.bundle home.history found_network at.network head.index head.leader _ done.done.added.found.sound.runs runs head.leader)
          ∙ at.store ∙ choice_keeps done.deed s.store head.index head.leader _ done.shows

      pub given_is : done.given ≡ book_given bundle found_network.book found_network.updates s.store
      given_is =
          done.done.came ∙ (λ j. FromBook (λ h. decision (bundles j).cast found_network.updates h
          (book_choice (bundles j).rules found_network.book h (stored j))))

      -- the role went on as the book said
      pub begin_leaves : (local' : LocalState) → IsStep s (act.Scope i) (book_given bundle found_network.book found_network.updates s.store) local'
          → Leaves bundle q v w tried.Done local'
      begin_leaves local' stepped =
          moved_leaves bundle q v s tied role_fault w head.leader (act.Scope head.index) done.given done.deed leads done.done local'
          (subst (λ g. IsStep s (act.Scope head.index) g local') (sym given_is)
          (subst (λ j. IsStep s (act.Scope j) (book_given bundle found_network.book found_network.updates s.store) local') index_is stepped))

      -- it found no memory to go on
      pub begin_behind : (local' : LocalState) → Leaves bundle q v w tried.Behind local'
      begin_behind local' = record {
        went = added_went role_fault v w (entry_of done.deed) done.done.added;
        tied = λ never. absurd (never refl);
        full = λ never. absurd (behind_not_refused never);
      }
        where
          behind_not_refused : {f : _} → tried.Behind ≡ tried.Refused f → ⊥
          behind_not_refused e = cc

none_mapped : {A B : Type 0} (f : A → B) (o : Option A) → None ≡ option_map f o → o ≡ None
none_mapped f None h = refl
none_mapped f (Some x) h = cc

some_mapped : (count : ℕ) (o : Option ℕ) (pair : ℕ × ℕ) → Some pair ≡ option_map (λ (m : ℕ). (m, suc count)) o → (o ≡ Some pair.0) × (pair.1 ≡ suc count)
some_mapped count None pair h = cc
some_mapped count (Some m) pair h =
    let made : ℕ × ℕ = (m, suc count) in
    let both : pair ≡ made = some_same h in
    (ap (λ (q : ℕ × ℕ). Some q.0) (sym both), ap (λ (q : ℕ × ℕ). q.1) both)

module _ (bundle : Bundle) (book : Book) (count : ℕ) (s : LocalState) (a : Act) (head : ScopeHead) (lead : Lead) (is : acting_lead s a ≡ Some lead) (same : lead.head ≡ head) where
  abbrev rules : List PlainRule
  rules = (plain bundle).rules

  abbrev decide : ScopeHead → Decision
  decide h = decision bundle.cast count h (book_choice rules book h s.store)

  -- a scope that no rule replaces goes on with its own body
  pub keeps : None ≡ update_of rules book count head s.store → BookKeeps (acting_lead s a) (book_given (plain bundle) book count s.store)
  keeps none =
      kept_brings s a lead head decide is same
      (ap (decision bundle.cast count head) (sym (choice_none rules book head s.store (none_mapped (λ (n : ℕ). (n, suc count)) (choose rules book head s.store) none))))

  module _ (goes : ChoicesGoOn) (pair : ℕ × ℕ) (took : Some pair ≡ update_of rules book count head s.store) where
    abbrev rule_number : ℕ
    rule_number = pair.0

    abbrev epoch : ℕ
    epoch = pair.1

    both : (choose rules book head s.store ≡ Some rule_number) × (epoch ≡ suc count)
    both = some_mapped count (choose rules book head s.store) pair took

    -- the rule that was chosen is there
    pub rule_there : rule_number < length bundle.rules
    rule_there =
        let within = name_within rules book head s.store goes (names_of rules) refl rule_number both.0 in
        omega (arith, within, length-map rules (λ (rule : PlainRule). rule.name), length-map bundle.rules plain_rule)

    module _ (rule : Rule) (at : slice_get bundle.rules rule_number ≡ Some rule) where
      abbrev body : Body
      body = body_of (plain_rule rule)

      body_at : slice_get (map body_of rules) rule_number ≡ Some body
      body_at = slice_get-map body_of rules rule_number ∙ ap (option_map body_of) (slice_get-map plain_rule bundle.rules rule_number) ∙ ap (λ o. option_map body_of (option_map plain_rule o)) at

      says : TakesRule body.name body.body ≡ book_choice rules book head s.store
      says = ap choice_of_body (sym body_at) ∙ choice_is rules book head s.store rule_number both.0

      answer : Answer rules head body
      answer = answer_of rules book head s.store goes body says

      pub rule_level : head.level < 16
      rule_level = answer.level

      pub rule_body : MentionsAreRoles → IsSound (plain bundle) → (q : Role) → is_in q (term rule.body) ≡ true → member q bundle.cast ≡ true
      rule_body mentions sound = body_in_cast mentions bundle.cast rules head body sound.rules answer

      -- the leader goes on with its part of the update, and tells the others theirs
      pub replaces : Tells bundle.cast s a → (own : Process) (ms : Letters) → own ≡ part_of bundle.cast head epoch (term rule.body) head.leader
          → ms ≡ begin_messages bundle.cast head epoch (term rule.body) → BookReplaces s.role (acting_lead s a) own ms (book_given (plain bundle) book count s.store)
      replaces tells own ms owns sends =
          replaced_brings bundle.cast s a lead head decide rule.name (suc count) (term rule.body) own ms is (tells lead is) same
          (ap (decision bundle.cast count head) (sym says))
          (owns ∙ ap (λ n. part_of bundle.cast head n (term rule.body) head.leader) both.1)
          (sends ∙ ap (λ n. begin_messages bundle.cast head n (term rule.body)) both.1)
