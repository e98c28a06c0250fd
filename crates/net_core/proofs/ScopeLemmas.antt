-- The begin of a scope: its leader is there, and its deed is what the book decides of the scope's head.
use Rattle.std.proofs.Common.{◌≡◌, ℕ, List, [], ◌∷◌, ◌++◌, map, Bool, true, false, Option, Some, None, All, slice_get, ◌<◌, ◌&&◌, refl, sym, ap, ap₂, ◌∙◌, subst}
use Rattle.std.specs.Option.{is_some, option_and_then}
use Rattle.std.specs.Prelude.{nat_lt, option_map}
use Rattle.std.proofs.lemmas.Option.{slice_get-map}
use Rattle.std.specs.List.{list_all}
use Rattle.std.proofs.lemmas.Bool.{and_parts}
use Rattle.std.proofs.lemmas.Bool.Decides.{Decides-ltb}
use Rattle.dioc_terms.specs.declared.entries.Act.{Act}
use Rattle.dioc_terms.specs.declared.entries.Act.TheVariants as act
use Rattle.dioc_terms.specs.declared.entries.Entry.{Entry}
use Rattle.dioc_terms.specs.declared.entries.Entry.TheVariants as entry
use Rattle.dioc_terms.specs.declared.names.Index.{Index}
use Rattle.dioc_terms.specs.declared.names.Role.{Role}
use Rattle.dioc_terms.specs.declared.processes.ScopeHead.{ScopeHead}
use Rattle.dioc_terms.specs.Attempts.{Attempt, Does, when}
use Rattle.dioc_terms.specs.declared.processes.Tag.TheVariants.{Begin}
use Rattle.dioc_terms.specs.Equality.{act_eq, member}
use Rattle.dioc_terms.specs.RuleLaws.{ChoicesGoOn}
use Rattle.dioc_terms.specs.TermLaws.{MentionsAreRoles}
use Rattle.dioc_terms.specs.Terms.{Term, is_in, mentions}
use Rattle.dioc_terms.specs.Values.{holds, bound}
use Rattle.dioc_terms.specs.Plain.{PlainRule}
use Rattle.dioc_terms.specs.Processes.{Process, Skip, Send, Recv, Assign, Read, Seq, Par, IfLead, IfFollow, WhileLead, WhileFollow, ScopeLead, ScopeFollow, Tell, Gather, Letters, Nothing, More, Part}
use Rattle.dioc_terms.specs.Rules.{Book, choose}
use Rattle.dioc_terms.specs.Stores.{Store}
use Rattle.dpoc_process.proofs.ActingLemmas.{acting-offered, acting-single, step-acting}
use Rattle.dpoc_process.specs.Acting.{Lead, acting, acting_lead, is_single, lead_of}
use Rattle.dpoc_process.specs.Handed.{IsEnabled, BookKeeps, BookReplaces, Kept}
use Rattle.dpoc_process.specs.RoleSteps.{IsStep}
use Rattle.dpoc_process.specs.LocalStates.{LocalState, offered, step_at}
use Rattle.global_steps.specs.Follow.{BookChoice, KeepsBody, TakesRule, book_choice, updates_after}
use Rattle.marked_laws.proofs.Choices.{all_at}
use Rattle.marked_laws.proofs.Premise.{all_member}
use Rattle.marked_laws.specs.Laws.{IsSoundRule}
use Rattle.marked_laws.proofs.Shapes.{none_some, some_same}
use Rattle.network_steps.specs.Network.{decision}
use Rattle.process_steps.specs.Laws.{OffersAreSteps}
use Rattle.process_steps.specs.Steps.{Deed, Chooses, FromBook, Decision, Keeps, Replaces, begin_scope, letters_to, offers, is_offered, step, entry_of}
use Rattle.role_mailbox.specs.declared.mail.Mail.{Mail}
use Rattle.role_mailbox.specs.Pending.{payload_at}
use Rattle.net_core.specs.Deeds.{given_to, asks_scope, pending_with, IsDone}
use Rattle.net_core.specs.Scopes.{choice_of_body, chosen_by}
use Rattle.net_core.specs.Standing.{Body, body_of}
use Rattle.scope_leader.specs.Leaders.{TellsOthers}
use Rattle.scope_leader.specs.Plans.{part_of, begin_messages}

-- a part that offers to begin a scope leads it
lead_from : (me : Role) (i : Index) (R : Process) → is_single R ≡ true → is_offered (act.Scope i) (offers me R) ≡ true → (lead : Lead) × (lead_of R ≡ Some lead)
lead_from me i (ScopeLead head others P) single offers_it = (record { head = head; others = others }, refl)
lead_from me i Skip single offers_it = cc
lead_from me i (Send j o b e) single offers_it = cc
lead_from me i (Recv j o a x) single offers_it = cc
lead_from me i (Assign j x e) single offers_it = cc
lead_from me i (Read j x) single offers_it = cc
lead_from me i (Seq P Q) single offers_it = cc
lead_from me i (Par P Q) single offers_it = cc
lead_from me i (IfLead j g others P Q) single offers_it = cc
lead_from me i (IfFollow j leader P Q) single offers_it = cc
lead_from me i (WhileLead j g others P) single offers_it = cc
lead_from me i (WhileFollow j leader P) single offers_it = cc
lead_from me i (ScopeFollow j leader P) single offers_it = cc
lead_from me i (Tell Nothing) single offers_it = cc
lead_from me i (Tell (More k l ms)) single offers_it = cc
lead_from me i (Gather []) single offers_it = cc
lead_from me i (Gather (k ∷ ks)) single offers_it = cc

part_there : (o : Option Process) → is_some o ≡ true → (R : Process) × (o ≡ Some R)
part_there None h = cc
part_there (Some R) h = (R, refl)

-- the role that offers to begin a scope leads it
pub lead_there : (s : LocalState) (a : Act) → asks_scope a ≡ true → is_offered a (offered s) ≡ true → (lead : Lead) × (acting_lead s a ≡ Some lead)
lead_there s (act.Scope i) scope offers_it =
    let part = part_there (acting s.role (act.Scope i) s.process) (acting-offered s.role (act.Scope i) s.process ∙ offers_it) in
    let is = acting-single s.role (act.Scope i) s.process part.1 in
    let lead = lead_from s.role i part.0 is.0 is.1 in
    (lead.0, ap (option_and_then lead_of) part.1 ∙ lead.1)
lead_there s (act.Put k) scope offers_it = cc
lead_there s (act.Take k) scope offers_it = cc
lead_there s (act.Set i) scope offers_it = cc
lead_there s (act.Input i) scope offers_it = cc
lead_there s (act.Pick i) scope offers_it = cc

-- with what the book says the begin can be done
pub can_begin : OffersAreSteps → (s : LocalState) (a : Act) → asks_scope a ≡ true → is_offered a (offered s) ≡ true → IsEnabled s a Kept
can_begin steps s (act.Scope i) scope offers_it =
    steps.exactly s.role s.store s.process (act.Scope i) (FromBook (λ head. Keeps)) refl ∙ offers_it
can_begin steps s (act.Put k) scope offers_it = cc
can_begin steps s (act.Take k) scope offers_it = cc
can_begin steps s (act.Set i) scope offers_it = cc
can_begin steps s (act.Input i) scope offers_it = cc
can_begin steps s (act.Pick i) scope offers_it = cc

deed_same : {d e : Deed} {P Q : Process} → Does d P ≡ Does e Q → e ≡ d
deed_same h = cc

begun : (me : Role) (i : Index) (others : List Role) (P : Process) (what : Decision) (d : Deed) (Q : Process) → begin_scope me i others P what ≡ Does d Q → d ≡ Chooses i me (chosen_by what)
begun me i others P Keeps d Q h = deed_same h
begun me i others P (Replaces name epoch part) d Q h = deed_same h

when_does : (t : Bool) (m : Attempt Deed Process) (d : Deed) (Q : Process) → when t m ≡ Does d Q → m ≡ Does d Q
when_does true m d Q h = h
when_does false m d Q h = cc

part_deed : (me : Role) (s : Store) (i : Index) (decide : ScopeHead → Decision) (R : Process) (lead : Lead) (d : Deed) (Q : Process) → lead_of R ≡ Some lead
    → step me s R (act.Scope i) (FromBook decide) ≡ Does d Q → d ≡ Chooses lead.head.index me (chosen_by (decide lead.head))
part_deed me s i decide (ScopeLead head others P) lead d Q is does =
    subst (λ (l : Lead). d ≡ Chooses l.head.index me (chosen_by (decide l.head))) (some_same is)
    (begun me head.index others P (decide head) d Q
    (when_does (act_eq (act.Scope i) (act.Scope head.index)) (begin_scope me head.index others P (decide head)) d Q does))
part_deed me s i decide Skip lead d Q is does = cc
part_deed me s i decide (Send j o b e) lead d Q is does = cc
part_deed me s i decide (Recv j o a x) lead d Q is does = cc
part_deed me s i decide (Assign j x e) lead d Q is does = cc
part_deed me s i decide (Read j x) lead d Q is does = cc
part_deed me s i decide (Seq P P') lead d Q is does = cc
part_deed me s i decide (Par P P') lead d Q is does = cc
part_deed me s i decide (IfLead j g others P P') lead d Q is does = cc
part_deed me s i decide (IfFollow j leader P P') lead d Q is does = cc
part_deed me s i decide (WhileLead j g others P) lead d Q is does = cc
part_deed me s i decide (WhileFollow j leader P) lead d Q is does = cc
part_deed me s i decide (ScopeFollow j leader P) lead d Q is does = cc
part_deed me s i decide (Tell ms) lead d Q is does = cc
part_deed me s i decide (Gather ks) lead d Q is does = cc

lead_part : (o : Option Process) (lead : Lead) → option_and_then lead_of o ≡ Some lead → (R : Process) × (o ≡ Some R) × (lead_of R ≡ Some lead)
lead_part None lead h = absurd (none_some h)
lead_part (Some R) lead h = (R, refl, h)

-- the deed of a begin is what the book decides of the scope's head
pub begin_deed : (s : LocalState) (a : Act) (decide : ScopeHead → Decision) (lead : Lead) (d : Deed) (Q : Process) → asks_scope a ≡ true → acting_lead s a ≡ Some lead
    → step_at s a (FromBook decide) ≡ Does d Q → d ≡ Chooses lead.head.index s.role (chosen_by (decide lead.head))
begin_deed s (act.Scope i) decide lead d Q scope is does =
    let part = lead_part (acting s.role (act.Scope i) s.process) lead is in
    let inner = step-acting s.role s.store (act.Scope i) (FromBook decide) s.process part.1 does in
    part_deed s.role s.store i decide part.0 lead d inner.0 part.2 inner.1
begin_deed s (act.Put k) decide lead d Q scope is does = cc
begin_deed s (act.Take k) decide lead d Q scope is does = cc
begin_deed s (act.Set i) decide lead d Q scope is does = cc
begin_deed s (act.Input i) decide lead d Q scope is does = cc
begin_deed s (act.Pick i) decide lead d Q scope is does = cc

-- a leader that made its step has begun the scope as the book decides
pub scope_begun : (s : LocalState) (a : Act) (decide : ScopeHead → Decision) (lead : Lead) (s' : LocalState) → asks_scope a ≡ true → acting_lead s a ≡ Some lead → lead.head.leader ≡ s.role
    → IsStep s a (FromBook decide) s' → (mail : Mail) (count count' : ℕ) (H H' : List Entry)
    → count' ≡ updates_after (entry.Scope lead.head.index lead.head.leader (chosen_by (decide lead.head))) count
    → H' ≡ H ++ entry.Scope lead.head.index lead.head.leader (chosen_by (decide lead.head)) ∷ []
    → IsDone a (FromBook decide) s mail count H s' mail count' H'
scope_begun s a decide lead s' scope is leads stepped mail count count' H H' counts pushed =
    let deed : stepped.deed ≡ Chooses lead.head.index s.role (chosen_by (decide lead.head)) =
    begin_deed s a decide lead stepped.deed stepped.left scope is stepped.does in
    let shows : entry.Scope lead.head.index lead.head.leader (chosen_by (decide lead.head)) ≡ entry_of stepped.deed =
    ap (λ r. entry.Scope lead.head.index r (chosen_by (decide lead.head))) leads ∙ ap entry_of (sym deed) in
    record {
      deed = stepped.deed;
      left = stepped.left;
      does = stepped.does;
      becomes = stepped.becomes;
      mail = record { at = λ k. ap (λ d. pending_with d k (payload_at k mail)) (sym deed) };
      updates = counts ∙ ap (λ e. updates_after e count) shows;
      entries = pushed ∙ ap (λ e. H ++ e ∷ []) shows;
    }

-- what comes from outside to the begin of a scope is what the book decides
pub given_scope : (cast : List Role) (rules : List PlainRule) (mail : Mail) (book : Book) (count : ℕ) (s : Store) (a : Act) → asks_scope a ≡ true
    → given_to cast rules mail book count s a ≡ FromBook (λ head. decision cast count head (book_choice rules book head s))
given_scope cast rules mail book count s (act.Scope i) h = refl
given_scope cast rules mail book count s (act.Put k) h = cc
given_scope cast rules mail book count s (act.Take k) h = cc
given_scope cast rules mail book count s (act.Set i) h = cc
given_scope cast rules mail book count s (act.Input i) h = cc
given_scope cast rules mail book count s (act.Pick i) h = cc

module _ (cast : List Role) (rules : List PlainRule) (mail : Mail) (book : Book) (count : ℕ) (s : LocalState) (a : Act) (lead : Lead) (scope : asks_scope a ≡ true)
    (is : acting_lead s a ≡ Some lead) (tells : TellsOthers cast s.role lead.head lead.others) (head : ScopeHead) (same : lead.head ≡ head) where
  abbrev pub decides : ScopeHead → Decision
  decides h = decision cast count h (book_choice rules book h s.store)

  -- the leader did the act with what the book says
  pub began : (what : Decision) → decides head ≡ what → (s' : LocalState) → IsStep s a (FromBook decides) s' → (count' : ℕ) (H H' : List Entry)
      → count' ≡ updates_after (entry.Scope head.index head.leader (chosen_by what)) count
      → H' ≡ H ++ entry.Scope head.index head.leader (chosen_by what) ∷ []
      → IsDone a (given_to cast rules mail book count s.store a) s mail count H s' mail count' H'
  began what decided s' stepped count' H H' counts pushed =
      let there : decides lead.head ≡ what = ap decides same ∙ decided in
      let shows : entry.Scope head.index head.leader (chosen_by what) ≡ entry.Scope lead.head.index lead.head.leader (chosen_by (decides lead.head)) =
      ap₂ (λ (h : ScopeHead) w. entry.Scope h.index h.leader (chosen_by w)) (sym same) (sym there) in
      subst (λ given. IsDone a given s mail count H s' mail count' H') (sym (given_scope cast rules mail book count s.store a scope))
      (scope_begun s a decides lead s' scope is tells.leads stepped mail count count' H H'
      (counts ∙ ap (λ e. updates_after e count) shows) (pushed ∙ ap (λ e. H ++ e ∷ []) shows))

-- the scope is kept as the book says
pub kept_brings : (s : LocalState) (a : Act) (lead : Lead) (head : ScopeHead) (decide : ScopeHead → Decision) → acting_lead s a ≡ Some lead → lead.head ≡ head → decide head ≡ Keeps
    → BookKeeps (acting_lead s a) (FromBook decide)
kept_brings s a lead head decide is same keeps = record { scope = lead; is_led = is; decide = decide; decides = refl; keeps = ap decide same ∙ keeps }

-- the scope is replaced as the book says, with the parts of a plan
pub replaced_brings : (cast : List Role) (s : LocalState) (a : Act) (lead : Lead) (head : ScopeHead) (decide : ScopeHead → Decision) (name : List ℕ) (epoch : ℕ) (body : Term) (own : Process) (ms : Letters)
    → acting_lead s a ≡ Some lead → TellsOthers cast s.role lead.head lead.others → lead.head ≡ head
    → decide head ≡ Replaces name epoch (part_of cast head epoch body) → own ≡ part_of cast head epoch body head.leader → ms ≡ begin_messages cast head epoch body
    → BookReplaces s.role (acting_lead s a) own ms (FromBook decide)
replaced_brings cast s a lead head decide name epoch body own ms is tells same =
    subst (λ (h : ScopeHead). decide h ≡ Replaces name epoch (part_of cast h epoch body) → own ≡ part_of cast h epoch body h.leader → ms ≡ begin_messages cast h epoch body
    → BookReplaces s.role (acting_lead s a) own ms (FromBook decide)) same
    (λ decided owns sends. record {
      scope = lead;
      is_led = is;
      decide = decide;
      decides = refl;
      name = name;
      epoch = epoch;
      part = part_of cast lead.head epoch body;
      replaces = decided;
      own_part = owns ∙ ap (part_of cast lead.head epoch body) tells.leads;
      told = sends ∙ ap₂ (λ r os. letters_to r os lead.head.index Begin (λ q. Part epoch (part_of cast lead.head epoch body q))) tells.leads (sym tells.tells);
    })

-- a rule that the book answers with: its number, and the level of the scope
pub record Answer (rules : List PlainRule) (head : ScopeHead) (body : Body) : Type 0 where
  pub number : ℕ
  pub rule : PlainRule
  pub stands : slice_get rules number ≡ Some rule
  pub same : body.body ≡ rule.body
  pub level : head.level < 16

module _ (rules : List PlainRule) (book : Book) (head : ScopeHead) (s : Store) where
  abbrev rule_answer : Option PlainRule → BookChoice
  rule_answer None = KeepsBody
  rule_answer (Some rule) = TakesRule rule.name rule.body

  abbrev choice_answer : Option ℕ → BookChoice
  choice_answer None = KeepsBody
  choice_answer (Some m) = rule_answer (slice_get rules m)

  abbrev rule_fits : Option PlainRule → Bool
  rule_fits None = false
  rule_fits (Some rule) = holds rule.cond s (bound head.props) book.environment
      && list_all (λ q. member q head.roles) (mentions rule.body) && nat_lt head.level 16

  same_body : {n m : List ℕ} {A B : Term} → TakesRule n A ≡ TakesRule m B → A ≡ B
  same_body h = cc

  by_rule : (body : Body) (m : ℕ) (o : Option PlainRule) → slice_get rules m ≡ o → TakesRule body.name body.body ≡ rule_answer o → rule_fits o ≡ true → Answer rules head body
  by_rule body m None at h fit = cc
  by_rule body m (Some rule) at h fit = record {
    number = m;
    rule = rule;
    stands = at;
    same = same_body h;
    level = (Decides-ltb head.level 16).0 (and_parts _ (nat_lt head.level 16) fit).1;
  }

  by_choice : ChoicesGoOn → (body : Body) (o : Option ℕ) → choose rules book head s ≡ o → TakesRule body.name body.body ≡ choice_answer o → Answer rules head body
  by_choice goes body None at h = cc
  by_choice goes body (Some m) at h = by_rule body m (slice_get rules m) refl h (goes.chosen_fits rules book head s m at)

  -- the body at the number that is chosen is what the book answers
  pub choice_is : (n : ℕ) → choose rules book head s ≡ Some n → choice_of_body (slice_get (map body_of rules) n) ≡ book_choice rules book head s
  choice_is n h = ap choice_of_body (slice_get-map body_of rules n) ∙ same (slice_get rules n) ∙ sym (ap choice_answer h)
    where
      same : (o : Option PlainRule) → choice_of_body (option_map body_of o) ≡ rule_answer o
      same None = refl
      same (Some rule) = refl

  pub choice_none : choose rules book head s ≡ None → choice_of_body None ≡ book_choice rules book head s
  choice_none h = sym (ap choice_answer h)

  pub answer_of : ChoicesGoOn → (body : Body) → TakesRule body.name body.body ≡ book_choice rules book head s → Answer rules head body
  answer_of goes body h = by_choice goes body (choose rules book head s) refl h

-- the roles of a rule that may run are of the cast
pub body_in_cast : MentionsAreRoles → (cast : List Role) (rules : List PlainRule) (head : ScopeHead) (body : Body) → All (IsSoundRule cast) rules → Answer rules head body
    → (q : Role) → is_in q body.body ≡ true → member q cast ≡ true
body_in_cast mentioned cast rules head body sound answer q in_it =
    let fair : IsSoundRule cast answer.rule = all_at (IsSoundRule cast) rules answer.number answer.rule sound answer.stands in
    all_member (λ r. member r cast) (mentions answer.rule.body) q fair.in_cast
    (sym (mentioned q answer.rule.body) ∙ ap (is_in q) (sym answer.same) ∙ in_it)
