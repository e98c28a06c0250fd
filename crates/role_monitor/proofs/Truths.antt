-- One list of updates belongs to a run of the network. Given it, the monitor of a role is a reading of the network.
use Rattle.std.proofs.Common.{arith, ◌≡◌, ◌<◌, ℕ, suc, List, [], ◌∷◌, ◌++◌, length, Option, Some, None, slice_get, refl, sym, ap, ◌∙◌, subst}
use Rattle.std.specs.Prelude.{option_map, option_and_then}
use Rattle.std.proofs.lemmas.Bool.{cond_both, eq-eqb, ne_eqb}
use Rattle.dioc_terms.specs.declared.names.Role.{Role}
use Rattle.dioc_terms.specs.declared.names.Index.{Index}
use Rattle.dioc_terms.specs.declared.processes.ScopeHead.{ScopeHead}
use Rattle.dioc_terms.specs.declared.entries.Act.{Act}
use Rattle.dioc_terms.specs.declared.entries.Act.TheVariants as act
use Rattle.dioc_terms.specs.declared.entries.Chosen.TheVariants as chosen
use Rattle.dioc_terms.specs.declared.bundles.Timed.{Timed}
use Rattle.dioc_terms.specs.Attempts.{Does}
use Rattle.dioc_terms.specs.Equality.{role_eq}
use Rattle.dioc_terms.specs.Messages.{act_of}
use Rattle.dioc_terms.specs.Plain.{PlainRule, PlainBundle, Setting, setting}
use Rattle.dioc_terms.specs.Processes.{Process, ScopeLead}
use Rattle.dioc_terms.specs.Rules.{Book, choose}
use Rattle.dioc_terms.specs.Stores.{Store}
use Rattle.dioc_terms.specs.Terms.{indexed, stamped}
use Rattle.dpoc_process.specs.Acting.{acting, acting_lead, lead_of}
use Rattle.global_steps.specs.Follow.{BookChoice, KeepsBody, TakesRule, book_choice, updates_after}
use Rattle.network_steps.specs.Network.{Network, decision, given_at, pending_at, pending_after, network_start}
use Rattle.marked_laws.proofs.FoundParts.{taken_by}
use Rattle.marked_laws.proofs.Networks.{after_deed, after_change, given_same}
use Rattle.marked_laws.proofs.Shapes.{some_same}
use Rattle.process_steps.specs.Steps.{Deed, Puts, Takes, Sets, Inputs, Picks, Chooses, FromBook, Decision, Replaces, entry_of, step}
use Rattle.projection.specs.Projection.{projected}
use Rattle.role_monitor.specs.Monitoring.{MonitorState, update_numbered, rule_part, update_part, begun_update, with_update, own_updates}
use Rattle.role_monitor.specs.declared.updates.Update.{Update}
use Rattle.role_monitor.proofs.Books.{Apart, apply_apart, opening_apart}
use Rattle.role_monitor.proofs.Goods.{Levels, indexed_levels, Good, GoodDeed, projected_good, genuine_still, good_still}
use Rattle.role_monitor.proofs.GoodSteps.{begun, good_step}
use Rattle.role_monitor.proofs.Listings.{Extends, extends_with, last_found, stated, still_none}
use Rattle.role_monitor.proofs.Mailboxes.{to_role, GoodMail, good_at, good_without, good_put, mail_still}

-- what the network shows the monitor of a role
abbrev pub shown : Role → List Update → Network → MonitorState
shown r us N = record {
  local = record { role = r; process = N.processes r; store = N.stores r };
  mail = to_role r N.pending;
  book = N.book;
  changes = N.changes;
  updates = us;
}

-- the list has the updates of the network, and its processes and messages are good by it
pub record Truth (b : Setting) (us : List Update) (N : Network) : Type 0 where
  pub counted : length us ≡ N.updates
  pub fresh : (n : ℕ) → N.updates < n → update_numbered n us ≡ None
  pub apart : Apart b.rules N.book.order
  pub good : (q : Role) → Good b us (N.processes q)
  pub mails : GoodMail b us N.pending

pub truth_start : (b : PlainBundle) → b.choreo ≡ indexed b.choreo → Truth (setting b) [] (network_start b)
truth_start b indices = record {
  counted = refl;
  fresh = λ n later. refl;
  apart = opening_apart b.rules b.opening;
  good = λ q. projected_good (setting b) [] q b.choreo (subst (Levels []) (sym indices) (indexed_levels [] 0 b.choreo));
  mails = tt;
}

pub truth_change : (b : Setting) (us : List Update) (N : Network) (timed : Timed) → Truth b us N → Truth b us (after_change b N timed)
truth_change b us N timed truth = record {
  counted = truth.counted;
  fresh = truth.fresh;
  apart = apply_apart b.rules N.book timed.change truth.apart;
  good = truth.good;
  mails = truth.mails;
}

abbrev rule_answer : Option PlainRule → BookChoice
rule_answer None = KeepsBody
rule_answer (Some rule) = TakesRule rule.name rule.body

module _ (b : Setting) (book : Book) (head : ScopeHead) (s : Store) (updates : ℕ) (name : List ℕ) (n : ℕ) (part : Role → Process) where
  -- a rule that replaces the scope: the one that the book chooses, as the next update
  pub record Decided : Type 0 where
    pub number : ℕ
    pub rule : PlainRule
    pub picked : choose b.rules book head s ≡ Some number
    pub at : slice_get b.rules number ≡ Some rule
    pub named : name ≡ rule.name
    pub next : n ≡ suc updates
    pub parts : (q : Role) → projected b.cast (stamped rule.body (suc updates) (suc head.level)) q ≡ part q

  abbrev choice_answer : Option ℕ → BookChoice
  choice_answer None = KeepsBody
  choice_answer (Some m) = rule_answer (slice_get b.rules m)

  by_rule : (m : ℕ) (o : Option PlainRule) → choose b.rules book head s ≡ Some m → slice_get b.rules m ≡ o → decision b.cast updates head (rule_answer o) ≡ Replaces name n part → Decided
  by_rule m None picked at h = cc
  by_rule m (Some rule) picked at h = record {
    number = m;
    rule = rule;
    picked = picked;
    at = at;
    named = cc;
    next = cc;
    parts = λ q. ap (λ (f : Role → Process). f q) (part_same h);
  }
    where
      part_same : {x y : List ℕ} {j k : ℕ} {f g : Role → Process} → Replaces x j f ≡ Replaces y k g → f ≡ g
      part_same e = cc

  by_choice : (o : Option ℕ) → choose b.rules book head s ≡ o → decision b.cast updates head (choice_answer o) ≡ Replaces name n part → Decided
  by_choice None picked h = cc
  by_choice (Some m) picked h = by_rule m (slice_get b.rules m) picked refl h

  choice_is : book_choice b.rules book head s ≡ choice_answer (choose b.rules book head s)
  choice_is = refl

  pub decided : decision b.cast updates head (book_choice b.rules book head s) ≡ Replaces name n part → Decided
  decided h = by_choice (choose b.rules book head s) refl (sym (ap (decision b.cast updates head) choice_is) ∙ h)

length_more : (us : List Update) (u : Update) → length (us ++ u ∷ []) ≡ suc (length us)
length_more [] u = refl
length_more (v ∷ us) u = ap suc (length_more us u)

decides_same : {f g : ScopeHead → Decision} → FromBook f ≡ FromBook g → f ≡ g
decides_same h = cc

module _ (b : Setting) (us : List Update) (N : Network) (truth : Truth b us N) (q : Role) (a : Act) (d : Deed) (P : Process)
    (acts : act_of (entry_of d) ≡ Some a) (steps : step q (N.stores q) (N.processes q) a (given_at b N q a) ≡ Does d P) where
  abbrev decides : ScopeHead → Decision
  decides head = decision b.cast N.updates head (book_choice b.rules N.book head (N.stores q))

  -- the list after the deed
  abbrev pub us_after : List Update
  us_after = own_updates b (shown q us N) d

  -- the update that a deed begins
  pub record Grown (head : ScopeHead) (i : Index) (name : List ℕ) (n : ℕ) (part : Role → Process) : Type 0 where
    pub made : Decided b N.book head (N.stores q) N.updates name n part
    pub list : us_after ≡ us ++ stated n made.number (suc head.level) ∷ []

  list_grows : (head : ScopeHead) (qs : List Role) (B : Process) (i : Index) (r : Role) (name : List ℕ) (n m : ℕ) → acting q (act.Scope i) (N.processes q) ≡ Some (ScopeLead head qs B)
      → choose b.rules N.book head (N.stores q) ≡ Some m
      → own_updates b (shown q us N) (Chooses i r (chosen.Rule name n)) ≡ us ++ stated n m (suc head.level) ∷ []
  list_grows head qs B i r name n m is picked =
      ap (λ o. with_update us (option_and_then (begun_update b (shown q us N) n) (option_and_then lead_of o))) is
      ∙ ap (λ o. with_update us (option_map (λ m. stated n m (suc head.level)) o)) picked

  -- what a deed that chooses a rule adds to the list
  pub grew : (head : ScopeHead) (qs : List Role) (B : Process) (i : Index) (r : Role) (decide : ScopeHead → Decision) (name : List ℕ) (n : ℕ) (part : Role → Process)
      → acting q a (N.processes q) ≡ Some (ScopeLead head qs B) → given_at b N q a ≡ FromBook decide → decide head ≡ Replaces name n part
      → d ≡ Chooses i r (chosen.Rule name n) → Grown head i name n part
  grew head qs B i r decide name n part is given_is replaces did =
      let scope : a ≡ act.Scope i = some_same (sym acts ∙ ap (λ d. act_of (entry_of d)) did) in
      let same = decides_same (sym (ap (given_at b N q) scope) ∙ given_is) in
      let made = decided b N.book head (N.stores q) N.updates name n part (ap (λ (f : ScopeHead → Decision). f head) same ∙ replaces) in
      record {
        made = made;
        list = ap (own_updates b (shown q us N)) did
            ∙ list_grows head qs B i r name n made.number (subst (λ x. acting q x (N.processes q) ≡ Some (ScopeLead head qs B)) scope is) made.picked;
      }

  extends_own : (e : Deed) → Extends us (own_updates b (shown q us N) e)
  extends_own (Chooses i r (chosen.Rule name n)) = extends_with us (option_and_then (begun_update b (shown q us N) n) (acting_lead (shown q us N).local (act.Scope i)))
  extends_own (Chooses i r chosen.Keep) = λ n u h. h
  extends_own (Puts k l) = λ n u h. h
  extends_own (Takes k x l) = λ n u h. h
  extends_own (Sets i r x v) = λ n u h. h
  extends_own (Inputs i r x v) = λ n u h. h
  extends_own (Picks i r t) = λ n u h. h

  pub extends : Extends us us_after
  extends = extends_own d

  -- the number of updates is the list's, and no later number is in it
  abbrev Counts : List Update → ℕ → Type 0
  Counts vs updates = (length vs ≡ updates) × ((n : ℕ) → updates < n → update_numbered n vs ≡ None)

  one_more : (u : Update) → u.epoch ≡ suc N.updates → Counts (us ++ u ∷ []) (suc N.updates)
  one_more u is = (length_more us u ∙ ap suc truth.counted, λ n later. still_none us u n (truth.fresh n (omega arith)) (ne_eqb u.epoch n (λ same. omega (arith, is, same, later))))

  counts : (e : Deed) → d ≡ e → Counts us_after (updates_after (entry_of e) N.updates)
  counts (Chooses i r (chosen.Rule name n)) did =
      let g = begun q (N.stores q) a (given_at b N q a) i r name n (N.processes q) (subst (λ e. step q (N.stores q) (N.processes q) a (given_at b N q a) ≡ Does e P) did steps) in
      let grown = grew g.head g.others g.body i r g.decide name n g.part g.acts g.given_is g.replaces did in
      subst (λ vs. Counts vs (suc N.updates)) (sym grown.list) (one_more (stated n grown.made.number (suc g.head.level)) grown.made.next)
  counts (Chooses i r chosen.Keep) did = subst (λ vs. Counts vs N.updates) (sym (ap (own_updates b (shown q us N)) did)) (truth.counted, truth.fresh)
  counts (Puts k l) did = subst (λ vs. Counts vs N.updates) (sym (ap (own_updates b (shown q us N)) did)) (truth.counted, truth.fresh)
  counts (Takes k x l) did = subst (λ vs. Counts vs N.updates) (sym (ap (own_updates b (shown q us N)) did)) (truth.counted, truth.fresh)
  counts (Sets i r x v) did = subst (λ vs. Counts vs N.updates) (sym (ap (own_updates b (shown q us N)) did)) (truth.counted, truth.fresh)
  counts (Inputs i r x v) did = subst (λ vs. Counts vs N.updates) (sym (ap (own_updates b (shown q us N)) did)) (truth.counted, truth.fresh)
  counts (Picks i r t) did = subst (λ vs. Counts vs N.updates) (sym (ap (own_updates b (shown q us N)) did)) (truth.counted, truth.fresh)

  -- the part of each role of the update that was begun
  new_part : (head : ScopeHead) (i : Index) (name : List ℕ) (n : ℕ) (part : Role → Process) → Grown head i name n part → (p : Role) → update_part b p us_after n ≡ Some (part p)
  new_part head i name n part grown p =
      let made = grown.made in
      let u = stated n made.number (suc head.level) in
      ap (λ vs. update_part b p vs n) grown.list
      ∙ (ap (update_part b p (us ++ u ∷ [])) made.next
      ∙ (ap (option_and_then (λ u. rule_part b p u (suc N.updates))) (last_found us u (suc N.updates) (truth.fresh (suc N.updates) (omega arith)) (eq-eqb n (suc N.updates) made.next))
      ∙ (ap (option_map (λ (rule : PlainRule). projected b.cast (stamped rule.body (suc N.updates) (suc head.level)) p)) made.at
      ∙ ap Some (made.parts p))))

  own_good : Good b us_after P × GoodDeed b us_after d
  own_good = good_step q (N.stores q) a (given_at b N q a) b us_after (N.processes q)
      (λ k l to taken got. genuine_still b us us_after extends k l
      (good_at b us k l N.pending truth.mails (taken_by (λ k. pending_at k N.pending) decides a k l taken (sym (given_same b N q a) ∙ got))))
      (λ head qs B decide name n part is given_is replaces did p. new_part head head.index name n part (grew head qs B head.index q decide name n part is given_is replaces did) p)
      (good_still b us us_after extends (N.processes q) (truth.good q))
      steps

  -- what the deed puts is genuine
  pub deed_good : GoodDeed b us_after d
  deed_good = own_good.1

  mail_good : (e : Deed) → GoodDeed b us_after e → GoodMail b us_after N.pending → GoodMail b us_after (pending_after e N.pending)
  mail_good (Puts k l) new mails = good_put b us_after k l N.pending mails new
  mail_good (Takes k x l) new mails = good_without b us_after k N.pending mails
  mail_good (Sets i r x v) new mails = mails
  mail_good (Inputs i r x v) new mails = mails
  mail_good (Picks i r t) new mails = mails
  mail_good (Chooses i r c) new mails = mails

  pub truth_step : Truth b us_after (after_deed N q d P)
  truth_step = record {
    counted = (counts d refl).0;
    fresh = (counts d refl).1;
    apart = truth.apart;
    good = λ p. cond_both (role_eq p q) P (N.processes p) (Good b us_after) (λ yes. own_good.0) (λ no. good_still b us us_after extends (N.processes p) (truth.good p));
    mails = mail_good d own_good.1 (mail_still b us us_after extends N.pending truth.mails);
  }
