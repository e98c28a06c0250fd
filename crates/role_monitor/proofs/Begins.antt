-- Entries of the role that begin scopes: what the parts of the program do is what the state's own entry is.
use Rattle.std.proofs.Common.{◌≡◌, ◌<◌, ℕ, suc, List, [], ◌∷◌, ◌++◌, length, map, Bool, true, false, ◌&&◌, Option, Some, None, Result, Ok, Err, IfOk, OnOk, OnErr, slice_get, get_or, refl, sym, ap, ap₂, ◌∙◌, subst}
use Rattle.std.specs.Prelude.{nat_lt, option_map, option_and_then}
use Rattle.std.specs.Bool.{OnFalse, OnTrue}
use Rattle.std.specs.List.{list_all}
use Rattle.std.proofs.lemmas.Bool.{false≢true}
use Rattle.std.proofs.lemmas.Option.{slice_get-map, slice_get_read, slice_get_within}
use Rattle.dioc_terms.specs.declared.bundles.Rule.{Rule}
use Rattle.dioc_terms.specs.declared.names.Role.{Role}
use Rattle.dioc_terms.specs.declared.processes.ScopeHead.{ScopeHead}
use Rattle.dioc_terms.specs.declared.entries.Act.{Act}
use Rattle.dioc_terms.specs.declared.entries.Act.TheVariants as act
use Rattle.dioc_terms.specs.declared.entries.Chosen.TheVariants as chosen
use Rattle.dioc_terms.specs.declared.entries.Entry.{Entry}
use Rattle.dioc_terms.specs.declared.entries.Entry.TheVariants as entry
use Rattle.dioc_terms.specs.Attempts.{Does}
use Rattle.dioc_terms.specs.Equality.{entry_eq, member}
use Rattle.dioc_terms.specs.Messages.{act_of}
use Rattle.dioc_terms.specs.Plain.{PlainRule, Setting, plain_rule}
use Rattle.dioc_terms.specs.Processes.{Process, Load}
use Rattle.dioc_terms.specs.declared.processes.Key.{Key}
use Rattle.dioc_terms.specs.RuleLaws.{ChoicesGoOn}
use Rattle.dioc_terms.specs.Rules.{Book, choose}
use Rattle.dioc_terms.specs.Stores.{Store}
use Rattle.dioc_terms.specs.Terms.{mentions}
use Rattle.dioc_terms.specs.Values.{holds, bound}
use Rattle.dpoc_process.specs.Acting.{Lead, acting_lead}
use Rattle.dpoc_process.specs.RoleSteps.{IsStep}
use Rattle.dpoc_process.specs.LocalStates.{LocalState, local_done, step_at}
use Rattle.global_steps.specs.Follow.{TakesRule, book_choice}
use Rattle.marked_laws.proofs.Shapes.{some_same}
use Rattle.process_steps.specs.Laws.{StepsShowTheirActs}
use Rattle.process_steps.specs.Steps.{Deed, Chooses, Decision, FromBook, Keeps, Replaces, entry_of}
use Rattle.role_monitor.proofs.Owns.{made, refused}
use Rattle.role_monitor.specs.Judging.{FailsEntry, KeepsOwn, KeepsScope, RefusesOwn, decides, monitor_state}
use Rattle.role_monitor.specs.Monitoring.{MonitorState, after_own, begun_update, comes_to, own_updates, with_update}
use Rattle.role_monitor.specs.declared.updates.Update.{Update}
use Rattle.role_mailbox.specs.declared.mail.Mail.{Mail}
use Rattle.net_core.proofs.ScopeLemmas.{Answer, answer_of, begin_deed, choice_is}
use Rattle.net_core.specs.Deeds.{asks_scope}
use Rattle.net_core.specs.Scopes.{choice_of_body, chosen_by}
use Rattle.net_core.specs.Standing.{body_of}

module _ (b : Setting) (s : LocalState) (book : Book) (us : List Update) (e : Entry) (a : Act) (scope : asks_scope a ≡ true) where
  abbrev state : List (Key × Load) → ℕ → MonitorState
  state pending count = monitor_state s pending book count us

  -- what comes to the begin of a scope
  comes_scope : (pending : List (Key × Load)) (count : ℕ) (c : Act) → asks_scope c ≡ true → FromBook (decides b s book us) ≡ comes_to b (state pending count) c
  comes_scope pending count (act.Scope i) h = refl
  comes_scope pending count (act.Put k) h = cc
  comes_scope pending count (act.Take k) h = cc
  comes_scope pending count (act.Set i) h = cc
  comes_scope pending count (act.Input i) h = cc
  comes_scope pending count (act.Pick i) h = cc

  pub scope_refuses : (mail : Mail) → FailsEntry s a (FromBook (decides b s book us)) e → RefusesOwn b s mail book us e a
  scope_refuses mail fails = record {
    refuses = λ pending count held. refused b s book us e a (state pending count) (subst (λ given. FailsEntry s a given e) (comes_scope pending count a scope) fails);
  }

  module _ (lead : Lead) (is : acting_lead s a ≡ Some lead) (leads : lead.head.leader ≡ s.role) (head : ScopeHead) (same : lead.head ≡ head) (what : Decision)
      (decided : decides b s book us head ≡ what) where
    abbrev deed : Deed
    deed = Chooses head.index s.role (chosen_by what)

    deed_is : (d : Deed) (P : Process) → step_at s a (FromBook (decides b s book us)) ≡ Does d P → d ≡ deed
    deed_is d P does =
        begin_deed s a (decides b s book us) lead d P scope is does
        ∙ ap (λ (h : ScopeHead). Chooses h.index s.role (chosen_by (decides b s book us h))) same
        ∙ ap (λ w. Chooses head.index s.role (chosen_by w)) decided

    shown_is : entry_of deed ≡ entry.Scope head.index head.leader (chosen_by what)
    shown_is = ap (λ r. entry.Scope head.index r (chosen_by what)) (sym leads ∙ ap (λ (h : ScopeHead). h.leader) same)

    -- another entry is none of the step
    pub differs_fails : entry_eq e (entry.Scope head.index head.leader (chosen_by what)) ≡ false → FailsEntry s a (FromBook (decides b s book us)) e
    differs_fails other = λ d P does. ap (entry_eq e) (ap entry_of (deed_is d P does) ∙ shown_is) ∙ other

    -- the leader has begun the scope as the book decides
    pub shows_keeps : entry_eq e (entry.Scope head.index head.leader (chosen_by what)) ≡ true → (s' : LocalState) → IsStep s a (FromBook (decides b s book us)) s' → (us' : List Update)
        → ((pending : List (Key × Load)) (count : ℕ) → own_updates b (state pending count) deed ≡ us') → KeepsScope b s book us e a s' us'
    shows_keeps shows s' stepped us' lists = λ pending count.
        let M = state pending count in
        let does : step_at s a (comes_to b M a) ≡ Does stepped.deed stepped.left = ap (step_at s a) (sym (comes_scope pending count a scope)) ∙ stepped.does in
        let same_deed : stepped.deed ≡ deed = deed_is stepped.deed stepped.left stepped.does in
        made b s book us e a M stepped.deed stepped.left does (ap (entry_eq e) (ap entry_of same_deed ∙ shown_is) ∙ shows)
        ∙ ap (λ d. Some (after_own b M d stepped.left)) same_deed
        ∙ ap₂ (λ (t : LocalState) ws. Some (monitor_state t pending book count ws)) (sym (stepped.becomes ∙ ap (λ d. local_done s d stepped.left) same_deed)) (lists pending count)

    -- the act is the begin of the scope of that index
    pub act_is : StepsShowTheirActs → (s' : LocalState) → IsStep s a (FromBook (decides b s book us)) s' → act.Scope head.index ≡ a
    act_is laws s' stepped =
        some_same (sym (ap (λ d. act_of (entry_of d)) (deed_is stepped.deed stepped.left stepped.does))
        ∙ laws s.role s.store s.process a (FromBook (decides b s book us)) stepped.deed stepped.left stepped.does)

  -- the update of a scope that a rule replaces
  pub lists_update : (lead : Lead) → acting_lead s a ≡ Some lead → (head : ScopeHead) → lead.head ≡ head → act.Scope head.index ≡ a → (name : List ℕ) (n number : ℕ)
      → choose b.rules book head s.store ≡ Some number → (pending : List (Key × Load)) (count : ℕ)
      → own_updates b (state pending count) (Chooses head.index s.role (chosen.Rule name n)) ≡ us ++ record { epoch = n; rule = number; level = suc head.level } ∷ []
  lists_update lead is head same acts name n number chosen pending count =
      let M = state pending count in
      ap (λ o. with_update us (option_and_then (begun_update b M n) o)) (ap (acting_lead s) acts ∙ is)
      ∙ ap (λ (h : ScopeHead). with_update us (option_map (λ m. record { epoch = n; rule = m; level = suc h.level }) (choose b.rules book h s.store))) same
      ∙ ap (λ o. with_update us (option_map (λ m. record { epoch = n; rule = m; level = suc head.level }) o)) chosen

module _ (b : Setting) (s : LocalState) (book : Book) (us : List Update) (e : Entry) (a : Act) (scope : asks_scope a ≡ true) (lead : Lead) (is : acting_lead s a ≡ Some lead)
    (leads : lead.head.leader ≡ s.role) (head : ScopeHead) (same : lead.head ≡ head) where
  abbrev Stepped : LocalState → Type 0
  Stepped s' = IsStep s a (FromBook (decides b s book us)) s'

  -- the scope that keeps its body, as the answer says
  pub keep_kept : decides b s book us head ≡ Keeps → (t : Bool) → t ≡ entry_eq e (entry.Scope head.index head.leader chosen.Keep) → (s' : LocalState) → OnTrue t (Stepped s')
      → OnTrue t (KeepsScope b s book us e a s' us)
  keep_kept decided true shown s' stepped = shows_keeps b s book us e a scope lead is leads head same Keeps decided (sym shown) s' stepped us (λ pending count. refl)
  keep_kept decided false shown s' stepped = tt

  pub keep_refused : decides b s book us head ≡ Keeps → (t : Bool) → t ≡ entry_eq e (entry.Scope head.index head.leader chosen.Keep)
      → OnFalse t (FailsEntry s a (FromBook (decides b s book us)) e)
  keep_refused decided true shown = tt
  keep_refused decided false shown = differs_fails b s book us e a scope lead is leads head same Keeps decided (sym shown)

  -- the scope that is replaced, as the answer says
  module _ (laws : StepsShowTheirActs) (name : List ℕ) (n number : ℕ) (part : Role → Process) (decided : decides b s book us head ≡ Replaces name n part) where
    pub replace_kept : choose b.rules book head s.store ≡ Some number → (t : Bool) → t ≡ entry_eq e (entry.Scope head.index head.leader (chosen.Rule name n)) → (s' : LocalState)
        → OnTrue t (Stepped s') → (us' : List Update) → OnTrue t (us' ≡ us ++ record { epoch = n; rule = number; level = suc head.level } ∷ [])
        → OnTrue t (KeepsScope b s book us e a s' us')
    replace_kept picked true shown s' stepped us' listed =
        shows_keeps b s book us e a scope lead is leads head same (Replaces name n part) decided (sym shown) s' stepped us'
        (λ pending count. lists_update b s book us e a scope lead is head same
        (act_is b s book us e a scope lead is leads head same (Replaces name n part) decided laws s' stepped) name n number picked pending count ∙ sym listed)
    replace_kept picked false shown s' stepped us' listed = tt

    pub replace_refused : (t : Bool) → t ≡ entry_eq e (entry.Scope head.index head.leader (chosen.Rule name n)) → OnFalse t (FailsEntry s a (FromBook (decides b s book us)) e)
    replace_refused true shown = tt
    replace_refused false shown = differs_fails b s book us e a scope lead is leads head same (Replaces name n part) decided (sym shown)

-- what is kept of a scope is kept of an entry of the role
pub scope_keeps : (b : Setting) (s : LocalState) (mail : Mail) (book : Book) (us : List Update) (e : Entry) (a : Act) (s' : LocalState) (us' : List Update) → KeepsScope b s book us e a s' us'
    → KeepsOwn b s mail book us e a s' mail us'
scope_keeps b s mail book us e a s' us' keeps = record {
  left = λ pending. pending;
  keeps = λ pending count distinct held. keeps pending count;
  holds = λ pending distinct held. held;
}

module _ (rules : List PlainRule) (book : Book) (head : ScopeHead) (s : Store) where
  abbrev fits_rule : Option PlainRule → Bool
  fits_rule None = false
  fits_rule (Some rule) = holds rule.cond s (bound head.props) book.environment
      && list_all (λ q. member q head.roles) (mentions rule.body) && nat_lt head.level 16

  -- a rule that the book chooses is there
  pub chosen_there : ChoicesGoOn → (n : ℕ) → choose rules book head s ≡ Some n → n < length rules
  chosen_there goes n chosen = by_rule (slice_get rules n) refl (goes.chosen_fits rules book head s n chosen)
    where
      by_rule : (o : Option PlainRule) → slice_get rules n ≡ o → fits_rule o ≡ true → n < length rules
      by_rule None at h = absurd (false≢true h)
      by_rule (Some rule) at h = slice_get_within rules n rule at

  -- what the book chooses is the answer
  pub choice_taken : (n : ℕ) (rule : PlainRule) → choose rules book head s ≡ Some n → slice_get rules n ≡ Some rule → book_choice rules book head s ≡ TakesRule rule.name rule.body
  choice_taken n rule chosen at = sym (choice_is rules book head s n chosen) ∙ ap choice_of_body (slice_get-map body_of rules n ∙ ap (option_map body_of) at)

  pub rule_answers : ChoicesGoOn → (n : ℕ) (rule : PlainRule) → choose rules book head s ≡ Some n → slice_get rules n ≡ Some rule → Answer rules head (body_of rule)
  rule_answers goes n rule chosen at = answer_of rules book head s goes (body_of rule) (sym (choice_taken n rule chosen at))

-- the rule of that number, without where it lies in memory
pub rule_stands : (rules : List Rule) (n : ℕ) (rule : Rule) → slice_get rules n ≡ Some rule → slice_get (map plain_rule rules) n ≡ Some (plain_rule rule)
rule_stands rules n rule at = slice_get-map plain_rule rules n ∙ ap (option_map plain_rule) at

-- what follows where the answer is so
pub on_true : {P Q : Type 0} (t : Bool) → (P → Q) → OnTrue t P → OnTrue t Q
on_true true f h = f h
on_true false f h = tt

pub on_false : {P Q : Type 0} (t : Bool) → (P → Q) → OnFalse t P → OnFalse t Q
on_false true f h = tt
on_false false f h = f h

pub any_true : {P : Type 0} (t : Bool) → P → OnTrue t P
any_true true p = p
any_true false p = tt

pub any_false : {P : Type 0} (t : Bool) → P → OnFalse t P
any_false true p = tt
any_false false p = p

pub any_err : {T E : Type 0} {P : Type 0} (r : Result T E) → P → OnErr r P
any_err (Ok x) p = tt
any_err (Err e) p = p

pub on_err : {T E : Type 0} {P Q : Type 0} (r : Result T E) → (P → Q) → OnErr r P → OnErr r Q
on_err (Ok x) f h = tt
on_err (Err e) f h = f h

pub if_ok : {T E : Type 0} (r : Result T E) (P Q : T → Type 0) → ((x : T) → P x → Q x) → IfOk r P → IfOk r Q
if_ok (Ok x) P Q f h = f x h
if_ok (Err e) P Q f h = tt

pub all_ok : {T E : Type 0} (r : Result T E) (P : T → Type 0) → ((x : T) → P x) → IfOk r P
all_ok (Ok x) P f = f x
all_ok (Err e) P f = tt

pub on_ok : {T E : Type 0} {P Q : Type 0} (r : Result T E) → (P → Q) → OnOk r P → OnOk r Q
on_ok (Ok x) f h = f h
on_ok (Err e) f h = tt

-- for all at once
pub ok_all : {T E A : Type 0} (P Q : A → Type 0) (r : Result T E) → ((a : A) → P a → OnOk r (Q a)) → OnOk r ((a : A) → P a → Q a)
ok_all P Q (Ok x) h = h
ok_all P Q (Err e) h = tt

-- the rule of that number, by its place
pub rule_found : (rules list : List Rule) (n : ℕ) (rule : Rule) → list ≡ rules → n < length list → rule ≡ get_or list n rule → slice_get (map plain_rule rules) n ≡ Some (plain_rule rule)
rule_found rules list n rule same within at = rule_stands rules n rule (ap (λ l. slice_get l n) (sym same) ∙ slice_get_read list (length list) n rule refl within at)
