-- What the begin of a scope makes of what a home keeps.
use Rattle.std.proofs.Common.{◌≡◌, ◌<◌, ℕ, List, [], ◌∷◌, ◌++◌, length, Bool, true, false, ◌&&◌, is_some, Option, Some, None, slice_get, refl, sym, ap, ◌∙◌, arith}
use Rattle.std.specs.List.{list_all}
use Rattle.std.proofs.lemmas.List.{length-map}
use Rattle.std.specs.Prelude.{nat_lt, option_and_then}
use Rattle.std.proofs.lemmas.Option.{slice_get_within}
use Rattle.dioc_terms.specs.declared.entries.Act.TheVariants as act
use Rattle.dioc_terms.specs.declared.entries.Entry.{Entry}
use Rattle.dioc_terms.specs.declared.entries.Entry.TheVariants as entry
use Rattle.dioc_terms.specs.declared.names.Role.{Role}
use Rattle.dioc_terms.specs.declared.processes.ScopeHead.{ScopeHead}
use Rattle.dioc_terms.specs.Attempts.{Attempt, Stuck, Does}
use Rattle.dioc_terms.specs.Equality.{member}
use Rattle.dioc_terms.specs.Plain.{PlainBundle, PlainRule}
use Rattle.dioc_terms.specs.Processes.{Process}
use Rattle.dioc_terms.specs.RuleLaws.{ChoicesGoOn}
use Rattle.dioc_terms.specs.Rules.{Book, choose}
use Rattle.dioc_terms.specs.Stores.{Store}
use Rattle.dioc_terms.specs.Terms.{mentions}
use Rattle.dioc_terms.specs.Values.{holds, bound}
use Rattle.dpoc_process.proofs.ActingLemmas.{acting-offered}
use Rattle.dpoc_process.specs.Acting.{Lead, acting, lead_of}
use Rattle.dpoc_process.specs.LocalStates.{LocalState}
use Rattle.global_steps.specs.Follow.{BookChoice, KeepsBody, TakesRule, book_choice, updates_after}
use Rattle.marked_laws.proofs.Shapes.{none_some, some_same}
use Rattle.network_steps.specs.Network.{Network, decision}
use Rattle.process_steps.specs.Laws.{is_done, OffersAreSteps}
use Rattle.process_steps.specs.Steps.{Deed, Chooses, Decision, FromBook, entry_of, step}
use Rattle.role_mailbox.specs.declared.mail.Mail.{Mail}
use Rattle.net_core.proofs.NetLemmas.{network_is}
use Rattle.net_core.proofs.ScopeLemmas.{begin_deed}
use Rattle.net_core.specs.Scopes.{chosen_by}
use Rattle.net_core.specs.Standing.{ScriptedChange}
use Rattle.rule_book.specs.declared.book.Book.{Book as KeptBook}
use Rattle.rule_book.specs.KeptBooks.{book_of}
use Rattle.stage.proofs.HomeLemmas.{Laws, home_did, role_free, shown}
use Rattle.stage.specs.Begins.{CanBegin, begin_in, network_in, scope_entry, shown_choice, update_in, update_of}
use Rattle.stage.specs.declared.faults.Why.{Why}
use Rattle.stage.specs.Faults.{role_fault}
use Rattle.stage.specs.Homes.{HomeState, IsHome, names_of}
use Rattle.stage.specs.Roles.{CanDo}

some_led : (o : Option Process) (lead : Lead) → option_and_then lead_of o ≡ Some lead → is_some o ≡ true
some_led None lead h = absurd (none_some h)
some_led (Some R) lead h = refl

done_there : (m : Attempt Deed Process) → is_done m ≡ true → (d : Deed) × (P : Process) × (m ≡ Does d P)
done_there Stuck h = cc
done_there (Does d P) h = (d, P, refl)

-- whatever the book decides of it, the leader of a scope can begin it
pub can_lead : OffersAreSteps → (b : PlainBundle) (H : List Entry) (head : ScopeHead) (s : Store) → CanBegin b H head s → (decide : ScopeHead → Decision)
    → CanDo b H head.leader (act.Scope head.index) (FromBook decide) (Chooses head.index head.leader (chosen_by (decide head)))
can_lead steps b H head s can decide =
    let local : LocalState = record { role = head.leader; process = can.process; store = s } in
    let offered = sym (acting-offered head.leader (act.Scope head.index) can.process) ∙ some_led (acting head.leader (act.Scope head.index) can.process) can.lead can.leads in
    let did = done_there (step head.leader s can.process (act.Scope head.index) (FromBook decide))
    (steps.exactly head.leader s can.process (act.Scope head.index) (FromBook decide) refl ∙ offered) in
    let deed : did.0 ≡ Chooses can.lead.head.index head.leader (chosen_by (decide can.lead.head)) =
    begin_deed local (act.Scope head.index) decide can.lead did.0 did.1 refl can.leads did.2 in
    let same : did.0 ≡ Chooses head.index head.leader (chosen_by (decide head)) = deed ∙ ap (λ (h : ScopeHead). Chooses h.index head.leader (chosen_by (decide h))) can.same in
    record {
      process = can.process;
      store = s;
      stands = can.stands;
      next = did.1;
      does = did.2 ∙ ap (λ d. Does d did.1) same;
    }

-- the entry shows what the leader decides by what the book says
pub shows_decision : (cast : List Role) (count : ℕ) (head : ScopeHead) (says : BookChoice) → shown_choice count says ≡ chosen_by (decision cast count head says)
shows_decision cast count head KeepsBody = refl
shows_decision cast count head (TakesRule name body) = refl

module _ (of : PlainBundle) (limit : ℕ) (H : List Entry) (cast : List Role) (names : List (List ℕ)) (mail : Mail) (book : KeptBook) (script : List ScriptedChange) (count : ℕ) (finished : List Bool) (stopped : Option Why)
    (is : IsHome of limit H cast names mail book script count finished stopped) where
  abbrev home : HomeState
  home = shown of limit H cast names mail book script count finished stopped is

  there : network_in home ≡ is.shared.network
  there = network_is of H is.shared.network is.shared.runs

  books : book_of book ≡ (network_in home).book
  books = is.shared.opened ∙ ap (λ (N : Network). N.book) (sym there)

  counts : count ≡ (network_in home).updates
  counts = is.shared.updates ∙ ap (λ (N : Network). N.updates) (sym there)

  -- what the book of the home chooses is what its network's chooses
  pub update_there : (head : ScopeHead) (s : Store) → update_of of.rules (book_of book) count head s ≡ update_in home head s
  update_there head s = λ i. update_of of.rules (books i) (counts i) head s

  pub begin_there : (head : ScopeHead) (s : Store) → scope_entry of.rules (book_of book) count head s ≡ begin_in home head s
  begin_there head s = λ i. scope_entry of.rules (books i) (counts i) head s

  -- there may be one update more
  pub update_fits : role_fault home ≡ None → count < 4294967295
  update_fits free =
      let calm = role_free home free in
      omega (arith, is.shared.few, is.shared.small, calm.room)

  -- what a home keeps after the begin of a scope
  pub home_led : Laws → (head : ScopeHead) (s : Store) → CanBegin of H head s → role_fault home ≡ None → (count' : ℕ) (H' : List Entry)
      → count' ≡ updates_after (scope_entry of.rules (book_of book) count head s) count → H' ≡ H ++ scope_entry of.rules (book_of book) count head s ∷ []
      → IsHome of limit H' cast names mail book script count' finished stopped
  home_led laws head s can free count' H' counted pushed =
      home_did of limit H cast names mail book script count finished stopped is laws head.leader (act.Scope head.index) (FromBook decide)
      (Chooses head.index head.leader (chosen_by (decide head)))
      (can_lead laws.offers of H head s can decide) refl refl free mail count' H' (record { at = λ k. refl })
      (counted ∙ ap (λ e. updates_after e count) shows) (pushed ∙ ap (λ e. H ++ e ∷ []) shows)
    where
      N : Network
      N = is.shared.network

      decide : ScopeHead → Decision
      decide h = decision of.cast is.shared.network.updates h (book_choice of.rules is.shared.network.book h (is.shared.network.stores head.leader))

      store : s ≡ is.shared.network.stores head.leader
      store = sym can.stands.store ∙ ap (λ (M : Network). M.stores head.leader) (some_same (sym can.stands.runs ∙ is.shared.runs))

      shows : scope_entry of.rules (book_of book) count head s ≡ entry_of (Chooses head.index head.leader (chosen_by (decide head)))
      shows = (λ i. scope_entry of.rules (is.shared.opened i) (is.shared.updates i) head (store i))
          ∙ ap (entry.Scope head.index head.leader)
          (shows_decision of.cast is.shared.network.updates head (book_choice of.rules is.shared.network.book head (is.shared.network.stores head.leader)))

module _ (rules : List PlainRule) (book : Book) (head : ScopeHead) (s : Store) where
  abbrev rule_fits : Option PlainRule → Bool
  rule_fits None = false
  rule_fits (Some rule) = holds rule.cond s (bound head.props) book.environment
      && list_all (λ q. member q head.roles) (mentions rule.body) && nat_lt head.level 16

  by_rule : (n : ℕ) (o : Option PlainRule) → slice_get rules n ≡ o → rule_fits o ≡ true → n < length rules
  by_rule n None at fit = cc
  by_rule n (Some rule) at fit = slice_get_within rules n rule at

  -- a rule that the book chooses has a name
  pub name_within : ChoicesGoOn → (names : List (List ℕ)) → names ≡ names_of rules → (n : ℕ) → choose rules book head s ≡ Some n → n < length names
  name_within goes names same n h =
      let within = by_rule n (slice_get rules n) refl (goes.chosen_fits rules book head s n h) in
      omega (arith, within, ap length same, length-map rules (λ (rule : PlainRule). rule.name))
