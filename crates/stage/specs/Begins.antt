-- What the begin of a scope asks of a home, and what it makes of it.
use Rattle.std.specs.Prelude.{◌≡◌, ℕ, suc, List, Option, Some, option_map}
use Rattle.dioc_terms.specs.declared.entries.Act.TheVariants as act
use Rattle.dioc_terms.specs.declared.entries.Chosen.{Chosen}
use Rattle.dioc_terms.specs.declared.entries.Chosen.TheVariants as chosen
use Rattle.dioc_terms.specs.declared.entries.Entry.{Entry}
use Rattle.dioc_terms.specs.declared.entries.Entry.TheVariants as entry
use Rattle.dioc_terms.specs.declared.processes.ScopeHead.{ScopeHead}
use Rattle.dioc_terms.specs.Plain.{PlainBundle, PlainRule}
use Rattle.dioc_terms.specs.Processes.{Process}
use Rattle.dioc_terms.specs.Rules.{Book, choose}
use Rattle.dioc_terms.specs.Stores.{Store}
use Rattle.dpoc_process.specs.Acting.{Lead, acting_lead}
use Rattle.global_steps.specs.Follow.{BookChoice, KeepsBody, TakesRule, book_choice}
use Rattle.network_steps.specs.Network.{Network}
use Rattle.net_core.specs.Nets.{network_at}
use Rattle.stage.specs.Homes.{HomeState}
use Rattle.stage.specs.Roles.{RoleStandsAt}

-- after the history the head's leader leads the scope of this head, and can begin it; the store is
-- the leader's
pub record CanBegin (b : PlainBundle) (H : List Entry) (head : ScopeHead) (s : Store) : Type 0 where
  pub process : Process
  pub stands : RoleStandsAt b H head.leader process s
  pub lead : Lead
  pub leads : acting_lead (record { role = head.leader; process = process; store = s })
      (act.Scope head.index) ≡ Some lead
  pub same : lead.head ≡ head

-- the rule that a book chooses for a scope, by its number, and the number of the update after so
-- many
abbrev pub update_of : List PlainRule → Book → ℕ → ScopeHead → Store → Option (ℕ × ℕ)
update_of rules book count head s = option_map (λ n. (n, suc count)) (choose rules book head s)

-- what the entry of a scope shows of what the book says, after so many updates
abbrev pub shown_choice : ℕ → BookChoice → Chosen
shown_choice count KeepsBody = chosen.Keep
shown_choice count (TakesRule name body) = chosen.Rule name (suc count)

-- the entry of the begin of a scope, by what the book says after so many updates
abbrev pub scope_entry : List PlainRule → Book → ℕ → ScopeHead → Store → Entry
scope_entry rules book count head s =
    entry.Scope head.index head.leader (shown_choice count (book_choice rules book head s))

-- the network after the history of the home
abbrev pub network_in : HomeState → Network
network_in home = network_at home.bundle home.history

-- the update that the book of the home chooses for the scope, none where the scope keeps its body
abbrev pub update_in : HomeState → ScopeHead → Store → Option (ℕ × ℕ)
update_in home head s =
    update_of home.bundle.rules (network_in home).book (network_in home).updates head s

-- the entry of the begin of the scope in the home
abbrev pub begin_in : HomeState → ScopeHead → Store → Entry
begin_in home head s =
    scope_entry home.bundle.rules (network_in home).book (network_in home).updates head s
