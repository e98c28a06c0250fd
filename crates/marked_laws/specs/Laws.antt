-- What holds of every run of the network of a sound bundle, under every interleaving and every live
-- change.
use Rattle.std.specs.Prelude.{◌≡◌, List, [], ◌∷◌, map, Bool, true, false, ◌&&◌, not, Option, Some, None, IsSome, All}
use Rattle.std.specs.List.{list_all, list_any, filter_map}
use Rattle.dioc_terms.specs.declared.names.Role.{Role}
use Rattle.dioc_terms.specs.declared.processes.Key.{Key}
use Rattle.dioc_terms.specs.declared.entries.Act.{Act}
use Rattle.dioc_terms.specs.declared.entries.Act.TheVariants as act
use Rattle.dioc_terms.specs.declared.entries.Entry.{Entry}
use Rattle.dioc_terms.specs.Bundles.{IsFormed}
use Rattle.dioc_terms.specs.Equality.{key_eq, member}
use Rattle.dioc_terms.specs.Messages.{visible}
use Rattle.dioc_terms.specs.Plain.{PlainRule, PlainBundle, setting}
use Rattle.dioc_terms.specs.Terms.{Term, mentions, self_messages}
use Rattle.connectedness.specs.Connected.{connected}
use Rattle.process_steps.specs.Steps.{ended, offers, is_offered}
use Rattle.global_steps.specs.Running as running
use Rattle.global_steps.specs.Follow.{State, play}
use Rattle.global_steps.specs.Settled.{IsSettled}
use Rattle.network_steps.specs.Network.{Network, network_run, network_ended, act_step}

-- a choreography, or a rule's body, that may run: connected, and no role sends to itself
pub record IsSoundTerm (I : Term) : Type 0 where
  pub connected : connected I ≡ true
  pub no_self_message : self_messages I ≡ []

pub record IsSoundRule (cast : List Role) (rule : PlainRule) : Type 0 where
  pub body : IsSoundTerm rule.body
  pub in_cast : list_all (λ q. member q cast) (mentions rule.body) ≡ true

-- a bundle that may run, whatever its size
pub record IsSound (b : PlainBundle) : Type 0 where
  pub formed : IsFormed b
  pub choreo : IsSoundTerm b.choreo
  pub rules : All (IsSoundRule b.cast) b.rules

-- the choreography plays the entries, and its state then is that of the network
pub record Explains (b : PlainBundle) (trace : List Entry) (N : Network) : Type 0 where
  pub state : State
  pub plays : play b trace ≡ Some state
  pub stores : (q : Role) → state.stores q ≡ N.stores q
  pub book : state.book ≡ N.book
  pub updates : state.updates ≡ N.updates
  pub changes : state.changes ≡ N.changes
  pub entries : state.entries ≡ N.visible
  pub ended : network_ended b.cast N ≡ true → running.ended state.running ≡ true

-- Simulation: the visible part of every run of the network is played by the choreography itself,
-- with equal stores, book, updates and changes; where the network has ended the choreography has.
abbrev pub Simulation : Type 0
Simulation =
    (b : PlainBundle) (H : List Entry) (N : Network) → IsSound b → network_run b H ≡ Some N
    → Explains b (visible H) N

-- Settled: in that play nobody passes the end of a scope or of a turn before all its roles have
-- arrived there.
abbrev pub Settlement : Type 0
Settlement =
    (b : PlainBundle) (H : List Entry) (N : Network) → IsSound b → network_run b H ≡ Some N
    → IsSettled b (visible H)

abbrev pub key_among : Key → List Key → Bool
key_among k keys = list_any (key_eq k) keys

abbrev pub distinct_keys : List Key → Bool
distinct_keys [] = true
distinct_keys (k ∷ ks) = not (key_among k ks) && distinct_keys ks

-- the keys of the takes among these acts
abbrev pub taken_keys : List Act → List Key
taken_keys acts = filter_map key_of acts
  where
    key_of : Act → Option Key
    key_of (act.Take k) = Some k
    key_of _ = None

-- Unique keys: no two pending messages have one key, and no two ready receives of one role have one
-- key.
abbrev pub UniqueKeys : Type 0
UniqueKeys =
    (b : PlainBundle) (H : List Entry) (N : Network) → IsSound b → network_run b H ≡ Some N →
    (distinct_keys (map (λ message. message.0) N.pending) ≡ true)
    × ((q : Role) → distinct_keys (taken_keys (offers q (N.processes q))) ≡ true)

-- a role of the cast offers an act that the network can do: it isn't a change, and it isn't a take
-- without its message
pub record HasStep (b : PlainBundle) (N : Network) : Type 0 where
  pub role : Role
  pub act : Act
  pub in_cast : member role b.cast ≡ true
  pub offered : is_offered act (offers role (N.processes role)) ≡ true
  pub defined : IsSome (act_step (setting b) N role act)

-- Progress: a network that has not ended has a step of a role.
abbrev pub Progress : Type 0
Progress =
    (b : PlainBundle) (H : List Entry) (N : Network) → IsSound b → network_run b H ≡ Some N
    → network_ended b.cast N ≡ false → HasStep b N

-- Nothing left over: where every process has ended, no message is pending.
abbrev pub NothingLeft : Type 0
NothingLeft =
    (b : PlainBundle) (H : List Entry) (N : Network) → IsSound b → network_run b H ≡ Some N →
    list_all (λ q. ended (N.processes q)) b.cast ≡ true → N.pending ≡ []
