-- The pending messages as a map: what is pending for each key. Their order doesn't show while no
-- two have one key.
use Rattle.std.specs.Prelude.{◌≡◌, ℕ, List, map, true, Option, Some, None, if◌then◌else◌}
use Rattle.dioc_terms.specs.declared.processes.Key.{Key}
use Rattle.dioc_terms.specs.Equality.{key_eq}
use Rattle.dioc_terms.specs.Processes.{Load}
use Rattle.process_steps.specs.Steps.{Puts, Takes}
use Rattle.marked_laws.specs.Laws.{distinct_keys}
use Rattle.network_steps.specs.Network.{pending_at, pending_after, no_message}

abbrev pub HasDistinctKeys : List (Key × Load) → Type 0
HasDistinctKeys pending = distinct_keys (map (λ message. message.0) pending) ≡ true

pub record MailIsAMap : Type 0 where
  -- a put under a key that isn't pending sets it, and a take of a key unsets it; no other key
  -- changes
  pub put : (pending : List (Key × Load)) (k : Key) (l : Load) (other : Key) → pending_at k pending
      ≡ None
      → pending_at other (pending_after (Puts k l) pending)
      ≡ (if key_eq other k then Some l else pending_at other pending)
  pub taken : (pending : List (Key × Load)) (k : Key) (x : Option (List ℕ)) (l : Load) (other : Key)
      → HasDistinctKeys pending
      → pending_at other (pending_after (Takes k x l) pending)
      ≡ (if key_eq other k then None else pending_at other pending)
  -- no key comes twice by that
  pub put_distinct : (pending : List (Key × Load)) (k : Key) (l : Load) → HasDistinctKeys pending
      → pending_at k pending ≡ None
      → HasDistinctKeys (pending_after (Puts k l) pending)
  pub take_distinct : (pending : List (Key × Load)) (k : Key) (x : Option (List ℕ)) (l : Load)
      → HasDistinctKeys pending
      → HasDistinctKeys (pending_after (Takes k x l) pending)
  -- no message is pending where none is pending for any key
  pub empty : (pending : List (Key × Load)) → ((k : Key) → pending_at k pending ≡ None)
      → no_message pending ≡ true
