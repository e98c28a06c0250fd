-- What the mail shows: its messages, what is pending for a key, and how many messages more it has
-- room for.
use Rattle.std.specs.Prelude.{◌≡◌, ℕ, List, map, Option, if◌then◌else◌}
use Rattle.std.specs.List.{IsDistinct}
use Rattle.std.specs.Map.{keys_of, lookup}
use Rattle.indexmap.specs.IndexMap.{spare}
use Rattle.dioc_terms.specs.declared.processes.Key.{Key}
use Rattle.dioc_terms.specs.Equality.{key_eq}
use Rattle.dioc_terms.specs.Processes.{Load, load}
use Rattle.role_mailbox.specs.declared.mail.Mail.{Mail}

-- in an order that means nothing
abbrev pub messages : Mail → List (Key × Load)
messages mail = map (λ entry. (entry.0, load entry.1)) mail.pending.entries

-- what a receive of this key would take
abbrev pub payload_at : Key → Mail → Option Load
payload_at key mail = lookup (key_eq key) (messages mail)

-- so many messages more can be put with no memory taken
abbrev pub room : Mail → ℕ
room mail = spare mail.pending

-- afterwards this is pending for the key, and for each other key what was pending before
pub record ChangesOnly (old new : Mail) (key : Key) (payload : Option Load) : Type 0 where
  pub at : (other : Key) → payload_at other new
      ≡ (if key_eq other key then payload else payload_at other old)

-- no two messages have one key
abbrev pub HoldsKeysOnce : Mail → Type 0
HoldsKeysOnce mail = IsDistinct key_eq (keys_of (messages mail))
