-- What the mail shows of the entries of its map.
use Rattle.std.proofs.Common.{◌≡◌, ◌+◌, suc, List, [], ◌∷◌, map, length, Bool, true, false, cond, Option, None, Some, is_some, refl, sym, ap, subst, ◌∙◌, arith}
use Rattle.std.specs.Bool.{OnFalse}
use Rattle.std.proofs.lemmas.Bool.{cond-true}
use Rattle.std.proofs.lemmas.List.{length-map, nil_from_length}
use Rattle.std.specs.List.{IsDistinct}
use Rattle.std.specs.Map.{keys_of, lookup}
use Rattle.std.specs.Option.{option_map}
use Rattle.indexmap.specs.IndexMap.{get, insert_entry, UpdatesBy}
use Rattle.dioc_terms.specs.declared.processes.Key.{Key}
use Rattle.dioc_terms.specs.declared.processes.Payload.{Payload}
use Rattle.dioc_terms.specs.Equality.{key_eq}
use Rattle.dioc_terms.specs.EqualityLemmas.{equivalence_from_Decides, key_eq-decides}
use Rattle.dioc_terms.specs.Processes.{Load, load}
use Rattle.role_mailbox.specs.Pending.{messages, payload_at, ChangesOnly, HoldsKeysOnce}
use Rattle.role_mailbox.specs.declared.mail.Mail.{Mail}

abbrev shown : List (Key × Payload) → List (Key × Load)
shown entries = map (λ entry. (entry.0, load entry.1)) entries

option_map-cond : (b : Bool) (here there : Option Payload) → option_map load (cond b here there) ≡ cond b (option_map load here) (option_map load there)
option_map-cond true here there = refl
option_map-cond false here there = refl

lookup-shown : (key : Key) (entries : List (Key × Payload)) → lookup (key_eq key) (shown entries) ≡ option_map load (lookup (key_eq key) entries)
lookup-shown key [] = refl
lookup-shown key (entry ∷ entries) =
    ap (cond (key_eq key entry.0) (Some (load entry.1))) (lookup-shown key entries)
    ∙ sym (option_map-cond (key_eq key entry.0) (Some entry.1) (lookup (key_eq key) entries))

keys-shown : (entries : List (Key × Payload)) → keys_of (shown entries) ≡ keys_of entries
keys-shown [] = refl
keys-shown (entry ∷ entries) = ap (λ keys. entry.0 ∷ keys) (keys-shown entries)

-- what is pending for a key is what the map has there
pub payload_in_map : (key : Key) (mail : Mail) → payload_at key mail ≡ option_map load (get key_eq mail.pending key)
payload_in_map key mail = lookup-shown key mail.pending.entries

-- a payload is pending for a key exactly where the map has the key
pub holds_shown : (key : Key) (mail : Mail) (holds : Bool) → holds ≡ is_some (get key_eq mail.pending key) → holds ≡ is_some (payload_at key mail)
holds_shown key mail holds has = has ∙ sym (is_some-map (get key_eq mail.pending key)) ∙ sym (ap is_some (payload_in_map key mail))
  where
    is_some-map : (found : Option Payload) → is_some (option_map load found) ≡ is_some found
    is_some-map None = refl
    is_some-map (Some payload) = refl

pub free_shown : (key : Key) (mail : Mail) (holds : Bool) → holds ≡ is_some (get key_eq mail.pending key) → OnFalse holds (payload_at key mail ≡ None)
free_shown key mail holds has = free holds (payload_at key mail) (holds_shown key mail holds has)
  where
    free : (b : Bool) (found : Option Load) → b ≡ is_some found → OnFalse b (found ≡ None)
    free true found h = tt
    free false None h = refl
    free false (Some payload) h = cc

-- as many messages as entries
pub length-messages : (mail : Mail) → length (messages mail) ≡ length mail.pending.entries
length-messages mail = length-map mail.pending.entries (λ entry. (entry.0, load entry.1))

-- a new entry of the map is one message more
pub put_counts : (old new : List (Key × Payload)) (key : Key) (payload : Payload) → lookup (key_eq key) (shown old) ≡ None
    → new ≡ insert_entry key_eq old key payload → length (shown new) ≡ length (shown old) + 1
put_counts old new key payload free inserted = ap (λ entries. length (shown entries)) inserted ∙ one_more old free
  where
    one_more : (entries : List (Key × Payload)) → lookup (key_eq key) (shown entries) ≡ None
        → length (shown (insert_entry key_eq entries key payload)) ≡ length (shown entries) + 1
    one_more [] none = refl
    one_more (entry ∷ entries) none = by (key_eq key entry.0) none (one_more entries)
      where
        by : (b : Bool) → cond b (Some (load entry.1)) (lookup (key_eq key) (shown entries)) ≡ None
            → (lookup (key_eq key) (shown entries) ≡ None → length (shown (insert_entry key_eq entries key payload)) ≡ length (shown entries) + 1)
            → length (shown (cond b ((entry.0, payload) ∷ entries) (entry ∷ insert_entry key_eq entries key payload))) ≡ suc (length (shown entries)) + 1
        by true found rest = cc
        by false none rest = let more = rest none in omega arith

-- a map whose keys are distinct shows distinct keys
pub distinct_shown : (mail : Mail) → IsDistinct key_eq (keys_of mail.pending.entries) → HoldsKeysOnce mail
distinct_shown mail distinct = subst (IsDistinct key_eq) (sym (keys-shown mail.pending.entries)) distinct

-- where one key of the map is changed, one key of the mail is
pub change_shown : (old new : Mail) (key : Key) (payload : Option Payload)
    → ((other : Key) → get key_eq new.pending other ≡ cond (key_eq key other) payload (get key_eq old.pending other))
    → ChangesOnly old new key (option_map load payload)
change_shown old new key payload changed = record {
  at = λ other.
      payload_in_map other new
      ∙ ap (option_map load) (changed other)
      ∙ option_map-cond (key_eq key other) payload (get key_eq old.pending other)
      ∙ ap (λ same. cond same (option_map load payload) (option_map load (get key_eq old.pending other))) ((equivalence_from_Decides key_eq key_eq-decides).symm key other)
      ∙ ap (cond (key_eq other key) (option_map load payload)) (sym (payload_in_map other old));
}

-- where the map loses one key, so does the mail
pub taken_shown : (old new : Mail) (key : Key) → UpdatesBy key_eq (key_eq key) old.pending new.pending None → ChangesOnly old new key None
taken_shown old new key updates = change_shown old new key None updates.0

-- where the map gains one key, so does the mail
pub put_shown : (old new : Mail) (key : Key) (payload : Payload) → UpdatesBy key_eq (key_eq key) old.pending new.pending (Some payload)
    → ChangesOnly old new key (Some (load payload))
put_shown old new key payload updates = change_shown old new key (Some payload) updates.0

-- what is shown is empty exactly where nothing is pending for any key
pub nothing_at : (mail : Mail) → length (messages mail) ≡ 0 → (key : Key) → payload_at key mail ≡ None
nothing_at mail none key = ap (lookup (key_eq key)) (nil_from_length (messages mail) none)

none_shown : (entries : List (Key × Payload)) → ((key : Key) → lookup (key_eq key) (shown entries) ≡ None) → length (shown entries) ≡ 0
none_shown [] none = refl
none_shown (entry ∷ entries) none =
    let itself = (equivalence_from_Decides key_eq key_eq-decides).refl entry.0 in
    absurd (something (sym (cond-true (key_eq entry.0 entry.0) (Some (load entry.1)) (lookup (key_eq entry.0) (shown entries)) itself) ∙ none entry.0))
  where
    something : {payload : Load} → Some payload ≡ None → ⊥
    something h = cc

pub none_at : (mail : Mail) → ((key : Key) → payload_at key mail ≡ None) → length (messages mail) ≡ 0
none_at mail none = none_shown mail.pending.entries none

-- by these a key is pending or free
pub ruleset holding_rules = (holds_shown, free_shown)
