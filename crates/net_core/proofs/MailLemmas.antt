-- The mail as a map of what is pending, and what a deed changes of it.
use Rattle.std.proofs.Common.{◌≡◌, List, [], ◌∷◌, ◌++◌, map, true, false, not, Some, None, refl, sym, ap, ◌∙◌, subst}
use Rattle.std.proofs.lemmas.Bool.{and_parts, or_parts, both_ways, cond-true, cond-false, not-true, false_from_ne_true}
use Rattle.dioc_terms.specs.declared.processes.Key.{Key}
use Rattle.dioc_terms.specs.Equality.{key_eq}
use Rattle.dioc_terms.specs.Processes.{Load}
use Rattle.process_steps.specs.Steps.{Deed, Puts, Takes, Sets, Inputs, Picks, Chooses}
use Rattle.marked_laws.proofs.Equality.{key_same, key_itself}
use Rattle.marked_laws.specs.Laws.{key_among, distinct_keys}
use Rattle.marked_laws.specs.MailLaws.{HasDistinctKeys, MailIsAMap}
use Rattle.network_steps.specs.Network.{pending_at, pending_after, no_message}
use Rattle.role_mailbox.specs.declared.mail.Mail.{Mail}
use Rattle.role_mailbox.specs.Pending.{payload_at}
use Rattle.net_core.specs.Deeds.{pending_with, MailAfter}

key_apart : (k j : Key) → key_eq j k ≡ false → key_eq k j ≡ false
key_apart k j h = false_from_ne_true (key_eq k j) (λ same. both_ways (key_eq j k) h (subst (λ x. key_eq x k ≡ true) (key_same k j same) (key_itself k)))

module _ (k : Key) (l : Load) where
  -- a key that isn't among those after a put isn't the key of the put
  last_apart : (j : Key) (pending : List (Key × Load)) → key_among j (map (λ message. message.0) (pending ++ (k, l) ∷ [])) ≡ false → key_eq j k ≡ false
  last_apart j [] h = (or_parts (key_eq j k) false h).0
  last_apart j (message ∷ rest) h = last_apart j rest (or_parts (key_eq j message.0) _ h).1

  -- where no key comes twice after a put, its key wasn't pending before
  pub put_was_free : (pending : List (Key × Load)) → HasDistinctKeys (pending ++ (k, l) ∷ []) → pending_at k pending ≡ None
  put_was_free [] h = refl
  put_was_free (message ∷ rest) h =
      let parts = and_parts (not (key_among message.0 (map (λ message. message.0) (rest ++ (k, l) ∷ [])))) (distinct_keys (map (λ message. message.0) (rest ++ (k, l) ∷ []))) h in
      cond-false (key_eq k message.0) (Some message.1) (pending_at k rest)
      (key_apart k message.0 (last_apart message.0 rest (not-true _ parts.0)))
      ∙ put_was_free rest parts.1

-- what is pending after a deed
pub pending_is_with : MailIsAMap → (d : Deed) (pending : List (Key × Load)) → HasDistinctKeys pending → HasDistinctKeys (pending_after d pending)
    → (other : Key) → pending_at other (pending_after d pending) ≡ pending_with d other (pending_at other pending)
pending_is_with maps (Puts k l) pending before after other = maps.put pending k l other (put_was_free k l pending after)
pending_is_with maps (Takes k x l) pending before after other = maps.taken pending k x l other before
pending_is_with maps (Sets i r x v) pending before after other = refl
pending_is_with maps (Inputs i r x v) pending before after other = refl
pending_is_with maps (Picks i r b) pending before after other = refl
pending_is_with maps (Chooses i r c) pending before after other = refl

-- the mail shows what is pending after the deed
pub mail_now : MailIsAMap → (d : Deed) (pending : List (Key × Load)) (old new : Mail) → HasDistinctKeys pending → HasDistinctKeys (pending_after d pending)
    → ((k : Key) → payload_at k old ≡ pending_at k pending) → MailAfter d old new
    → (k : Key) → payload_at k new ≡ pending_at k (pending_after d pending)
mail_now maps d pending old new before after same changes k =
    changes.at k ∙ ap (pending_with d k) (same k) ∙ sym (pending_is_with maps d pending before after k)

some_none : {A : Type 0} {x : A} → Some x ≡ None → ⊥
some_none h = cc

-- where no message is pending there is none
pub none_pending : (pending : List (Key × Load)) → no_message pending ≡ true → (k : Key) → pending_at k pending ≡ None
none_pending [] h k = refl
none_pending (message ∷ rest) h k = cc

pub some_pending : (pending : List (Key × Load)) → ((k : Key) → pending_at k pending ≡ None) → no_message pending ≡ true
some_pending [] h = refl
some_pending (message ∷ rest) h =
    absurd (some_none (sym (cond-true (key_eq message.0 message.0) (Some message.1) (pending_at message.0 rest) (key_itself message.0)) ∙ h message.0))
