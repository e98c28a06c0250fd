-- Two mails with the same messages are alike to a step.
use Rattle.std.proofs.Common.{◌≡◌, ℕ, List, [], ◌∷◌, ◌++◌, refl, sym, ap, ◌∙◌}
use Rattle.std.specs.Map.{lookup}
use Rattle.std.specs.Prelude.{is_some}
use Rattle.dioc_terms.specs.declared.entries.Act.{Act}
use Rattle.dioc_terms.specs.declared.entries.Act.TheVariants as act
use Rattle.dioc_terms.specs.declared.entries.Entry.{Entry}
use Rattle.dioc_terms.specs.declared.names.Role.{Role}
use Rattle.dioc_terms.specs.declared.processes.Key.{Key}
use Rattle.dioc_terms.specs.Equality.{key_eq}
use Rattle.dioc_terms.specs.Plain.{PlainRule}
use Rattle.dioc_terms.specs.Rules.{Book}
use Rattle.dioc_terms.specs.Stores.{Store}
use Rattle.dpoc_process.specs.LocalStates.{LocalState, step_at}
use Rattle.process_steps.specs.Laws.{is_done}
use Rattle.process_steps.specs.Steps.{entry_of}
use Rattle.role_mailbox.specs.declared.mail.Mail.{Mail}
use Rattle.role_mailbox.specs.Pending.{messages, payload_at}
use Rattle.net_core.specs.Acts.{given_from_mail, CanStep}
use Rattle.net_core.specs.Deeds.{given_to, is_there, message_given, pending_with, ActDone}

module _ (old new : Mail) (same : messages new ≡ messages old) where
  pub payload_same : (k : Key) → payload_at k new ≡ payload_at k old
  payload_same k = ap (lookup (key_eq k)) same

  pub there_same : (a : Act) → is_there a new ≡ is_there a old
  there_same (act.Take k) = ap is_some (payload_same k)
  there_same _ = refl

  in_same : (a : Act) → given_from_mail a new ≡ given_from_mail a old
  in_same (act.Take k) = ap message_given (payload_same k)
  in_same _ = refl

  to_same : (cast : List Role) (rules : List PlainRule) (book : Book) (count : ℕ) (s : Store) (a : Act)
      → given_to cast rules new book count s a ≡ given_to cast rules old book count s a
  to_same cast rules book count s (act.Take k) = ap message_given (payload_same k)
  to_same cast rules book count s _ = refl

  pub can_same : (s : LocalState) (a : Act) → CanStep s a old → CanStep s a new
  can_same s a can = record {
    can = λ plain offers there. ap (λ g. is_done (step_at s a g)) (in_same a) ∙ can.can plain offers (sym (there_same a) ∙ there);
    free = λ k is offers. payload_same k ∙ can.free k is offers;
  }

  -- what was done with the one was done with the other
  pub done_same : (cast : List Role) (rules : List PlainRule) (book : Book) (count : ℕ) (a : Act) (s : LocalState) (H G : List Entry) (s' : LocalState) (mail : Mail) (count' : ℕ) (H' : List Entry)
      → G ≡ H → ActDone a (λ t. given_to cast rules new book count t a) s new count G s' mail count' H'
      → ActDone a (λ t. given_to cast rules old book count t a) s old count H s' mail count' H'
  done_same cast rules book count a s H G s' mail count' H' history did = record {
    offers = did.offers;
    there = sym (there_same a) ∙ did.there;
    done = record {
      deed = did.done.deed;
      left = did.done.left;
      does = ap (step_at s a) (sym (to_same cast rules book count s.store a)) ∙ did.done.does;
      becomes = did.done.becomes;
      mail = record { at = λ k. did.done.mail.at k ∙ ap (pending_with did.done.deed k) (payload_same k) };
      updates = did.done.updates;
      entries = did.done.entries ∙ ap (λ l. l ++ entry_of did.done.deed ∷ []) history;
    };
  }
