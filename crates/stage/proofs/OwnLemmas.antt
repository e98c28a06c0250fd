-- What a role does alone: it needs nothing from outside, and changes nothing that the roles share but the history.
use Rattle.std.proofs.Common.{◌≡◌, ℕ, Some, refl, subst}
use Rattle.dioc_terms.specs.declared.entries.Act.{Act}
use Rattle.dioc_terms.specs.declared.entries.Entry.{Entry}
use Rattle.dioc_terms.specs.declared.entries.Entry.TheVariants as entry
use Rattle.dioc_terms.specs.declared.names.Role.{Role}
use Rattle.dioc_terms.specs.Messages.{act_of}
use Rattle.dioc_terms.specs.Plain.{Setting}
use Rattle.global_steps.specs.Follow.{updates_after}
use Rattle.marked_laws.proofs.Shapes.{none_some, some_same}
use Rattle.network_steps.specs.Network.{Network, given_at}
use Rattle.process_steps.specs.Steps.{Deed, Alone, entry_of}
use Rattle.role_mailbox.specs.declared.mail.Mail.{Mail}
use Rattle.net_core.specs.Deeds.{MailAfter}
use Rattle.stage.specs.Roles.{own_deed}

pub record IsOwn (e : Entry) (d : Deed) : Type 0 where
  pub shows : entry_of d ≡ e
  pub mail : (mail : Mail) → MailAfter d mail mail
  pub updates : (n : ℕ) → n ≡ updates_after (entry_of d) n
  pub alone : (b : Setting) (N : Network) (q : Role) (a : Act) → act_of (entry_of d) ≡ Some a → Alone ≡ given_at b N q a

pub is_own : (e : Entry) (d : Deed) → own_deed e ≡ Some d → IsOwn e d
is_own (entry.Set i r x v) d h = subst (IsOwn (entry.Set i r x v)) (some_same h) (record {
  shows = refl;
  mail = λ mail. record { at = λ k. refl };
  updates = λ n. refl;
  alone = λ b N q a acts. subst (λ c. Alone ≡ given_at b N q c) (some_same acts) refl;
})
is_own (entry.Input i r x v) d h = subst (IsOwn (entry.Input i r x v)) (some_same h) (record {
  shows = refl;
  mail = λ mail. record { at = λ k. refl };
  updates = λ n. refl;
  alone = λ b N q a acts. subst (λ c. Alone ≡ given_at b N q c) (some_same acts) refl;
})
is_own (entry.Pick i r t) d h = subst (IsOwn (entry.Pick i r t)) (some_same h) (record {
  shows = refl;
  mail = λ mail. record { at = λ k. refl };
  updates = λ n. refl;
  alone = λ b N q a acts. subst (λ c. Alone ≡ given_at b N q c) (some_same acts) refl;
})
is_own (entry.Put k n) d h = absurd (none_some h)
is_own (entry.Take k x) d h = absurd (none_some h)
is_own (entry.Scope i r c) d h = absurd (none_some h)
is_own (entry.Add name) d h = absurd (none_some h)
is_own (entry.Drop name) d h = absurd (none_some h)
is_own (entry.Env x v) d h = absurd (none_some h)
