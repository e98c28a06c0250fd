-- What is shown of an act before it is done, and what its deed then is.
use Rattle.std.proofs.Common.{◌≡◌, ℕ, List, [], ◌∷◌, ◌++◌, true, false, Option, Some, None, is_some, IsSome, refl, sym, ap, ◌∙◌, subst}
use Rattle.dioc_terms.specs.declared.entries.Act.{Act}
use Rattle.dioc_terms.specs.declared.entries.Act.TheVariants as act
use Rattle.dioc_terms.specs.declared.entries.Entry.{Entry}
use Rattle.dioc_terms.specs.declared.processes.Key.{Key}
use Rattle.dioc_terms.specs.declared.names.Role.{Role}
use Rattle.dioc_terms.specs.Plain.{PlainRule}
use Rattle.dioc_terms.specs.Rules.{Book}
use Rattle.dioc_terms.specs.Stores.{Store}
use Rattle.dioc_terms.specs.Attempts.{Attempt, Stuck, Does}
use Rattle.dioc_terms.specs.Messages.{act_of}
use Rattle.dioc_terms.specs.Processes.{Process, Load}
use Rattle.dpoc_process.specs.declared.runs.Shown.{Shown}
use Rattle.dpoc_process.specs.RoleSteps.{entry_before, sent, IsShown, IsStep}
use Rattle.dpoc_process.specs.Shows.{message_shown}
use Rattle.dpoc_process.specs.LocalStates.{LocalState, step_at}
use Rattle.global_steps.specs.Follow.{updates_after}
use Rattle.process_steps.specs.Laws.{is_done, StepsShowTheirActs}
use Rattle.process_steps.specs.Steps.{Deed, Puts, Takes, Sets, Inputs, Picks, Chooses, Given, entry_of}
use Rattle.role_mailbox.specs.declared.mail.Mail.{Mail}
use Rattle.role_mailbox.specs.Pending.{payload_at}
use Rattle.marked_laws.proofs.Shapes.{none_some, some_same}
use Rattle.net_core.specs.Acts.{given_from_mail, is_take, put_key, put_with, taken_with, TakenBy, PutBy}
use Rattle.net_core.specs.Deeds.{given_to, asks_scope, is_there, pending_with, MailAfter, IsDone}

-- what is done where something is done
pub deed_there : (m : Attempt Deed Process) → is_done m ≡ true → (d : Deed) × (P : Process) × (m ≡ Does d P)
deed_there Stuck h = cc
deed_there (Does d P) h = (d, P, refl)

not_scope : (a c : Act) → Some a ≡ Some c → asks_scope a ≡ true → asks_scope c ≡ false → ⊥
not_scope a c same is isnt = cc (ap asks_scope (some_same same))

-- a deed that isn't a choice for a scope has its entry before it is done
pub entry_known : (d : Deed) (a : Act) → act_of (entry_of d) ≡ Some a → asks_scope a ≡ false → entry_before d ≡ Some (entry_of d)
entry_known (Chooses i r c) a is other = absurd (not_scope (act.Scope i) a is refl other)
entry_known (Puts k l) a is other = refl
entry_known (Takes k x l) a is other = refl
entry_known (Sets i r x v) a is other = refl
entry_known (Inputs i r x v) a is other = refl
entry_known (Picks i r b) a is other = refl

-- and it is no update
pub no_update : (d : Deed) (a : Act) (n : ℕ) → act_of (entry_of d) ≡ Some a → asks_scope a ≡ false → n ≡ updates_after (entry_of d) n
no_update (Chooses i r c) a n is other = absurd (not_scope (act.Scope i) a is refl other)
no_update (Puts k l) a n is other = refl
no_update (Takes k x l) a n is other = refl
no_update (Sets i r x v) a n is other = refl
no_update (Inputs i r x v) a n is other = refl
no_update (Picks i r b) a n is other = refl

-- a deed changes of the mail what its act takes and puts
pub changed_by : (d : Deed) (a : Act) (k : Key) (before : Option Load) → act_of (entry_of d) ≡ Some a
    → put_with a (sent d) k (taken_with a k before) ≡ pending_with d k before
changed_by (Puts j l) a k before is = ap (λ (c : Act). put_with c (Some l) k (taken_with c k before)) (sym (some_same is))
changed_by (Takes j x l) a k before is = ap (λ (c : Act). put_with c None k (taken_with c k before)) (sym (some_same is))
changed_by (Sets i r x v) a k before is = ap (λ (c : Act). put_with c None k (taken_with c k before)) (sym (some_same is))
changed_by (Inputs i r x v) a k before is = ap (λ (c : Act). put_with c None k (taken_with c k before)) (sym (some_same is))
changed_by (Picks i r b) a k before is = ap (λ (c : Act). put_with c None k (taken_with c k before)) (sym (some_same is))
changed_by (Chooses i r c) a k before is = ap (λ (c : Act). put_with c None k (taken_with c k before)) (sym (some_same is))

pub mail_changed : (d : Deed) (a : Act) (sends : Option Load) (old mid new : Mail) → act_of (entry_of d) ≡ Some a → sends ≡ sent d
    → TakenBy a old mid → PutBy a sends mid new → MailAfter d old new
mail_changed d a sends old mid new is same taken put = record {
  at = λ k. put.at k ∙ ap (put_with a sends k) (taken.at k) ∙ ap (λ s. put_with a s k (taken_with a k (payload_at k old))) same ∙ changed_by d a k (payload_at k old) is;
}

-- what comes to an act that isn't a scope's, by the mail alone
pub given_plain : (cast : List Role) (rules : List PlainRule) (mail : Mail) (book : Book) (count : ℕ) (s : Store) (a : Act) → asks_scope a ≡ false
    → given_from_mail a mail ≡ given_to cast rules mail book count s a
given_plain cast rules mail book count s (act.Scope i) h = cc
given_plain cast rules mail book count s (act.Take k) h = refl
given_plain cast rules mail book count s _ h = refl

-- what a scope's act needs is there
pub scope_there : (a : Act) (mail : Mail) → asks_scope a ≡ true → is_there a mail ≡ true
scope_there (act.Scope i) mail h = refl
scope_there _ mail h = cc

sends_of_put : (message : Option Load) (d : Deed) (k : Key) → message ≡ sent d → act_of (entry_of d) ≡ Some (act.Put k) → IsSome message
sends_of_put (Some l) d k same is = refl
sends_of_put None (Puts j l) k same is = absurd (none_some same)
sends_of_put None (Takes j x l) k same is = cc
sends_of_put None (Sets i r x v) k same is = cc
sends_of_put None (Inputs i r x v) k same is = cc
sends_of_put None (Picks i r b) k same is = cc
sends_of_put None (Chooses i r c) k same is = cc

-- an act that isn't a take leaves the mail as it is
pub leaves_mail : (a : Act) (mail : Mail) → is_take a ≡ false → TakenBy a mail mail
leaves_mail a mail other = record { at = λ k. kept a k (payload_at k mail) other }
  where
    kept : (a : Act) (k : Key) (before : Option Load) → is_take a ≡ false → before ≡ taken_with a k before
    kept (act.Take j) k before other = cc
    kept _ k before other = refl

-- and so does one that isn't a put
pub puts_none : (a : Act) (sends : Option Load) (mail : Mail) → put_key a ≡ None → PutBy a sends mail mail
puts_none a sends mail other = record { at = λ k. kept a k (payload_at k mail) other }
  where
    kept : (a : Act) (k : Key) (before : Option Load) → put_key a ≡ None → before ≡ put_with a sends k before
    kept (act.Put j) k before other = cc
    kept _ k before other = refl

module _ (shows : StepsShowTheirActs) (s : LocalState) (a : Act) (p : Shown) (prepared : IsShown s a p) where
  act_shown : (given : Given) (d : Deed) (P : Process) → step_at s a given ≡ Does d P → act_of (entry_of d) ≡ Some a
  act_shown given d P does = shows s.role s.store s.process a given d P does

  -- what isn't a scope's has an entry before it is done
  pub has_entry : (given : Given) → is_done (step_at s a given) ≡ true → asks_scope a ≡ false → IsSome p.entry
  has_entry given can plain =
      let did = deed_there (step_at s a given) can in
      ap is_some (prepared.entry given did.0 did.1 did.2 ∙ entry_known did.0 a (act_shown given did.0 did.1 did.2) plain)

  -- what is put has a message
  pub put_sends : (given : Given) → is_done (step_at s a given) ≡ true → (k : Key) → a ≡ act.Put k → IsSome (message_shown p)
  put_sends given can k same =
      let did = deed_there (step_at s a given) can in
      sends_of_put (message_shown p) did.0 k (prepared.message given did.0 did.1 did.2) (act_shown given did.0 did.1 did.2 ∙ ap Some same)

  -- a role that made its step, with what was shown of it before, did the act
  pub committed : (given : Given) → asks_scope a ≡ false → (s' : LocalState) → IsStep s a given s' → (e : Entry) → p.entry ≡ Some e
      → (old mid new : Mail) → TakenBy a old mid → PutBy a (message_shown p) mid new
      → (H H' : List Entry) → H' ≡ H ++ e ∷ [] → (count : ℕ) → IsDone a given s old count H s' new count H'
  committed given plain s' stepped e entry old mid new taken put H H' pushed count =
      let shown = act_shown given stepped.deed stepped.left stepped.does in
      let entry_is : e ≡ entry_of stepped.deed =
      some_same (sym entry ∙ prepared.entry given stepped.deed stepped.left stepped.does ∙ entry_known stepped.deed a shown plain) in
      record {
        deed = stepped.deed;
        left = stepped.left;
        does = stepped.does;
        becomes = stepped.becomes;
        mail = mail_changed stepped.deed a (message_shown p) old mid new shown (prepared.message given stepped.deed stepped.left stepped.does) taken put;
        updates = no_update stepped.deed a count shown plain;
        entries = pushed ∙ ap (λ x. H ++ x ∷ []) entry_is;
      }
