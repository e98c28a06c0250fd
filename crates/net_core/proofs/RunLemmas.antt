-- A step or a change after a run is one more step of it.
use Rattle.std.proofs.Common.{◌≡◌, List, [], ◌∷◌, ◌++◌, true, Option, Some, None, IsSome, option_and_then, refl, ap, ap₂, ◌∙◌}
use Rattle.std.proofs.lemmas.Bool.{cond-true}
use Rattle.dioc_terms.specs.declared.names.Role.{Role}
use Rattle.dioc_terms.specs.declared.entries.Act.{Act}
use Rattle.dioc_terms.specs.declared.entries.Act.TheVariants as act
use Rattle.dioc_terms.specs.declared.entries.Entry.{Entry}
use Rattle.dioc_terms.specs.declared.processes.Key.{Key}
use Rattle.dioc_terms.specs.Attempts.{Attempt, Stuck, Does}
use Rattle.dioc_terms.specs.Equality.{entry_eq}
use Rattle.dioc_terms.specs.Messages.{doer, act_of}
use Rattle.dioc_terms.specs.Plain.{PlainBundle, Setting, setting}
use Rattle.dioc_terms.specs.Processes.{Process, Load}
use Rattle.marked_laws.proofs.Equality.{entry_itself}
use Rattle.marked_laws.proofs.Extension.{extensions}
use Rattle.marked_laws.proofs.Networks.{deed_outcome}
use Rattle.marked_laws.proofs.Plays.{entry_doer}
use Rattle.marked_laws.proofs.Premise.{Known}
use Rattle.marked_laws.specs.Laws.{IsSound}
use Rattle.network_steps.specs.Network.{Network, NextNetwork, act_step, change_step, given_at, network_after, network_run, network_start, network_step, pending_at}
use Rattle.net_laws.proofs.MoveLemmas.{reached, deed_of, mail_of_tags, MailOfTags}
use Rattle.net_laws.proofs.ScriptLemmas.{change_is_nobodys}
use Rattle.network_steps.specs.Schedule.{is_ready}
use Rattle.process_steps.specs.Laws.{given_fits, is_done, load_fits, OffersAreSteps}
use Rattle.process_steps.specs.Steps.{Deed, Given, Alone, Got, offers, is_offered, step}
use Rattle.std.specs.Prelude.{is_some}
use Rattle.net_core.specs.StepLaws.{StepsRun}

-- the network after an entry, by who did it
abbrev step_by : Setting → Network → Entry → Option Role → Option Act → Option Network
step_by b N e (Some r) (Some a) = network_after e (act_step b N r a)
step_by b N e _ _ = network_after e (change_step b N)

after_own : (outcome : NextNetwork) (o : Option NextNetwork) → o ≡ Some outcome → network_after outcome.entry o ≡ Some outcome.network
after_own outcome o h = ap (network_after outcome.entry) h ∙ cond-true (entry_eq outcome.entry outcome.entry) (Some outcome.network) None (entry_itself outcome.entry)

-- one step more
one_more : (b : PlainBundle) (H : List Entry) (N M : Network) (e : Entry) → network_run b H ≡ Some N → network_step (setting b) N e ≡ Some M
    → network_run b (H ++ e ∷ []) ≡ Some M
one_more b H N M e runs steps =
    extensions.run_one (setting b) (network_start b) H e
    ∙ ap (option_and_then (λ L. network_step (setting b) L e)) runs ∙ steps

abbrev message_given : Option Load → Given
message_given None = Alone
message_given (Some l) = Got l

take_fits : (k : Key) (o : Option Load) → is_some o ≡ true → ((l : Load) → o ≡ Some l → load_fits k.tag l ≡ true) → given_fits (act.Take k) (message_given o) ≡ true
take_fits k None ready fits = cc
take_fits k (Some l) ready fits = fits l refl

fits_given : (b : Setting) (N : Network) (q : Role) (a : Act) → MailOfTags N → is_ready N a ≡ true → given_fits a (given_at b N q a) ≡ true
fits_given b N q (act.Take k) pending ready = take_fits k (pending_at k N.pending) ready (pending k)
fits_given b N q (act.Scope i) pending ready = refl
fits_given b N q _ pending ready = refl

done_outcome : (N : Network) (q : Role) (m : Attempt Deed Process) → is_done m ≡ true → IsSome (deed_outcome N q m)
done_outcome N q Stuck h = cc
done_outcome N q (Does d P) h = refl

module _ (known : Known) (offered_steps : OffersAreSteps) where
  act_runs : (b : PlainBundle) (H : List Entry) (N : Network) (q : Role) (a : Act) (outcome : NextNetwork) → IsSound b → network_run b H ≡ Some N
      → act_step (setting b) N q a ≡ Some outcome → network_run b (H ++ outcome.entry ∷ []) ≡ Some outcome.network
  act_runs b H N q a outcome sound runs h =
      let at = reached known b sound H N runs in
      let did = deed_of known b sound N at.0 at.1 q a outcome h in
      one_more b H N outcome.network outcome.entry runs
      (ap₂ (step_by (setting b) N outcome.entry) (ap doer did.entry ∙ entry_doer did.deed ∙ ap Some did.who) (ap act_of did.entry ∙ did.act)
      ∙ after_own outcome (act_step (setting b) N q a) h)

  change_runs : (b : PlainBundle) (H : List Entry) (N : Network) (outcome : NextNetwork) → IsSound b → network_run b H ≡ Some N
      → change_step (setting b) N ≡ Some outcome → network_run b (H ++ outcome.entry ∷ []) ≡ Some outcome.network
  change_runs b H N outcome sound runs h =
      one_more b H N outcome.network outcome.entry runs
      (ap (λ who. step_by (setting b) N outcome.entry who (act_of outcome.entry)) (change_is_nobodys (setting b) N outcome h)
      ∙ after_own outcome (change_step (setting b) N) h)

  ready_done : (b : PlainBundle) (H : List Entry) (N : Network) (q : Role) (a : Act) → IsSound b → network_run b H ≡ Some N
      → is_offered a (offers q (N.processes q)) ≡ true → is_ready N a ≡ true → IsSome (act_step (setting b) N q a)
  ready_done b H N q a sound runs offered ready =
      let at = reached known b sound H N runs in
      done_outcome N q (step q (N.stores q) (N.processes q) a (given_at (setting b) N q a))
      (offered_steps.exactly q (N.stores q) (N.processes q) a (given_at (setting b) N q a)
      (fits_given (setting b) N q a (mail_of_tags known b sound N at.0 at.1) ready) ∙ offered)

  pub steps_run : StepsRun
  steps_run = record { act = act_runs; change = change_runs; ready = ready_done }
