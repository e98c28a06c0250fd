-- Why a role isn't made ready for an act.
use Rattle.std.specs.Prelude.{◌≡◌, true, false}
use Rattle.dioc_terms.specs.declared.entries.Act.{Act}
use Rattle.dpoc_process.specs.LocalStates.{LocalState, offered}
use Rattle.network_steps.specs.declared.moves.StepFault.{StepFault}
use Rattle.network_steps.specs.declared.moves.StepFault.TheVariants as fault
use Rattle.process_steps.specs.Steps.{is_offered}
use Rattle.role_mailbox.specs.declared.mail.Mail.{Mail}
use Rattle.net_core.specs.Deeds.{is_there}

-- it isn't offered; or its message isn't there; nothing is said of want of memory
abbrev pub ReadyFault : LocalState → Mail → Act → StepFault → Type 0
ReadyFault local mail a fault.NoAct = is_offered a (offered local) ≡ false
ReadyFault local mail a fault.NotYet =
    (is_offered a (offered local) ≡ true) × (is_there a mail ≡ false)
ReadyFault local mail a fault.Memory = Unit {0}
ReadyFault local mail a _ = ⊥
