-- What the monitor is begun with.
use Rattle.dioc_terms.specs.Plain.{plain}
use Rattle.net_core.proofs.StartLemmas.{roles_of_cast}
use Rattle.role_monitor.proofs.monitor.Monitor.new.Goals as goal

pub opening_state-requires : goal.opening_state-requires
opening_state-requires c = roles_of_cast c.casts_are_roles.ensures (plain c.args.bundle.now) c.requires.formed

pub begin-requires-clause-script : goal.begin-requires-clause-script
begin-requires-clause-script c = record { of = c.in-Ok.ensures.of; next = c.in-Ok.ensures.coming }
