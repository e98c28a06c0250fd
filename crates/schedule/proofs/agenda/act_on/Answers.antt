-- What is listed of the role is what is to be.
use Rattle.std.proofs.lemmas.Result.{on_ok_weaker}
use Rattle.net_core.specs.Nets.{network_of}
use Rattle.schedule.proofs.AgendaLemmas.{filled_so}
use Rattle.schedule.proofs.agenda.act_on.Goals as goal

pub returns-clause-listed : goal.returns-clause-listed
returns-clause-listed g c =
    on_ok_weaker c.fill_in.result
    (λ filled. filled_so (network_of c.args.net.now) c.args.ready.now.role c.fill_in.new.acts.items c.fill_in.new.ready.items filled)
    c.fill_in.ensures.filled
