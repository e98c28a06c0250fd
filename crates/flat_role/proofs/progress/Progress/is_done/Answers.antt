use Rattle.flat_role.proofs.ProgressLemmas.{done-is}
use Rattle.flat_role.proofs.progress.Progress.is_done.Goals as goal

pub returns : goal.returns
returns c =
    let done = done-is c.args.me.now c.args.plan.now c.args.self.now c.requires in
    cc
