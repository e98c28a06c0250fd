use Rattle.aioc_top.proofs.commands.upgrade.upgrade.Goals as goal

pub returns : goal.returns
returns c = assumption
