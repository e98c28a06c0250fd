-- A run makes at most one update an entry.
use Rattle.schedule.proofs.UpdateLemmas.{few_updates}
use Rattle.net_drive.proofs.resuming.redo_entry.Goals as goal

pub redo_by-is_redone-requires-clause-few : goal.redo_by-is_redone-requires-clause-few
redo_by-is_redone-requires-clause-few g c = few_updates c.args.net.now c.requires.run c.requires.room c.requires.limit
