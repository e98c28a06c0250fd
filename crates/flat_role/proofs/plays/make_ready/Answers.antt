-- The entry that is added is the one that was shown.
use Rattle.flat_role.proofs.plays.make_ready.Goals as goal

pub returns-in_ok-push-in-Ok-clause-adds : goal.returns-in_ok-push-in-Ok-clause-adds
returns-in_ok-push-in-Ok-clause-adds g c = record {
  entry = c.in-Ok.prepared.entry;
  shows = c.in-Ok.ensures.shown.entry;
  added = c.in_ok-push-in-Ok.ensures.items;
}
