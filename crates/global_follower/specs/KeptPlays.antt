-- The state of a play that a follower stands for.
use Rattle.dioc_terms.specs.Plain.{Setting, plain, setting}
use Rattle.global_follower.specs.declared.follower.Follower.{Follower}
use Rattle.global_follower.specs.KeptBooks.{book_of}
use Rattle.global_follower.specs.KeptRunning.{running}
use Rattle.global_follower.specs.KeptStores.{stores_of}
use Rattle.global_steps.specs.Follow.{State}

-- what every step reads of the bundle
abbrev pub setting_of : Follower → Setting
setting_of follower = setting (plain follower.rules.bundle.now)

abbrev pub state_of : Follower → State
state_of follower = record {
  running = running follower.running;
  stores = stores_of follower.stores;
  book = book_of follower.book;
  updates = follower.updates;
  changes = follower.changes;
  entries = follower.entries;
}
