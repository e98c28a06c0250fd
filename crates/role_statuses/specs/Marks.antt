-- What is kept at a place of the code: a status without those of its parts, which have places of
-- their own.
use Rattle.std.specs.Prelude.{List, Bool}
use Rattle.dioc_terms.specs.declared.processes.Key.{Key}
use Rattle.dioc_terms.specs.Processes.{Process, Letters, Load}

pub data Mark : Type 0 where
  Untouched : Mark
  Finished : Mark
  First : Mark
  Second : Mark
  -- whether the left part has ended, and whether the right one has
  Both : Bool → Bool → Mark
  Telling : Bool → Key → Load → Letters → Mark
  Branch : Bool → Mark
  Body : Mark
  Gathering : Key → List Key → Mark
  Ending : Mark
  Left : Key → Load → Letters → Mark
  Waiting : Key → List Key → Mark
  -- a scope that an update replaced has become this process: it is kept apart, as a state over code
  -- of its own
  Became : Process → Mark
