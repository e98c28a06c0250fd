-- A value that comes with an act tells nothing of what the part becomes.
use Rattle.std.proofs.Common.{◌≡◌, refl}
use Rattle.dioc_terms.specs.declared.values.Value.{Value}
use Rattle.dioc_terms.specs.Processes.{Val}
use Rattle.dpoc_process.specs.Growth.{Growth, Certain, ByFlag, Looping, Leading, Following, grown}
use Rattle.dpoc_process.specs.Handed.{Empty, Message}

pub value_grows_nothing : (g : Growth) (v : Value) → grown g Empty ≡ grown g (Message (Val v))
value_grows_nothing (Certain c) v = refl
value_grows_nothing ByFlag v = refl
value_grows_nothing (Looping body last) v = refl
value_grows_nothing (Leading first last) v = refl
value_grows_nothing (Following last) v = refl
