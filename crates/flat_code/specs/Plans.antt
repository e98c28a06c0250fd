-- What is known of the places of code, beside it.
use Rattle.std.specs.Prelude.{◌+◌, List}
use Rattle.flat_code.specs.Codes.{process_of}
use Rattle.flat_code.specs.declared.code.Code.{Code}
use Rattle.flat_code.specs.declared.levels.Level.{Level}
use Rattle.flat_code.specs.Levels.{AreLevels, AreLevels-prop}

-- as the construct around the whole they name the place behind that of the whole
abbrev pub SayPlaces : List Level → Code → Type 0
SayPlaces levels code = AreLevels levels (code.start + 1) 0 (process_of code)

pub SayPlaces-prop : (levels : List Level) (code : Code) → IsProp (SayPlaces levels code)
SayPlaces-prop levels code = AreLevels-prop levels (code.start + 1) 0 (process_of code)
