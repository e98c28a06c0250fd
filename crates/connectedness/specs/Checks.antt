-- What the fault of a check says of a choreography.
use Rattle.std.specs.Prelude.{◌≡◌, List, Some}
use Rattle.dioc_terms.specs.declared.names.Role.{Role}
use Rattle.dioc_terms.specs.Terms.{Term}
use Rattle.connectedness.specs.Connected.{first_gap}
use Rattle.connectedness.specs.declared.checks.CheckFault.{CheckFault}
use Rattle.connectedness.specs.declared.checks.CheckFault.TheVariants.{Unlinked, Memory}

-- an unlinked sequence is the first gap; want of memory says nothing
abbrev pub IsFaultOf : List Role → Term → CheckFault → Type 0
IsFaultOf cast I (Unlinked first second role) =
    first_gap cast I ≡ Some (record { first = first; second = second; role = role })
IsFaultOf cast I Memory = Unit {0}
