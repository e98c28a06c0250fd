-- What is known of an answer, carried on.
use Rattle.std.proofs.Common.{Result, Ok, Err, IfOk, IfErr}

pub ok_then : {A E : Type 0} {P Q : A → Type 0} (result : Result A E) → ((found : A) → P found → Q found) → IfOk result P → IfOk result Q
ok_then (Ok found) follows is = follows found is
ok_then (Err fault) follows is = is

pub err_then : {A E : Type 0} {P Q : E → Type 0} (result : Result A E) → ((fault : E) → P fault → Q fault) → IfErr result P → IfErr result Q
err_then (Ok found) follows is = is
err_then (Err fault) follows is = follows fault is
