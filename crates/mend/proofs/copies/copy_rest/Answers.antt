-- The inputs, the script and the trace are copies of the bundle's.
use Rattle.std.proofs.Common.{◌∙◌, rules}
use Rattle.mend.proofs.copies.copy_rest.Goals as goal

pub returns-clause-inputs : goal.returns-clause-inputs
returns-clause-inputs c = c.in_ok-copy_inputs.ensures ∙ c.as_slice.ensures

pub returns-clause-script : goal.returns-clause-script
returns-clause-script c = c.in_ok-copy_script.ensures ∙ c.as_slice-2.ensures

pub returns-clause-trace : goal.returns-clause-trace
returns-clause-trace c = c.in_ok-copy_trace.ensures

pub returns-clause-cast : goal.returns-clause-cast
returns-clause-cast c = search rules depth 2
