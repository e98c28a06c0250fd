-- How a trace that is played is judged by its last line.
use Rattle.std.specs.Prelude.{Bool, true, false, Option, Some, if◌then◌else◌}
use Rattle.dioc_terms.specs.declared.bundles.Last.{Last}
use Rattle.dioc_terms.specs.declared.bundles.Last.TheVariants as last

-- the section says that the run has ended, and it has not
abbrev pub is_cut_short : Option Last → Bool → Bool
is_cut_short (Some (last.Ended n)) over = if over then false else true
is_cut_short _ over = false
