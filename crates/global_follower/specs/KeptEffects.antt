-- The effect on a store that a program's value stands for.
use Rattle.global_follower.specs.declared.effects.Effect.{Effect as KeptEffect}
use Rattle.global_follower.specs.declared.effects.Effect.TheVariants as kept
use Rattle.std.specs.Prelude.{Bool, true, false}
use Rattle.dioc_terms.specs.declared.entries.Entry.{Entry}
use Rattle.dioc_terms.specs.declared.entries.Entry.TheVariants as entry
use Rattle.global_steps.specs.Follow.{Effect, Leaves, Assigns, Reads}

abbrev pub effect_of : KeptEffect → Effect
effect_of kept.Leaves = Leaves
effect_of (kept.Assigns x v) = Assigns x v
effect_of (kept.Reads x v) = Reads x v

-- whether the entry is a put
abbrev pub is_put : Entry → Bool
is_put (entry.Put k n) = true
is_put _ = false
