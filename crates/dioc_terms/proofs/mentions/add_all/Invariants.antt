-- The roles so far are in the set.
use Rattle.std.proofs.Common.{◌≡◌, take}
use Rattle.indexmap.specs.IndexSet.{insert_all}
use Rattle.dioc_terms.specs.Equality.{role_eq}
use Rattle.dioc_terms.proofs.mentions.add_all.Given as goal

abbrev pub invariant-loop-role : goal.invariant-loop-role
invariant-loop-role l = l.seen.keys ≡ insert_all role_eq l.initial.seen.keys (take l.role-index l.roles)
