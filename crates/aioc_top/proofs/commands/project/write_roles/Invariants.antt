-- The lines so far are those of the roles so far.
use Rattle.std.proofs.Common.{◌≡◌, ◌++◌, take, flat_map}
use Rattle.dioc_terms.specs.Terms.{term}
use Rattle.aioc_top.specs.Replies.{role_line}
use Rattle.aioc_top.proofs.commands.project.write_roles.Given as goal

abbrev pub invariant-loop-role : goal.invariant-loop-role
invariant-loop-role l =
    l.out.items ≡ l.fn.out.items ++ flat_map (role_line l.cast (term l.choreo)) (take l.role-index l.cast)
