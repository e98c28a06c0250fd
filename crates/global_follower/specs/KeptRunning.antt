-- The running term that a program's value stands for.
use Rattle.std.specs.Prelude.{Bool, true, false}
use Rattle.dioc_terms.specs.declared.choreographies.Choreo.{Choreo}
use Rattle.dioc_terms.specs.Expressions.{expression}
use Rattle.dioc_terms.specs.Terms.{Term, term, stamped, is_in}
use Rattle.global_follower.specs.declared.running.Marks.{Marks}
use Rattle.global_follower.specs.declared.running.Flight.{Flight}
use Rattle.global_follower.specs.declared.running.Part.{Part}
use Rattle.global_follower.specs.declared.running.Running.{Running as KeptRunning}
use Rattle.global_follower.specs.declared.running.Running as kept
use Rattle.global_steps.specs.Running.{Running, Skip, Seq, Par, Fly, Bar, Again, started}

-- a text with these marks
abbrev pub marked : Choreo → Marks → Term
marked I marks = stamped (term I) marks.epoch marks.level

abbrev pub part_term : Part → Term
part_term part = marked part.choreo.now part.marks

abbrev pub flying : Flight → Running
flying f =
    Fly f.message.index f.message.op.now f.message.from.now f.message.to.now f.var.now f.value

abbrev pub running : KeptRunning → Running
running kept.Skip = Skip
running (kept.Still part) = started (part_term part)
running (kept.Seq' _ G _ H) = Seq (running G) (running H)
running (kept.Par' _ G _ H) = Par (running G) (running H)
running (kept.Fly f) = flying f
-- the roles of a chosen scope are those of the scope that was replaced, if it was
running (kept.Bar' scope _ G) = Bar (λ q. is_in q (part_term scope)) (running G)
running (kept.Again' turn _ G) =
    Again turn.index turn.leader.now (expression turn.guard.now) (part_term turn.body) (running G)

abbrev pub is_skip : KeptRunning → Bool
is_skip kept.Skip = true
is_skip _ = false
