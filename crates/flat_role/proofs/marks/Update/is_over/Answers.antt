-- Nothing is left to do where no place can act.
use Rattle.std.proofs.Common.{sym, ap, ◌∙◌}
use Rattle.dioc_terms.specs.Processes.{letters}
use Rattle.flat_role.proofs.ProgressLemmas.{done-is}
use Rattle.process_steps.specs.Steps.{ended, telling}
use Rattle.flat_role.proofs.UpdateFacts.{process_seen, sound_in}
use Rattle.flat_role.proofs.marks.Update.is_over.Goals as goal

pub returns-in-Came : goal.returns-in-Came
returns-in-Came c = c.is_ended.ensures
    ∙ ap ended (process_seen c.self.inside.me.value c.self.view_is c.in-Came.is)

pub returns-in-Nothing : goal.returns-in-Nothing
returns-in-Nothing c =
    ap (λ ms. ended (telling (letters ms))) (sym c.in-Nothing.is ∙ c.deref.ensures)
    ∙ ap ended (process_seen c.self.inside.me.value c.self.view_is c.in-Told.is)

pub returns-in_default : goal.returns-in_default
returns-in_default c =
    ap (λ ms. ended (telling (letters ms))) (sym c.in_default.is ∙ c.deref.ensures)
    ∙ ap ended (process_seen c.self.inside.me.value c.self.view_is c.in-Told.is)

pub returns-in-Runs : goal.returns-in-Runs
returns-in-Runs c =
    let me = c.self.inside.me.value in
    let sound = sound_in me c.in-Runs.is c.self.invariant in
    let done = done-is me c.in-Runs.field-0 c.in-Runs.progress sound.0
    ∙ ap ended (process_seen me c.self.view_is c.in-Runs.is) in
    cc
