-- What was made ready is the step.
use Rattle.std.proofs.Common.{◌≡◌, sym, ap, ap₂, ◌∙◌, subst}
use Rattle.dioc_terms.specs.KeptStores.{store_of}
use Rattle.dioc_terms.specs.Processes.{process}
use Rattle.dpoc_process.proofs.StateLemmas.{state-steps}
use Rattle.dpoc_process.specs.Changes.{replaced}
use Rattle.dpoc_process.specs.Growth.{grown, growth, value_at, write_at}
use Rattle.dpoc_process.specs.Handed.{handed}
use Rattle.dpoc_process.specs.KeptGrowth.{growth_of, write_of}
use Rattle.dpoc_process.specs.RoleLaws.{local}
use Rattle.dpoc_process.specs.RoleSteps.{IsStep}
use Rattle.dpoc_process.proofs.states.RoleStateRuns.advance.Goals as goal

pub returns-clause-steps : goal.returns-clause-steps
returns-clause-steps c = λ given brings.
    let me = c.args.self.now.role in
    let a = c.args.act.now in
    let P = process c.args.self.now.proc in
    let s = store_of c.args.self.now.store in
    let h = handed c.args.got in
    let ready = c.requires.ready in
    let used : c.unwrap-ready.result ≡ ready.ready = cc in
    let is_growth : growth_of c.unwrap-ready.result.growth
    ≡ growth me (value_at s ready.part) ready.part =
    ap (λ r. growth_of r.growth) used ∙ ready.made.growth in
    let is_write : write_of c.unwrap-ready.result.write
    ≡ write_at (value_at s ready.part) ready.part =
    ap (λ r. write_of r.write) used ∙ ready.made.write in
    let changed : process c.advanced-after.result ≡ replaced me a P
    (grown (growth_of c.unwrap-ready.result.growth) h) =
    c.advanced-after.ensures.changed
    ∙ ap (λ p. replaced me a (process p) (grown (growth_of c.unwrap-ready.result.growth) h))
    c.replace-proc.ensures.value in
    subst (IsStep (local me P s) a given) (ap₂ (local me)
    (sym (ap process c.replace.ensures.after ∙ changed)) (sym c.advanced-after.ensures.stored))
    (state-steps me s a P ready.acts h (growth_of c.unwrap-ready.result.growth)
    (write_of c.unwrap-ready.result.write) c.requires.can
    is_growth is_write given brings)
