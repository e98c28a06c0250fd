-- What is found next may come as well.
use Rattle.std.proofs.Common.{List, All, sym, subst}
use Rattle.std.proofs.lemmas.List.Elements.{All-push}
use Rattle.dioc_terms.specs.declared.entries.Entry.{Entry}
use Rattle.dioc_terms.specs.Plain.{plain}
use Rattle.diagnostics.specs.Traces.{MayCome}
use Rattle.diagnostics.proofs.traces.playable.Goals as goal

pub loop-candidate-preserved-then-not-contains : goal.loop-candidate-preserved-then-not-contains
loop-candidate-preserved-then-not-contains c =
    let may_come = MayCome (plain c.args.bundle.now) c.args.before.now in
    let comes = c.in_ok-comes.ensures.comes c.if-comes.true in (
      c.in_ok-comes.ensures.stands,
      subst (All may_come) (sym {A = List Entry} c.in_ok-push.ensures.items)
          (All-push may_come c.loop-candidate.found.items c.in-Some.candidate c.loop-candidate.invariant.1 comes),
    )
