use Rattle.dioc_syntax.proofs.StepFindings.{input_found, input_roomless, input_missing}
use Rattle.dioc_syntax.proofs.steps.input_at.Goals as goal
use Rattle.dioc_syntax.proofs.steps.input_at.Goals.{then-place-eq0-via-then-place-eq0, then-place-eq0-via-else-place-eq0+then-not-begins}

pub returns-then-place-eq0 : goal.returns-then-place-eq0
returns-then-place-eq0 c = elim c.then-place-eq0.branch [
  | then-place-eq0-via-then-place-eq0 w ↦ input_roomless c.args.place.room c.args.place.earlier c.args.reader.now.text.now c.args.place.at c.args.variable c.args.owner c.requires.head w.if-place-eq0.true c.requires.input c.args.reader.now.version c.args.place.deep c.requires.some
  | then-place-eq0-via-else-place-eq0+then-not-begins w ↦
      input_missing c.args.place.room c.args.place.earlier c.args.reader.now.text.now c.args.place.at c.args.variable c.args.owner c.requires.head c.requires.input (λ is. let found = w.begins.ensures.1 is in let missed = w.if-not-begins.true in cc) c.args.reader.now.version c.args.place.deep c.requires.some
]

pub returns : goal.returns
returns c = input_found c.args.place.room c.args.place.earlier c.args.reader.now.text.now c.args.place.at c.args.variable c.args.owner c.requires.head c.in_ok-choreo.choreo c.in_ok-choreo.ensures c.if-place-eq0.false c.requires.input (c.begins.ensures.0 cc) c.args.reader.now.version c.args.place.deep c.requires.some
