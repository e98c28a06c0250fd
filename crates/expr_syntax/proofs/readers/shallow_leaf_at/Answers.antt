use Rattle.std.proofs.Common.{subst, arith}
use Rattle.expr_syntax.specs.Readers.{LeafAt}
use Rattle.expr_syntax.proofs.Fronts.{nothing_shallow}
use Rattle.expr_syntax.proofs.Findings.{leaf_found, leaf_missing}
use Rattle.expr_syntax.proofs.readers.shallow_leaf_at.Goals as goal

pub returns-then-place-eq0 : goal.returns-then-place-eq0
returns-then-place-eq0 c = nothing_shallow c.if-place-eq0.true

pub returns-in-Some : goal.returns-in-Some
returns-in-Some c = leaf_found c.args.reader.now.kind c.args.place.room c.args.place.deep c.args.reader.now.text.now c.args.place.at c.in-Some.expr c.in-Some.next c.sort.result (omega arith) c.sort.ensures.small c.sort.ensures.value (subst (LeafAt c.args.reader.now.kind c.args.reader.now.text.now c.args.place.at) c.in-Some.is c.in_ok-expr.ensures)

pub returns-in-None : goal.returns-in-None
returns-in-None c = leaf_missing c.args.reader.now.kind c.args.place.room c.args.place.deep c.args.reader.now.text.now c.args.place.at c.requires.minus c.requires.bracket (subst (LeafAt c.args.reader.now.kind c.args.reader.now.text.now c.args.place.at) c.in-None.is c.in_ok-expr.ensures)
