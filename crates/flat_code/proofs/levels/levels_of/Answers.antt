use Rattle.flat_code.proofs.WayLemmas.{levels_said}
use Rattle.flat_code.proofs.levels.levels_of.Goals as goal

pub returns-clause-says : goal.returns-clause-says
returns-clause-says c =
    levels_said c.args.code.now.ops.items c.args.code.now.start c.in_ok-levels.levels.items c.add_levels.new.levels.items c.args.code.now.placed
    c.args.code.now.laid c.in_ok-levels.ensures.items c.in_ok-_ended.ensures.added
