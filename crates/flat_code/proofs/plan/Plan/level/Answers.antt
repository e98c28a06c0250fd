use Rattle.flat_code.proofs.HangLemmas.{places_hang}
use Rattle.flat_code.proofs.plan.Plan.level.Goals as goal

pub returns-clause-hangs : goal.returns-clause-hangs
returns-clause-hangs c =
    places_hang c.args.self.now.code.ops.items c.args.self.now.code.start c.args.self.now.levels.items c.args.self.now.code.placed c.args.self.now.code.laid
    c.args.self.now.longer c.args.self.now.says c.args.place c.requires
