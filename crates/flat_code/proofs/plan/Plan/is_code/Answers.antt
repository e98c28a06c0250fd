use Rattle.flat_code.proofs.WayLemmas.{levels_say}
use Rattle.flat_code.proofs.plan.Plan.is_code.Goals as goal

pub returns : goal.returns
returns c =
    levels_say c.args.self.now.code.ops.items c.args.self.now.code.start c.args.self.now.levels.items c.args.self.now.code.placed c.args.self.now.code.laid
    c.args.self.now.longer c.args.self.now.says
