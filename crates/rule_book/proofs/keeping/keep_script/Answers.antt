use Rattle.std.proofs.Common.{◌<◌, length}
use Rattle.rule_book.proofs.OrderLemmas.{adds-at}
use Rattle.rule_book.proofs.keeping.keep_script.Goals as goal

pub keep_change-requires-clause-there : goal.keep_change-requires-clause-there
keep_change-requires-clause-there c =
    λ m is. adds-at (λ n. n < length c.args.rules.now) c.args.script.now c.loop-timed.timed-index c.timed-item.result c.timed-item.result m c.loop-timed-test.true c.timed-item.is is c.requires.there
