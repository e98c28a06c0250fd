-- A rule that the script adds is one of the rules.
use Rattle.std.proofs.Common.{◌<◌, length}
use Rattle.rule_book.proofs.OrderLemmas.{adds-at}
use Rattle.net_core.proofs.starting.add_changes.Goals as goal

pub keep_timed-requires : goal.keep_timed-requires
keep_timed-requires c =
    λ m is. adds-at (λ n. n < length c.args.rules.now) c.args.script.now c.loop-timed.timed-index c.timed-item.result c.timed-item.result m c.loop-timed-test.true c.timed-item.is is c.requires
