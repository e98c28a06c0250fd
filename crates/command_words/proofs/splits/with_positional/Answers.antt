use Rattle.std.proofs.Common.{[]}
use Rattle.clap.specs.Words.{app_of, rule_of}
use Rattle.command_words.proofs.Splitting.{one_name}
use Rattle.command_words.proofs.splits.with_positional.Goals as goal

pub loop-name-preserved : goal.loop-name-preserved
loop-name-preserved c =
    let added = c.in_ok-parser.ensures.shape c.new.ensures.optional.1 in
    one_name (app_of c.args.parser) (app_of c.loop-name.parser) (app_of c.in_ok-parser.parser) (rule_of c.new.result) added
    c.args.names.now c.loop-name.name-index (record { ref_ptr = (0, 0); now = [] }) c.loop-name-test.true c.loop-name.invariant
    c.new.ensures.rule
