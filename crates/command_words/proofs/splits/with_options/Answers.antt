use Rattle.std.proofs.Common.{[], false}
use Rattle.clap.specs.Words.{app_of, rule_of}
use Rattle.command_words.proofs.Splitting.{one_option}
use Rattle.command_words.proofs.splits.with_options.Goals as goal

pub loop-option-preserved : goal.loop-option-preserved
loop-option-preserved c =
    let added = c.in_ok-parser.ensures.shape c.argument.ensures.local in
    one_option (app_of c.args.parser) (app_of c.loop-option.parser) (app_of c.in_ok-parser.parser) (rule_of c.argument.result) added
    c.args.options.now c.loop-option.option-index (record { name = record { ref_ptr = (0, 0); now = [] }; takes_value = false })
    c.loop-option-test.true c.loop-option.invariant c.argument.ensures.rule
