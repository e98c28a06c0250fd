use Rattle.std.proofs.Common.{◌≡◌, map, fold, take}
use Rattle.clap.specs.Words.{app_of, new_rule, with_rule}
use Rattle.command_words.proofs.splits.with_positional.Given as goal

abbrev pub invariant-loop-name : goal.invariant-loop-name
invariant-loop-name l =
    app_of l.parser ≡ fold with_rule (app_of l.initial.parser) (map new_rule (map (λ name. name.now) (take l.name-index l.names)))
