use Rattle.std.proofs.Common.{◌∙◌, map}
use Rattle.clap.specs.Words.{app_of}
use Rattle.command_words.proofs.Splitting.{started_here, built_here, free_here, taken_here, refused_here}
use Rattle.command_words.proofs.splits.split.Goals as goal

pub returns-in-Ok : goal.returns-in-Ok
returns-in-Ok c =
    let start = started_here c.new.result c.no_binary_name.result c.disable_help_flag-parser.result c.new.ensures.app c.no_binary_name.ensures c.disable_help_flag-parser.ensures in
    let built = built_here c.args.verb (app_of c.disable_help_flag-parser.result) (app_of c.in_ok-parser.parser) (app_of c.in_ok-parser-2.parser)
    c.known_options.result.now c.positional_names.result.now start c.known_options.ensures c.positional_names.ensures c.in_ok-parser.ensures c.in_ok-parser-2.ensures in
    let words = map (λ word. word.now) c.args.words.now in
    let none = c.in-Ok.ensures.kinds (free_here c.args.verb (app_of c.in_ok-parser-2.parser) built words c.requires) in
    taken_here c.args.verb (app_of c.in_ok-parser-2.parser) built words c.requires c.in-Ok.matches none c.in-Ok.ensures.matches

pub returns : goal.returns
returns c =
    let start = started_here c.new.result c.no_binary_name.result c.disable_help_flag-parser.result c.new.ensures.app c.no_binary_name.ensures c.disable_help_flag-parser.ensures in
    let built = built_here c.args.verb (app_of c.disable_help_flag-parser.result) (app_of c.in_ok-parser.parser) (app_of c.in_ok-parser-2.parser)
    c.known_options.result.now c.positional_names.result.now start c.known_options.ensures c.positional_names.ensures c.in_ok-parser.ensures c.in_ok-parser-2.ensures in
    let words = map (λ word. word.now) c.args.words.now in
    let kinds = c.in-Err.ensures.kinds (free_here c.args.verb (app_of c.in_ok-parser-2.parser) built words c.requires) in
    refused_here c.args.verb (app_of c.in_ok-parser-2.parser) built words c.requires c.in-Err.error kinds
    (λ memory. c.in_default.not-OutOfMemory (c.kind.ensures ∙ memory))
