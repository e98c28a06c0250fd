use Rattle.std.proofs.Common.{◌∙◌, ap, sym, arith}
use Rattle.command_words.specs.Commands.{are_digits}
use Rattle.command_words.proofs.Readings.{number_none}
use Rattle.command_words.proofs.values.number.Goals as goal

pub returns-in_default-3 : goal.returns-in_default-3
returns-in_default-3 c =
    let digits = sym (c.if-not-are_digits.ensures ∙ ap are_digits c.as_bytes.ensures.value) in
    number_none c.args.least c.args.most c.args.text.now (omega arith) digits c.in_default.ensures.value.0
