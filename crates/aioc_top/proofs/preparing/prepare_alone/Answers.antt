-- The task is what the words ask for and what was read, which the command takes.
use Rattle.std.proofs.Common.{sym, ◌∙◌}
use Rattle.command_words.specs.Commands.{word_texts}
use Rattle.aioc_top.proofs.Asked.{asked_alone, asked_short}
use Rattle.aioc_top.proofs.FaultLemmas.{reads_no_sessions}
use Rattle.aioc_top.proofs.preparing.prepare_alone.Goals as goal

pub read_spelled_alone-requires : goal.read_spelled_alone-requires
read_spelled_alone-requires g c =
    let found = sym c.in_ok-command.ensures.spelled ∙ c.in-Some.is in
    record { alone = reads_no_sessions c.in-Some.command (asked_alone (word_texts c.args.words.now) c.in-Some.command c.requires.alone found) }

pub returns-clause-ready : goal.returns-clause-ready
returns-clause-ready g c =
    let found = sym c.in_ok-command.ensures.spelled ∙ c.in-Some.is in
    record {
      asked = found;
      short = asked_short (word_texts c.args.words.now) c.in-Some.command found;
      read = c.in_ok-spelled.ensures.read;
      admits = c.in_ok-accept_spelled.ensures.admits;
    }
