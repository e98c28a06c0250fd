use Rattle.command_words.proofs.commands.Verb.known_options.Goals as goal

pub returns-in-Drive : goal.returns-in-Drive
returns-in-Drive c = cc
