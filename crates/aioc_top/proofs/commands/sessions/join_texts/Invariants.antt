-- What is joined so far, with the texts that are left behind it.
use Rattle.std.proofs.Common.{◌≡◌, ◌++◌}
use Rattle.std.specs.Prelude.{map}
use Rattle.aioc_top.specs.Texts.{joined, text_seen}
use Rattle.aioc_top.proofs.commands.sessions.join_texts.Given as goal

abbrev pub invariant-loop-session : goal.invariant-loop-session
invariant-loop-session l =
    l.joined.items ++ joined (map text_seen l.session-iterator.rest.items)
    ≡ joined (map text_seen l.fn.texts.items)
