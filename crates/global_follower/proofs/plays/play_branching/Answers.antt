use Rattle.global_follower.proofs.plays.play_branching.Goals as goal

pub returns-in-If : goal.returns-in-If
returns-in-If c =
    rw (c.in-If.is, ← c.of-index.ensures, ← c.inside-yes.ensures.text, ← c.inside-no.ensures.text)
    c.play_choice.ensures

pub returns-in-While : goal.returns-in-While
returns-in-While c =
    rw (c.in-While.is, ← c.of.ensures, ← c.inside.ensures.text)
    c.play_loop.ensures
