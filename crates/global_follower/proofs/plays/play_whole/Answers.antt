use Rattle.std.proofs.Common.{◌≡◌, ◌∙◌, sym}
use Rattle.std.proofs.lemmas.Result.{IfOk-weaker}
use Rattle.dioc_terms.specs.Expressions.{expression}
use Rattle.global_follower.specs.KeptBooks.{book_of, rules_of}
use Rattle.global_follower.specs.KeptRunning.{part_term, running}
use Rattle.global_follower.specs.KeptStores.{stores_of}
use Rattle.global_follower.specs.Playing.{attempt_of, plays_in}
use Rattle.global_steps.specs.Follow.{book_choice}
use Rattle.global_steps.specs.Running as runs
use Rattle.global_follower.proofs.Stills.{over_again}
use Rattle.global_follower.proofs.plays.play_whole.Goals as goal

pub returns-in-Again : goal.returns-in-Again
returns-in-Again c =
    let turn = c.in-Again.turn in
    let scene = c.args.scene.now in
    let stores = stores_of scene.stores.now in
    IfOk-weaker c.play_loop.result
    (λ played. attempt_of played ≡ plays_in scene (runs.While turn.index turn.leader.now
    (expression turn.guard.now) (part_term turn.body)))
    _
    (λ played is. rw c.in-Again.is (is
    ∙ sym (over_again scene.rules.bundle.now.cast stores
    (λ head. book_choice (rules_of scene.rules) (book_of scene.book.now) head (stores head.leader))
    scene.updates turn.index turn.leader.now (expression turn.guard.now) (part_term turn.body)
    (running c.in-Again.field-1.value) scene.entry.now (rw c.in-Again.is at c.requires))))
    c.play_loop.ensures
