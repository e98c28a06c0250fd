use Rattle.std.proofs.Common.{List, ap, ◌∙◌}
use Rattle.dioc_terms.specs.declared.names.Role.{Role}
use Rattle.dioc_terms.specs.declared.values.Value.{Value}
use Rattle.dioc_terms.specs.Plain.{PlainBundle, plain}
use Rattle.dioc_terms.specs.Rules.{opening_book}
use Rattle.dioc_terms.specs.Stores.{fresh_store}
use Rattle.dioc_terms.specs.Terms.{term}
use Rattle.global_follower.specs.KeptBooks.{book_of}
use Rattle.global_follower.specs.KeptRunning.{part_term}
use Rattle.global_follower.specs.KeptStores.{stores_of}
use Rattle.global_steps.specs.Follow.{inputs_of}
use Rattle.global_follower.proofs.FollowLemmas.{own_text, started_play}
use Rattle.global_follower.proofs.follower.Follower.new.Goals as goal

pub returns-clause-start : goal.returns-clause-start
returns-clause-start c =
    let bundle = c.args.bundle.now in
    started_play (plain bundle) (part_term c.part.result) (stores_of c.in_ok-stores.stores)
    (book_of c.in_ok-book.book)
    (c.part.ensures.text ∙ own_text (term bundle.choreo) c.requires.choreo.indices)
    (c.in_ok-stores.ensures
    ∙ ap (λ (given : List (Role × List Value)). λ (q : Role). fresh_store (inputs_of given q))
    c.as_slice.ensures)
    (c.in_ok-book.ensures
    ∙ ap (λ (b : PlainBundle). opening_book b.rules bundle.opening bundle.env) c.new-rules.ensures)
