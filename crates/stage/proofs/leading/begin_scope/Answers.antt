-- The entry shows what the book says, and the rule's name is among the names.
use Rattle.std.proofs.Common.{◌∙◌, sym}
use Rattle.dioc_terms.specs.KeptStores.{store_of}
use Rattle.rule_book.specs.KeptBooks.{book_of}
use Rattle.stage.proofs.BeginLemmas.{name_within}
use Rattle.stage.proofs.leading.begin_scope.Goals as goal

pub name_at-requires : goal.name_at-requires
name_at-requires c =
    let known = c.requires.known in
    name_within known.0 (book_of c.args.book.now) c.args.head.now (store_of c.args.store.now) c.choices_go_on.ensures c.args.names.now known.2 c.in-Some.number
    (sym (c.choose.ensures known.0 known.1) ∙ c.in-Some.is)
