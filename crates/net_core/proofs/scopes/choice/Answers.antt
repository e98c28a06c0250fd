-- The body is that of the rule which the book chooses.
use Rattle.std.proofs.Common.{sym, ap, ◌∙◌}
use Rattle.std.specs.Prelude.{option_map, slice_get}
use Rattle.std.proofs.lemmas.Option.{slice_get-map}
use Rattle.dioc_terms.specs.KeptStores.{store_of}
use Rattle.net_core.proofs.ScopeLemmas.{choice_is, choice_none}
use Rattle.net_core.specs.KeptParts.{body_seen}
use Rattle.net_core.specs.Scopes.{choice_of_body}
use Rattle.rule_book.specs.KeptBooks.{book_of}
use Rattle.net_core.proofs.scopes.choice.Goals as goal

pub returns-in-None : goal.returns-in-None
returns-in-None c = λ rules of same.
    choice_none rules (book_of c.args.fixed.now.book.now) c.args.head.now (store_of c.args.store.now) (sym (c.choose.ensures rules of) ∙ c.in-None.is)

pub returns-in-Some : goal.returns-in-Some
returns-in-Some c = λ rules of same.
    ap (λ o. choice_of_body (option_map body_seen o)) c.body_at.ensures
    ∙ ap choice_of_body (sym (slice_get-map body_seen c.args.fixed.now.bodies.now c.in-Some.number))
    ∙ ap (λ l. choice_of_body (slice_get l c.in-Some.number)) same
    ∙ choice_is rules (book_of c.args.fixed.now.book.now) c.args.head.now (store_of c.args.store.now) c.in-Some.number (sym (c.choose.ensures rules of) ∙ c.in-Some.is)
