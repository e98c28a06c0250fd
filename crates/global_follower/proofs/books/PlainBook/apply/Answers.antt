use Rattle.std.proofs.lemmas.Result.{on_ok_weaker}
use Rattle.global_follower.specs.KeptBooks.{rules_of}
use Rattle.global_follower.proofs.BookLemmas.{env_applied}
use Rattle.global_follower.proofs.books.PlainBook.apply.Goals as goal

pub returns-in-Env-clause-applied : goal.returns-in-Env-clause-applied
returns-in-Env-clause-applied c =
    let book = c.args.self.now in
    on_ok_weaker c.set_key.result
    (λ set. env_applied (rules_of c.args.rules) book.order.items book.env.items
    c.set_key.new.env.items c.in-Env.key c.in-Env.value c.args.change.now c.in-Env.is set)
    c.set_key.ensures.set
