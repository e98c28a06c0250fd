use Rattle.std.proofs.Common.{◌≡◌, ◌∙◌, ap, rules}
use Rattle.std.specs.Option.{option_map, option_copied}
use Rattle.rule_book.specs.declared.kept.KeptRule.{KeptRule}
use Rattle.rule_book.proofs.OrderLemmas.{find-order_of}
use Rattle.rule_book.proofs.book.Book.find.Goals as goal

pub returns : goal.returns
returns c = λ all of.
    let number : c.map.result ≡ option_map (λ (k : KeptRule). k.number) (option_copied c.get.result) = search rules in
    number ∙ (ap (option_map (λ (k : KeptRule). k.number)) c.get.ensures.value ∙ find-order_of all c.args.name.now c.args.self.now.rules.entries of.kept)
