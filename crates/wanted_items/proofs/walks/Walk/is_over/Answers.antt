use Rattle.std.proofs.Common.{sym, ap, ◌∙◌}
use Rattle.wanted_tokens.specs.Wanted.{may_end}
use Rattle.wanted_tokens.proofs.Walking.{over_reversed}
use Rattle.wanted_items.proofs.walks.Walk.is_over.Goals as goal

pub returns : goal.returns
returns c =
    c.is_over.ensures ∙ (ap (may_end c.args.self.now.second) c.deref.ensures.value ∙ sym (over_reversed c.args.self.now.second c.args.self.now.goals.items))
