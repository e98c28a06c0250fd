use Rattle.std.proofs.Common.{◌∙◌, ap, sym}
use Rattle.std.specs.List.{list_any}
use Rattle.dioc_terms.specs.Equality.{name_eq}
use Rattle.rule_checks.proofs.AliveLemmas.{remove_key-filter}
use Rattle.rule_checks.proofs.bounds.change_names.Goals as goal

pub returns-in-Drop : goal.returns-in-Drop
returns-in-Drop c =
    let gone = c.shift_remove.ensures.updates in
    let keys = c.shift_remove.ensures.keys in
    rw c.in-Drop.is
    (keys ∙ remove_key-filter (name_eq c.in-Drop.name) c.args.names.now.keys (ap (list_any (name_eq c.in-Drop.name)) (sym keys) ∙ gone.1))
