-- The rule stands at its number.
use Rattle.std.proofs.Common.{length, get_or, ap, ◌∙◌, refl}
use Rattle.std.proofs.lemmas.Option.{slice_get_read}
use Rattle.role_monitor.proofs.scopes.rule_at.Goals as goal

pub returns : goal.returns
returns c =
    let rule = c.index-as_slice-number.result in
    slice_get_read c.args.bundle.now.rules (length c.args.bundle.now.rules) c.args.number rule refl c.requires
    (c.index-as_slice-number.is ∙ ap (λ l. get_or l c.args.number rule) c.as_slice.ensures)
