-- What is kept of the acts that the role offers is what can be done.
use Rattle.std.proofs.Common.{rules, ap, ◌∙◌}
use Rattle.std.specs.Prelude.{filter}
use Rattle.std.proofs.lemmas.Fn.{filter_same}
use Rattle.net_core.specs.Deeds.{is_there}
use Rattle.net_core.proofs.listing.ready_acts.Goals as goal

pub returns : goal.returns
returns g c =
    filter_same _ (λ a. is_there a c.args.mail.now) _ (λ a b f' called. search rules) _ _ c.retain.ensures.filtered
    ∙ ap (filter (λ a. is_there a c.args.mail.now)) c.in_ok-acts.ensures
