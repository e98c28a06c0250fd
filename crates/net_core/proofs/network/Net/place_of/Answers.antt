-- The cast is that of the bundle.
use Rattle.std.proofs.Common.{ap, ◌∙◌}
use Rattle.std.specs.List.{position}
use Rattle.dioc_terms.specs.Equality.{role_eq}
use Rattle.net_core.specs.Nets.{NetState}
use Rattle.net_core.proofs.network.Net.place_of.Goals as goal

pub returns : goal.returns
returns g c =
    c.place_of.ensures ∙ ap (position (role_eq c.args.role.now)) (c.as_slice.ensures ∙ c.self.invariant.cast)
    ∙ ap (λ (net : NetState). position (role_eq c.args.role.now) net.bundle.cast) c.self.view_is
