-- A bundle that is made is accepted, and so formed.
use Rattle.std.proofs.Common.{◌∷◌, [], All, length, ap, arith, subst, sym, length-append}
use Rattle.std.proofs.lemmas.List.Elements.{All-push}
use Rattle.dioc_terms.specs.Bundles.{IsFormed}
use Rattle.dioc_terms.specs.Plain.{plain}
use Rattle.object_tests.proofs.made.bundles.Goals as goal

pub made-preserved : goal.made-preserved
made-preserved c =
    let are = c.in_ok-push.ensures.items in (
      omega (arith, ap length are, length-append c.made.bundles.items (c.in_ok-bundle.bundle ∷ [])),
      subst (All (λ b. IsFormed (plain b))) (sym are) (All-push (λ b. IsFormed (plain b)) c.made.bundles.items c.in_ok-bundle.bundle c.made.invariant.1 c.in_ok-bundle.ensures.accepted.formed),
    )
