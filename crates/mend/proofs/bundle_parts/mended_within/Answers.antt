use Rattle.dioc_terms.specs.Terms.{term}
use Rattle.mend.proofs.Limits.{within}
use Rattle.mend.proofs.bundle_parts.mended_within.Goals as goal

pub returns-in-Ok : goal.returns-in-Ok
returns-in-Ok c =
    within c.args.cast.now (term c.args.choreo.now) c.args.most c.in-Ok.made c.in-Ok.ensures.within c.in-Ok.ensures.mended
