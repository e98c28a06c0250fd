use Rattle.std.proofs.Common.{rules, ◌≡◌, None, arith}
use Rattle.std.proofs.lemmas.Grind.{common_steps}
use Rattle.dioc_terms.specs.Terms.{term}
use Rattle.mend.specs.Mended.{mended}
use Rattle.mend.specs.Names.{taken_name}
use Rattle.mend.proofs.Calling.{mended_from}
use Rattle.mend.proofs.calls.mend_within.Goals as goal

pub returns-in-Ok-finished-clause-mended : goal.returns-in-Ok-finished-clause-mended
returns-in-Ok-finished-clause-mended c =
    let free : taken_name (term c.args.choreo.now) ≡ None
    = first_of (cc (c.in_default.ensures, c.first_taken.ensures), search rules, grind (arith, common_steps)) in
    let is : term c.in-Ok-finished.made ≡ mended c.args.cast.now (term c.args.choreo.now)
    = first_of (cc (c.in-Ok-finished.ensures, c.in-Ok-joined.ensures.made), search rules, grind (arith, common_steps)) in
    mended_from c.mended_connected.ensures c.drops_to_input.ensures c.args.cast.now (term c.args.choreo.now)
    (term c.in-Ok-finished.made) c.requires.marks c.requires.in_cast c.requires.no_self_message free is
