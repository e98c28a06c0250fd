use Rattle.std.proofs.Common.{arith}
use Rattle.std.proofs.lemmas.List.{length-map}
use Rattle.dioc_terms.specs.Plain.{plain, plain_rule}
use Rattle.bundle_text.specs.Readers.{found_in, plain_timed}
use Rattle.bundle_text.specs.Stops.{place_in}
use Rattle.bundle_text.proofs.SessionSteps.{few_closed, bundle_taken, no_choreography_closed}
use Rattle.bundle_text.proofs.sessions.bundle_up_to_close.Goals as goal

pub bundle_of-requires : goal.bundle_of-requires
bundle_of-requires c =
    let few = few_closed c.args.reader.now.version c.args.reader.now.text.now c.args.at (found_in c.in_ok-parts.parts) c.in_ok-parts.closes c.in_ok-parts.ensures.found in
    let bound = c.requires.few in
    omega (arith, length-map c.in_ok-parts.parts.rules.items plain_rule, length-map c.in_ok-parts.parts.script.items plain_timed)

pub returns-in-Ok-clause-found : goal.returns-in-Ok-clause-found
returns-in-Ok-clause-found c =
    bundle_taken c.args.reader.now.version c.args.reader.now.text.now c.args.at (found_in c.in_ok-parts.parts) c.in_ok-parts.closes (plain c.in-Ok.bundle) c.in_ok-parts.ensures.found c.in-Ok.ensures.found c.in-Ok.ensures.version

pub returns-in-Err-clause-stopped : goal.returns-in-Err-clause-stopped
returns-in-Err-clause-stopped c = λ told.
    let none = c.in-Err.ensures.stopped told in
    no_choreography_closed c.args.reader.now.version c.args.reader.now.text.now c.args.at (found_in c.in_ok-parts.parts) c.in_ok-parts.closes (place_in c.in-Err.stop) c.in_ok-parts.ensures.found none.0 none.1
