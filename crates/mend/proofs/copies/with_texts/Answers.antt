-- The rest is the bundle's own, and the cast that of the choreography.
use Rattle.dioc_terms.specs.Plain.{plain}
use Rattle.mend.proofs.copies.with_texts.Goals as goal

pub returns-in-Ok : goal.returns-in-Ok
returns-in-Ok c =
    let rest = c.in-Ok.ensures in
    λ j. plain (record {
      version = c.args.bundle.now.version;
      cast = rest.cast j;
      choreo = c.args.choreo;
      rules = c.new.ensures j;
      opening = c.args.bundle.now.opening;
      env = rest.env j;
      inputs = rest.inputs j;
      script = rest.script j;
      trace = rest.trace j;
    })
