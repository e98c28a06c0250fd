use Rattle.dioc_terms.specs.Plain.{plain}
use Rattle.diagnostics.proofs.Sound.{silent_of, told_of, place_of_bytes}
use Rattle.diagnostics.proofs.examining.of_section.Goals as goal

-- what is told of the section of the bundle that the bytes spell is told of the bytes
pub returns : goal.returns
returns c =
    let b = plain c.args.bundle.now in
    record {
      silent = silent_of c.args.bytes.now b c.of_trace.result c.one_bundle.ensures c.requires.spells c.requires.sound c.of_trace.ensures.silent;
      told = told_of c.args.bytes.now b c.of_trace.result c.one_bundle.ensures c.requires.spells c.of_trace.ensures.told;
      place = place_of_bytes c.args.bytes.now b c.of_trace.result c.one_bundle.ensures c.requires.spells c.of_trace.ensures.place;
    }
