use Rattle.std.proofs.Common.{◌≡◌, Err, ap}
use Rattle.dioc_terms.specs.declared.faults.SyntaxFault.TheVariants as fault
use Rattle.bundle_text.proofs.reader.read_bundle.Goals as goal

pub returns-clause-byte : goal.returns-clause-byte
returns-clause-byte c = λ byte is.
    let told : c.in-Err.fault ≡ fault.Syntax byte = cc in c.in-Err.ensures.byte byte (ap Err told)
