use Rattle.diagnostics.proofs.Counting.{first_tokens}
use Rattle.diagnostics.proofs.laws.marks_are_first_tokens.Goals as goal

pub returns : goal.returns
returns c = λ text from start number place version form room to whole stands on calm nth. first_tokens text from start number place stands on calm nth
