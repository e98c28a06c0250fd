use Rattle.text_pieces.proofs.values.minus_bytes.Goals as goal

pub returns-in-Close : goal.returns-in-Close
returns-in-Close c = cc
