-- Each text has its pieces one after another.
use Rattle.mend.proofs.texts.MendRefusalDisplay.fmt.Goals as goal

pub returns-in-NameTaken-clause-writes : goal.returns-in-NameTaken-clause-writes
returns-in-NameTaken-clause-writes g c = λ is_plain is_ok. rw c.in-NameTaken.is (c.write-in-NameTaken.ensures.writes is_plain is_ok)
