use Rattle.dioc_terms.proofs.entries.Entry.doer.Goals as goal

pub returns-in-Put : goal.returns-in-Put
returns-in-Put c = cc
