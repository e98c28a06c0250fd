use Rattle.aux_messages.proofs.entries.is_aux.Goals as goal

pub returns : goal.returns
returns c = assumption
