use Rattle.net_drive.proofs.entries.is_aux_act.Goals as goal

pub returns-in-Set : goal.returns-in-Set
returns-in-Set c = cc

pub returns-in-Set-2 : goal.returns-in-Set-2
returns-in-Set-2 c = cc

pub returns-in-Set-3 : goal.returns-in-Set-3
returns-in-Set-3 c = cc

pub returns-in-Set-4 : goal.returns-in-Set-4
returns-in-Set-4 c = cc
