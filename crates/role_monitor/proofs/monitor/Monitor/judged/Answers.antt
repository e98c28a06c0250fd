use Rattle.role_monitor.proofs.monitor.Monitor.judged.Goals as goal

pub returns : goal.returns
returns c = λ b r entries read. read.judged
