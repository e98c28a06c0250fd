use Rattle.std.proofs.Common.{rules}
use Rattle.trace_book.proofs.history.History.reserve.Goals as goal

pub returns-in_err-reserve-clause-same : goal.returns-in_err-reserve-clause-same
returns-in_err-reserve-clause-same c = cc

pub returns-in_err-reserve-clause-refused : goal.returns-in_err-reserve-clause-refused
returns-in_err-reserve-clause-refused c = search rules depth 2

pub returns-clause-same : goal.returns-clause-same
returns-clause-same c = cc
