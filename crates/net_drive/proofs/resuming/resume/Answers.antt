-- What is said of the entries of the history is said of the history.
use Rattle.std.proofs.Common.{◌≤◌, List, length, IfErr, IfOk, subst}
use Rattle.dioc_terms.specs.declared.entries.Entry.{Entry}
use Rattle.dioc_terms.specs.Plain.{plain}
use Rattle.net_core.specs.Nets.{NetState}
use Rattle.net_drive.specs.Faults.{FullAt, StrayCounted, StraysAt}
use Rattle.net_drive.specs.Resumed.{IsNetAfter}
use Rattle.net_drive.proofs.resuming.resume.Goals as goal

pub returns-clause-resumed : goal.returns-clause-resumed
returns-clause-resumed g c =
    subst (λ (es : List Entry). IfOk c.resume_entries.result (λ (net : NetState). IsNetAfter (plain c.args.bundle.now) es c.args.limit net)) c.as_slice.ensures c.resume_entries.ensures.resumed

pub returns-clause-within : goal.returns-clause-within
returns-clause-within g c =
    subst (λ (es : List Entry). IfOk c.resume_entries.result (λ (net : NetState). length es ≤ c.args.limit)) c.as_slice.ensures c.resume_entries.ensures.within

pub returns-clause-full : goal.returns-clause-full
returns-clause-full g c =
    subst (λ (es : List Entry). IfErr c.resume_entries.result (FullAt (plain c.args.bundle.now) es c.args.limit)) c.as_slice.ensures c.resume_entries.ensures.full

pub returns-clause-stray : goal.returns-clause-stray
returns-clause-stray g c =
    subst (λ (es : List Entry). IfErr c.resume_entries.result (StraysAt (plain c.args.bundle.now) es c.args.limit)) c.as_slice.ensures c.resume_entries.ensures.stray

pub returns-clause-counted : goal.returns-clause-counted
returns-clause-counted g c =
    subst (λ (es : List Entry). IfErr c.resume_entries.result (StrayCounted (plain c.args.bundle.now) es c.args.limit)) c.as_slice.ensures c.resume_entries.ensures.counted
