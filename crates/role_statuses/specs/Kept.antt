-- The status that marks say.
use Rattle.std.specs.Prelude.{◌≡◌, ◌+◌, ℕ, true, false}
use Rattle.dioc_terms.specs.declared.names.Role.{Role}
use Rattle.dioc_terms.specs.Processes.{Process, Seq, Par, IfLead, IfFollow, WhileLead, WhileFollow, ScopeLead, ScopeFollow}
use Rattle.role_statuses.specs.Statuses.{Status, Untouched, Finished, First, Second, Both, Telling, Branch, Body, Gathering, Ending, Left, Waiting, Became, read}
use Rattle.role_statuses.specs.Marks.{Mark}
use Rattle.role_statuses.specs.Marks as mark
use Rattle.role_statuses.specs.Flat.{size, Marks, Stands}
use Rattle.role_statuses.specs.Sound.{is_sound}

-- the status of a mark at a construct whose parts, from left to right, have these
abbrev pub marked : Mark → Status → Status → Status
marked mark.Untouched x y = Untouched
marked mark.Finished x y = Finished
marked mark.First x y = First x
marked mark.Second x y = Second y
marked (mark.Both l r) x y = Both x y
marked (mark.Telling b k l ms) x y = Telling b k l ms
marked (mark.Branch true) x y = Branch true x
marked (mark.Branch false) x y = Branch false y
marked mark.Body x y = Body x
marked (mark.Gathering k ks) x y = Gathering k ks
marked mark.Ending x y = Ending
marked (mark.Left k l ms) x y = Left k l ms
marked (mark.Waiting k ks) x y = Waiting k ks
marked (mark.Became R) x y = Became R

abbrev pub kept : Marks → ℕ → Process → Status
kept marks b (Seq P Q) =
    marked (marks (b + (size P + size Q))) (kept marks b P) (kept marks (b + size P) Q)
kept marks b (Par P Q) =
    marked (marks (b + (size P + size Q))) (kept marks b P) (kept marks (b + size P) Q)
kept marks b (IfLead i g others P Q) =
    marked (marks (b + (size P + size Q))) (kept marks b P) (kept marks (b + size P) Q)
kept marks b (IfFollow i leader P Q) =
    marked (marks (b + (size P + size Q))) (kept marks b P) (kept marks (b + size P) Q)
kept marks b (WhileLead i g others P) = marked (marks (b + size P)) (kept marks b P) Finished
kept marks b (WhileFollow i leader P) = marked (marks (b + size P)) (kept marks b P) Finished
kept marks b (ScopeLead head others P) = marked (marks (b + size P)) (kept marks b P) Finished
kept marks b (ScopeFollow i leader P) = marked (marks (b + size P)) (kept marks b P) Finished
kept marks b P = marked (marks (b + 0)) Finished Finished

-- the process that runs, by its static process and its marks
abbrev pub running : Role → Marks → Process → Process
running me marks W = read me (kept marks 0 W) W

-- the marks hang together
pub record IsKept (me : Role) (marks : Marks) (W : Process) : Type 0 where
  pub stands : Stands me marks 0 (kept marks 0 W) W
  pub sound : is_sound me (kept marks 0 W) W ≡ true
