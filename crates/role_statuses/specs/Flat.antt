-- A status as marks, one for each place. The parts of a construct stand before it, the left one
-- first, so the places of a part are a range, and its own is the last of them.
use Rattle.std.specs.Prelude.{◌≡◌, ◌<◌, ◌≤◌, ◌+◌, ◌-◌, ℕ, suc, List, [], ◌∷◌, true, false, ◌&&◌, if◌then◌else◌, nat_eq, nat_le, nat_lt}
use Rattle.dioc_terms.specs.declared.names.Role.{Role}
use Rattle.dioc_terms.specs.Processes.{Process, Seq, Par, IfLead, IfFollow, WhileLead, WhileFollow, ScopeLead, ScopeFollow}
use Rattle.role_statuses.specs.Statuses.{Status, Untouched, First, Second, Both, Telling, Branch, Body, Gathering, Ending, Left, Waiting, Became, is_over}
use Rattle.role_statuses.specs.Marks.{Mark}
use Rattle.role_statuses.specs.Marks as mark
use Rattle.role_statuses.specs.Paths.{Hole, InFirst, InSecond, InLeft, InRight, InLeadBranch, InFollowBranch, static_of, rise}

-- how many places the parts have
abbrev pub inner : Process → ℕ
inner (Seq P Q) = suc (inner P) + suc (inner Q)
inner (Par P Q) = suc (inner P) + suc (inner Q)
inner (IfLead i g others P Q) = suc (inner P) + suc (inner Q)
inner (IfFollow i leader P Q) = suc (inner P) + suc (inner Q)
inner (WhileLead i g others P) = suc (inner P)
inner (WhileFollow i leader P) = suc (inner P)
inner (ScopeLead head others P) = suc (inner P)
inner (ScopeFollow i leader P) = suc (inner P)
inner P = 0

abbrev pub size : Process → ℕ
size P = suc (inner P)

abbrev pub Marks : Type 0
Marks = ℕ → Mark

-- each place from this one on, so many, is untouched
pub record IsFresh (marks : Marks) (b n : ℕ) : Type 0 where
  pub fresh : (k : ℕ) → b ≤ k → k < b + n → marks k ≡ mark.Untouched

-- the mark of a status
abbrev pub mark_of : Role → Status → Process → Mark
mark_of me Untouched P = mark.Untouched
mark_of me (First x) P = mark.First
mark_of me (Second x) P = mark.Second
mark_of me (Both x y) (Par P Q) = mark.Both (is_over me x P) (is_over me y Q)
mark_of me (Telling b k l ms) P = mark.Telling b k l ms
mark_of me (Branch b x) P = mark.Branch b
mark_of me (Body x) P = mark.Body
mark_of me (Gathering k ks) P = mark.Gathering k ks
mark_of me Ending P = mark.Ending
mark_of me (Left k l ms) P = mark.Left k l ms
mark_of me (Waiting k ks) P = mark.Waiting k ks
mark_of me (Became R) P = mark.Became R
mark_of me x P = mark.Finished

-- the marks of the parts say their statuses, and those to which it may come are untouched
abbrev pub PartsStand : Role → Marks → ℕ → Status → Process → Type 0
PartsStand me marks b Untouched P = IsFresh marks b (inner P)
PartsStand me marks b (First x) (Seq P Q) =
    ((marks (b + inner P) ≡ mark_of me x P) × PartsStand me marks b x P)
    × IsFresh marks (b + size P) (size Q)
PartsStand me marks b (Second x) (Seq P Q) =
    (marks (b + size P + inner Q) ≡ mark_of me x Q) × PartsStand me marks (b + size P) x Q
PartsStand me marks b (Both x y) (Par P Q) =
    ((marks (b + inner P) ≡ mark_of me x P) × PartsStand me marks b x P)
    × ((marks (b + size P + inner Q) ≡ mark_of me y Q) × PartsStand me marks (b + size P) y Q)
PartsStand me marks b (Telling f k l ms) (IfLead i g others P Q) = IsFresh marks b (size P + size Q)
PartsStand me marks b (Branch true x) (IfLead i g others P Q) =
    (marks (b + inner P) ≡ mark_of me x P) × PartsStand me marks b x P
PartsStand me marks b (Branch false x) (IfLead i g others P Q) =
    (marks (b + size P + inner Q) ≡ mark_of me x Q) × PartsStand me marks (b + size P) x Q
PartsStand me marks b (Branch true x) (IfFollow i leader P Q) =
    (marks (b + inner P) ≡ mark_of me x P) × PartsStand me marks b x P
PartsStand me marks b (Branch false x) (IfFollow i leader P Q) =
    (marks (b + size P + inner Q) ≡ mark_of me x Q) × PartsStand me marks (b + size P) x Q
PartsStand me marks b (Telling f k l ms) (WhileLead i g others P) = IsFresh marks b (size P)
PartsStand me marks b (Body x) (WhileLead i g others P) =
    (marks (b + inner P) ≡ mark_of me x P) × PartsStand me marks b x P
PartsStand me marks b (Body x) (WhileFollow i leader P) =
    (marks (b + inner P) ≡ mark_of me x P) × PartsStand me marks b x P
PartsStand me marks b (Telling f k l ms) (ScopeLead head others P) = IsFresh marks b (size P)
PartsStand me marks b (Body x) (ScopeLead head others P) =
    (marks (b + inner P) ≡ mark_of me x P) × PartsStand me marks b x P
PartsStand me marks b (Body x) (ScopeFollow i leader P) =
    (marks (b + inner P) ≡ mark_of me x P) × PartsStand me marks b x P
PartsStand me marks b x P = Unit {0}

-- the marks from this place on say this status
abbrev pub Stands : Role → Marks → ℕ → Status → Process → Type 0
Stands me marks b x P = (marks (b + inner P) ≡ mark_of me x P) × PartsStand me marks b x P

-- how many places the parts on the left of the hole have
abbrev pub left_size : Hole → ℕ
left_size (InSecond R) = size R
left_size (InRight y R) = size R
left_size (InLeadBranch false i g others Q) = size Q
left_size (InFollowBranch false i leader Q) = size Q
left_size h = 0

-- the way from a part, whose places begin at this one, to the top, whose places begin at that one
abbrev pub PathAt : ℕ → ℕ → List Hole → Process → Type 0
PathAt top b [] P = b ≡ top
PathAt top b (h ∷ hs) P =
    (c : ℕ) × (b ≡ c + left_size h) × PathAt top c hs (static_of h P)

-- the parts beside the hole
abbrev pub BesideStands : Role → Marks → ℕ → Hole → Process → Type 0
BesideStands me marks b (InFirst Q) P = IsFresh marks (b + size P) (size Q)
BesideStands me marks b (InLeft y Q) P = Stands me marks (b + size P) y Q
BesideStands me marks b (InRight y R) P = Stands me marks b y R
BesideStands me marks b h P = Unit {0}

-- the mark of a construct whose part in the hole runs
abbrev pub hole_mark : Role → Hole → Mark
hole_mark me (InFirst Q) = mark.First
hole_mark me (InSecond R) = mark.Second
hole_mark me (InLeft y Q) = mark.Both false (is_over me y Q)
hole_mark me (InRight y R) = mark.Both (is_over me y R) false
hole_mark me (InLeadBranch b i g others Q) = mark.Branch b
hole_mark me (InFollowBranch b i leader Q) = mark.Branch b
hole_mark me h = mark.Body

-- the marks outside of the part, whose places begin at this one, say the way to the top, whose
-- places begin at that one
abbrev pub PathStands : Role → Marks → ℕ → ℕ → List Hole → Process → Type 0
PathStands me marks top b [] P = b ≡ top
PathStands me marks top b (h ∷ hs) P = (c : ℕ) × (b ≡ c + left_size h)
    × (marks (c + inner (static_of h P)) ≡ hole_mark me h)
    × BesideStands me marks c h P
    × PathStands me marks top c hs (static_of h P)

-- the marks with another one at this place
abbrev pub put : Marks → ℕ → Mark → Marks
put marks p m k = if nat_eq k p then m else marks k

-- the places from this one on, so many, as if nothing had been done there
abbrev pub wipe : Marks → ℕ → ℕ → Marks
wipe marks b n k = if nat_le b k && nat_lt k (b + n) then mark.Untouched else marks k

-- the marks once the construct whose places begin at this one comes to this status: its own mark
-- alone, unless it begins again
abbrev pub settle : Role → Marks → ℕ → Status → Process → Marks
settle me marks b Untouched P = wipe marks b (size P)
settle me marks b x P = put marks (b + inner P) (mark_of me x P)

-- the marks after a move of a part: where the part has ended, the mark of the construct around it,
-- and so on
abbrev pub climb_marks : Role → Marks → ℕ → List Hole → Process → Status → Marks
climb_marks me marks b [] P x = marks
climb_marks me marks b (h ∷ hs) P x =
    if is_over me x P then climb_marks me
    (settle me marks (b - left_size h) (rise me h P x) (static_of h P))
    (b - left_size h) hs (static_of h P) (rise me h P x) else marks

-- the first act of a static process, where the acting part is deep in it: the constructs on the way
-- to it are touched too, each once
abbrev pub touch_marks : Role → Marks → ℕ → List Hole → Process → Status → Marks
touch_marks me marks b [] P x = marks
touch_marks me marks b (h ∷ hs) P x = touch_marks me
    (settle me marks (b - left_size h) (rise me h P x) (static_of h P))
    (b - left_size h) hs (static_of h P) (rise me h P x)

-- the way to the top of a static process, none of which is touched
abbrev pub QuietStands : Role → Marks → ℕ → ℕ → List Hole → Process → Type 0
QuietStands me marks top b [] P = b ≡ top
QuietStands me marks top b (h ∷ hs) P = (c : ℕ) × (b ≡ c + left_size h)
    × BesideStands me marks c h P
    × QuietStands me marks top c hs (static_of h P)
