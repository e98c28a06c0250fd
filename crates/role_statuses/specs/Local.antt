-- What a loop over places needs to know where a part has ended: the op, the mark, and which part it
-- was.
use Rattle.std.specs.Prelude.{◌≡◌, ◌+◌, ℕ, zero, suc, List, [], ◌∷◌, Bool, true, false, not, ◌&&◌, ◌||◌, if◌then◌else◌, nat_eq, Option, Some, None}
use Rattle.dioc_terms.specs.declared.names.Role.{Role}
use Rattle.dioc_terms.specs.Processes.{Process, Seq, Par, WhileLead, WhileFollow, ScopeLead, ScopeFollow}
use Rattle.process_steps.specs.Steps.{ended}
use Rattle.role_statuses.specs.Statuses.{is_over}
use Rattle.role_statuses.specs.Moves.{next_turn, scope_end}
use Rattle.role_statuses.specs.Flat.{Marks, inner, left_size, mark_of, put, size, wipe}
use Rattle.role_statuses.specs.Marks.{Mark}
use Rattle.role_statuses.specs.Marks as mark
use Rattle.role_statuses.specs.Paths.{Hole, static_of, InFirst, InLeft, InLeadBranch, InFollowBranch}

-- the hole is that of the first of two parts
abbrev pub is_first : Hole → Bool
is_first (InFirst Q) = true
is_first (InLeft y Q) = true
is_first (InLeadBranch b i g others Q) = b
is_first (InFollowBranch b i leader Q) = b
is_first h = false

-- the mark of a construct of two parts side by side, as this part comes to this
abbrev pub sides : Bool → Bool → Bool → Bool → Mark
sides true over l r = mark.Both over r
sides false over l r = mark.Both l over

-- the mark of the construct once that part has ended, or has acted for the first time: whether it
-- is the first part, and whether it has ended
abbrev pub mark_after : Role → Process → Bool → Bool → Mark → Mark
mark_after me (Seq P Q) first true m = mark.Second
mark_after me (Seq P Q) true false m = mark.First
mark_after me (Seq P Q) false false m = mark.Second
mark_after me (Par P Q) first over mark.Untouched = sides first over (ended P) (ended Q)
mark_after me (Par P Q) first over (mark.Both l r) = sides first over l r
mark_after me (WhileLead i g others P) first over m =
    mark_of me (next_turn me others i) (WhileLead i g others P)
mark_after me (WhileFollow i leader P) first over m = mark.Ending
mark_after me (ScopeLead head others P) first over m =
    mark_of me (scope_end me others head.index) (ScopeLead head others P)
mark_after me (ScopeFollow i leader P) first over m = mark.Ending
mark_after me P first over m = m

-- both parts side by side have ended
abbrev pub both_over : Bool → Bool → Bool → Bool → Bool
both_over true over l r = over && r
both_over false over l r = l && over

-- whether the construct has ended then
abbrev pub over_after : Role → Process → Bool → Bool → Mark → Bool
over_after me (Seq P Q) true over m = over && ended Q
over_after me (Seq P Q) false over m = over
over_after me (Par P Q) first over mark.Untouched = both_over first over (ended P) (ended Q)
over_after me (Par P Q) first over (mark.Both l r) = both_over first over l r
over_after me (WhileLead i g others P) first over m = false
over_after me (WhileFollow i leader P) first over m = false
over_after me (ScopeLead head others P) first over m =
    is_over me (scope_end me others head.index) (ScopeLead head others P)
over_after me (ScopeFollow i leader P) first over m = false
over_after me P first over m = over

abbrev pub is_untouched : Mark → Bool
is_untouched mark.Untouched = true
is_untouched m = false

-- code: the static process at each place, the place of the construct around it, and the first of
-- its places
pub record Layout : Type 0 where
  pub statics : ℕ → Process
  pub parents : ℕ → Option ℕ
  pub lows : ℕ → ℕ

-- a mark is written at a construct; all of it is untouched again where it begins again
abbrev pub write : Marks → ℕ → ℕ → Process → Mark → Marks
write marks low place S mark.Untouched = wipe marks low (size S)
write marks low place S m = put marks place m

-- the marks once the part at this place, which is the last of its places, has ended or has acted
-- for the first time, and its construct is at that one
abbrev pub written : Role → Layout → Marks → ℕ → Bool → ℕ → Marks
written me code marks at over up = write marks (code.lows up) up (code.statics up)
    (mark_after me (code.statics up) (not (nat_eq (suc at) up)) over (marks up))

abbrev pub walk_up : Role → Layout → (Marks → ℕ → Bool → Marks) → Marks → ℕ → Bool → Option ℕ
    → Marks
walk_up me code next marks at over None = marks
walk_up me code next marks at over (Some up) =
    if over || is_untouched (marks up) then next (written me code marks at over up) up
    (over_after me (code.statics up) (not (nat_eq (suc at) up)) over (marks up)) else marks

-- what a loop over places does, from a part that has acted on: it reads the op and the mark of the
-- construct around it, and writes its mark where the part has ended or nothing had been done in the
-- construct
abbrev pub walk : Role → Layout → ℕ → Marks → ℕ → Bool → Marks
walk me code zero marks at over = marks
walk me code (suc n) marks at over =
    walk_up me code (walk me code n) marks at over (code.parents at)

-- the code says the way to the top
abbrev pub PathLays : Layout → ℕ → List Hole → Process → Type 0
PathLays code b [] P = code.parents (b + inner P) ≡ None
PathLays code b (h ∷ hs) P = (c : ℕ) × (b ≡ c + left_size h)
    × (code.parents (b + inner P) ≡ Some (c + inner (static_of h P)))
    × (code.statics (c + inner (static_of h P)) ≡ static_of h P)
    × (code.lows (c + inner (static_of h P)) ≡ c)
    × PathLays code c hs (static_of h P)
