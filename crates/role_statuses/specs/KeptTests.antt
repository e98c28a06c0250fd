-- Whether marks hang together, as a test.
use Rattle.std.specs.Prelude.{◌≡◌, ◌+◌, ℕ, zero, suc, Bool, true, false, not, ◌&&◌}
use Rattle.dioc_terms.specs.declared.names.Role.{Role}
use Rattle.dioc_terms.specs.Processes.{Process, Seq, Par, IfLead, IfFollow, WhileLead, WhileFollow, ScopeLead, ScopeFollow}
use Rattle.role_statuses.specs.Flat.{Marks, inner, size}
use Rattle.role_statuses.specs.Kept.{IsKept, kept}
use Rattle.role_statuses.specs.Local.{is_untouched}
use Rattle.role_statuses.specs.Marks.{Mark}
use Rattle.role_statuses.specs.Marks as mark
use Rattle.role_statuses.specs.Sound.{is_sound}
use Rattle.role_statuses.specs.Statuses.{Status, Untouched, First, Second, Both, Telling, Branch, Body, is_over}

-- nothing was done at the places from this one on, so many
abbrev pub all_untouched : Marks → ℕ → ℕ → Bool
all_untouched marks b zero = true
all_untouched marks b (suc n) = is_untouched (marks (b + n)) && all_untouched marks b n

abbrev pub agrees : Bool → Bool → Bool
agrees true t = t
agrees false t = not t

-- a mark that says this status says of parts side by side whether they have ended
abbrev pub says_over : Role → Mark → Status → Process → Bool
says_over me (mark.Both l r) (Both x y) (Par P Q) =
    agrees l (is_over me x P) && agrees r (is_over me y Q)
says_over me m x P = true

-- so it is with the parts, and those to which the status may come are untouched
abbrev pub parts_say : Role → Marks → ℕ → Status → Process → Bool
parts_say me marks b Untouched P = all_untouched marks b (inner P)
parts_say me marks b (First x) (Seq P Q) =
    (says_over me (marks (b + inner P)) x P && parts_say me marks b x P)
    && all_untouched marks (b + size P) (size Q)
parts_say me marks b (Second x) (Seq P Q) =
    says_over me (marks (b + size P + inner Q)) x Q && parts_say me marks (b + size P) x Q
parts_say me marks b (Both x y) (Par P Q) =
    (says_over me (marks (b + inner P)) x P && parts_say me marks b x P)
    && (says_over me (marks (b + size P + inner Q)) y Q && parts_say me marks (b + size P) y Q)
parts_say me marks b (Telling f k l ms) (IfLead i g others P Q) =
    all_untouched marks b (size P + size Q)
parts_say me marks b (Branch true x) (IfLead i g others P Q) =
    says_over me (marks (b + inner P)) x P && parts_say me marks b x P
parts_say me marks b (Branch false x) (IfLead i g others P Q) =
    says_over me (marks (b + size P + inner Q)) x Q && parts_say me marks (b + size P) x Q
parts_say me marks b (Branch true x) (IfFollow i leader P Q) =
    says_over me (marks (b + inner P)) x P && parts_say me marks b x P
parts_say me marks b (Branch false x) (IfFollow i leader P Q) =
    says_over me (marks (b + size P + inner Q)) x Q && parts_say me marks (b + size P) x Q
parts_say me marks b (Telling f k l ms) (WhileLead i g others P) = all_untouched marks b (size P)
parts_say me marks b (Telling f k l ms) (ScopeLead head others P) = all_untouched marks b (size P)
parts_say me marks b (Body x) (WhileLead i g others P) =
    says_over me (marks (b + inner P)) x P && parts_say me marks b x P
parts_say me marks b (Body x) (WhileFollow i leader P) =
    says_over me (marks (b + inner P)) x P && parts_say me marks b x P
parts_say me marks b (Body x) (ScopeLead head others P) =
    says_over me (marks (b + inner P)) x P && parts_say me marks b x P
parts_say me marks b (Body x) (ScopeFollow i leader P) =
    says_over me (marks (b + inner P)) x P && parts_say me marks b x P
parts_say me marks b x P = true

-- the marks of a whole
abbrev pub is_kept : Role → Marks → Process → Bool
is_kept me marks W =
    (says_over me (marks (0 + inner W)) (kept marks 0 W) W
    && parts_say me marks 0 (kept marks 0 W) W)
    && is_sound me (kept marks 0 W) W

-- it is true exactly where they hang together
pub record KeptIsTested : Type 0 where
  pub says : (me : Role) (marks : Marks) (W : Process) → is_kept me marks W ≡ true
      → IsKept me marks W
  pub said : (me : Role) (marks : Marks) (W : Process) → IsKept me marks W
      → is_kept me marks W ≡ true
