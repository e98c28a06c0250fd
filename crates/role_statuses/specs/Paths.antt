-- The way from a part to the top: what of it a move touches.
use Rattle.std.specs.Prelude.{◌≡◌, List, [], ◌∷◌, ◌++◌, Bool, true, false, if◌then◌else◌}
use Rattle.dioc_terms.specs.declared.names.Role.{Role}
use Rattle.dioc_terms.specs.declared.names.Index.{Index}
use Rattle.dioc_terms.specs.declared.processes.ScopeHead.{ScopeHead}
use Rattle.dioc_terms.specs.declared.entries.Act.{Act}
use Rattle.dioc_terms.specs.Expressions.{Expression}
use Rattle.dioc_terms.specs.Processes.{Process, Seq, Par, IfLead, IfFollow, WhileLead, WhileFollow, ScopeLead, ScopeFollow}
use Rattle.process_steps.specs.Steps.{ended, offers, is_offered}
use Rattle.role_statuses.specs.Statuses.{Status, Untouched, First, Second, Both, Branch, Body, Ending, is_over, leaves}
use Rattle.role_statuses.specs.Moves.{behind, bodied, next_turn, scope_end}

-- a construct that runs, with a hole for the part of it that acts
pub data Hole : Type 0 where
  -- the second part of the sequence
  InFirst : Process → Hole
  -- the first part of the sequence, which is gone
  InSecond : Process → Hole
  -- the right part and its status
  InLeft : Status → Process → Hole
  -- the left part and its status
  InRight : Status → Process → Hole
  -- the flag, and the other branch
  InLeadBranch : Bool → Index → Expression → List Role → Process → Hole
  InFollowBranch : Bool → Index → Role → Process → Hole
  InLeadTurn : Index → Expression → List Role → Hole
  InFollowTurn : Index → Role → Hole
  InLeadScope : ScopeHead → List Role → Hole
  InFollowScope : Index → Role → Hole

-- the static construct, with this part in the hole
abbrev pub static_of : Hole → Process → Process
static_of (InFirst Q) P = Seq P Q
static_of (InSecond R) P = Seq R P
static_of (InLeft y Q) P = Par P Q
static_of (InRight x R) P = Par R P
static_of (InLeadBranch true i g others Q) P = IfLead i g others P Q
static_of (InLeadBranch false i g others Q) P = IfLead i g others Q P
static_of (InFollowBranch true i leader Q) P = IfFollow i leader P Q
static_of (InFollowBranch false i leader Q) P = IfFollow i leader Q P
static_of (InLeadTurn i g others) P = WhileLead i g others P
static_of (InFollowTurn i leader) P = WhileFollow i leader P
static_of (InLeadScope head others) P = ScopeLead head others P
static_of (InFollowScope i leader) P = ScopeFollow i leader P

-- its status, where the part, which has this static process, has this status
abbrev pub status_of : Hole → Process → Status → Status
status_of (InFirst Q) P x = First x
status_of (InSecond R) P x = Second x
status_of (InLeft y Q) P x = Both x y
status_of (InRight y R) P x = Both y x
status_of (InLeadBranch b i g others Q) P x = Branch b x
status_of (InFollowBranch b i leader Q) P x = Branch b x
status_of (InLeadTurn i g others) P x = Body x
status_of (InFollowTurn i leader) P x = Body x
status_of (InLeadScope head others) P x = Body x
status_of (InFollowScope i leader) P x = Body x

-- what its status becomes, where the part comes to this status
abbrev pub rise : Role → Hole → Process → Status → Status
rise me (InFirst Q) P x = behind me P x
rise me (InLeadTurn i g others) P x = bodied me (next_turn me others i) P x
rise me (InFollowTurn i leader) P x = bodied me Ending P x
rise me (InLeadScope head others) P x = bodied me (scope_end me others head.index) P x
rise me (InFollowScope i leader) P x = bodied me Ending P x
rise me h P x = status_of h P x

-- The holes from the part to the top, the innermost first.

abbrev pub top_static : List Hole → Process → Process
top_static [] P = P
top_static (h ∷ hs) P = top_static hs (static_of h P)

abbrev pub top_status : List Hole → Process → Status → Status
top_status [] P x = x
top_status (h ∷ hs) P x = top_status hs (static_of h P) (status_of h P x)

-- what a move of the part makes of the top: only where the part has ended is the construct around
-- it touched, and so on; from there on the statuses stay
abbrev pub climb : Role → List Hole → Process → Status → Status
climb me [] P x = x
climb me (h ∷ hs) P x =
    if is_over me x P then climb me hs (static_of h P) (rise me h P x)
    else top_status hs (static_of h P) (status_of h P x)

-- the acts of the parts on the left of the part, and on its right
abbrev pub left_of : Role → Hole → List Act
left_of me (InRight y R) = leaves me y R
left_of me h = []

abbrev pub right_of : Role → Hole → List Act
right_of me (InLeft y Q) = leaves me y Q
right_of me h = []

-- the part acts, not one on its left: of parts side by side, the left one where both offer the act
abbrev pub IsActing : Role → Act → List Hole → Process → Status → Type 0
IsActing me a [] P x = Unit {0}
IsActing me a (h ∷ hs) P x =
    (is_over me x P ≡ false) × (is_offered a (left_of me h) ≡ false)
    × IsActing me a hs (static_of h P) (status_of h P x)

-- what a move of the part makes of a static process around it: each construct on the way is touched
abbrev pub touch : Role → List Hole → Process → Status → Status
touch me [] P x = x
touch me (h ∷ hs) P x = touch me hs (static_of h P) (rise me h P x)

-- a part of a static process acts first: it has not ended, nor does what is on its left offer the
-- act, and the first part of a sequence is passed over only where it has ended
abbrev pub IsQuiet : Act → Hole → Process → Type 0
IsQuiet a (InFirst Q) P = ended P ≡ false
IsQuiet a (InSecond R) P = ended R ≡ true
IsQuiet a (InLeft Untouched Q) P = Unit {0}
IsQuiet a (InRight Untouched R) P = Unit {0}
IsQuiet a h P = ⊥

abbrev pub IsStarting : Role → Act → List Hole → Process → Type 0
IsStarting me a [] P = Unit {0}
IsStarting me a (h ∷ hs) P =
    IsQuiet a h P × (is_offered a (left_of me h) ≡ false) × IsStarting me a hs (static_of h P)

-- the acts on the left of the part, and on its right, up to the top
abbrev pub lefts : Role → List Hole → List Act
lefts me [] = []
lefts me (h ∷ hs) = lefts me hs ++ left_of me h

abbrev pub rights : Role → List Hole → List Act
rights me [] = []
rights me (h ∷ hs) = right_of me h ++ rights me hs

-- the acts of what is next in a construct whose part has ended
abbrev pub fresh : Role → Hole → Process → List Act
fresh me (InFirst Q) P = offers me Q
fresh me (InLeadTurn i g others) P = leaves me (next_turn me others i) (WhileLead i g others P)
fresh me (InFollowTurn i leader) P = leaves me Ending (WhileFollow i leader P)
fresh me (InLeadScope head others) P =
    leaves me (scope_end me others head.index) (ScopeLead head others P)
fresh me (InFollowScope i leader) P = leaves me Ending (ScopeFollow i leader P)
fresh me h P = []

-- the acts that come in the place of those of the part that acted
abbrev pub news : Role → List Hole → Process → Status → List Act
news me [] P x = leaves me x P
news me (h ∷ hs) P x =
    if is_over me x P then
    (if is_over me (rise me h P x) (static_of h P) then news me hs (static_of h P) (rise me h P x)
    else fresh me h P)
    else leaves me x P
