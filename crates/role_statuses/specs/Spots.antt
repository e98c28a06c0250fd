-- The places that can act, from left to right.
use Rattle.std.specs.Prelude.{◌+◌, ◌-◌, ℕ, List, [], ◌∷◌, ◌++◌, true, false, Option, Some, None, if◌then◌else◌}
use Rattle.dioc_terms.specs.declared.names.Role.{Role}
use Rattle.dioc_terms.specs.declared.entries.Act.{Act}
use Rattle.dioc_terms.specs.Processes.{Process, Seq, Par, IfLead, IfFollow, WhileLead, WhileFollow, ScopeLead, ScopeFollow}
use Rattle.process_steps.specs.Steps.{ended, is_offered}
use Rattle.role_statuses.specs.Statuses.{Status, Untouched, First, Second, Both, Branch, Body, Ending, is_over, leaves}
use Rattle.role_statuses.specs.Flat.{inner, left_size, size}
use Rattle.role_statuses.specs.Moves.{next_turn, scope_end}
use Rattle.role_statuses.specs.Paths.{Hole, InFirst, InLeft, InRight, InLeadTurn, InFollowTurn, InLeadScope, InFollowScope, static_of, rise}

-- a place, and the acts that it offers: one, or those of the process that a scope has become
pub record Spot : Type 0 where
  pub place : ℕ
  pub acts : List Act

abbrev pub spot_of : Role → ℕ → Status → Process → List Spot
spot_of me b x P =
    if is_over me x P then [] else (record { place = b + inner P; acts = leaves me x P } ∷ [])

-- those of a static process
abbrev pub still : Role → ℕ → Process → List Spot
still me b (Seq P Q) = if ended P then still me (b + size P) Q else still me b P
still me b (Par P Q) = still me b P ++ still me (b + size P) Q
still me b P = spot_of me b Untouched P

abbrev pub spots : Role → ℕ → Status → Process → List Spot
spots me b Untouched P = still me b P
spots me b (First x) (Seq P Q) = spots me b x P
spots me b (Second x) (Seq P Q) = spots me (b + size P) x Q
spots me b (Both x y) (Par P Q) = spots me b x P ++ spots me (b + size P) y Q
spots me b (Branch true x) (IfLead i g others P Q) = spots me b x P
spots me b (Branch false x) (IfLead i g others P Q) = spots me (b + size P) x Q
spots me b (Branch true x) (IfFollow i leader P Q) = spots me b x P
spots me b (Branch false x) (IfFollow i leader P Q) = spots me (b + size P) x Q
spots me b (Body x) (WhileLead i g others P) = spots me b x P
spots me b (Body x) (WhileFollow i leader P) = spots me b x P
spots me b (Body x) (ScopeLead head others P) = spots me b x P
spots me b (Body x) (ScopeFollow i leader P) = spots me b x P
spots me b x P = spot_of me b x P

abbrev pub acts_of : List Spot → List Act
acts_of [] = []
acts_of (s ∷ ss) = s.acts ++ acts_of ss

-- the first place that offers the act
abbrev pub first_at : Act → List Spot → Option ℕ
first_at a [] = None
first_at a (s ∷ ss) = if is_offered a s.acts then Some s.place else first_at a ss

-- The places of the parts beside a hole whose construct's places begin at c.

abbrev pub left_spots : Role → ℕ → Hole → List Spot
left_spots me c (InRight y R) = spots me c y R
left_spots me c h = []

abbrev pub right_spots : Role → ℕ → Hole → Process → List Spot
right_spots me c (InLeft y Q) P = spots me (c + size P) y Q
right_spots me c h P = []

-- up to the top, from a part whose places begin at b
abbrev pub lefts_spots : Role → ℕ → List Hole → Process → List Spot
lefts_spots me b [] P = []
lefts_spots me b (h ∷ hs) P =
    lefts_spots me (b - left_size h) hs (static_of h P) ++ left_spots me (b - left_size h) h

abbrev pub rights_spots : Role → ℕ → List Hole → Process → List Spot
rights_spots me b [] P = []
rights_spots me b (h ∷ hs) P =
    right_spots me (b - left_size h) h P ++ rights_spots me (b - left_size h) hs (static_of h P)

-- the places of what is next in a construct whose part has ended
abbrev pub fresh_spots : Role → ℕ → Hole → Process → List Spot
fresh_spots me c (InFirst Q) P = still me (c + size P) Q
fresh_spots me c (InLeadTurn i g others) P =
    spots me c (next_turn me others i) (WhileLead i g others P)
fresh_spots me c (InFollowTurn i leader) P = spots me c Ending (WhileFollow i leader P)
fresh_spots me c (InLeadScope head others) P =
    spots me c (scope_end me others head.index) (ScopeLead head others P)
fresh_spots me c (InFollowScope i leader) P = spots me c Ending (ScopeFollow i leader P)
fresh_spots me c h P = []

-- the places that come in the place of those of the part that acted
abbrev pub news_spots : Role → ℕ → List Hole → Process → Status → List Spot
news_spots me b [] P x = spots me b x P
news_spots me b (h ∷ hs) P x =
    if is_over me x P then
    (if is_over me (rise me h P x) (static_of h P)
    then news_spots me (b - left_size h) hs (static_of h P) (rise me h P x)
    else fresh_spots me (b - left_size h) h P)
    else spots me b x P
