-- The places that can act offer what the status offers, and each has its way to the top.
use Rattle.std.proofs.Common.{◌≡◌, ◌+◌, ℕ, List, [], ◌∷◌, ◌++◌, Bool, true, false, not, ◌&&◌, ◌||◌, ◌⊎◌, Some, refl, ap, ap₂, ◌∙◌, sym, arith, append_assoc, ⊎_elim}
use Rattle.std.proofs.Math.Logic.{inl, inr}
use Rattle.std.proofs.lemmas.Bool.{and_parts, cases_Bool, cond-true, cond-false, both_ways, false_from_ne_true}
use Rattle.std.proofs.lemmas.List.Folds.{list_any-append}
use Rattle.dioc_terms.specs.declared.names.Role.{Role}
use Rattle.dioc_terms.specs.declared.entries.Act.{Act}
use Rattle.dioc_terms.specs.Equality.{act_eq}
use Rattle.dioc_terms.specs.Processes.{Process, Skip, Seq, Par, IfLead, IfFollow, WhileLead, WhileFollow, ScopeLead, ScopeFollow, Tell, Gather, Nothing}
use Rattle.process_steps.specs.Steps.{ended, offers, is_offered}
use Rattle.role_statuses.specs.Statuses.{Status, read, Untouched, First, Second, Both, Branch, Body, is_over, leaves}
use Rattle.role_statuses.specs.Marks as mark
use Rattle.role_statuses.specs.Paths.{Hole, InFirst, InSecond, InLeft, InRight, InLeadBranch, InFollowBranch, InLeadTurn, InFollowTurn, InLeadScope, InFollowScope, top_static, top_status, IsActing, IsStarting}
use Rattle.role_statuses.specs.Flat.{inner, size, Marks, IsFresh, Stands, PathStands, QuietStands}
use Rattle.role_statuses.specs.Sound.{is_sound}
use Rattle.role_statuses.specs.Spots.{Spot, spot_of, still, spots, acts_of, first_at}
use Rattle.role_statuses.proofs.LeafLemmas.{IsLeaf}
use Rattle.role_statuses.proofs.PathLemmas.{append_none}
use Rattle.role_statuses.proofs.ReadLemmas.{leaves-reads, over-reads}
use Rattle.role_statuses.proofs.SpliceLemmas.{over_none}

pub acts-append : (xs ys : List Spot) → acts_of (xs ++ ys) ≡ acts_of xs ++ acts_of ys
acts-append [] ys = refl
acts-append (x ∷ xs) ys = ap (λ acts. x.acts ++ acts) (acts-append xs ys) ∙ sym (append_assoc x.acts (acts_of xs) (acts_of ys))

pub not_true : (t u : Bool) → (not t && u) ≡ true → (t ≡ false) × (u ≡ true)
not_true false u h = (refl, h)
not_true true u h = cc

module _ (me : Role) where
  spot_acts : (b : ℕ) (x : Status) (P : Process) → acts_of (spot_of me b x P) ≡ leaves me x P
  spot_acts b x P = ⊎_elim
      (λ over. ap acts_of (cond-true (is_over me x P) [] _ over) ∙ sym (over_none me x P over))
      (λ goes. ap acts_of (cond-false (is_over me x P) [] (record { place = b + inner P; acts = leaves me x P } ∷ []) goes) ∙ sym (append_none (leaves me x P)))
      (cases_Bool (is_over me x P))

  still_acts : (b : ℕ) (P : Process) → acts_of (still me b P) ≡ offers me P
  still_acts b (Seq P Q) = ⊎_elim
      (λ over. ap acts_of (cond-true _ _ _ over) ∙ still_acts (b + size P) Q ∙ sym (cond-true _ _ _ over))
      (λ goes. ap acts_of (cond-false _ _ _ goes) ∙ still_acts b P ∙ sym (cond-false _ _ _ goes))
      (cases_Bool (ended P))
  still_acts b (Par P Q) = acts-append (still me b P) (still me (b + size P) Q) ∙ ap₂ (λ xs ys. xs ++ ys) (still_acts b P) (still_acts (b + size P) Q)
  still_acts b P = spot_acts b Untouched P

  -- the places offer exactly what the status offers
  pub spots-offer : (b : ℕ) (x : Status) (P : Process) → is_sound me x P ≡ true → acts_of (spots me b x P) ≡ leaves me x P
  spots-offer b Untouched P h = still_acts b P
  spots-offer b (First x) (Seq P Q) h = let k = not_true (is_over me x P) (is_sound me x P) h in spots-offer b x P k.1 ∙ sym (cond-false _ _ _ k.0)
  spots-offer b (Second x) (Seq P Q) h = spots-offer (b + size P) x Q h
  spots-offer b (Both x y) (Par P Q) h = let k = and_parts (is_sound me x P) (is_sound me y Q) h in
      acts-append (spots me b x P) (spots me (b + size P) y Q) ∙ ap₂ (λ xs ys. xs ++ ys) (spots-offer b x P k.0) (spots-offer (b + size P) y Q k.1)
  spots-offer b (Branch true x) (IfLead i g others P Q) h = spots-offer b x P h
  spots-offer b (Branch false x) (IfLead i g others P Q) h = spots-offer (b + size P) x Q h
  spots-offer b (Branch true x) (IfFollow i leader P Q) h = spots-offer b x P h
  spots-offer b (Branch false x) (IfFollow i leader P Q) h = spots-offer (b + size P) x Q h
  spots-offer b (Body x) (WhileLead i g others P) h = let k = not_true (is_over me x P) (is_sound me x P) h in spots-offer b x P k.1 ∙ sym (cond-false _ _ _ k.0)
  spots-offer b (Body x) (WhileFollow i leader P) h = let k = not_true (is_over me x P) (is_sound me x P) h in spots-offer b x P k.1 ∙ sym (cond-false _ _ _ k.0)
  spots-offer b (Body x) (ScopeLead head others P) h = let k = not_true (is_over me x P) (is_sound me x P) h in spots-offer b x P k.1 ∙ sym (cond-false _ _ _ k.0)
  spots-offer b (Body x) (ScopeFollow i leader P) h = let k = not_true (is_over me x P) (is_sound me x P) h in spots-offer b x P k.1 ∙ sym (cond-false _ _ _ k.0)
  spots-offer b x P h = spot_acts b x P

both_none : {A : Type 0} (xs ys : List A) → xs ++ ys ≡ [] → (xs ≡ []) × (ys ≡ [])
both_none [] ys h = (refl, h)
both_none (x ∷ xs) ys h = cc

-- what offers nothing has ended
offers_none : (me : Role) (P : Process) → offers me P ≡ [] → ended P ≡ true
offers_none me Skip h = refl
offers_none me (Seq P Q) h = ⊎_elim
    (λ over. ap₂ (λ t u. t && u) over (offers_none me Q (sym (cond-true (ended P) (offers me Q) (offers me P) over) ∙ h)))
    (λ goes. absurd (both_ways (ended P) goes (offers_none me P (sym (cond-false (ended P) (offers me Q) (offers me P) goes) ∙ h))))
    (cases_Bool (ended P))
offers_none me (Par P Q) h = let k = both_none (offers me P) (offers me Q) h in ap₂ (λ t u. t && u) (offers_none me P k.0) (offers_none me Q k.1)
offers_none me (Tell Nothing) h = refl
offers_none me (Gather []) h = refl
offers_none me P h = cc

-- nothing is left to do exactly where no place can act
pub none-over : (me : Role) (b : ℕ) (x : Status) (P : Process) → is_sound me x P ≡ true → spots me b x P ≡ [] → is_over me x P ≡ true
none-over me b x P sound h = over-reads me x P
    ∙ offers_none me (read me x P) (sym (leaves-reads me x P) ∙ sym (spots-offer me b x P sound) ∙ ap acts_of h)

-- the place does the act first, deep in the static process M
pub record IsDeep (me : Role) (marks : Marks) (a : Act) (c : ℕ) (M : Process) (place : ℕ) : Type 0 where
  pub qs : List Hole
  pub leaf : Process
  pub base : ℕ
  pub is_static : top_static qs leaf ≡ M
  pub quiet : QuietStands me marks c base qs leaf
  pub stands : Stands me marks base Untouched leaf
  pub is_leaf : IsLeaf Untouched leaf
  pub offered : is_offered a (offers me leaf) ≡ true
  pub starts : IsStarting me a qs leaf
  pub is_place : place ≡ base + inner leaf

-- the place does the act, in a role with this status
pub record IsFound (me : Role) (marks : Marks) (a : Act) (top : ℕ) (X : Status) (W : Process) (place : ℕ) : Type 0 where
  pub hs : List Hole
  pub part : Process
  pub status : Status
  pub base : ℕ
  pub is_static : top_static hs part ≡ W
  pub is_status : top_status hs part status ≡ X
  pub path : PathStands me marks top base hs part
  pub stands : Stands me marks base status part
  pub offered : is_offered a (leaves me status part) ≡ true
  pub acts : IsActing me a hs part status
  -- it is the part's own place, or one deep in a part that is untouched
  pub at : (IsLeaf status part × (place ≡ base + inner part)) ⊎ ((status ≡ Untouched) × IsDeep me marks a base part place)

first_left : (a : Act) (xs ys : List Spot) (place : ℕ) → first_at a xs ≡ Some place → first_at a (xs ++ ys) ≡ Some place
first_left a [] ys place h = cc
first_left a (x ∷ xs) ys place h = ⊎_elim
    (λ here. cond-true _ _ _ here ∙ sym (cond-true (is_offered a x.acts) (Some x.place) (first_at a xs) here) ∙ h)
    (λ later. cond-false _ _ _ later ∙ first_left a xs ys place (sym (cond-false (is_offered a x.acts) (Some x.place) (first_at a xs) later) ∙ h))
    (cases_Bool (is_offered a x.acts))

or_none : (t u : Bool) → (t || u) ≡ false → (t ≡ false) × (u ≡ false)
or_none false u h = (refl, h)
or_none true u h = cc

or_second : (t u : Bool) → (t || u) ≡ true → t ≡ false → u ≡ true
or_second false u h k = h
or_second true u h k = cc

first_right : (a : Act) (xs ys : List Spot) → is_offered a (acts_of xs) ≡ false → first_at a (xs ++ ys) ≡ first_at a ys
first_right a [] ys h = refl
first_right a (x ∷ xs) ys h =
    let k = or_none (is_offered a x.acts) (is_offered a (acts_of xs)) (sym (list_any-append (act_eq a) x.acts (acts_of xs)) ∙ h) in
    cond-false _ _ _ k.0 ∙ first_right a xs ys k.1

module _ (me : Role) (marks : Marks) (a : Act) where
  pub goes_if : (x : Status) (P : Process) → is_offered a (leaves me x P) ≡ true → is_over me x P ≡ false
  goes_if x P h = false_from_ne_true _ (λ over. both_ways _ (ap (is_offered a) (over_none me x P over)) h)

  first_spot : (b : ℕ) (x : Status) (P : Process) → is_offered a (leaves me x P) ≡ true → first_at a (spot_of me b x P) ≡ Some (b + inner P)
  first_spot b x P h = ap (first_at a) (cond-false (is_over me x P) [] (record { place = b + inner P; acts = leaves me x P } ∷ []) (goes_if x P h)) ∙ cond-true _ _ _ h

  -- deep in a static process M, whose places begin at c
  deep : (c : ℕ) (M : Process) (b : ℕ) (qs : List Hole) (P : Process) → top_static qs P ≡ M → QuietStands me marks c b qs P → Stands me marks b Untouched P
      → IsStarting me a qs P → is_offered a (offers me P) ≡ true → (place : ℕ) × (first_at a (still me b P) ≡ Some place) × IsDeep me marks a c M place
  deep c M b qs (Seq P Q) e quiet stands starts offered = ⊎_elim
      (λ over. let rest = deep c M (b + size P) (InSecond P ∷ qs) Q e (b, refl, tt, quiet) (right_of_fresh stands) (over, refl, starts)
      (sym (ap (is_offered a) (cond-true (ended P) (offers me Q) (offers me P) over)) ∙ offered) in
      (rest.0, ap (first_at a) (cond-true (ended P) _ (still me b P) over) ∙ rest.1, rest.2))
      (λ goes. let rest = deep c M b (InFirst Q ∷ qs) P e (b, omega arith, right_fresh stands, quiet) (left_of_fresh stands) (goes, refl, starts)
      (sym (ap (is_offered a) (cond-false (ended P) (offers me Q) (offers me P) goes)) ∙ offered) in
      (rest.0, ap (first_at a) (cond-false (ended P) (still me (b + size P) Q) _ goes) ∙ rest.1, rest.2))
      (cases_Bool (ended P))
    where
      left_of_fresh : Stands me marks b Untouched (Seq P Q) → Stands me marks b Untouched P
      left_of_fresh s = (s.1.fresh (b + inner P) (omega arith) (omega arith), record { fresh = λ k l u. s.1.fresh k l (omega arith) })

      right_of_fresh : Stands me marks b Untouched (Seq P Q) → Stands me marks (b + size P) Untouched Q
      right_of_fresh s = (s.1.fresh (b + size P + inner Q) (omega arith) (omega arith), record { fresh = λ k l u. s.1.fresh k (omega arith) (omega arith) })

      right_fresh : Stands me marks b Untouched (Seq P Q) → IsFresh marks (b + size P) (size Q)
      right_fresh s = record { fresh = λ k l u. s.1.fresh k (omega arith) (omega arith) }
  deep c M b qs (Par P Q) e quiet stands starts offered = ⊎_elim
      (λ here. let rest = deep c M b (InLeft Untouched Q ∷ qs) P e (b, omega arith, right_of_fresh stands, quiet) (left_of_fresh stands) (tt, refl, starts) here in
      (rest.0, first_left a (still me b P) (still me (b + size P) Q) rest.0 rest.1, rest.2))
      (λ gone. let rest = deep c M (b + size P) (InRight Untouched P ∷ qs) Q e (b, refl, left_of_fresh stands, quiet) (right_of_fresh stands) (tt, gone, starts)
      (or_second (is_offered a (offers me P)) (is_offered a (offers me Q)) (sym (list_any-append (act_eq a) (offers me P) (offers me Q)) ∙ offered) gone) in
      (rest.0, first_right a (still me b P) (still me (b + size P) Q) (ap (is_offered a) (still_acts me b P) ∙ gone) ∙ rest.1, rest.2))
      (cases_Bool (is_offered a (offers me P)))
    where
      left_of_fresh : Stands me marks b Untouched (Par P Q) → Stands me marks b Untouched P
      left_of_fresh s = (s.1.fresh (b + inner P) (omega arith) (omega arith), record { fresh = λ k l u. s.1.fresh k l (omega arith) })

      right_of_fresh : Stands me marks b Untouched (Par P Q) → Stands me marks (b + size P) Untouched Q
      right_of_fresh s = (s.1.fresh (b + size P + inner Q) (omega arith) (omega arith), record { fresh = λ k l u. s.1.fresh k (omega arith) (omega arith) })
  deep c M b qs P e quiet stands starts offered = (
    b + inner P,
    first_spot b Untouched P offered,
    record {
      qs = qs;
      leaf = P;
      base = b;
      is_static = e;
      quiet = quiet;
      stands = stands;
      is_leaf = tt;
      offered = offered;
      starts = starts;
      is_place = refl;
    },
  )

  false_true : false ≡ true → ⊥
  false_true h = cc

  -- the first place that offers the act is that of the part that does it, and the marks say its way to the top
  pub find : (top : ℕ) (X : Status) (W : Process) (b : ℕ) (hs : List Hole) (x : Status) (P : Process) → top_static hs P ≡ W → top_status hs P x ≡ X
      → PathStands me marks top b hs P → Stands me marks b x P → IsActing me a hs P x → is_sound me x P ≡ true → is_offered a (leaves me x P) ≡ true
      → (place : ℕ) × (first_at a (spots me b x P) ≡ Some place) × IsFound me marks a top X W place
  find top X W b hs Untouched P e f path stands acts sound offered =
      let d = deep b P b [] P refl refl stands tt offered in
      (d.0, d.1, record { hs = hs; part = P; status = Untouched; base = b; is_static = e; is_status = f; path = path; stands = stands; offered = offered; acts = acts; at = inr (refl, d.2) })
  find top X W b hs (First x) (Seq P Q) e f path stands acts sound offered = let k = not_true (is_over me x P) (is_sound me x P) sound in
      find top X W b (InFirst Q ∷ hs) x P e f (b, omega arith, stands.0, stands.1.1, path) stands.1.0 (k.0, refl, acts) k.1
      (sym (ap (is_offered a) (cond-false (is_over me x P) (offers me Q) (leaves me x P) k.0)) ∙ offered)
  find top X W b hs (Second x) (Seq P Q) e f path stands acts sound offered =
      find top X W (b + size P) (InSecond P ∷ hs) x Q e f (b, refl, stands.0, tt, path) stands.1 (goes_if x Q offered, refl, acts) sound offered
  find top X W b hs (Both x y) (Par P Q) e f path stands acts sound offered = let k = and_parts (is_sound me x P) (is_sound me y Q) sound in ⊎_elim
      (λ here. let rest = find top X W b (InLeft y Q ∷ hs) x P e f
      (b, omega arith, stands.0 ∙ ap (λ t. mark.Both t (is_over me y Q)) (goes_if x P here), stands.1.1, path) stands.1.0 (goes_if x P here, refl, acts) k.0 here in
      (rest.0, first_left a (spots me b x P) (spots me (b + size P) y Q) rest.0 rest.1, rest.2))
      (λ gone. let there : is_offered a (leaves me y Q) ≡ true = or_second (is_offered a (leaves me x P)) (is_offered a (leaves me y Q))
      (sym (list_any-append (act_eq a) (leaves me x P) (leaves me y Q)) ∙ offered) gone in
      let rest = find top X W (b + size P) (InRight x P ∷ hs) y Q e f
      (b, refl, stands.0 ∙ ap (mark.Both (is_over me x P)) (goes_if y Q there), stands.1.0, path) stands.1.1 (goes_if y Q there, gone, acts) k.1 there in
      (rest.0, first_right a (spots me b x P) (spots me (b + size P) y Q) (ap (is_offered a) (spots-offer me b x P k.0) ∙ gone) ∙ rest.1, rest.2))
      (cases_Bool (is_offered a (leaves me x P)))
  find top X W b hs (Branch true x) (IfLead i g others P Q) e f path stands acts sound offered =
      find top X W b (InLeadBranch true i g others Q ∷ hs) x P e f (b, omega arith, stands.0, tt, path) stands.1 (goes_if x P offered, refl, acts) sound offered
  find top X W b hs (Branch false x) (IfLead i g others P Q) e f path stands acts sound offered =
      find top X W (b + size P) (InLeadBranch false i g others P ∷ hs) x Q e f (b, refl, stands.0, tt, path) stands.1 (goes_if x Q offered, refl, acts) sound offered
  find top X W b hs (Branch true x) (IfFollow i leader P Q) e f path stands acts sound offered =
      find top X W b (InFollowBranch true i leader Q ∷ hs) x P e f (b, omega arith, stands.0, tt, path) stands.1 (goes_if x P offered, refl, acts) sound offered
  find top X W b hs (Branch false x) (IfFollow i leader P Q) e f path stands acts sound offered =
      find top X W (b + size P) (InFollowBranch false i leader P ∷ hs) x Q e f (b, refl, stands.0, tt, path) stands.1 (goes_if x Q offered, refl, acts) sound offered
  find top X W b hs (Body x) (WhileLead i g others P) e f path stands acts sound offered = let k = not_true (is_over me x P) (is_sound me x P) sound in
      find top X W b (InLeadTurn i g others ∷ hs) x P e f (b, omega arith, stands.0, tt, path) stands.1 (k.0, refl, acts) k.1
      (sym (ap (is_offered a) (cond-false (is_over me x P) _ (leaves me x P) k.0)) ∙ offered)
  find top X W b hs (Body x) (WhileFollow i leader P) e f path stands acts sound offered = let k = not_true (is_over me x P) (is_sound me x P) sound in
      find top X W b (InFollowTurn i leader ∷ hs) x P e f (b, omega arith, stands.0, tt, path) stands.1 (k.0, refl, acts) k.1
      (sym (ap (is_offered a) (cond-false (is_over me x P) _ (leaves me x P) k.0)) ∙ offered)
  find top X W b hs (Body x) (ScopeLead head others P) e f path stands acts sound offered = let k = not_true (is_over me x P) (is_sound me x P) sound in
      find top X W b (InLeadScope head others ∷ hs) x P e f (b, omega arith, stands.0, tt, path) stands.1 (k.0, refl, acts) k.1
      (sym (ap (is_offered a) (cond-false (is_over me x P) _ (leaves me x P) k.0)) ∙ offered)
  find top X W b hs (Body x) (ScopeFollow i leader P) e f path stands acts sound offered = let k = not_true (is_over me x P) (is_sound me x P) sound in
      find top X W b (InFollowScope i leader ∷ hs) x P e f (b, omega arith, stands.0, tt, path) stands.1 (k.0, refl, acts) k.1
      (sym (ap (is_offered a) (cond-false (is_over me x P) _ (leaves me x P) k.0)) ∙ offered)
  find top X W b hs (First x) P e f path stands acts sound offered = absurd (false_true offered)
  find top X W b hs (Second x) P e f path stands acts sound offered = absurd (false_true offered)
  find top X W b hs (Both x y) P e f path stands acts sound offered = absurd (false_true offered)
  find top X W b hs (Branch t x) P e f path stands acts sound offered = absurd (false_true offered)
  find top X W b hs (Body x) P e f path stands acts sound offered = absurd (false_true offered)
  find top X W b hs x P e f path stands acts sound offered = (
    b + inner P,
    first_spot b x P offered,
    record {
      hs = hs;
      part = P;
      status = x;
      base = b;
      is_static = e;
      is_status = f;
      path = path;
      stands = stands;
      offered = offered;
      acts = acts;
      at = inl (tt, refl);
    },
  )

  -- of a whole role
  pub found : (top : ℕ) (X : Status) (W : Process) → Stands me marks top X W → is_sound me X W ≡ true → is_offered a (leaves me X W) ≡ true
      → (place : ℕ) × (first_at a (spots me top X W) ≡ Some place) × IsFound me marks a top X W place
  found top X W stands sound offered = find top X W top [] X W refl refl refl stands tt sound offered
