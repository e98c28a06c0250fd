-- What a move changes of the places that can act: those of the part that acts.
use Rattle.std.proofs.Common.{◌≡◌, ◌+◌, ◌-◌, ℕ, List, [], ◌∷◌, ◌++◌, Bool, true, false, not, ◌&&◌, if◌then◌else◌, refl, ap, ap₂, ◌∙◌, sym, subst, arith, append_assoc, ⊎_elim}
use Rattle.std.proofs.lemmas.Bool.{and_parts, both_ways, cases_Bool, cond-true, cond-false}
use Rattle.dioc_terms.specs.declared.names.Role.{Role}
use Rattle.dioc_terms.specs.declared.entries.Act.{Act}
use Rattle.dioc_terms.specs.declared.processes.Tag.TheVariants.{Turn}
use Rattle.dioc_terms.specs.Processes.{Process, Seq, Par, IfLead, IfFollow, WhileLead, WhileFollow, ScopeLead, ScopeFollow}
use Rattle.process_steps.specs.Steps.{ended}
use Rattle.role_statuses.specs.Statuses.{Status, Untouched, First, Second, Both, Branch, Body, Ending, read, is_over, keys_of, leaves}
use Rattle.role_statuses.specs.Moves.{bodied, next_turn, scope_end}
use Rattle.role_statuses.specs.Paths.{Hole, InFirst, InSecond, InLeft, InRight, InLeadBranch, InFollowBranch, InLeadTurn, InFollowTurn, InLeadScope, InFollowScope, static_of, status_of, rise, top_static, top_status, climb, touch, IsQuiet, IsStarting}
use Rattle.role_statuses.specs.Flat.{inner, size, Marks, left_size, PathAt, PathStands, QuietStands}
use Rattle.role_statuses.specs.Sound.{is_sound}
use Rattle.role_statuses.specs.Spots.{Spot, spot_of, still, spots, left_spots, right_spots, lefts_spots, rights_spots, fresh_spots, news_spots}
use Rattle.role_statuses.proofs.PathLemmas.{touch-stays, climb-touches, append_none}
use Rattle.role_statuses.proofs.ReadLemmas.{over-reads}
use Rattle.role_statuses.proofs.SettleLemmas.{base_is}
use Rattle.role_statuses.proofs.SoundLemmas.{end_sound, gather_sound}
use Rattle.role_statuses.proofs.SpotLemmas.{not_true}

module _ (me : Role) where
  none_spot : (b : ℕ) (x : Status) (P : Process) → is_over me x P ≡ true → spot_of me b x P ≡ []
  none_spot b x P h = cond-true (is_over me x P) [] (record { place = b + inner P; acts = leaves me x P } ∷ []) h

  still_none : (b : ℕ) (P : Process) → ended P ≡ true → still me b P ≡ []
  still_none b (Seq P Q) h = let k = and_parts (ended P) (ended Q) h in cond-true _ _ _ k.0 ∙ still_none (b + size P) Q k.1
  still_none b (Par P Q) h = let k = and_parts (ended P) (ended Q) h in ap₂ (λ xs ys. xs ++ ys) (still_none b P k.0) (still_none (b + size P) Q k.1)
  still_none b P h = none_spot b Untouched P h

  over_body : (x : Status) (P : Process) (t : Bool) → (not (is_over me x P) && is_sound me x P) ≡ true → (is_over me x P && t) ≡ true → ⊥
  over_body x P t sound over = both_ways (is_over me x P) (not_true (is_over me x P) (is_sound me x P) sound).0 (and_parts (is_over me x P) t over).0

  -- what has ended has no place that can act
  pub over-spots : (b : ℕ) (x : Status) (P : Process) → is_sound me x P ≡ true → is_over me x P ≡ true → spots me b x P ≡ []
  over-spots b Untouched P s h = still_none b P h
  over-spots b (First x) (Seq P Q) s h = absurd (over_body x P (ended Q) s h)
  over-spots b (Second x) (Seq P Q) s h = over-spots (b + size P) x Q s h
  over-spots b (Both x y) (Par P Q) s h =
      let k = and_parts (is_sound me x P) (is_sound me y Q) s in let o = and_parts (is_over me x P) (is_over me y Q) h in
      ap₂ (λ xs ys. xs ++ ys) (over-spots b x P k.0 o.0) (over-spots (b + size P) y Q k.1 o.1)
  over-spots b (Branch true x) (IfLead i g others P Q) s h = over-spots b x P s h
  over-spots b (Branch false x) (IfLead i g others P Q) s h = over-spots (b + size P) x Q s h
  over-spots b (Branch true x) (IfFollow i leader P Q) s h = over-spots b x P s h
  over-spots b (Branch false x) (IfFollow i leader P Q) s h = over-spots (b + size P) x Q s h
  over-spots b (Body x) (WhileLead i g others P) s h = cc
  over-spots b (Body x) (WhileFollow i leader P) s h = cc
  over-spots b (Body x) (ScopeLead head others P) s h = absurd (over_body x P _ s h)
  over-spots b (Body x) (ScopeFollow i leader P) s h = cc
  over-spots b x P s h = none_spot b x P h

  spots-hole : (b c : ℕ) (h : Hole) (P : Process) (x : Status) → b ≡ c + left_size h
      → spots me c (status_of h P x) (static_of h P) ≡ left_spots me c h ++ (spots me b x P ++ right_spots me c h P)
  spots-hole b c (InFirst Q) P x e = ap (λ d. spots me d x P) (flat_base e) ∙ append_none _
    where
      flat_base : b ≡ c + 0 → c ≡ b
      flat_base e = omega arith
  spots-hole b c (InSecond R) P x e = ap (λ d. spots me d x P) (sym e) ∙ append_none _
  spots-hole b c (InLeft y Q) P x e = ap (λ d. spots me d x P ++ spots me (c + size P) y Q) (flat_base e)
    where
      flat_base : b ≡ c + 0 → c ≡ b
      flat_base e = omega arith
  spots-hole b c (InRight y R) P x e = ap (λ ss. spots me c y R ++ ss) (ap (λ d. spots me d x P) (sym e) ∙ append_none _)
  spots-hole b c (InLeadBranch true i g others Q) P x e = ap (λ d. spots me d x P) (flat_base e) ∙ append_none _
    where
      flat_base : b ≡ c + 0 → c ≡ b
      flat_base e = omega arith
  spots-hole b c (InLeadBranch false i g others Q) P x e = ap (λ d. spots me d x P) (sym e) ∙ append_none _
  spots-hole b c (InFollowBranch true i leader Q) P x e = ap (λ d. spots me d x P) (flat_base e) ∙ append_none _
    where
      flat_base : b ≡ c + 0 → c ≡ b
      flat_base e = omega arith
  spots-hole b c (InFollowBranch false i leader Q) P x e = ap (λ d. spots me d x P) (sym e) ∙ append_none _
  spots-hole b c (InLeadTurn i g others) P x e = ap (λ d. spots me d x P) (flat_base e) ∙ append_none _
    where
      flat_base : b ≡ c + 0 → c ≡ b
      flat_base e = omega arith
  spots-hole b c (InFollowTurn i leader) P x e = ap (λ d. spots me d x P) (flat_base e) ∙ append_none _
    where
      flat_base : b ≡ c + 0 → c ≡ b
      flat_base e = omega arith
  spots-hole b c (InLeadScope head others) P x e = ap (λ d. spots me d x P) (flat_base e) ∙ append_none _
    where
      flat_base : b ≡ c + 0 → c ≡ b
      flat_base e = omega arith
  spots-hole b c (InFollowScope i leader) P x e = ap (λ d. spots me d x P) (flat_base e) ∙ append_none _
    where
      flat_base : b ≡ c + 0 → c ≡ b
      flat_base e = omega arith

  pub wrapped : (ls l n r rs : List Spot) → ls ++ ((l ++ (n ++ r)) ++ rs) ≡ (ls ++ l) ++ (n ++ (r ++ rs))
  wrapped ls l n r rs = simp append_assoc

  -- before a move
  pub spots-path : (top b : ℕ) (hs : List Hole) (P : Process) (x : Status) → PathAt top b hs P
      → spots me top (top_status hs P x) (top_static hs P) ≡ lefts_spots me b hs P ++ (spots me b x P ++ rights_spots me b hs P)
  spots-path top b [] P x e = ap (λ d. spots me d x P) (sym e) ∙ append_none _
  spots-path top b (k ∷ hs) P x p = subst (λ c. spots me top (top_status (k ∷ hs) P x) (top_static (k ∷ hs) P)
      ≡ (lefts_spots me c hs (static_of k P) ++ left_spots me c k) ++ (spots me b x P ++ (right_spots me c k P ++ rights_spots me c hs (static_of k P))))
      (sym (base_is b p.0 (left_size k) p.1))
      (spots-path top p.0 hs (static_of k P) (status_of k P x) p.2
      ∙ ap (λ ss. lefts_spots me p.0 hs (static_of k P) ++ (ss ++ rights_spots me p.0 hs (static_of k P))) (spots-hole b p.0 k P x p.1)
      ∙ wrapped (lefts_spots me p.0 hs (static_of k P)) (left_spots me p.0 k) (spots me b x P) (right_spots me p.0 k P) (rights_spots me p.0 hs (static_of k P)))

  ends : (P : Process) (x : Status) → is_over me x P ≡ true → ended (read me x P) ≡ true
  ends P x h = sym (over-reads me x P) ∙ h

  next_spots : (c : ℕ) (S P : Process) (next : Status) (x : Status) → is_over me x P ≡ true → spots me c (bodied me next P x) S ≡ spots me c next S ++ []
  next_spots c S P next x h = ap (λ y. spots me c y S) (cond-true (ended (read me x P)) next (Body x) (ends P x h)) ∙ append_none _

  -- where a part has ended, what is next stands in its place
  fresh-rises : (c : ℕ) (h : Hole) (P : Process) (x : Status) → is_sound me x P ≡ true → is_over me x P ≡ true
      → spots me c (rise me h P x) (static_of h P) ≡ left_spots me c h ++ (fresh_spots me c h P ++ right_spots me c h P)
  fresh-rises c (InFirst Q) P x s h = ap (λ y. spots me c y (Seq P Q)) (cond-true _ _ _ (ends P x h)) ∙ append_none _
  fresh-rises c (InSecond R) P x s h = over-spots (c + size R) x P s h
  fresh-rises c (InLeft y Q) P x s h = ap (λ ss. ss ++ spots me (c + size P) y Q) (over-spots c x P s h)
  fresh-rises c (InRight y R) P x s h = ap (λ ss. spots me c y R ++ ss) (over-spots (c + size R) x P s h)
  fresh-rises c (InLeadBranch true i g others Q) P x s h = over-spots c x P s h
  fresh-rises c (InLeadBranch false i g others Q) P x s h = over-spots (c + size Q) x P s h
  fresh-rises c (InFollowBranch true i leader Q) P x s h = over-spots c x P s h
  fresh-rises c (InFollowBranch false i leader Q) P x s h = over-spots (c + size Q) x P s h
  fresh-rises c (InLeadTurn i g others) P x s h = next_spots c (WhileLead i g others P) P (next_turn me others i) x h
  fresh-rises c (InFollowTurn i leader) P x s h = next_spots c (WhileFollow i leader P) P Ending x h
  fresh-rises c (InLeadScope head others) P x s h = next_spots c (ScopeLead head others P) P (scope_end me others head.index) x h
  fresh-rises c (InFollowScope i leader) P x s h = next_spots c (ScopeFollow i leader P) P Ending x h

  -- the parts beside the way are sound
  abbrev pub SideSound : Hole → Type 0
  SideSound (InLeft y Q) = is_sound me y Q ≡ true
  SideSound (InRight y R) = is_sound me y R ≡ true
  SideSound h = Unit {0}

  abbrev pub SidesSound : List Hole → Type 0
  SidesSound [] = Unit {0}
  SidesSound (h ∷ hs) = SideSound h × SidesSound hs

  next_sound : (S P : Process) (next : Status) (x : Status) → is_over me x P ≡ true → is_sound me next S ≡ true → is_sound me (bodied me next P x) S ≡ true
  next_sound S P next x h s = ap (λ y. is_sound me y S) (cond-true (ended (read me x P)) next (Body x) (ends P x h)) ∙ s

  pub rise_sound : (c : ℕ) (h : Hole) (P : Process) (x : Status) → SideSound h → is_sound me x P ≡ true → is_over me x P ≡ true
      → is_sound me (rise me h P x) (static_of h P) ≡ true
  rise_sound c (InFirst Q) P x side s h = ap (λ y. is_sound me y (Seq P Q)) (cond-true _ _ _ (ends P x h))
  rise_sound c (InSecond R) P x side s h = s
  rise_sound c (InLeft y Q) P x side s h = ap₂ (λ t u. t && u) s side
  rise_sound c (InRight y R) P x side s h = ap₂ (λ t u. t && u) side s
  rise_sound c (InLeadBranch true i g others Q) P x side s h = s
  rise_sound c (InLeadBranch false i g others Q) P x side s h = s
  rise_sound c (InFollowBranch true i leader Q) P x side s h = s
  rise_sound c (InFollowBranch false i leader Q) P x side s h = s
  rise_sound c (InLeadTurn i g others) P x side s h = next_sound (WhileLead i g others P) P (next_turn me others i) x h (gather_sound me (WhileLead i g others P) Untouched (keys_of me others i Turn) refl)
  rise_sound c (InFollowTurn i leader) P x side s h = next_sound (WhileFollow i leader P) P Ending x h refl
  rise_sound c (InLeadScope head others) P x side s h = next_sound (ScopeLead head others P) P (scope_end me others head.index) x h (end_sound me (ScopeLead head others P) others head.index)
  rise_sound c (InFollowScope i leader) P x side s h = next_sound (ScopeFollow i leader P) P Ending x h refl

  none_left : (c : ℕ) (h : Hole) (P : Process) (x : Status) → SideSound h → is_over me (rise me h P x) (static_of h P) ≡ true → left_spots me c h ≡ []
  none_left c (InRight y R) P x side k = over-spots c y R side (and_parts (is_over me y R) (is_over me x P) k).0
  none_left c h P x side k = refl

  none_right : (c : ℕ) (h : Hole) (P : Process) (x : Status) → SideSound h → is_over me (rise me h P x) (static_of h P) ≡ true → right_spots me c h P ≡ []
  none_right c (InLeft y Q) P x side k = over-spots (c + size P) y Q side (and_parts (is_over me x P) (is_over me y Q) k).1
  none_right c h P x side k = refl

  widened : (ls n rs l r : List Spot) → l ≡ [] → r ≡ [] → ls ++ (n ++ rs) ≡ (ls ++ l) ++ (n ++ (r ++ rs))
  widened ls n rs l r hl hr = ap (λ m. m ++ (n ++ rs)) (append_none ls) ∙ ap₂ (λ p q. (ls ++ p) ++ (n ++ (q ++ rs))) (sym hl) (sym hr)

  in_place : (c : ℕ) (k : Hole) (hs : List Hole) (P : Process) (n m : List Spot) → n ≡ m
      → (lefts_spots me c hs (static_of k P) ++ left_spots me c k) ++ (n ++ (right_spots me c k P ++ rights_spots me c hs (static_of k P)))
      ≡ (lefts_spots me c hs (static_of k P) ++ left_spots me c k) ++ (m ++ (right_spots me c k P ++ rights_spots me c hs (static_of k P)))
  in_place c k hs P n m e = ap (λ z. (lefts_spots me c hs (static_of k P) ++ left_spots me c k) ++ (z ++ (right_spots me c k P ++ rights_spots me c hs (static_of k P)))) e

  -- and after it: in the place of those of the part come a few, and all others stay
  pub spots-touch : (top b : ℕ) (hs : List Hole) (P : Process) (x : Status) → PathAt top b hs P → SidesSound hs → is_sound me x P ≡ true
      → spots me top (touch me hs P x) (top_static hs P) ≡ lefts_spots me b hs P ++ (news_spots me b hs P x ++ rights_spots me b hs P)
  spots-touch top b [] P x e sides s = ap (λ d. spots me d x P) (sym e) ∙ append_none _
  spots-touch top b (k ∷ hs) P x p sides s = subst (λ c. spots me top (touch me (k ∷ hs) P x) (top_static (k ∷ hs) P)
      ≡ (lefts_spots me c hs (static_of k P) ++ left_spots me c k)
      ++ ((if is_over me x P then if is_over me (rise me k P x) (static_of k P) then news_spots me c hs (static_of k P) (rise me k P x) else fresh_spots me c k P else spots me b x P)
      ++ (right_spots me c k P ++ rights_spots me c hs (static_of k P))))
      (sym (base_is b p.0 (left_size k) p.1))
      (⊎_elim
      (λ over. ⊎_elim
      (λ whole. spots-touch top p.0 hs (static_of k P) (rise me k P x) p.2 sides.1 (rise_sound p.0 k P x sides.0 s over)
      ∙ widened (lefts_spots me p.0 hs (static_of k P)) (news_spots me p.0 hs (static_of k P) (rise me k P x)) (rights_spots me p.0 hs (static_of k P))
      (left_spots me p.0 k) (right_spots me p.0 k P) (none_left p.0 k P x sides.0 whole) (none_right p.0 k P x sides.0 whole)
      ∙ in_place p.0 k hs P _ _ (sym (cond-true (is_over me x P) _ (spots me b x P) over ∙ cond-true _ _ (fresh_spots me p.0 k P) whole)))
      (λ part. ap (λ z. spots me top z (top_static (k ∷ hs) P)) (touch-stays me hs (static_of k P) (rise me k P x) part)
      ∙ spots-path top p.0 hs (static_of k P) (rise me k P x) p.2
      ∙ ap (λ ss. lefts_spots me p.0 hs (static_of k P) ++ (ss ++ rights_spots me p.0 hs (static_of k P))) (fresh-rises p.0 k P x s over)
      ∙ wrapped (lefts_spots me p.0 hs (static_of k P)) (left_spots me p.0 k) (fresh_spots me p.0 k P) (right_spots me p.0 k P) (rights_spots me p.0 hs (static_of k P))
      ∙ in_place p.0 k hs P _ _ (sym (cond-true (is_over me x P) _ (spots me b x P) over ∙ cond-false _ (news_spots me p.0 hs (static_of k P) (rise me k P x)) _ part)))
      (cases_Bool (is_over me (rise me k P x) (static_of k P))))
      (λ goes. ap (λ z. spots me top z (top_static (k ∷ hs) P)) (touch-stays me (k ∷ hs) P x goes)
      ∙ spots-path top p.0 hs (static_of k P) (status_of k P x) p.2
      ∙ ap (λ ss. lefts_spots me p.0 hs (static_of k P) ++ (ss ++ rights_spots me p.0 hs (static_of k P))) (spots-hole b p.0 k P x p.1)
      ∙ wrapped (lefts_spots me p.0 hs (static_of k P)) (left_spots me p.0 k) (spots me b x P) (right_spots me p.0 k P) (rights_spots me p.0 hs (static_of k P))
      ∙ in_place p.0 k hs P _ _ (sym (cond-false (is_over me x P) _ (spots me b x P) goes)))
      (cases_Bool (is_over me x P)))

  pub spots-climb : (top b : ℕ) (hs : List Hole) (P : Process) (x : Status) → PathAt top b hs P → SidesSound hs → is_sound me x P ≡ true
      → spots me top (climb me hs P x) (top_static hs P) ≡ lefts_spots me b hs P ++ (news_spots me b hs P x ++ rights_spots me b hs P)
  spots-climb top b hs P x p sides s = ap (λ z. spots me top z (top_static hs P)) (climb-touches me hs P x) ∙ spots-touch top b hs P x p sides s

-- The way of a part, without its marks.

module _ (me : Role) (marks : Marks) where
  pub path-at : (top b : ℕ) (hs : List Hole) (P : Process) → PathStands me marks top b hs P → PathAt top b hs P
  path-at top b [] P p = p
  path-at top b (h ∷ hs) P p = (p.0, p.1, path-at top p.0 hs (static_of h P) p.4)

  pub quiet-at : (top b : ℕ) (hs : List Hole) (P : Process) → QuietStands me marks top b hs P → PathAt top b hs P
  quiet-at top b [] P p = p
  quiet-at top b (h ∷ hs) P p = (p.0, p.1, quiet-at top p.0 hs (static_of h P) p.3)

-- one way behind another
pub static-append : (qs hs : List Hole) (P : Process) → top_static (qs ++ hs) P ≡ top_static hs (top_static qs P)
static-append [] hs P = refl
static-append (h ∷ qs) hs P = static-append qs hs (static_of h P)

pub touch-append : (me : Role) (qs hs : List Hole) (P : Process) (x : Status) → touch me (qs ++ hs) P x ≡ touch me hs (top_static qs P) (touch me qs P x)
touch-append me [] hs P x = refl
touch-append me (h ∷ qs) hs P x = touch-append me qs hs (static_of h P) (rise me h P x)

pub path-append : (top c b : ℕ) (qs hs : List Hole) (P : Process) → PathAt c b qs P → PathAt top c hs (top_static qs P) → PathAt top b (qs ++ hs) P
path-append top c b [] hs P p rest = subst (λ d. PathAt top d hs P) (sym p) rest
path-append top c b (h ∷ qs) hs P p rest = (p.0, p.1, path-append top c p.0 qs hs (static_of h P) p.2 rest)

module _ (me : Role) where
  pub lefts-append : (c b : ℕ) (qs hs : List Hole) (P : Process) → PathAt c b qs P
      → lefts_spots me b (qs ++ hs) P ≡ lefts_spots me c hs (top_static qs P) ++ lefts_spots me b qs P
  lefts-append c b [] hs P p = ap (λ d. lefts_spots me d hs P) p ∙ append_none _
  lefts-append c b (h ∷ qs) hs P p =
      let base : b - left_size h ≡ p.0 = base_is b p.0 (left_size h) p.1 in
      ap (λ ss. ss ++ left_spots me (b - left_size h) h) (ap (λ d. lefts_spots me d (qs ++ hs) (static_of h P)) base
      ∙ lefts-append c p.0 qs hs (static_of h P) p.2)
      ∙ append_assoc (lefts_spots me c hs (top_static qs (static_of h P))) (lefts_spots me p.0 qs (static_of h P)) (left_spots me (b - left_size h) h)
      ∙ ap (λ d. lefts_spots me c hs (top_static qs (static_of h P)) ++ (lefts_spots me d qs (static_of h P) ++ left_spots me (b - left_size h) h)) (sym base)

  pub rights-append : (c b : ℕ) (qs hs : List Hole) (P : Process) → PathAt c b qs P
      → rights_spots me b (qs ++ hs) P ≡ rights_spots me b qs P ++ rights_spots me c hs (top_static qs P)
  rights-append c b [] hs P p = ap (λ d. rights_spots me d hs P) p
  rights-append c b (h ∷ qs) hs P p =
      let base : b - left_size h ≡ p.0 = base_is b p.0 (left_size h) p.1 in
      ap (λ ss. right_spots me (b - left_size h) h P ++ ss) (ap (λ d. rights_spots me d (qs ++ hs) (static_of h P)) base
      ∙ rights-append c p.0 qs hs (static_of h P) p.2
      ∙ ap (λ d. rights_spots me d qs (static_of h P) ++ rights_spots me c hs (top_static qs (static_of h P))) (sym base))
      ∙ sym (append_assoc (right_spots me (b - left_size h) h P) (rights_spots me (b - left_size h) qs (static_of h P)) (rights_spots me c hs (top_static qs (static_of h P))))

-- of a static process, none of whose constructs was touched
module _ (me : Role) (a : Act) where
  still-hole : (b c : ℕ) (h : Hole) (P : Process) → b ≡ c + left_size h → IsQuiet a h P
      → still me c (static_of h P) ≡ left_spots me c h ++ (still me b P ++ right_spots me c h P)
  still-hole b c (InFirst Q) P e quiet = cond-false _ _ _ quiet ∙ ap (λ d. still me d P) (flat_base e) ∙ append_none _
    where
      flat_base : b ≡ c + 0 → c ≡ b
      flat_base e = omega arith
  still-hole b c (InSecond R) P e quiet = cond-true _ _ _ quiet ∙ ap (λ d. still me d P) (sym e) ∙ append_none _
  still-hole b c (InLeft Untouched Q) P e quiet = ap (λ d. still me d P ++ still me (c + size P) Q) (flat_base e)
    where
      flat_base : b ≡ c + 0 → c ≡ b
      flat_base e = omega arith
  still-hole b c (InRight Untouched R) P e quiet = ap (λ ss. still me c R ++ ss) (ap (λ d. still me d P) (sym e) ∙ append_none _)
  still-hole b c h P e quiet = absurd quiet

  pub still-path : (top b : ℕ) (qs : List Hole) (P : Process) → PathAt top b qs P → IsStarting me a qs P
      → still me top (top_static qs P) ≡ lefts_spots me b qs P ++ (still me b P ++ rights_spots me b qs P)
  still-path top b [] P p starts = ap (λ d. still me d P) (sym p) ∙ append_none _
  still-path top b (h ∷ qs) P p starts = subst (λ c. still me top (top_static (h ∷ qs) P)
      ≡ (lefts_spots me c qs (static_of h P) ++ left_spots me c h) ++ (still me b P ++ (right_spots me c h P ++ rights_spots me c qs (static_of h P))))
      (sym (base_is b p.0 (left_size h) p.1))
      (still-path top p.0 qs (static_of h P) p.2 starts.2
      ∙ ap (λ ss. lefts_spots me p.0 qs (static_of h P) ++ (ss ++ rights_spots me p.0 qs (static_of h P))) (still-hole b p.0 h P p.1 starts.0)
      ∙ wrapped me (lefts_spots me p.0 qs (static_of h P)) (left_spots me p.0 h) (still me b P) (right_spots me p.0 h P) (rights_spots me p.0 qs (static_of h P)))
