-- Marks keep statuses, and a move changes a few of them.
use Rattle.std.proofs.Common.{◌≡◌, ◌<◌, ◌≤◌, ◌+◌, ℕ, List, [], ◌∷◌, true, false, refl, ap, ◌∙◌, sym, subst, arith}
use Rattle.dioc_terms.specs.declared.names.Role.{Role}
use Rattle.dioc_terms.specs.Processes.{Process, Seq, Par, IfLead, IfFollow, WhileLead, WhileFollow, ScopeLead, ScopeFollow}
use Rattle.role_statuses.specs.Statuses.{Status, Untouched, First, Second, Both, Telling, Branch, Body, is_over}
use Rattle.role_statuses.specs.Marks.{Mark}
use Rattle.role_statuses.specs.Marks as mark
use Rattle.role_statuses.specs.Paths.{Hole, InFirst, InSecond, InLeft, InRight, InLeadBranch, InFollowBranch, InLeadTurn, InFollowTurn, InLeadScope, InFollowScope, static_of, status_of, top_static, top_status}
use Rattle.role_statuses.proofs.PathLemmas.{over-hole}
use Rattle.role_statuses.specs.Flat.{inner, size, Marks, IsFresh, mark_of, PartsStand, Stands, left_size, BesideStands, hole_mark, PathStands, QuietStands}

pub record Same (marks after : Marks) (b n : ℕ) : Type 0 where
  pub same : (k : ℕ) → b ≤ k → k < b + n → marks k ≡ after k

pub record SameOutside (marks after : Marks) (b n : ℕ) : Type 0 where
  pub below : (k : ℕ) → k < b → marks k ≡ after k
  pub above : (k : ℕ) → b + n ≤ k → marks k ≡ after k

narrow : {marks after : Marks} {b n : ℕ} (c m : ℕ) → Same marks after b n → b ≤ c → c + m ≤ b + n → Same marks after c m
narrow c m s h k = record { same = λ j l u. s.same j (omega arith) (omega arith) }

fresh-same : {marks after : Marks} {b n : ℕ} → Same marks after b n → IsFresh marks b n → IsFresh after b n
fresh-same s f = record { fresh = λ k l u. sym (s.same k l u) ∙ f.fresh k l u }

module _ (me : Role) (marks after : Marks) where
  one : (b : ℕ) (x : Status) (P : Process) → (Same marks after b (inner P) → PartsStand me marks b x P → PartsStand me after b x P)
      → Same marks after b (size P) → Stands me marks b x P → Stands me after b x P
  one b x P parts s h = (sym (s.same (b + inner P) (omega arith) (omega arith)) ∙ h.0, parts (narrow b (inner P) s (omega arith) (omega arith)) h.1)

  pub parts-same : (b : ℕ) (x : Status) (P : Process) → Same marks after b (inner P) → PartsStand me marks b x P → PartsStand me after b x P
  parts-same b Untouched P s h = fresh-same s h
  parts-same b (First x) (Seq P Q) s h =
      (one b x P (parts-same b x P) (narrow b (size P) s (omega arith) (omega arith)) h.0, fresh-same (narrow (b + size P) (size Q) s (omega arith) (omega arith)) h.1)
  parts-same b (Second x) (Seq P Q) s h = one (b + size P) x Q (parts-same (b + size P) x Q) (narrow (b + size P) (size Q) s (omega arith) (omega arith)) h
  parts-same b (Both x y) (Par P Q) s h =
      (one b x P (parts-same b x P) (narrow b (size P) s (omega arith) (omega arith)) h.0, one (b + size P) y Q (parts-same (b + size P) y Q) (narrow (b + size P) (size Q) s (omega arith) (omega arith)) h.1)
  parts-same b (Telling f k l ms) (IfLead i g others P Q) s h = fresh-same s h
  parts-same b (Branch true x) (IfLead i g others P Q) s h = one b x P (parts-same b x P) (narrow b (size P) s (omega arith) (omega arith)) h
  parts-same b (Branch false x) (IfLead i g others P Q) s h = one (b + size P) x Q (parts-same (b + size P) x Q) (narrow (b + size P) (size Q) s (omega arith) (omega arith)) h
  parts-same b (Branch true x) (IfFollow i leader P Q) s h = one b x P (parts-same b x P) (narrow b (size P) s (omega arith) (omega arith)) h
  parts-same b (Branch false x) (IfFollow i leader P Q) s h = one (b + size P) x Q (parts-same (b + size P) x Q) (narrow (b + size P) (size Q) s (omega arith) (omega arith)) h
  parts-same b (Telling f k l ms) (WhileLead i g others P) s h = fresh-same s h
  parts-same b (Body x) (WhileLead i g others P) s h = one b x P (parts-same b x P) s h
  parts-same b (Body x) (WhileFollow i leader P) s h = one b x P (parts-same b x P) s h
  parts-same b (Telling f k l ms) (ScopeLead head others P) s h = fresh-same s h
  parts-same b (Body x) (ScopeLead head others P) s h = one b x P (parts-same b x P) s h
  parts-same b (Body x) (ScopeFollow i leader P) s h = one b x P (parts-same b x P) s h
  parts-same b x P s h = h

  pub stands-same : (b : ℕ) (x : Status) (P : Process) → Same marks after b (size P) → Stands me marks b x P → Stands me after b x P
  stands-same b x P = one b x P (parts-same b x P)

pub at_place : (me : Role) (marks : Marks) (b c : ℕ) (x : Status) (P : Process) → b ≡ c → Stands me marks b x P → Stands me marks c x P
at_place me marks b c x P e = subst (λ d. Stands me marks d x P) e

module _ (me : Role) (marks : Marks) where
  pub hole_inner : (c : ℕ) (h : Hole) (P : Process) → BesideStands me marks c h P → left_size h + size P ≤ inner (static_of h P)
  hole_inner c (InFirst Q) P beside = omega arith
  hole_inner c (InSecond R) P beside = omega arith
  hole_inner c (InLeft y Q) P beside = omega arith
  hole_inner c (InRight y R) P beside = omega arith
  hole_inner c (InLeadBranch true i g others Q) P beside = omega arith
  hole_inner c (InLeadBranch false i g others Q) P beside = omega arith
  hole_inner c (InFollowBranch true i leader Q) P beside = omega arith
  hole_inner c (InFollowBranch false i leader Q) P beside = omega arith
  hole_inner c (InLeadTurn i g others) P beside = omega arith
  hole_inner c (InFollowTurn i leader) P beside = omega arith
  hole_inner c (InLeadScope head others) P beside = omega arith
  hole_inner c (InFollowScope i leader) P beside = omega arith

  -- what runs in the hole is said by the marks of the whole
  pub level-parts : (b c : ℕ) (h : Hole) (P : Process) (x : Status) → b ≡ c + left_size h → BesideStands me marks c h P → Stands me marks b x P
      → PartsStand me marks c (status_of h P x) (static_of h P)
  level-parts b c (InFirst Q) P x e beside h = (at_place me marks b c x P (omega arith) h, beside)
  level-parts b c (InSecond R) P x e beside h = at_place me marks b (c + size R) x P e h
  level-parts b c (InLeft y Q) P x e beside h = (at_place me marks b c x P (omega arith) h, beside)
  level-parts b c (InRight y R) P x e beside h = (beside, at_place me marks b (c + size R) x P e h)
  level-parts b c (InLeadBranch true i g others Q) P x e beside h = at_place me marks b c x P (omega arith) h
  level-parts b c (InLeadBranch false i g others Q) P x e beside h = at_place me marks b (c + size Q) x P e h
  level-parts b c (InFollowBranch true i leader Q) P x e beside h = at_place me marks b c x P (omega arith) h
  level-parts b c (InFollowBranch false i leader Q) P x e beside h = at_place me marks b (c + size Q) x P e h
  level-parts b c (InLeadTurn i g others) P x e beside h = at_place me marks b c x P (omega arith) h
  level-parts b c (InFollowTurn i leader) P x e beside h = at_place me marks b c x P (omega arith) h
  level-parts b c (InLeadScope head others) P x e beside h = at_place me marks b c x P (omega arith) h
  level-parts b c (InFollowScope i leader) P x e beside h = at_place me marks b c x P (omega arith) h

  level_mark : (c : ℕ) (h : Hole) (P : Process) (x : Status) → BesideStands me marks c h P → is_over me x P ≡ false
      → hole_mark me h ≡ mark_of me (status_of h P x) (static_of h P)
  level_mark c (InFirst Q) P x beside goes = refl
  level_mark c (InSecond R) P x beside goes = refl
  level_mark c (InLeft y Q) P x beside goes = ap (λ t. mark.Both t (is_over me y Q)) (sym goes)
  level_mark c (InRight y R) P x beside goes = ap (mark.Both (is_over me y R)) (sym goes)
  level_mark c (InLeadBranch b i g others Q) P x beside goes = refl
  level_mark c (InFollowBranch b i leader Q) P x beside goes = refl
  level_mark c (InLeadTurn i g others) P x beside goes = refl
  level_mark c (InFollowTurn i leader) P x beside goes = refl
  level_mark c (InLeadScope head others) P x beside goes = refl
  level_mark c (InFollowScope i leader) P x beside goes = refl

  level-stands : (b c : ℕ) (h : Hole) (P : Process) (x : Status) → b ≡ c + left_size h → marks (c + inner (static_of h P)) ≡ hole_mark me h
      → BesideStands me marks c h P → Stands me marks b x P → is_over me x P ≡ false → Stands me marks c (status_of h P x) (static_of h P)
  level-stands b c h P x e m beside stands goes = (m ∙ level_mark c h P x beside goes, level-parts b c h P x e beside stands)

  -- and so to the top
  pub top-stands : (top b : ℕ) (hs : List Hole) (P : Process) (x : Status) → PathStands me marks top b hs P → Stands me marks b x P
      → is_over me x P ≡ false → Stands me marks top (top_status hs P x) (top_static hs P)
  top-stands top b [] P x e h goes = at_place me marks b top x P e h
  top-stands top b (k ∷ hs) P x p h goes =
      top-stands top p.0 hs (static_of k P) (status_of k P x) p.4 (level-stands b p.0 k P x p.1 p.2 p.3 h goes) (over-hole me k P x goes)

module _ (me : Role) (marks after : Marks) where
  beside-same : (b c : ℕ) (h : Hole) (P : Process) → b ≡ c + left_size h → SameOutside marks after b (size P)
      → BesideStands me marks c h P → BesideStands me after c h P
  beside-same b c (InFirst Q) P e s beside = fresh-same (record { same = λ k l u. s.above k (omega arith) }) beside
  beside-same b c (InLeft y Q) P e s beside = stands-same me marks after (c + size P) y Q (record { same = λ k l u. s.above k (omega arith) }) beside
  beside-same b c (InRight y R) P e s beside = stands-same me marks after c y R (record { same = λ k l u. s.below k (omega arith) }) beside
  beside-same b c h P e s beside = beside

  -- a change within the part keeps the way to the top
  pub path-same : (top b : ℕ) (hs : List Hole) (P : Process) → SameOutside marks after b (size P) → PathStands me marks top b hs P
      → PathStands me after top b hs P
  path-same top b [] P s p = p
  path-same top b (h ∷ hs) P s p =
      let room : left_size h + size P ≤ inner (static_of h P) = hole_inner me marks p.0 h P p.3 in
      let e : b ≡ p.0 + left_size h = p.1 in (
        p.0,
        p.1,
        sym (s.above (p.0 + inner (static_of h P)) (omega arith)) ∙ p.2,
        beside-same b p.0 h P p.1 s p.3,
        path-same top p.0 hs (static_of h P) (record { below = λ k l. s.below k (omega arith); above = λ k u. s.above k (omega arith) }) p.4,
      )

  pub quiet-same : (top b : ℕ) (hs : List Hole) (P : Process) → SameOutside marks after b (size P) → QuietStands me marks top b hs P
      → QuietStands me after top b hs P
  quiet-same top b [] P s p = p
  quiet-same top b (h ∷ hs) P s p =
      let room : left_size h + size P ≤ inner (static_of h P) = hole_inner me marks p.0 h P p.2 in
      let e : b ≡ p.0 + left_size h = p.1 in (
        p.0,
        p.1,
        beside-same b p.0 h P p.1 s p.2,
        quiet-same top p.0 hs (static_of h P) (record { below = λ k l. s.below k (omega arith); above = λ k u. s.above k (omega arith) }) p.3,
      )
