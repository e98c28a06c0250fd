-- What a part's end changes of the marks.
use Rattle.std.proofs.Common.{◌≡◌, ◌<◌, ◌≤◌, ◌+◌, ◌-◌, ℕ, List, [], ◌∷◌, true, false, ◌&&◌, ◌⊎◌, refl, ◌∙◌, sym, subst, arith, ⊎_elim}
use Rattle.std.proofs.Math.Logic.{inl, inr}
use Rattle.std.specs.Prelude.{nat_eq, nat_le, nat_lt}
use Rattle.std.proofs.lemmas.Bool.{cases_Bool, cond-true, cond-false}
use Rattle.std.proofs.lemmas.Bool.Decides.{nat_tests}
use Rattle.dioc_terms.specs.declared.names.Role.{Role}
use Rattle.dioc_terms.specs.declared.names.Index.{Index}
use Rattle.dioc_terms.specs.declared.processes.Key.{Key}
use Rattle.dioc_terms.specs.declared.processes.ScopeHead.{ScopeHead}
use Rattle.dioc_terms.specs.declared.processes.Tag.TheVariants.{Turn, End, Out}
use Rattle.dioc_terms.specs.Expressions.{Expression}
use Rattle.dioc_terms.specs.Processes.{Process, Seq, Par, IfLead, IfFollow, WhileLead, WhileFollow, ScopeLead, ScopeFollow, Letters, Nothing, More, Done}
use Rattle.process_steps.specs.Steps.{ended, letters_to}
use Rattle.role_statuses.specs.Statuses.{Status, Untouched, Finished, First, Second, Both, Branch, Body, Gathering, Ending, Left, read, is_over, keys_of}
use Rattle.role_statuses.specs.Moves.{gathering_then, leaving, next_turn, scope_end}
use Rattle.role_statuses.specs.Marks.{Mark}
use Rattle.role_statuses.specs.Marks as mark
use Rattle.role_statuses.specs.Paths.{Hole, InFirst, InSecond, InLeft, InRight, InLeadBranch, InFollowBranch, InLeadTurn, InFollowTurn, InLeadScope, InFollowScope, static_of, status_of, rise, top_static, climb, touch}
use Rattle.role_statuses.specs.Flat.{inner, size, Marks, mark_of, PartsStand, Stands, left_size, BesideStands, PathStands, QuietStands, put, wipe, settle, climb_marks, touch_marks}
use Rattle.role_statuses.proofs.FlatLemmas.{SameOutside, parts-same, level-parts, top-stands, path-same, quiet-same, at_place}
use Rattle.role_statuses.proofs.PathLemmas.{rise-stays}
use Rattle.role_statuses.proofs.ReadLemmas.{over-reads}

same_place : (p : ℕ) → nat_eq p p ≡ true
same_place p = grind (arith, nat_tests)

other_place : (k p : ℕ) → (k ≡ p → ⊥) → nat_eq k p ≡ false
other_place k p other = grind (arith, nat_tests)

inside : (b n k : ℕ) → b ≤ k → k < b + n → (nat_le b k && nat_lt k (b + n)) ≡ true
inside b n k l u = grind (arith, nat_tests)

outside : (b n k : ℕ) → (k < b) ⊎ (b + n ≤ k) → (nat_le b k && nat_lt k (b + n)) ≡ false
outside b n k out = grind (arith, nat_tests)

put-here : (marks : Marks) (p : ℕ) (m : Mark) → put marks p m p ≡ m
put-here marks p m = cond-true _ _ _ (same_place p)

put-other : (marks : Marks) (p : ℕ) (m : Mark) (k : ℕ) → (k ≡ p → ⊥) → marks k ≡ put marks p m k
put-other marks p m k other = sym (cond-false _ _ _ (other_place k p other))

wipe-in : (marks : Marks) (b n k : ℕ) → b ≤ k → k < b + n → wipe marks b n k ≡ mark.Untouched
wipe-in marks b n k l u = cond-true _ _ _ (inside b n k l u)

wipe-out : (marks : Marks) (b n k : ℕ) → (k < b) ⊎ (b + n ≤ k) → marks k ≡ wipe marks b n k
wipe-out marks b n k out = sym (cond-false _ _ _ (outside b n k out))

module _ (me : Role) (marks : Marks) where
  -- a construct's own mark alone, where those of its parts say the new status already
  pub put-stands : (c : ℕ) (y : Status) (S : Process) → PartsStand me marks c y S → Stands me (put marks (c + inner S) (mark_of me y S)) c y S
  put-stands c y S h = (
    put-here marks (c + inner S) (mark_of me y S),
    parts-same me marks (put marks (c + inner S) (mark_of me y S)) c y S
        (record { same = λ k l u. put-other marks (c + inner S) (mark_of me y S) k (λ e. absurd (omega arith)) }) h,
  )

  pub wipe-stands : (c : ℕ) (S : Process) → Stands me (wipe marks c (size S)) c Untouched S
  wipe-stands c S = (
    wipe-in marks c (size S) (c + inner S) (omega arith) (omega arith),
    record { fresh = λ k l u. wipe-in marks c (size S) k l (omega arith) },
  )

  put-outside : (c : ℕ) (m : Mark) (S : Process) → SameOutside marks (put marks (c + inner S) m) c (size S)
  put-outside c m S = record {
    below = λ k l. put-other marks (c + inner S) m k (λ e. absurd (omega arith));
    above = λ k u. put-other marks (c + inner S) m k (λ e. absurd (omega arith));
  }

  pub settle-outside : (c : ℕ) (y : Status) (S : Process) → SameOutside marks (settle me marks c y S) c (size S)
  settle-outside c Untouched S = record {
    below = λ k l. wipe-out marks c (size S) k (inl l);
    above = λ k u. wipe-out marks c (size S) k (inr u);
  }
  settle-outside c y S = put-outside c (mark_of me y S) S

  -- a construct whose mark needs none of its parts'
  alone : (c : ℕ) (y : Status) (S : Process) → settle me marks c y S ≡ put marks (c + inner S) (mark_of me y S) → PartsStand me marks c y S
      → Stands me (settle me marks c y S) c y S
  alone c y S is parts = subst (λ ms. Stands me ms c y S) (sym is) (put-stands c y S parts)

  pub turn_stands : (c : ℕ) (i : Index) (g : Expression) (others : List Role) (P : Process) (ks : List Key)
      → Stands me (settle me marks c (gathering_then Untouched ks) (WhileLead i g others P)) c (gathering_then Untouched ks) (WhileLead i g others P)
  turn_stands c i g others P [] = wipe-stands c (WhileLead i g others P)
  turn_stands c i g others P (k ∷ ks) = put-stands c (Gathering k ks) (WhileLead i g others P) tt

  pub end_stands : (c : ℕ) (head : ScopeHead) (others : List Role) (P : Process) (ks : List Key) (ms : Letters)
      → Stands me (settle me marks c (gathering_then (leaving ms) ks) (ScopeLead head others P)) c (gathering_then (leaving ms) ks) (ScopeLead head others P)
  end_stands c head others P [] Nothing = put-stands c Finished (ScopeLead head others P) tt
  end_stands c head others P [] (More k l ms) = put-stands c (Left k l ms) (ScopeLead head others P) tt
  end_stands c head others P (k ∷ ks) ms = put-stands c (Gathering k ks) (ScopeLead head others P) tt

  -- what a construct becomes where its part has ended, without the test
  over_status : Hole → Process → Status → Status
  over_status (InFirst Q) P x = Second Untouched
  over_status (InLeadTurn i g others) P x = next_turn me others i
  over_status (InFollowTurn i leader) P x = Ending
  over_status (InLeadScope head others) P x = scope_end me others head.index
  over_status (InFollowScope i leader) P x = Ending
  over_status h P x = status_of h P x

  ends : (P : Process) (x : Status) → is_over me x P ≡ true → ended (read me x P) ≡ true
  ends P x h = sym (over-reads me x P) ∙ h

  rise-over : (h : Hole) (P : Process) (x : Status) → is_over me x P ≡ true → rise me h P x ≡ over_status h P x
  unfolding over_status
  rise-over (InFirst Q) P x h = cond-true _ _ _ (ends P x h)
  rise-over (InSecond R) P x h = refl
  rise-over (InLeft y Q) P x h = refl
  rise-over (InRight y R) P x h = refl
  rise-over (InLeadBranch b i g others Q) P x h = refl
  rise-over (InFollowBranch b i leader Q) P x h = refl
  rise-over (InLeadTurn i g others) P x h = cond-true _ _ _ (ends P x h)
  rise-over (InFollowTurn i leader) P x h = cond-true _ _ _ (ends P x h)
  rise-over (InLeadScope head others) P x h = cond-true _ _ _ (ends P x h)
  rise-over (InFollowScope i leader) P x h = cond-true _ _ _ (ends P x h)

  over-stands : (b c : ℕ) (h : Hole) (P : Process) (x : Status) → b ≡ c + left_size h → BesideStands me marks c h P → Stands me marks b x P
      → Stands me (settle me marks c (over_status h P x) (static_of h P)) c (over_status h P x) (static_of h P)
  unfolding over_status
  over-stands b c (InFirst Q) P x e beside h = put-stands c (Second Untouched) (Seq P Q)
      (beside.fresh (c + size P + inner Q) (omega arith) (omega arith), record { fresh = λ k l u. beside.fresh k l (omega arith) })
  over-stands b c (InSecond R) P x e beside h = put-stands c (Second x) (Seq R P) (at_place me marks b (c + size R) x P e h)
  over-stands b c (InLeft y Q) P x e beside h = put-stands c (Both x y) (Par P Q) (at_place me marks b c x P (omega arith) h, beside)
  over-stands b c (InRight y R) P x e beside h = put-stands c (Both y x) (Par R P) (beside, at_place me marks b (c + size R) x P e h)
  over-stands b c (InLeadBranch true i g others Q) P x e beside h = put-stands c (Branch true x) (IfLead i g others P Q) (at_place me marks b c x P (omega arith) h)
  over-stands b c (InLeadBranch false i g others Q) P x e beside h = put-stands c (Branch false x) (IfLead i g others Q P) (at_place me marks b (c + size Q) x P e h)
  over-stands b c (InFollowBranch true i leader Q) P x e beside h = put-stands c (Branch true x) (IfFollow i leader P Q) (at_place me marks b c x P (omega arith) h)
  over-stands b c (InFollowBranch false i leader Q) P x e beside h = put-stands c (Branch false x) (IfFollow i leader Q P) (at_place me marks b (c + size Q) x P e h)
  over-stands b c (InLeadTurn i g others) P x e beside h = turn_stands c i g others P (keys_of me others i Turn)
  over-stands b c (InFollowTurn i leader) P x e beside h = put-stands c Ending (WhileFollow i leader P) tt
  over-stands b c (InLeadScope head others) P x e beside h = end_stands c head others P (keys_of me others head.index End) (letters_to me others head.index Out (λ q. Done))
  over-stands b c (InFollowScope i leader) P x e beside h = put-stands c Ending (ScopeFollow i leader P) tt

  -- where a part has ended, its construct's mark alone changes
  pub level-rises : (b c : ℕ) (h : Hole) (P : Process) (x : Status) → b ≡ c + left_size h → BesideStands me marks c h P → Stands me marks b x P
      → is_over me x P ≡ true → Stands me (settle me marks c (rise me h P x) (static_of h P)) c (rise me h P x) (static_of h P)
  level-rises b c h P x e beside stands over =
      subst (λ y. Stands me (settle me marks c y (static_of h P)) c y (static_of h P)) (sym (rise-over h P x over)) (over-stands b c h P x e beside stands)

pub base_is : (b c l : ℕ) → b ≡ c + l → b - l ≡ c
base_is b c l e = omega arith

-- a move of a part, on marks: they say what climb says
pub climb-stands : (me : Role) (marks : Marks) (top b : ℕ) (hs : List Hole) (P : Process) (x : Status)
    → PathStands me marks top b hs P → Stands me marks b x P
    → Stands me (climb_marks me marks b hs P x) top (climb me hs P x) (top_static hs P)
climb-stands me marks top b [] P x e h = at_place me marks b top x P e h
climb-stands me marks top b (k ∷ hs) P x p h = ⊎_elim
    (λ over. both (sym (cond-true _ _ _ over)) (sym (cond-true _ _ _ over))
    (subst (λ c. Stands me (climb_marks me (settle me marks c (rise me k P x) (static_of k P)) c hs (static_of k P) (rise me k P x)) top
    (climb me hs (static_of k P) (rise me k P x)) (top_static (k ∷ hs) P)) (sym (base_is b p.0 (left_size k) p.1))
    (climb-stands me (settle me marks p.0 (rise me k P x) (static_of k P)) top p.0 hs (static_of k P) (rise me k P x)
    (path-same me marks (settle me marks p.0 (rise me k P x) (static_of k P)) top p.0 hs (static_of k P) (settle-outside me marks p.0 (rise me k P x) (static_of k P)) p.4)
    (level-rises me marks b p.0 k P x p.1 p.3 h over))))
    (λ goes. both (sym (cond-false _ _ _ goes)) (sym (cond-false _ _ _ goes)) (top-stands me marks top b (k ∷ hs) P x p h goes))
    (cases_Bool (is_over me x P))
  where
    both : {ms ns : Marks} {y z : Status} → ms ≡ ns → y ≡ z → Stands me ms top y (top_static (k ∷ hs) P) → Stands me ns top z (top_static (k ∷ hs) P)
    both {ms} {ns} {y} {z} e f s = subst (λ m. Stands me m top z (top_static (k ∷ hs) P)) e (subst (λ w. Stands me ms top w (top_static (k ∷ hs) P)) f s)

module _ (me : Role) where
  settle-hole : (marks : Marks) (c : ℕ) (h : Hole) (P : Process) (x : Status) → PartsStand me marks c (status_of h P x) (static_of h P)
      → Stands me (settle me marks c (status_of h P x) (static_of h P)) c (status_of h P x) (static_of h P)
  settle-hole marks c (InFirst Q) P x parts = put-stands me marks c (First x) (Seq P Q) parts
  settle-hole marks c (InSecond R) P x parts = put-stands me marks c (Second x) (Seq R P) parts
  settle-hole marks c (InLeft y Q) P x parts = put-stands me marks c (Both x y) (Par P Q) parts
  settle-hole marks c (InRight y R) P x parts = put-stands me marks c (Both y x) (Par R P) parts
  settle-hole marks c (InLeadBranch b i g others Q) P x parts = put-stands me marks c (Branch b x) (static_of (InLeadBranch b i g others Q) P) parts
  settle-hole marks c (InFollowBranch b i leader Q) P x parts = put-stands me marks c (Branch b x) (static_of (InFollowBranch b i leader Q) P) parts
  settle-hole marks c (InLeadTurn i g others) P x parts = put-stands me marks c (Body x) (WhileLead i g others P) parts
  settle-hole marks c (InFollowTurn i leader) P x parts = put-stands me marks c (Body x) (WhileFollow i leader P) parts
  settle-hole marks c (InLeadScope head others) P x parts = put-stands me marks c (Body x) (ScopeLead head others P) parts
  settle-hole marks c (InFollowScope i leader) P x parts = put-stands me marks c (Body x) (ScopeFollow i leader P) parts

  level-touched : (marks : Marks) (b c : ℕ) (h : Hole) (P : Process) (x : Status) → b ≡ c + left_size h → BesideStands me marks c h P → Stands me marks b x P
      → Stands me (settle me marks c (rise me h P x) (static_of h P)) c (rise me h P x) (static_of h P)
  level-touched marks b c h P x e beside stands = ⊎_elim
      (λ over. level-rises me marks b c h P x e beside stands over)
      (λ goes. subst (λ y. Stands me (settle me marks c y (static_of h P)) c y (static_of h P)) (sym (rise-stays me h P x goes))
      (settle-hole marks c h P x (level-parts me marks b c h P x e beside stands)))
      (cases_Bool (is_over me x P))

  -- the first act in a static process, on marks
  pub touch-stands : (marks : Marks) (top b : ℕ) (hs : List Hole) (P : Process) (x : Status)
      → QuietStands me marks top b hs P → Stands me marks b x P
      → Stands me (touch_marks me marks b hs P x) top (touch me hs P x) (top_static hs P)
  touch-stands marks top b [] P x e h = at_place me marks b top x P e h
  touch-stands marks top b (k ∷ hs) P x p h =
      subst (λ c. Stands me (touch_marks me (settle me marks c (rise me k P x) (static_of k P)) c hs (static_of k P) (rise me k P x)) top
      (touch me hs (static_of k P) (rise me k P x)) (top_static (k ∷ hs) P)) (sym (base_is b p.0 (left_size k) p.1))
      (touch-stands (settle me marks p.0 (rise me k P x) (static_of k P)) top p.0 hs (static_of k P) (rise me k P x)
      (quiet-same me marks (settle me marks p.0 (rise me k P x) (static_of k P)) top p.0 hs (static_of k P) (settle-outside me marks p.0 (rise me k P x) (static_of k P)) p.3)
      (level-touched marks b p.0 k P x p.1 p.2 h))
