-- Where a part has ended, what is written is a function of the op and its mark.
use Rattle.std.proofs.Common.{◌≡◌, ◌+◌, ◌-◌, ◌<◌, ◌≤◌, ℕ, zero, suc, List, [], ◌∷◌, ◌++◌, length, Bool, true, false, not, ◌&&◌, ◌||◌, Some, refl, ap, ap₂, ◌∙◌, sym, subst, arith, ⊎_elim}
use Rattle.std.specs.Prelude.{nat_eq}
use Rattle.std.proofs.lemmas.Bool.Decides.{nat_tests}
use Rattle.std.proofs.lemmas.Bool.{cases_Bool, cond-true, cond-false}
use Rattle.dioc_terms.specs.declared.names.Role.{Role}
use Rattle.dioc_terms.specs.declared.names.Index.{Index}
use Rattle.dioc_terms.specs.declared.processes.Key.{Key}
use Rattle.dioc_terms.specs.declared.processes.Tag.TheVariants.{Turn}
use Rattle.dioc_terms.specs.declared.entries.Act.{Act}
use Rattle.dioc_terms.specs.Expressions.{Expression}
use Rattle.dioc_terms.specs.Processes.{Process, Seq, Par, WhileLead, WhileFollow, ScopeLead, ScopeFollow}
use Rattle.process_steps.specs.Steps.{ended}
use Rattle.role_statuses.specs.Statuses.{Status, Untouched, Finished, First, Second, Both, Telling, Branch, Body, Gathering, Ending, Left, Waiting, Became, read, is_over, keys_of}
use Rattle.role_statuses.specs.Moves.{bodied, gathering_then, next_turn, scope_end}
use Rattle.role_statuses.specs.Paths.{Hole, InFirst, InSecond, InLeft, InRight, InLeadBranch, InFollowBranch, InLeadTurn, InFollowTurn, InLeadScope, InFollowScope, IsQuiet, IsStarting, static_of, rise, top_static, touch}
use Rattle.role_statuses.specs.Flat.{Marks, inner, size, mark_of, hole_mark, left_size, BesideStands, PathStands, QuietStands, settle, climb_marks, touch_marks}
use Rattle.role_statuses.specs.Local.{Layout, PathLays, is_first, is_untouched, mark_after, over_after, walk, walk_up, write, written}
use Rattle.role_statuses.specs.Marks.{Mark}
use Rattle.role_statuses.specs.Marks as mark
use Rattle.role_statuses.proofs.FlatLemmas.{SameOutside, hole_inner, path-same, quiet-same}
use Rattle.role_statuses.proofs.ReadLemmas.{over-reads}
use Rattle.role_statuses.proofs.SettleLemmas.{base_is, settle-outside}

turn_goes_on : (me : Role) (i : Index) (g : Expression) (others : List Role) (P : Process) (ks : List Key)
    → is_over me (gathering_then Untouched ks) (WhileLead i g others P) ≡ false
turn_goes_on me i g others P [] = refl
turn_goes_on me i g others P (k ∷ ks) = refl

module _ (me : Role) where
  bodied_is : {A : Type 0} (f : Status → A) (next : Status) (P : Process) (x : Status) → is_over me x P ≡ true → f (bodied me next P x) ≡ f next
  bodied_is f next P x h = ap f (cond-true (ended (read me x P)) next (Body x) (sym (over-reads me x P) ∙ h))

  -- the mark
  pub local-mark : (marks : Marks) (c : ℕ) (h : Hole) (P : Process) (x : Status) → BesideStands me marks c h P → is_over me x P ≡ true
      → mark_of me (rise me h P x) (static_of h P) ≡ mark_after me (static_of h P) (is_first h) true (hole_mark me h)
  local-mark marks c (InFirst Q) P x beside h = ap (λ y. mark_of me y (Seq P Q)) (cond-true (ended (read me x P)) (Second Untouched) (First x) (sym (over-reads me x P) ∙ h))
  local-mark marks c (InSecond R) P x beside h = refl
  local-mark marks c (InLeft y Q) P x beside h = ap (λ t. mark.Both t (is_over me y Q)) h
  local-mark marks c (InRight y R) P x beside h = ap (mark.Both (is_over me y R)) h
  local-mark marks c (InLeadBranch true i g others Q) P x beside h = refl
  local-mark marks c (InLeadBranch false i g others Q) P x beside h = refl
  local-mark marks c (InFollowBranch true i leader Q) P x beside h = refl
  local-mark marks c (InFollowBranch false i leader Q) P x beside h = refl
  local-mark marks c (InLeadTurn i g others) P x beside h = bodied_is (λ y. mark_of me y (WhileLead i g others P)) (next_turn me others i) P x h
  local-mark marks c (InFollowTurn i leader) P x beside h = bodied_is (λ y. mark_of me y (WhileFollow i leader P)) Ending P x h
  local-mark marks c (InLeadScope head others) P x beside h = bodied_is (λ y. mark_of me y (ScopeLead head others P)) (scope_end me others head.index) P x h
  local-mark marks c (InFollowScope i leader) P x beside h = bodied_is (λ y. mark_of me y (ScopeFollow i leader P)) Ending P x h

  -- and whether the construct has ended
  pub local-over : (marks : Marks) (c : ℕ) (h : Hole) (P : Process) (x : Status) → BesideStands me marks c h P → is_over me x P ≡ true
      → is_over me (rise me h P x) (static_of h P) ≡ over_after me (static_of h P) (is_first h) true (hole_mark me h)
  local-over marks c (InFirst Q) P x beside h = ap (λ y. is_over me y (Seq P Q)) (cond-true (ended (read me x P)) (Second Untouched) (First x) (sym (over-reads me x P) ∙ h))
  local-over marks c (InSecond R) P x beside h = h
  local-over marks c (InLeft y Q) P x beside h = ap (λ t. t && is_over me y Q) h
  local-over marks c (InRight y R) P x beside h = ap (λ t. is_over me y R && t) h
  local-over marks c (InLeadBranch true i g others Q) P x beside h = h
  local-over marks c (InLeadBranch false i g others Q) P x beside h = h
  local-over marks c (InFollowBranch true i leader Q) P x beside h = h
  local-over marks c (InFollowBranch false i leader Q) P x beside h = h
  local-over marks c (InLeadTurn i g others) P x beside h = bodied_is (λ y. is_over me y (WhileLead i g others P)) (next_turn me others i) P x h
      ∙ turn_goes_on me i g others P (keys_of me others i Turn)
  local-over marks c (InFollowTurn i leader) P x beside h = bodied_is (λ y. is_over me y (WhileFollow i leader P)) Ending P x h
  local-over marks c (InLeadScope head others) P x beside h = bodied_is (λ y. is_over me y (ScopeLead head others P)) (scope_end me others head.index) P x h
  local-over marks c (InFollowScope i leader) P x beside h = bodied_is (λ y. is_over me y (ScopeFollow i leader P)) Ending P x h

-- A loop over places does what climb does.

pub settle-writes : (me : Role) (marks : Marks) (c : ℕ) (y : Status) (S : Process) → settle me marks c y S ≡ write marks c (c + inner S) S (mark_of me y S)
settle-writes me marks c Untouched S = refl
settle-writes me marks c Finished S = refl
settle-writes me marks c (First x) S = refl
settle-writes me marks c (Second x) S = refl
settle-writes me marks c (Both x y) (Par P Q) = refl
settle-writes me marks c (Both x y) S = refl
settle-writes me marks c (Telling b k l ms) S = refl
settle-writes me marks c (Branch b x) S = refl
settle-writes me marks c (Body x) S = refl
settle-writes me marks c (Gathering k ks) S = refl
settle-writes me marks c Ending S = refl
settle-writes me marks c (Left k l ms) S = refl
settle-writes me marks c (Waiting k ks) S = refl
settle-writes me marks c (Became R) S = refl

later : (a b : ℕ) → a < b → not (nat_eq a b) ≡ true
later a b h = grind (arith, nat_tests)

equal : (a b : ℕ) → a ≡ b → not (nat_eq a b) ≡ false
equal a b h = grind (arith, nat_tests)

which_part : (b c : ℕ) (h : Hole) (P : Process) → b ≡ c + left_size h
    → not (nat_eq (suc (b + inner P)) (c + inner (static_of h P))) ≡ is_first h
which_part b c (InFirst Q) P e = later _ _ (omega arith)
which_part b c (InSecond R) P e = equal _ _ (omega arith)
which_part b c (InLeft y Q) P e = later _ _ (omega arith)
which_part b c (InRight y R) P e = equal _ _ (omega arith)
which_part b c (InLeadBranch true i g others Q) P e = later _ _ (omega arith)
which_part b c (InLeadBranch false i g others Q) P e = equal _ _ (omega arith)
which_part b c (InFollowBranch true i leader Q) P e = later _ _ (omega arith)
which_part b c (InFollowBranch false i leader Q) P e = equal _ _ (omega arith)
which_part b c (InLeadTurn i g others) P e = equal _ _ (omega arith)
which_part b c (InFollowTurn i leader) P e = equal _ _ (omega arith)
which_part b c (InLeadScope head others) P e = equal _ _ (omega arith)
which_part b c (InFollowScope i leader) P e = equal _ _ (omega arith)

pub same_base : (b c d l : ℕ) → b ≡ c + l → b ≡ d + l → c ≡ d
same_base b c d l e f = omega arith

climb-stops : (me : Role) (marks : Marks) (b : ℕ) (hs : List Hole) (P : Process) (x : Status) → is_over me x P ≡ false → climb_marks me marks b hs P x ≡ marks
climb-stops me marks b [] P x h = refl
climb-stops me marks b (k ∷ hs) P x h = cond-false _ _ _ h

-- what the code says of the construct around a part
pub record LevelLays (code : Layout) (b c : ℕ) (h : Hole) (hs : List Hole) (P : Process) : Type 0 where
  pub parent : code.parents (b + inner P) ≡ Some (c + inner (static_of h P))
  pub static : code.statics (c + inner (static_of h P)) ≡ static_of h P
  pub low : code.lows (c + inner (static_of h P)) ≡ c
  pub rest : PathLays code c hs (static_of h P)

pub level_at : (code : Layout) (b c d : ℕ) (h : Hole) (hs : List Hole) (P : Process) → c ≡ d → LevelLays code b c h hs P → LevelLays code b d h hs P
level_at code b c d h hs P e = subst (λ z. LevelLays code b z h hs P) e

-- The first act of a static process, where the acting part is deep in it.

goes_first : (me : Role) (P Q : Process) (x : Status) (t : Bool) → is_over me x P ≡ t
    → mark_of me (rise me (InFirst Q) P x) (Seq P Q) ≡ mark_after me (Seq P Q) true t mark.Untouched
goes_first me P Q x true h = ap (λ y. mark_of me y (Seq P Q)) (cond-true (ended (read me x P)) (Second Untouched) (First x) (sym (over-reads me x P) ∙ h))
goes_first me P Q x false h = ap (λ y. mark_of me y (Seq P Q)) (cond-false (ended (read me x P)) (Second Untouched) (First x) (sym (over-reads me x P) ∙ h))

over_first : (me : Role) (P Q : Process) (x : Status) (t : Bool) → is_over me x P ≡ t
    → is_over me (rise me (InFirst Q) P x) (Seq P Q) ≡ (t && ended Q)
over_first me P Q x true h = ap (λ y. is_over me y (Seq P Q)) (cond-true (ended (read me x P)) (Second Untouched) (First x) (sym (over-reads me x P) ∙ h))
over_first me P Q x false h = ap (λ y. is_over me y (Seq P Q)) (cond-false (ended (read me x P)) (Second Untouched) (First x) (sym (over-reads me x P) ∙ h))
    ∙ ap (λ t. t && ended Q) h

second_mark : (me : Role) (P Q : Process) (t : Bool) → mark.Second ≡ mark_after me (Seq P Q) false t mark.Untouched
second_mark me P Q true = refl
second_mark me P Q false = refl

module _ (me : Role) (a : Act) where
  pub quiet-mark : (h : Hole) (P : Process) (x : Status) → IsQuiet a h P
      → mark_of me (rise me h P x) (static_of h P) ≡ mark_after me (static_of h P) (is_first h) (is_over me x P) mark.Untouched
  quiet-mark (InFirst Q) P x quiet = goes_first me P Q x (is_over me x P) refl
  quiet-mark (InSecond R) P x quiet = second_mark me R P (is_over me x P)
  quiet-mark (InLeft Untouched Q) P x quiet = refl
  quiet-mark (InRight Untouched R) P x quiet = refl
  quiet-mark h P x quiet = absurd quiet

  pub quiet-over : (h : Hole) (P : Process) (x : Status) → IsQuiet a h P
      → is_over me (rise me h P x) (static_of h P) ≡ over_after me (static_of h P) (is_first h) (is_over me x P) mark.Untouched
  quiet-over (InFirst Q) P x quiet = over_first me P Q x (is_over me x P) refl
  quiet-over (InSecond R) P x quiet = refl
  quiet-over (InLeft Untouched Q) P x quiet = refl
  quiet-over (InRight Untouched R) P x quiet = refl
  quiet-over h P x quiet = absurd quiet

-- a construct whose part in the hole runs has been touched
touched-hole : (me : Role) (marks : Marks) (c : ℕ) (h : Hole) (P : Process) → BesideStands me marks c h P → is_untouched (hole_mark me h) ≡ false
touched-hole me marks c (InFirst Q) P beside = refl
touched-hole me marks c (InSecond R) P beside = refl
touched-hole me marks c (InLeft y Q) P beside = refl
touched-hole me marks c (InRight y R) P beside = refl
touched-hole me marks c (InLeadBranch b i g others Q) P beside = refl
touched-hole me marks c (InFollowBranch b i leader Q) P beside = refl
touched-hole me marks c (InLeadTurn i g others) P beside = refl
touched-hole me marks c (InFollowTurn i leader) P beside = refl
touched-hole me marks c (InLeadScope head others) P beside = refl
touched-hole me marks c (InFollowScope i leader) P beside = refl

-- nothing was done in the constructs on the way
abbrev pub AreQuiet : Marks → ℕ → List Hole → Process → Type 0
AreQuiet marks b [] P = Unit {0}
AreQuiet marks b (h ∷ hs) P =
    (marks ((b - left_size h) + inner (static_of h P)) ≡ mark.Untouched) × AreQuiet marks (b - left_size h) hs (static_of h P)

-- a change in the part leaves them so
pub quiet_still : (me : Role) (marks after : Marks) (top b : ℕ) (hs : List Hole) (P : Process) → SameOutside marks after b (size P) → QuietStands me marks top b hs P
    → AreQuiet marks b hs P → AreQuiet after b hs P
quiet_still me marks after top b [] P s p q = tt
quiet_still me marks after top b (h ∷ hs) P s p q =
    let room : left_size h + size P ≤ inner (static_of h P) = hole_inner me marks p.0 h P p.2 in
    let e : b ≡ p.0 + left_size h = p.1 in
    let base : b - left_size h ≡ p.0 = base_is b p.0 (left_size h) p.1 in (
      sym (s.above ((b - left_size h) + inner (static_of h P)) (omega (arith, base, e, room))) ∙ q.0,
      subst (λ d. AreQuiet after d hs (static_of h P)) (sym base)
          (quiet_still me marks after top p.0 hs (static_of h P)
          (record { below = λ k l. s.below k (omega (arith, e)); above = λ k u. s.above k (omega (arith, e, room)) }) p.3
          (subst (λ d. AreQuiet marks d hs (static_of h P)) base q.1)),
    )

none_more : (n : ℕ) → 0 + n ≡ n
none_more n = omega arith

one_more : (m n : ℕ) → suc m + n ≡ suc (m + n)
one_more m n = omega arith

untouched_goes : (t u : Bool) → u ≡ true → (t || u) ≡ true
untouched_goes true u h = refl
untouched_goes false u h = h

module _ (me : Role) (code : Layout) where
  -- what is written at a construct, where its mark is this, and the new one that
  pub level_written : (marks : Marks) (b c : ℕ) (h : Hole) (hs : List Hole) (P : Process) (over : Bool) (m n : Mark) → LevelLays code b c h hs P → b ≡ c + left_size h
      → marks (c + inner (static_of h P)) ≡ m → n ≡ mark_after me (static_of h P) (is_first h) over m
      → written me code marks (b + inner P) over (c + inner (static_of h P)) ≡ write marks c (c + inner (static_of h P)) (static_of h P) n
  level_written marks b c h hs P over m n lays e is new =
      ap (λ l. write marks l (c + inner (static_of h P)) (code.statics (c + inner (static_of h P)))
      (mark_after me (code.statics (c + inner (static_of h P))) (not (nat_eq (suc (b + inner P)) (c + inner (static_of h P)))) over (marks (c + inner (static_of h P))))) lays.low
      ∙ ap (λ S. write marks c (c + inner (static_of h P)) S
      (mark_after me S (not (nat_eq (suc (b + inner P)) (c + inner (static_of h P)))) over (marks (c + inner (static_of h P))))) lays.static
      ∙ ap₂ (λ t k. write marks c (c + inner (static_of h P)) (static_of h P) (mark_after me (static_of h P) t over k)) (which_part b c h P e) is
      ∙ ap (write marks c (c + inner (static_of h P)) (static_of h P)) (sym new)

  pub level_over : (marks : Marks) (b c : ℕ) (h : Hole) (hs : List Hole) (P : Process) (over : Bool) (m : Mark) → LevelLays code b c h hs P → b ≡ c + left_size h
      → marks (c + inner (static_of h P)) ≡ m
      → over_after me (code.statics (c + inner (static_of h P))) (not (nat_eq (suc (b + inner P)) (c + inner (static_of h P)))) over (marks (c + inner (static_of h P)))
      ≡ over_after me (static_of h P) (is_first h) over m
  level_over marks b c h hs P over m lays e is =
      ap (λ S. over_after me S (not (nat_eq (suc (b + inner P)) (c + inner (static_of h P)))) over (marks (c + inner (static_of h P)))) lays.static
      ∙ ap₂ (λ t k. over_after me (static_of h P) t over k) (which_part b c h P e) is

  -- where it goes on, and what is around it runs, the loop writes nothing
  walk-stops : (n : ℕ) (marks : Marks) (top b : ℕ) (hs : List Hole) (P : Process) → PathLays code b hs P → PathStands me marks top b hs P
      → walk me code n marks (b + inner P) false ≡ marks
  walk-stops zero marks top b hs P lays p = refl
  walk-stops (suc n) marks top b [] P lays p = ap (walk_up me code (walk me code n) marks (b + inner P) false) lays
  walk-stops (suc n) marks top b (h ∷ hs) P lays p =
      let c : ℕ = p.0 in
      let S : Process = static_of h P in
      let level : LevelLays code b c h hs P = level_at code b lays.0 c h hs P (same_base b lays.0 c (left_size h) lays.1 p.1)
      (record { parent = lays.2; static = lays.3; low = lays.4; rest = lays.5 }) in
      ap (walk_up me code (walk me code n) marks (b + inner P) false) level.parent
      ∙ cond-false (false || is_untouched (marks (c + inner S))) _ marks (ap is_untouched p.2 ∙ touched-hole me marks c h P p.3)

  -- where a part has ended, the loop does what climb does
  pub walk-climbs : (n : ℕ) (marks : Marks) (top b : ℕ) (hs : List Hole) (P : Process) (x : Status) → length hs ≤ n → PathLays code b hs P → PathStands me marks top b hs P
      → is_over me x P ≡ true → walk me code n marks (b + inner P) true ≡ climb_marks me marks b hs P x
  walk-climbs zero marks top b [] P x few lays p over = refl
  walk-climbs (suc n) marks top b [] P x few lays p over = ap (walk_up me code (walk me code n) marks (b + inner P) true) lays
  walk-climbs zero marks top b (h ∷ hs) P x few lays p over = absurd (omega arith)
  walk-climbs (suc n) marks top b (h ∷ hs) P x few lays p over =
      let c : ℕ = p.0 in
      let S : Process = static_of h P in
      let y : Status = rise me h P x in
      let M : Marks = settle me marks c y S in
      let level : LevelLays code b c h hs P = level_at code b lays.0 c h hs P (same_base b lays.0 c (left_size h) lays.1 p.1)
      (record { parent = lays.2; static = lays.3; low = lays.4; rest = lays.5 }) in
      ap (walk_up me code (walk me code n) marks (b + inner P) true) level.parent
      ∙ ap₂ (λ t W. walk me code n W (c + inner S) t)
      (level_over marks b c h hs P true (hole_mark me h) level p.1 p.2 ∙ sym (local-over me marks c h P x p.3 over))
      (level_written marks b c h hs P true (hole_mark me h) (mark_of me y S) level p.1 p.2 (local-mark me marks c h P x p.3 over)
      ∙ sym (settle-writes me marks c y S))
      ∙ ⊎_elim
      (λ whole. ap (walk me code n M (c + inner S)) whole
      ∙ walk-climbs n M top c hs S y (omega arith) level.rest (path-same me marks M top c hs S (settle-outside me marks c y S) p.4) whole)
      (λ part. ap (walk me code n M (c + inner S)) part
      ∙ walk-stops n M top c hs S level.rest (path-same me marks M top c hs S (settle-outside me marks c y S) p.4)
      ∙ sym (climb-stops me M c hs S y part))
      (cases_Bool (is_over me y S))
      ∙ sym (cond-true _ _ _ over ∙ ap (λ d. climb_marks me (settle me marks d y S) d hs S y) (base_is b c (left_size h) p.1))

  -- the way to the top, once a part has acted, whether it has ended or not
  pub walk-up : (n : ℕ) (marks : Marks) (top b : ℕ) (hs : List Hole) (P : Process) (x : Status) (t : Bool) → is_over me x P ≡ t → length hs ≤ n → PathLays code b hs P
      → PathStands me marks top b hs P → walk me code n marks (b + inner P) t ≡ climb_marks me marks b hs P x
  walk-up n marks top b hs P x true over few lays p = walk-climbs n marks top b hs P x few lays p over
  walk-up n marks top b hs P x false over few lays p = walk-stops n marks top b hs P lays p ∙ sym (climb-stops me marks b hs P x over)

  -- the part of the way to the top on which nothing was done is touched
  pub walk-touches : (a : Act) (n : ℕ) (marks : Marks) (top b : ℕ) (qs hs : List Hole) (P : Process) (x : Status) → PathLays code b (qs ++ hs) P
      → QuietStands me marks top b qs P → IsStarting me a qs P → AreQuiet marks b qs P
      → walk me code (length qs + n) marks (b + inner P) (is_over me x P)
      ≡ walk me code n (touch_marks me marks b qs P x) (top + inner (top_static qs P)) (is_over me (touch me qs P x) (top_static qs P))
  walk-touches a n marks top b [] hs P x lays p starts quiet = ap (λ j. walk me code j marks (b + inner P) (is_over me x P)) (none_more n)
      ∙ ap (λ d. walk me code n marks (d + inner P) (is_over me x P)) p
  walk-touches a n marks top b (h ∷ qs) hs P x lays p starts quiet =
      let c : ℕ = p.0 in
      let S : Process = static_of h P in
      let y : Status = rise me h P x in
      let M : Marks = settle me marks c y S in
      let level : LevelLays code b c h (qs ++ hs) P = level_at code b lays.0 c h (qs ++ hs) P (same_base b lays.0 c (left_size h) lays.1 p.1)
      (record { parent = lays.2; static = lays.3; low = lays.4; rest = lays.5 }) in
      let own : marks (c + inner S) ≡ mark.Untouched = ap (λ d. marks (d + inner S)) (sym (base_is b c (left_size h) p.1)) ∙ quiet.0 in
      let above : AreQuiet marks c qs S = subst (λ d. AreQuiet marks d qs S) (base_is b c (left_size h) p.1) quiet.1 in
      ap (λ j. walk me code j marks (b + inner P) (is_over me x P)) (one_more (length qs) n)
      ∙ ap (walk_up me code (walk me code (length qs + n)) marks (b + inner P) (is_over me x P)) level.parent
      ∙ cond-true (is_over me x P || is_untouched (marks (c + inner S))) _ marks (untouched_goes (is_over me x P) _ (ap is_untouched own))
      ∙ ap₂ (λ t W. walk me code (length qs + n) W (c + inner S) t)
      (level_over marks b c h (qs ++ hs) P (is_over me x P) mark.Untouched level p.1 own ∙ sym (quiet-over me a h P x starts.0))
      (level_written marks b c h (qs ++ hs) P (is_over me x P) mark.Untouched (mark_of me y S) level p.1 own (quiet-mark me a h P x starts.0)
      ∙ sym (settle-writes me marks c y S))
      ∙ walk-touches a n M top c qs hs S y level.rest (quiet-same me marks M top c qs S (settle-outside me marks c y S) p.3) starts.2
      (quiet_still me marks M top c qs S (settle-outside me marks c y S) p.3 above)
      ∙ ap (λ d. walk me code n (touch_marks me (settle me marks d y S) d qs S y) (top + inner (top_static qs S)) (is_over me (touch me qs S y) (top_static qs S)))
      (sym (base_is b c (left_size h) p.1))
