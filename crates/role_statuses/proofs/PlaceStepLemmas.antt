-- The loop over places does a step of the whole.
use Rattle.std.proofs.Common.{◌≡◌, ◌+◌, ◌-◌, ◌≤◌, ◌<◌, ℕ, suc, List, [], ◌∷◌, ◌++◌, length, true, false, not, ◌||◌, ◌&&◌, refl, ap, ap₂, ◌∙◌, sym, subst, arith, ⊎_elim}
use Rattle.std.specs.Prelude.{nat_lt}
use Rattle.std.proofs.lemmas.Bool.Decides.{nat_tests}
use Rattle.std.proofs.lemmas.Bool.{and_parts, cases_Bool, cond-false}
use Rattle.std.proofs.lemmas.List.{length-append}
use Rattle.std.proofs.lemmas.List.Folds.{list_any-append}
use Rattle.dioc_terms.specs.declared.names.Role.{Role}
use Rattle.dioc_terms.specs.declared.entries.Act.{Act}
use Rattle.dioc_terms.specs.Attempts.{Does, under}
use Rattle.dioc_terms.specs.Equality.{act_eq}
use Rattle.dioc_terms.specs.Processes.{Process, Seq, Par}
use Rattle.dioc_terms.specs.Stores.{Store}
use Rattle.process_steps.specs.Steps.{Deed, Given, is_offered, offers, step}
use Rattle.role_statuses.specs.Entering.{entered, is_both, stop}
use Rattle.role_statuses.specs.Flat.{Marks, PathAt, PathStands, QuietStands, Stands, climb_marks, inner, left_size, mark_of, settle, size, touch_marks}
use Rattle.role_statuses.specs.Kept.{IsKept, kept, marked, running}
use Rattle.role_statuses.specs.Local.{Layout, walk, write}
use Rattle.role_statuses.specs.Marks as mark
use Rattle.role_statuses.specs.Moves.{move, start}
use Rattle.role_statuses.specs.Paths.{Hole, InFirst, InSecond, InLeft, InRight, InLeadBranch, InFollowBranch, InLeadTurn, InFollowTurn, InLeadScope, InFollowScope, IsActing, IsQuiet, IsStarting, climb, left_of, rise, static_of, status_of, top_static, top_status, touch}
use Rattle.role_statuses.specs.PlaceLaws.{IsCodeOf, IsPlaceDone, IsPlaceStep, IsStepOf, PlacesAreExact, SaysWay, status_at, stepped}
use Rattle.role_statuses.specs.Sound.{is_sound}
use Rattle.role_statuses.specs.Spots.{Spot, acts_of, left_spots, lefts_spots, rights_spots, spot_of, spots, still}
use Rattle.role_statuses.specs.Statuses.{Status, Untouched, Finished, First, Second, Both, Telling, Branch, Body, Gathering, Ending, Left, Waiting, Became, is_over, leaves, read}
use Rattle.role_statuses.proofs.ActiveLemmas.{SideSound, SidesSound, lefts-append, path-append, rise_sound, path-at, quiet-at, rights-append, spots-climb, spots-path, spots-touch, static-append, still-path, touch-append, wrapped}
use Rattle.role_statuses.proofs.AskLemmas.{asks-path, asks-start}
use Rattle.role_statuses.proofs.EnterLemmas.{goes_append, leaf_alone, news-entered, quiet_goes, run_goes}
use Rattle.role_statuses.proofs.FlatLemmas.{SameOutside, path-same, quiet-same}
use Rattle.role_statuses.proofs.KeptLemmas.{kept-is}
use Rattle.role_statuses.proofs.LeafLemmas.{IsLeaf}
use Rattle.role_statuses.proofs.LocalLemmas.{AreQuiet, quiet_still, settle-writes, walk-touches, walk-up}
use Rattle.role_statuses.proofs.MoveLemmas.{move-reads}
use Rattle.role_statuses.proofs.PathLemmas.{climb-touches, move-climbs, rise-stays, start-touches}
use Rattle.role_statuses.proofs.ReadLemmas.{leaves-reads}
use Rattle.role_statuses.proofs.RoleLemmas.{sound_done, under_back}
use Rattle.role_statuses.proofs.SettleLemmas.{base_is, climb-stands, put-stands, settle-outside, touch-stands}
use Rattle.role_statuses.proofs.SoundLemmas.{move-sound}
use Rattle.role_statuses.proofs.SpotLemmas.{IsDeep, IsFound, acts-append, found, goes_if, not_true, spots-offer}
use Rattle.role_statuses.proofs.StepLemmas.{flat-start, flat-step, quiet-within, start-outside}

-- the parts beside a way are sound where the whole is
module _ (me : Role) where
  side_sound : (h : Hole) (P : Process) (x : Status) → is_sound me (status_of h P x) (static_of h P) ≡ true → SideSound me h × (is_sound me x P ≡ true)
  side_sound (InFirst Q) P x h = (tt, (not_true (is_over me x P) (is_sound me x P) h).1)
  side_sound (InSecond R) P x h = (tt, h)
  side_sound (InLeft y Q) P x h = let k = and_parts (is_sound me x P) (is_sound me y Q) h in (k.1, k.0)
  side_sound (InRight y R) P x h = and_parts (is_sound me y R) (is_sound me x P) h
  side_sound (InLeadBranch true i g others Q) P x h = (tt, h)
  side_sound (InLeadBranch false i g others Q) P x h = (tt, h)
  side_sound (InFollowBranch true i leader Q) P x h = (tt, h)
  side_sound (InFollowBranch false i leader Q) P x h = (tt, h)
  side_sound (InLeadTurn i g others) P x h = (tt, (not_true (is_over me x P) (is_sound me x P) h).1)
  side_sound (InFollowTurn i leader) P x h = (tt, (not_true (is_over me x P) (is_sound me x P) h).1)
  side_sound (InLeadScope head others) P x h = (tt, (not_true (is_over me x P) (is_sound me x P) h).1)
  side_sound (InFollowScope i leader) P x h = (tt, (not_true (is_over me x P) (is_sound me x P) h).1)

  top_sound : (hs : List Hole) (P : Process) (x : Status) → is_sound me (top_status hs P x) (top_static hs P) ≡ true → is_sound me x P ≡ true
  top_sound [] P x h = h
  top_sound (k ∷ hs) P x h = (side_sound k P x (top_sound hs (static_of k P) (status_of k P x) h)).1

  sides_sound : (hs : List Hole) (P : Process) (x : Status) → is_sound me (top_status hs P x) (top_static hs P) ≡ true → SidesSound me hs
  sides_sound [] P x h = tt
  sides_sound (k ∷ hs) P x h =
      ((side_sound k P x (top_sound hs (static_of k P) (status_of k P x) h)).0, sides_sound hs (static_of k P) (status_of k P x) h)

  quiet_side : (a : Act) (h : Hole) (P : Process) → IsQuiet a h P → SideSound me h
  quiet_side a (InFirst Q) P quiet = tt
  quiet_side a (InSecond R) P quiet = tt
  quiet_side a (InLeft Untouched Q) P quiet = refl
  quiet_side a (InRight Untouched R) P quiet = refl
  quiet_side a h P quiet = absurd quiet

  sides_append : (a : Act) (qs hs : List Hole) (P : Process) → IsStarting me a qs P → SidesSound me hs → SidesSound me (qs ++ hs)
  sides_append a [] hs P starts h = h
  sides_append a (k ∷ qs) hs P starts h = (quiet_side a k P starts.0, sides_append a qs hs (static_of k P) starts.2 h)

  held_sound : (h : Hole) (P : Process) (x : Status) → SideSound me h → is_sound me x P ≡ true → is_over me x P ≡ false
      → is_sound me (status_of h P x) (static_of h P) ≡ true
  held_sound (InFirst Q) P x side s goes = ap₂ (λ t u. not t && u) goes s
  held_sound (InSecond R) P x side s goes = s
  held_sound (InLeft y Q) P x side s goes = ap₂ (λ t u. t && u) s side
  held_sound (InRight y R) P x side s goes = ap₂ (λ t u. t && u) side s
  held_sound (InLeadBranch true i g others Q) P x side s goes = s
  held_sound (InLeadBranch false i g others Q) P x side s goes = s
  held_sound (InFollowBranch true i leader Q) P x side s goes = s
  held_sound (InFollowBranch false i leader Q) P x side s goes = s
  held_sound (InLeadTurn i g others) P x side s goes = ap₂ (λ t u. not t && u) goes s
  held_sound (InFollowTurn i leader) P x side s goes = ap₂ (λ t u. not t && u) goes s
  held_sound (InLeadScope head others) P x side s goes = ap₂ (λ t u. not t && u) goes s
  held_sound (InFollowScope i leader) P x side s goes = ap₂ (λ t u. not t && u) goes s

  -- what a sound status makes of the constructs around it is sound
  touch_sound : (hs : List Hole) (P : Process) (x : Status) → SidesSound me hs → is_sound me x P ≡ true
      → is_sound me (touch me hs P x) (top_static hs P) ≡ true
  touch_sound [] P x sides s = s
  touch_sound (h ∷ hs) P x sides s = touch_sound hs (static_of h P) (rise me h P x) sides.1 (⊎_elim
      (λ over. rise_sound me 0 h P x sides.0 s over)
      (λ goes. ap (λ z. is_sound me z (static_of h P)) (rise-stays me h P x goes) ∙ held_sound h P x sides.0 s goes)
      (cases_Bool (is_over me x P)))

  climb_sound : (hs : List Hole) (P : Process) (x : Status) → SidesSound me hs → is_sound me x P ≡ true
      → is_sound me (climb me hs P x) (top_static hs P) ≡ true
  climb_sound hs P x sides s = ap (λ z. is_sound me z (top_static hs P)) (climb-touches me hs P x) ∙ touch_sound hs P x sides s

  starts_sides : (a : Act) (qs : List Hole) (P : Process) → IsStarting me a qs P → SidesSound me qs
  starts_sides a [] P starts = tt
  starts_sides a (k ∷ qs) P starts = (quiet_side a k P starts.0, starts_sides a qs (static_of k P) starts.2)

-- what stands before the place offers no such act
module _ (me : Role) (a : Act) where
  none_both : (xs ys : List Spot) → is_offered a (acts_of xs) ≡ false → is_offered a (acts_of ys) ≡ false → is_offered a (acts_of (xs ++ ys)) ≡ false
  none_both xs ys h k = ap (is_offered a) (acts-append xs ys) ∙ list_any-append (act_eq a) (acts_of xs) (acts_of ys) ∙ ap₂ (λ t u. t || u) h k

  left_none : (c : ℕ) (h : Hole) → SideSound me h → is_offered a (left_of me h) ≡ false → is_offered a (acts_of (left_spots me c h)) ≡ false
  left_none c (InRight y R) side none = ap (is_offered a) (spots-offer me c y R side) ∙ none
  left_none c h side none = refl

  lefts_none : (b : ℕ) (hs : List Hole) (P : Process) (x : Status) → SidesSound me hs → IsActing me a hs P x → is_offered a (acts_of (lefts_spots me b hs P)) ≡ false
  lefts_none b [] P x sides acts = refl
  lefts_none b (h ∷ hs) P x sides acts = none_both (lefts_spots me (b - left_size h) hs (static_of h P)) (left_spots me (b - left_size h) h)
      (lefts_none (b - left_size h) hs (static_of h P) (status_of h P x) sides.1 acts.2) (left_none (b - left_size h) h sides.0 acts.1)

  starts_none : (b : ℕ) (qs : List Hole) (P : Process) → IsStarting me a qs P → is_offered a (acts_of (lefts_spots me b qs P)) ≡ false
  starts_none b [] P starts = refl
  starts_none b (h ∷ qs) P starts = none_both (lefts_spots me (b - left_size h) qs (static_of h P)) (left_spots me (b - left_size h) h)
      (starts_none (b - left_size h) qs (static_of h P) starts.2) (left_none (b - left_size h) h (quiet_side me a h P starts.0) starts.1)

-- a leaf is one place
module _ (me : Role) (b : ℕ) where
  leaf_spot : (x : Status) (P : Process) → IsLeaf x P → spots me b x P ≡ spot_of me b x P
  leaf_spot Untouched (Seq P Q) leaf = absurd leaf
  leaf_spot Untouched (Par P Q) leaf = absurd leaf
  leaf_spot Untouched P leaf = refl
  leaf_spot (First x) P leaf = absurd leaf
  leaf_spot (Second x) P leaf = absurd leaf
  leaf_spot (Both x y) P leaf = absurd leaf
  leaf_spot (Branch t x) P leaf = absurd leaf
  leaf_spot (Body x) P leaf = absurd leaf
  leaf_spot x P leaf = refl

  one_spot : (x : Status) (P : Process) → IsLeaf x P → is_over me x P ≡ false → spots me b x P ≡ record { place = b + inner P; acts = leaves me x P } ∷ []
  one_spot x P leaf goes = leaf_spot x P leaf ∙ cond-false (is_over me x P) [] (record { place = b + inner P; acts = leaves me x P } ∷ []) goes

-- its mark is its status
leaf_status : (me : Role) (x : Status) (P : Process) → IsLeaf x P → marked (mark_of me x P) Finished Finished ≡ x
leaf_status me Untouched P leaf = refl
leaf_status me Finished P leaf = refl
leaf_status me (First x) P leaf = absurd leaf
leaf_status me (Second x) P leaf = absurd leaf
leaf_status me (Both x y) P leaf = absurd leaf
leaf_status me (Telling t k l ms) P leaf = refl
leaf_status me (Branch t x) P leaf = absurd leaf
leaf_status me (Body x) P leaf = absurd leaf
leaf_status me (Gathering k ks) P leaf = refl
leaf_status me Ending P leaf = refl
leaf_status me (Left k l ms) P leaf = refl
leaf_status me (Waiting k ks) P leaf = refl
leaf_status me (Became R) P leaf = refl

-- a way is no longer than the whole
inner_grows : (h : Hole) (P : Process) → suc (inner P) ≤ inner (static_of h P)
inner_grows (InFirst Q) P = omega arith
inner_grows (InSecond R) P = omega arith
inner_grows (InLeft y Q) P = omega arith
inner_grows (InRight y R) P = omega arith
inner_grows (InLeadBranch true i g others Q) P = omega arith
inner_grows (InLeadBranch false i g others Q) P = omega arith
inner_grows (InFollowBranch true i leader Q) P = omega arith
inner_grows (InFollowBranch false i leader Q) P = omega arith
inner_grows (InLeadTurn i g others) P = omega arith
inner_grows (InFollowTurn i leader) P = omega arith
inner_grows (InLeadScope head others) P = omega arith
inner_grows (InFollowScope i leader) P = omega arith

way_short : (top b : ℕ) (hs : List Hole) (P : Process) → PathAt top b hs P → inner P + length hs ≤ inner (top_static hs P)
way_short top b [] P p = omega arith
way_short top b (h ∷ hs) P p =
    let rest : inner (static_of h P) + length hs ≤ inner (top_static hs (static_of h P)) = way_short top p.0 hs (static_of h P) p.2 in
    let here : suc (inner P) ≤ inner (static_of h P) = inner_grows h P in
    omega (arith, rest, here)

-- nothing was done in what is untouched
module _ (me : Role) (marks : Marks) where
  pub all_fresh : (c : ℕ) (M : Process) → Stands me marks c Untouched M → (k : ℕ) → c ≤ k → k < c + size M → marks k ≡ mark.Untouched
  all_fresh c M stands k l u = ⊎_elim
      (λ below. stands.1.fresh k l (test_below k (c + inner M) below))
      (λ last. ap marks (test_last k (c + inner M) last (omega (arith, u))) ∙ stands.0)
      (cases_Bool (nat_lt k (c + inner M)))
    where
      test_below : (i j : ℕ) → nat_lt i j ≡ true → i < j
      test_below i j h = grind (arith, nat_tests)

      test_last : (i j : ℕ) → nat_lt i j ≡ false → i ≤ j → i ≡ j
      test_last i j h g = grind (arith, nat_tests)

  fresh_quiet : (top b : ℕ) (qs : List Hole) (P : Process) → QuietStands me marks top b qs P
      → ((k : ℕ) → top ≤ k → k < top + size (top_static qs P) → marks k ≡ mark.Untouched) → AreQuiet marks b qs P
  fresh_quiet top b [] P p fresh = tt
  fresh_quiet top b (h ∷ qs) P p fresh =
      let within : (top ≤ p.0) × (p.0 + size (static_of h P) ≤ top + size (top_static qs (static_of h P))) = quiet-within me marks top p.0 qs (static_of h P) p.3 in
      subst (λ d. (marks (d + inner (static_of h P)) ≡ mark.Untouched) × AreQuiet marks d qs (static_of h P)) (sym (base_is b p.0 (left_size h) p.1))
      (fresh (p.0 + inner (static_of h P)) (omega (arith, within.0)) (omega (arith, within.1)), fresh_quiet top p.0 qs (static_of h P) p.3 fresh)

-- what stays the same outside of a part stays so outside of what is around it
wider : (me : Role) (marks after : Marks) (top b : ℕ) (qs : List Hole) (P : Process) → QuietStands me marks top b qs P → SameOutside marks after b (size P)
    → SameOutside marks after top (size (top_static qs P))
wider me marks after top b qs P quiet own =
    let within = quiet-within me marks top b qs P quiet in record {
      below = λ k l. own.below k (omega (arith, within.0));
      above = λ k u. own.above k (omega (arith, within.1));
    }

module _ (me : Role) (code : Layout) (n : ℕ) (marks : Marks) (a : Act) where
  -- the marks stand for the new status
  done_as : (s : Store) (given : Given) (d : Deed) (W : Process) (Y : Status) (after : Marks) → step me s (running me marks W) a given ≡ Does d (read me Y W)
      → Stands me after 0 Y W → is_sound me Y W ≡ true → IsPlaceDone me s a given marks after W d × (kept after 0 W ≡ Y)
  done_as s given d W Y after does stands sound = let e = kept-is me after 0 Y W stands sound in (
    record {
      steps = does ∙ ap (λ z. Does d (read me z W)) (sym e);
      keeps = record {
        stands = subst (λ z. Stands me after 0 z W) (sym e) stands;
        sound = ap (λ z. is_sound me z W) e ∙ sound;
      };
    },
    e,
  )

  fits : (b : ℕ) (hs : List Hole) (P : Process) → IsCodeOf code n (top_static hs P) → PathAt 0 b hs P → length hs ≤ n
  fits b hs P laid p =
      let short : inner P + length hs ≤ inner (top_static hs P) = way_short 0 b hs P p in
      omega (arith, short, laid.room)

  kept_as : (W : Process) (Y : Status) (after : Marks) → Stands me after 0 Y W → is_sound me Y W ≡ true
      → IsKept me after W × (kept after 0 W ≡ Y)
  kept_as W Y after stands sound = let e = kept-is me after 0 Y W stands sound in (
    record {
      stands = subst (λ z. Stands me after 0 z W) (sym e) stands;
      sound = ap (λ z. is_sound me z W) e ∙ sound;
    },
    e,
  )

  -- where a place comes to this status, the marks hang together, and others can act in its place
  abbrev Comes : Process → ℕ → Process → Status → List Spot → List Spot → Type 0
  Comes W b P y before behind = IsKept me (stepped me code n marks (b + inner P) b P y) W
      × (spots me 0 (kept (stepped me code n marks (b + inner P) b P y) 0 W) W
      ≡ before ++ (entered me code (stepped me code n marks (b + inner P) b P y)
      (stop me code (is_over me y P) n (write marks b (b + inner P) P (mark_of me y P)) (b + inner P)) ++ behind))

  leaf_comes : (hs : List Hole) (b : ℕ) (P : Process) (x : Status) → IsCodeOf code n (top_static hs P) → IsKept me marks (top_static hs P)
      → top_status hs P x ≡ kept marks 0 (top_static hs P) → PathStands me marks 0 b hs P
      → (y : Status) → Stands me (settle me marks b y P) b y P → is_sound me y P ≡ true → is_both (mark_of me y P) ≡ false
      → Comes (top_static hs P) b P y (lefts_spots me b hs P) (rights_spots me b hs P)
  leaf_comes hs b P x laid k status path y settled sound_leaf alone =
      let W : Process = top_static hs P in
      let p : PathAt 0 b hs P = path-at me marks 0 b hs P path in
      let sides : SidesSound me hs = sides_sound me hs P x (ap (λ z. is_sound me z W) status ∙ k.sound) in
      let way : SaysWay code b hs P = laid.ways hs P b p refl in
      let Y : Status = climb me hs P y in
      let now : Marks = settle me marks b y P in
      let path_now : PathStands me now 0 b hs P = path-same me marks now 0 b hs P (settle-outside me marks b y P) path in
      let walked : stepped me code n marks (b + inner P) b P y ≡ climb_marks me now b hs P y =
      ap (λ ms. walk me code n ms (b + inner P) (is_over me y P)) (sym (settle-writes me marks b y P))
      ∙ walk-up me code n now 0 b hs P y (is_over me y P) refl (fits b hs P laid p) way.way path_now in
      let stands : Stands me (climb_marks me now b hs P y) 0 Y W = climb-stands me now 0 b hs P y path_now settled in
      let done = kept_as W Y (stepped me code n marks (b + inner P) b P y)
      (subst (λ ms. Stands me ms 0 Y W) (sym walked) stands) (climb_sound me hs P y sides sound_leaf) in
      let there : Stands me (stepped me code n marks (b + inner P) b P y) 0 (touch me hs P y) W =
      subst (λ ms. Stands me ms 0 (touch me hs P y) W) (sym walked) (subst (λ v. Stands me (climb_marks me now b hs P y) 0 v W) (climb-touches me hs P y) stands) in (
        done.0,
        ap (λ z. spots me 0 z W) done.1 ∙ spots-climb me 0 b hs P y p sides sound_leaf
            ∙ ap (λ ss. lefts_spots me b hs P ++ (ss ++ rights_spots me b hs P))
            (news-entered me code (stepped me code n marks (b + inner P) b P y) n now b hs P y (is_over me y P) refl (fits b hs P laid p) way.way
            way.low way.static alone p (run_goes me now 0 b hs P path_now) sides sound_leaf there
            ∙ ap (λ ms. entered me code (stepped me code n marks (b + inner P) b P y) (stop me code (is_over me y P) n ms (b + inner P))) (settle-writes me marks b y P)),
      )

  deep_comes : (hs qs : List Hole) (c b : ℕ) (L : Process) → IsCodeOf code n (top_static hs (top_static qs L)) → IsKept me marks (top_static hs (top_static qs L))
      → top_status hs (top_static qs L) Untouched ≡ kept marks 0 (top_static hs (top_static qs L)) → PathStands me marks 0 c hs (top_static qs L)
      → Stands me marks c Untouched (top_static qs L) → QuietStands me marks c b qs L → IsStarting me a qs L
      → (y : Status) → Stands me (settle me marks b y L) b y L → is_sound me y L ≡ true → is_both (mark_of me y L) ≡ false
      → Comes (top_static hs (top_static qs L)) b L y (lefts_spots me b (qs ++ hs) L) (rights_spots me b (qs ++ hs) L)
  deep_comes hs qs c b L laid k status path stands quiet starts y settled sound_leaf alone =
      let M : Process = top_static qs L in
      let W : Process = top_static hs M in
      let ps : List Hole = qs ++ hs in
      let pt : PathAt 0 c hs M = path-at me marks 0 c hs M path in
      let pq : PathAt c b qs L = quiet-at me marks c b qs L quiet in
      let p : PathAt 0 b ps L = path-append 0 c b qs hs L pq pt in
      let same : top_static ps L ≡ W = static-append qs hs L in
      let sides_top : SidesSound me hs = sides_sound me hs M Untouched (ap (λ z. is_sound me z W) status ∙ k.sound) in
      let sides : SidesSound me ps = sides_append me a qs hs L starts sides_top in
      let way : SaysWay code b ps L = laid.ways ps L b p same in
      let top_way : SaysWay code c hs M = laid.ways hs M c pt refl in
      let few : length ps ≤ n = fits b ps L (subst (λ V. IsCodeOf code n V) (sym same) laid) p in
      let both : length ps ≡ length qs + length hs = length-append qs hs in
      let z : Status = touch me qs L y in
      let Y : Status = climb me hs M z in
      let now : Marks = settle me marks b y L in
      let touched : Marks = touch_marks me now b qs L y in
      let m : ℕ = n - length qs in
      let fuel : n ≡ length qs + m = omega (arith, few, both) in
      let outside : SameOutside marks now b (size L) = settle-outside me marks b y L in
      let quiet_now : QuietStands me now c b qs L = quiet-same me marks now c b qs L outside quiet in
      let path_now : PathStands me touched 0 c hs M = path-same me marks touched 0 c hs M (start-outside me marks c b qs L y quiet) path in
      let walked : stepped me code n marks (b + inner L) b L y ≡ climb_marks me touched c hs M z =
      ap (λ ms. walk me code n ms (b + inner L) (is_over me y L)) (sym (settle-writes me marks b y L))
      ∙ ap (λ j. walk me code j now (b + inner L) (is_over me y L)) fuel
      ∙ walk-touches me code a m now c b qs hs L y way.way quiet_now starts
      (quiet_still me marks now c b qs L outside quiet (fresh_quiet me marks c b qs L quiet (all_fresh me marks c M stands)))
      ∙ walk-up me code m touched 0 c hs M z (is_over me z M) refl (omega (arith, few, both, fuel)) top_way.way path_now in
      let flat : Stands me (climb_marks me touched c hs M z) 0 Y W = climb-stands me touched 0 c hs M z path_now
      (touch-stands me now c b qs L y quiet_now settled) in
      let sound_after : is_sound me Y W ≡ true =
      climb_sound me hs M z sides_top (touch_sound me qs L y (starts_sides me a qs L starts) sound_leaf) in
      let done = kept_as W Y (stepped me code n marks (b + inner L) b L y) (subst (λ ms. Stands me ms 0 Y W) (sym walked) flat) sound_after in
      let there : Stands me (stepped me code n marks (b + inner L) b L y) 0 (touch me ps L y) (top_static ps L) =
      subst (λ V. Stands me (stepped me code n marks (b + inner L) b L y) 0 (touch me ps L y) V) (sym same)
      (subst (λ v. Stands me (stepped me code n marks (b + inner L) b L y) 0 v W) (climb-touches me hs M z ∙ sym (touch-append me qs hs L y))
      (subst (λ ms. Stands me ms 0 Y W) (sym walked) flat)) in (
        done.0,
        ap (λ v. spots me 0 v W) done.1
            ∙ ap (λ v. spots me 0 v W) (climb-touches me hs M z ∙ sym (touch-append me qs hs L y))
            ∙ ap (λ V. spots me 0 (touch me ps L y) V) (sym same)
            ∙ spots-touch me 0 b ps L y p sides sound_leaf
            ∙ ap (λ ss. lefts_spots me b ps L ++ (ss ++ rights_spots me b ps L))
            (news-entered me code (stepped me code n marks (b + inner L) b L y) n now b ps L y (is_over me y L) refl few way.way
            way.low way.static alone p
            (goes_append me now c b qs hs L pq
            (quiet_goes me a now b qs L (quiet_still me marks now c b qs L outside quiet (fresh_quiet me marks c b qs L quiet (all_fresh me marks c M stands))) starts)
            (run_goes me now 0 c hs M (path-same me marks now 0 c hs M (wider me marks now c b qs L quiet outside) path))) sides sound_leaf there
            ∙ ap (λ ms. entered me code (stepped me code n marks (b + inner L) b L y) (stop me code (is_over me y L) n ms (b + inner L))) (settle-writes me marks b y L)),
      )

  -- the leaf itself runs
  by_leaf : (hs : List Hole) (b : ℕ) (P : Process) (x : Status) → IsCodeOf code n (top_static hs P) → IsKept me marks (top_static hs P)
      → top_status hs P x ≡ kept marks 0 (top_static hs P) → PathStands me marks 0 b hs P → Stands me marks b x P → IsLeaf x P
      → is_offered a (leaves me x P) ≡ true → IsActing me a hs P x → IsStepOf me code n marks (top_static hs P) a (b + inner P) x P b
  by_leaf hs b P x laid k status path stands leaf offered acts =
      let W : Process = top_static hs P in
      let p : PathAt 0 b hs P = path-at me marks 0 b hs P path in
      let sound : is_sound me (top_status hs P x) W ≡ true = ap (λ z. is_sound me z W) status ∙ k.sound in
      let sides : SidesSound me hs = sides_sound me hs P x sound in
      let way : SaysWay code b hs P = laid.ways hs P b p refl in
      record {
        offered = offered;
        before = lefts_spots me b hs P;
        behind = rights_spots me b hs P;
        stands = ap (λ z. spots me 0 z W) (sym status) ∙ spots-path me 0 b hs P x p
            ∙ ap (λ ss. lefts_spots me b hs P ++ (ss ++ rights_spots me b hs P)) (one_spot me b x P leaf (goes_if me marks a x P offered));
        none_before = lefts_none me a b hs P x sides acts;
        does = λ s given d y is.
            let Y : Status = climb me hs P y in
            let now : Marks = settle me marks b y P in
            let moved : move me s (top_status hs P x) W a given ≡ Does d Y =
            move-climbs me s a given hs P x offered acts ∙ ap (under (climb me hs P)) is in
            let sound_after : is_sound me Y W ≡ true =
            sound_done me W (move me s (top_status hs P x) W a given) d Y moved (move-sound me s a given (top_status hs P x) W sound).after in
            let sound_leaf : is_sound me y P ≡ true =
            sound_done me P (move me s x P a given) d y is (move-sound me s a given x P (top_sound me hs P x sound)).after in
            let walked : stepped me code n marks (b + inner P) b P y ≡ climb_marks me now b hs P y =
            ap (λ ms. walk me code n ms (b + inner P) (is_over me y P)) (sym (settle-writes me marks b y P))
            ∙ walk-up me code n now 0 b hs P y (is_over me y P) refl (fits b hs P laid p) way.way
            (path-same me marks now 0 b hs P (settle-outside me marks b y P) path) in
            let flat = flat-step me s a given marks 0 b hs P x d y path stands leaf offered acts is in
            let done = done_as s given d W Y (stepped me code n marks (b + inner P) b P y)
            (ap (λ z. step me s (read me z W) a given) (sym status) ∙ flat.steps)
            (subst (λ ms. Stands me ms 0 Y W) (sym walked) flat.stands) sound_after in
            let there : Stands me (stepped me code n marks (b + inner P) b P y) 0 (touch me hs P y) W =
            subst (λ ms. Stands me ms 0 (touch me hs P y) W) (sym walked) (subst (λ v. Stands me (climb_marks me now b hs P y) 0 v W) (climb-touches me hs P y) flat.stands) in (
              done.0,
              ap (λ z. spots me 0 z W) done.1 ∙ spots-climb me 0 b hs P y p sides sound_leaf
                  ∙ ap (λ ss. lefts_spots me b hs P ++ (ss ++ rights_spots me b hs P))
                  (news-entered me code (stepped me code n marks (b + inner P) b P y) n now b hs P y (is_over me y P) refl (fits b hs P laid p) way.way
                  way.low way.static (leaf_alone me s a given x P d y leaf is) p
                  (run_goes me now 0 b hs P (path-same me marks now 0 b hs P (settle-outside me marks b y P) path)) sides sound_leaf there
                  ∙ ap (λ ms. entered me code (stepped me code n marks (b + inner P) b P y) (stop me code (is_over me y P) n ms (b + inner P))) (settle-writes me marks b y P)),
            );
        replaced = λ R. leaf_comes hs b P x laid k status path (Became R) (put-stands me marks b (Became R) P tt) refl refl;
        only = λ s given d Q does.
            let back = under_back (λ z. read me z W) (move me s (kept marks 0 W) W a given) d Q
            (sym (move-reads me s a given (kept marks 0 W) W) ∙ does) in
            let own = under_back (climb me hs P) (move me s x P a given) d back.0
            (sym (move-climbs me s a given hs P x offered acts) ∙ ap (λ z. move me s z W a given) status ∙ back.1) in
            (own.0, own.1);
        asks = λ F asks. ap (λ z. F (read me z W)) (sym status) ∙ asks-path me a F asks hs P x offered acts;
      }

  -- it acts first, deep in a static process
  by_deep : (hs qs : List Hole) (c b : ℕ) (L : Process) → IsCodeOf code n (top_static hs (top_static qs L)) → IsKept me marks (top_static hs (top_static qs L))
      → top_status hs (top_static qs L) Untouched ≡ kept marks 0 (top_static hs (top_static qs L)) → PathStands me marks 0 c hs (top_static qs L)
      → Stands me marks c Untouched (top_static qs L) → QuietStands me marks c b qs L → Stands me marks b Untouched L → IsLeaf Untouched L
      → is_offered a (offers me L) ≡ true → IsStarting me a qs L → is_offered a (offers me (top_static qs L)) ≡ true → IsActing me a hs (top_static qs L) Untouched
      → IsStepOf me code n marks (top_static hs (top_static qs L)) a (b + inner L) Untouched L b
  by_deep hs qs c b L laid k status path stands quiet own leaf offered starts offered_top acts =
      let M : Process = top_static qs L in
      let W : Process = top_static hs M in
      let ps : List Hole = qs ++ hs in
      let pt : PathAt 0 c hs M = path-at me marks 0 c hs M path in
      let pq : PathAt c b qs L = quiet-at me marks c b qs L quiet in
      let p : PathAt 0 b ps L = path-append 0 c b qs hs L pq pt in
      let same : top_static ps L ≡ W = static-append qs hs L in
      let sound : is_sound me (top_status hs M Untouched) W ≡ true = ap (λ z. is_sound me z W) status ∙ k.sound in
      let sides_top : SidesSound me hs = sides_sound me hs M Untouched sound in
      let sides : SidesSound me ps = sides_append me a qs hs L starts sides_top in
      let way : SaysWay code b ps L = laid.ways ps L b p same in
      let top_way : SaysWay code c hs M = laid.ways hs M c pt refl in
      let few : length ps ≤ n = fits b ps L (subst (λ V. IsCodeOf code n V) (sym same) laid) p in
      let both : length ps ≡ length qs + length hs = length-append qs hs in
      record {
        offered = offered;
        before = lefts_spots me b ps L;
        behind = rights_spots me b ps L;
        stands = ap (λ z. spots me 0 z W) (sym status) ∙ spots-path me 0 c hs M Untouched pt
            ∙ ap (λ ss. lefts_spots me c hs M ++ (ss ++ rights_spots me c hs M)) (still-path me a c b qs L pq starts)
            ∙ wrapped me (lefts_spots me c hs M) (lefts_spots me b qs L) (still me b L) (rights_spots me b qs L) (rights_spots me c hs M)
            ∙ ap₂ (λ ls rs. ls ++ (still me b L ++ rs)) (sym (lefts-append me c b qs hs L pq)) (sym (rights-append me c b qs hs L pq))
            ∙ ap (λ ss. lefts_spots me b ps L ++ (ss ++ rights_spots me b ps L)) (one_spot me b Untouched L leaf (goes_if me marks a Untouched L offered));
        none_before = ap (λ ls. is_offered a (acts_of ls)) (lefts-append me c b qs hs L pq)
            ∙ none_both me a (lefts_spots me c hs M) (lefts_spots me b qs L) (lefts_none me a c hs M Untouched sides_top acts) (starts_none me a b qs L starts);
        does = λ s given d y is.
            let z : Status = touch me qs L y in
            let Y : Status = climb me hs M z in
            let now : Marks = settle me marks b y L in
            let touched : Marks = touch_marks me now b qs L y in
            let m : ℕ = n - length qs in
            let fuel : n ≡ length qs + m = omega (arith, few, both) in
            let started : start me s M a given ≡ Does d z = start-touches me s a given qs L offered starts ∙ ap (under (touch me qs L)) is in
            let moved : move me s (top_status hs M Untouched) W a given ≡ Does d Y =
            move-climbs me s a given hs M Untouched offered_top acts ∙ ap (under (climb me hs M)) started in
            let sound_after : is_sound me Y W ≡ true =
            sound_done me W (move me s (top_status hs M Untouched) W a given) d Y moved (move-sound me s a given (top_status hs M Untouched) W sound).after in
            let sound_leaf : is_sound me y L ≡ true = sound_done me L (start me s L a given) d y is (move-sound me s a given Untouched L refl).after in
            let outside : SameOutside marks now b (size L) = settle-outside me marks b y L in
            let quiet_now : QuietStands me now c b qs L = quiet-same me marks now c b qs L outside quiet in
            let touched_out : SameOutside marks touched c (size M) = start-outside me marks c b qs L y quiet in
            let walked : stepped me code n marks (b + inner L) b L y ≡ climb_marks me touched c hs M z =
            ap (λ ms. walk me code n ms (b + inner L) (is_over me y L)) (sym (settle-writes me marks b y L))
            ∙ ap (λ j. walk me code j now (b + inner L) (is_over me y L)) fuel
            ∙ walk-touches me code a m now c b qs hs L y way.way quiet_now starts
            (quiet_still me marks now c b qs L outside quiet (fresh_quiet me marks c b qs L quiet (all_fresh me marks c M stands)))
            ∙ walk-up me code m touched 0 c hs M z (is_over me z M) refl (omega (arith, few, both, fuel)) top_way.way
            (path-same me marks touched 0 c hs M touched_out path) in
            let flat = flat-start me s a given marks 0 c b hs qs L d y path quiet own leaf offered starts offered_top acts is in
            let done = done_as s given d W Y (stepped me code n marks (b + inner L) b L y)
            (ap (λ v. step me s (read me v W) a given) (sym status) ∙ flat.steps)
            (subst (λ ms. Stands me ms 0 Y W) (sym walked) flat.stands) sound_after in
            let there : Stands me (stepped me code n marks (b + inner L) b L y) 0 (touch me ps L y) (top_static ps L) =
            subst (λ V. Stands me (stepped me code n marks (b + inner L) b L y) 0 (touch me ps L y) V) (sym same)
            (subst (λ v. Stands me (stepped me code n marks (b + inner L) b L y) 0 v W) (climb-touches me hs M z ∙ sym (touch-append me qs hs L y))
            (subst (λ ms. Stands me ms 0 Y W) (sym walked) flat.stands)) in (
              done.0,
              ap (λ v. spots me 0 v W) done.1
                  ∙ ap (λ v. spots me 0 v W) (climb-touches me hs M z ∙ sym (touch-append me qs hs L y))
                  ∙ ap (λ V. spots me 0 (touch me ps L y) V) (sym same)
                  ∙ spots-touch me 0 b ps L y p sides sound_leaf
                  ∙ ap (λ ss. lefts_spots me b ps L ++ (ss ++ rights_spots me b ps L))
                  (news-entered me code (stepped me code n marks (b + inner L) b L y) n now b ps L y (is_over me y L) refl few way.way
                  way.low way.static (leaf_alone me s a given Untouched L d y leaf is) p
                  (goes_append me now c b qs hs L pq
                  (quiet_goes me a now b qs L (quiet_still me marks now c b qs L outside quiet (fresh_quiet me marks c b qs L quiet (all_fresh me marks c M stands))) starts)
                  (run_goes me now 0 c hs M (path-same me marks now 0 c hs M (wider me marks now c b qs L quiet outside) path))) sides sound_leaf there
                  ∙ ap (λ ms. entered me code (stepped me code n marks (b + inner L) b L y) (stop me code (is_over me y L) n ms (b + inner L))) (settle-writes me marks b y L)),
            );
        replaced = λ R. deep_comes hs qs c b L laid k status path stands quiet starts (Became R) (put-stands me marks b (Became R) L tt) refl refl;
        only = λ s given d Q does.
            let back = under_back (λ z. read me z W) (move me s (kept marks 0 W) W a given) d Q
            (sym (move-reads me s a given (kept marks 0 W) W) ∙ does) in
            let top = under_back (climb me hs M) (start me s M a given) d back.0
            (sym (move-climbs me s a given hs M Untouched offered_top acts) ∙ ap (λ z. move me s z W a given) status ∙ back.1) in
            let own = under_back (touch me qs L) (start me s L a given) d top.0
            (sym (start-touches me s a given qs L offered starts) ∙ top.1) in
            (own.0, own.1);
        asks = λ F asks. ap (λ z. F (read me z W)) (sym status) ∙ asks-path me a F asks hs M Untouched offered_top acts
            ∙ asks-start me a F asks qs L offered starts;
      }

  -- by what the code says of the place
  at_place_of : (b : ℕ) (hs : List Hole) (P : Process) (x : Status) (W : Process) → SaysWay code b hs P → Stands me marks b x P → IsLeaf x P
      → IsStepOf me code n marks W a (b + inner P) x P b → IsPlaceStep me code n marks W a (b + inner P)
  at_place_of b hs P x W way stands leaf h =
      subst (λ l. IsStepOf me code n marks W a (b + inner P) (status_at marks (b + inner P)) (code.statics (b + inner P)) l)
      (sym way.low)
      (subst (λ Q. IsStepOf me code n marks W a (b + inner P) (status_at marks (b + inner P)) Q b) (sym way.static)
      (subst (λ z. IsStepOf me code n marks W a (b + inner P) z P b)
      (sym (ap (λ m. marked m Finished Finished) stands.0 ∙ leaf_status me x P leaf)) h))

  leaf_step : (hs : List Hole) (b : ℕ) (P : Process) (x : Status) (W : Process) → top_static hs P ≡ W → IsCodeOf code n W → IsKept me marks W
      → top_status hs P x ≡ kept marks 0 W → PathStands me marks 0 b hs P → Stands me marks b x P → IsLeaf x P
      → is_offered a (leaves me x P) ≡ true → IsActing me a hs P x → IsPlaceStep me code n marks W a (b + inner P)
  leaf_step hs b P x W e = subst (λ V. IsCodeOf code n V → IsKept me marks V
      → top_status hs P x ≡ kept marks 0 V → PathStands me marks 0 b hs P → Stands me marks b x P → IsLeaf x P
      → is_offered a (leaves me x P) ≡ true → IsActing me a hs P x → IsPlaceStep me code n marks V a (b + inner P)) e
      (λ laid k status path stands leaf offered acts.
      at_place_of b hs P x (top_static hs P) (laid.ways hs P b (path-at me marks 0 b hs P path) refl) stands leaf
      (by_leaf hs b P x laid k status path stands leaf offered acts))

  deep_step : (hs : List Hole) (c : ℕ) (M W : Process) (place : ℕ) → top_static hs M ≡ W → IsCodeOf code n W → IsKept me marks W
      → top_status hs M Untouched ≡ kept marks 0 W → PathStands me marks 0 c hs M → Stands me marks c Untouched M
      → is_offered a (offers me M) ≡ true → IsActing me a hs M Untouched → IsDeep me marks a c M place → IsPlaceStep me code n marks W a place
  deep_step hs c M W place e laid k status path stands offered acts deep =
      subst (λ q. IsPlaceStep me code n marks W a q) (sym deep.is_place) (within M W deep.is_static e laid k status path stands offered acts)
    where
      within : (N V : Process) → top_static deep.qs deep.leaf ≡ N → top_static hs N ≡ V → IsCodeOf code n V → IsKept me marks V
          → top_status hs N Untouched ≡ kept marks 0 V → PathStands me marks 0 c hs N → Stands me marks c Untouched N
          → is_offered a (offers me N) ≡ true → IsActing me a hs N Untouched → IsPlaceStep me code n marks V a (deep.base + inner deep.leaf)
      within N V f g = subst (λ U. IsCodeOf code n U → IsKept me marks U
          → top_status hs N Untouched ≡ kept marks 0 U → PathStands me marks 0 c hs N → Stands me marks c Untouched N
          → is_offered a (offers me N) ≡ true → IsActing me a hs N Untouched → IsPlaceStep me code n marks U a (deep.base + inner deep.leaf)) g
          (subst (λ O. IsCodeOf code n (top_static hs O) → IsKept me marks (top_static hs O)
          → top_status hs O Untouched ≡ kept marks 0 (top_static hs O) → PathStands me marks 0 c hs O → Stands me marks c Untouched O
          → is_offered a (offers me O) ≡ true → IsActing me a hs O Untouched → IsPlaceStep me code n marks (top_static hs O) a (deep.base + inner deep.leaf)) f there)
        where
          there : IsCodeOf code n (top_static hs (top_static deep.qs deep.leaf)) → IsKept me marks (top_static hs (top_static deep.qs deep.leaf))
              → top_status hs (top_static deep.qs deep.leaf) Untouched ≡ kept marks 0 (top_static hs (top_static deep.qs deep.leaf))
              → PathStands me marks 0 c hs (top_static deep.qs deep.leaf) → Stands me marks c Untouched (top_static deep.qs deep.leaf)
              → is_offered a (offers me (top_static deep.qs deep.leaf)) ≡ true → IsActing me a hs (top_static deep.qs deep.leaf) Untouched
              → IsPlaceStep me code n marks (top_static hs (top_static deep.qs deep.leaf)) a (deep.base + inner deep.leaf)
          there laid k status path stands offered acts =
              at_place_of deep.base (deep.qs ++ hs) deep.leaf Untouched (top_static hs (top_static deep.qs deep.leaf))
              (laid.ways (deep.qs ++ hs) deep.leaf deep.base
              (path-append 0 c deep.base deep.qs hs deep.leaf (quiet-at me marks c deep.base deep.qs deep.leaf deep.quiet) (path-at me marks 0 c hs (top_static deep.qs deep.leaf) path))
              (static-append deep.qs hs deep.leaf)) deep.stands deep.is_leaf
              (by_deep hs deep.qs c deep.base deep.leaf laid k status path stands deep.quiet deep.stands deep.is_leaf deep.offered deep.starts offered acts)

  place_step : (W : Process) (place : ℕ) → IsCodeOf code n W → IsKept me marks W → IsFound me marks a 0 (kept marks 0 W) W place
      → IsPlaceStep me code n marks W a place
  place_step W place laid k f = ⊎_elim
      (λ leaf. subst (λ q. IsPlaceStep me code n marks W a q) (sym leaf.1)
      (leaf_step f.hs f.base f.part f.status W f.is_static laid k f.is_status f.path f.stands leaf.0 f.offered f.acts))
      (λ far. deep_step f.hs f.base f.part W place f.is_static laid k (ap (top_status f.hs f.part) (sym far.0) ∙ f.is_status) f.path
      (subst (λ x. Stands me marks f.base x f.part) far.0 f.stands) (subst (λ x. is_offered a (leaves me x f.part) ≡ true) far.0 f.offered)
      (subst (λ x. IsActing me a f.hs f.part x) far.0 f.acts) far.1)
      f.at

pub places-are_exact : PlacesAreExact
places-are_exact me code n marks W a laid k offered =
    let f = found me marks a 0 (kept marks 0 W) W k.stands k.sound (ap (is_offered a) (leaves-reads me (kept marks 0 W) W) ∙ offered) in
    (f.0, place_step me code n marks a W f.0 laid k f.2)
