-- A whole step on marks: the leaf's own mark, and those of the constructs that are touched or end.
use Rattle.std.proofs.Common.{◌≡◌, ◌≤◌, ◌+◌, ℕ, List, [], ◌∷◌, true, refl, ap, ◌∙◌, sym, subst, arith}
use Rattle.dioc_terms.specs.declared.names.Role.{Role}
use Rattle.dioc_terms.specs.declared.entries.Act.{Act}
use Rattle.dioc_terms.specs.Attempts.{Attempt, Does, under}
use Rattle.dioc_terms.specs.Processes.{Process}
use Rattle.dioc_terms.specs.Stores.{Store}
use Rattle.process_steps.specs.Steps.{Deed, Given, offers, is_offered, step}
use Rattle.role_statuses.specs.Statuses.{Status, Untouched, read, leaves}
use Rattle.role_statuses.specs.Moves.{move, start}
use Rattle.role_statuses.specs.Paths.{Hole, static_of, rise, top_static, top_status, climb, touch, IsActing, IsStarting}
use Rattle.role_statuses.specs.Flat.{inner, size, Marks, Stands, left_size, PathStands, QuietStands, settle, climb_marks, touch_marks}
use Rattle.role_statuses.proofs.FlatLemmas.{SameOutside, hole_inner, path-same, quiet-same}
use Rattle.role_statuses.proofs.LeafLemmas.{IsLeaf, AllDone, Settled, AllSettled, leaf-settles}
use Rattle.role_statuses.proofs.MoveLemmas.{move-reads}
use Rattle.role_statuses.proofs.PathLemmas.{move-climbs, start-touches}
use Rattle.role_statuses.proofs.SettleLemmas.{settle-outside, climb-stands, touch-stands, base_is}

settled : (me : Role) (marks : Marks) (b : ℕ) (P : Process) (m : Attempt Deed Status) (d : Deed) (y : Status) → AllSettled me marks b P m → m ≡ Does d y
    → Stands me (settle me marks b y P) b y P
settled me marks b P m d y all is = subst (AllDone (Settled me marks b P)) is all.all

-- what was done at the top is a step of the process
stepped : (me : Role) (s : Store) (a : Act) (given : Given) (x y : Status) (P : Process) (d : Deed) → move me s x P a given ≡ Does d y
    → step me s (read me x P) a given ≡ Does d (read me y P)
stepped me s a given x y P d is = move-reads me s a given x P ∙ ap (under (λ z. read me z P)) is

-- What is so of a role that runs, whose leaf at this place, which is the last of its places, does
-- an act: the process becomes what the definition says, and the marks say so.
pub record IsFlatStep (me : Role) (s : Store) (a : Act) (given : Given) (d : Deed) (top : ℕ) (W : Process) (x y : Status) (after : Marks) : Type 0 where
  pub steps : step me s (read me x W) a given ≡ Does d (read me y W)
  pub stands : Stands me after top y W

module _ (me : Role) (s : Store) (a : Act) (given : Given) (marks : Marks) (top b : ℕ) (hs : List Hole) (P : Process) (x : Status) where
  -- a leaf that runs, or a construct that acts first as a whole
  pub flat-step : (d : Deed) (y : Status) → PathStands me marks top b hs P → Stands me marks b x P → IsLeaf x P → is_offered a (leaves me x P) ≡ true → IsActing me a hs P x
      → move me s x P a given ≡ Does d y
      → IsFlatStep me s a given d top (top_static hs P) (top_status hs P x) (climb me hs P y) (climb_marks me (settle me marks b y P) b hs P y)
  flat-step d y path stands leaf offered acts is = record {
    steps = stepped me s a given (top_status hs P x) (climb me hs P y) (top_static hs P) d
        (move-climbs me s a given hs P x offered acts ∙ ap (under (climb me hs P)) is);
    stands = climb-stands me (settle me marks b y P) top b hs P y
        (path-same me marks (settle me marks b y P) top b hs P (settle-outside me marks b y P) path)
        (settled me marks b P (move me s x P a given) d y (leaf-settles me marks b s a given x P leaf stands.1) is);
  }

pub quiet-within : (me : Role) (marks : Marks) (top b : ℕ) (hs : List Hole) (P : Process) → QuietStands me marks top b hs P
    → (top ≤ b) × (b + size P ≤ top + size (top_static hs P))
quiet-within me marks top b [] P e = (omega arith, omega arith)
quiet-within me marks top b (h ∷ hs) P p =
    let room : left_size h + size P ≤ inner (static_of h P) = hole_inner me marks p.0 h P p.2 in
    let e : b ≡ p.0 + left_size h = p.1 in
    let rest = quiet-within me marks top p.0 hs (static_of h P) p.3 in
    (omega (arith, rest.0), omega (arith, rest.1))

touch-outside : (me : Role) (marks : Marks) (top b : ℕ) (hs : List Hole) (P : Process) (x : Status) → QuietStands me marks top b hs P
    → SameOutside marks (touch_marks me marks b hs P x) top (size (top_static hs P))
touch-outside me marks top b [] P x e = record { below = λ k l. refl; above = λ k u. refl }
touch-outside me marks top b (h ∷ hs) P x p =
    let now : Marks = settle me marks p.0 (rise me h P x) (static_of h P) in
    let kept : QuietStands me now top p.0 hs (static_of h P) = quiet-same me marks now top p.0 hs (static_of h P) (settle-outside me marks p.0 (rise me h P x) (static_of h P)) p.3 in
    let own : SameOutside marks now p.0 (size (static_of h P)) = settle-outside me marks p.0 (rise me h P x) (static_of h P) in
    let rest : SameOutside now (touch_marks me now p.0 hs (static_of h P) (rise me h P x)) top (size (top_static hs (static_of h P))) =
    touch-outside me now top p.0 hs (static_of h P) (rise me h P x) kept in
    let within = quiet-within me now top p.0 hs (static_of h P) kept in
    subst (λ c. SameOutside marks (touch_marks me (settle me marks c (rise me h P x) (static_of h P)) c hs (static_of h P) (rise me h P x)) top (size (top_static (h ∷ hs) P)))
    (sym (base_is b p.0 (left_size h) p.1))
    (record {
      below = λ k l. own.below k (omega (arith, within.0)) ∙ rest.below k l;
      above = λ k u. own.above k (omega (arith, within.1)) ∙ rest.above k u;
    })

-- the first act of a leaf deep in a static process changes none of the marks outside of it
pub start-outside : (me : Role) (marks : Marks) (top b : ℕ) (qs : List Hole) (L : Process) (y : Status) → QuietStands me marks top b qs L
    → SameOutside marks (touch_marks me (settle me marks b y L) b qs L y) top (size (top_static qs L))
start-outside me marks top b qs L y quiet =
    let now : Marks = settle me marks b y L in
    let own : SameOutside marks now b (size L) = settle-outside me marks b y L in
    let kept : QuietStands me now top b qs L = quiet-same me marks now top b qs L own quiet in
    let rest : SameOutside now (touch_marks me now b qs L y) top (size (top_static qs L)) = touch-outside me now top b qs L y kept in
    let within = quiet-within me now top b qs L kept in
    record {
      below = λ k l. own.below k (omega (arith, within.0)) ∙ rest.below k l;
      above = λ k u. own.above k (omega (arith, within.1)) ∙ rest.above k u;
    }

-- a construct deep in a static process acts first: those on the way are touched
module _ (me : Role) (s : Store) (a : Act) (given : Given) (marks : Marks) (top c b : ℕ) (hs qs : List Hole) (L : Process) where
  pub flat-start : (d : Deed) (y : Status) → PathStands me marks top c hs (top_static qs L) → QuietStands me marks c b qs L → Stands me marks b Untouched L → IsLeaf Untouched L
      → is_offered a (offers me L) ≡ true → IsStarting me a qs L
      → is_offered a (offers me (top_static qs L)) ≡ true → IsActing me a hs (top_static qs L) Untouched
      → start me s L a given ≡ Does d y
      → IsFlatStep me s a given d top (top_static hs (top_static qs L)) (top_status hs (top_static qs L) Untouched) (climb me hs (top_static qs L) (touch me qs L y))
      (climb_marks me (touch_marks me (settle me marks b y L) b qs L y) c hs (top_static qs L) (touch me qs L y))
  flat-start d y path quiet stands leaf offered starts offered_top acts is =
      let own : SameOutside marks (settle me marks b y L) b (size L) = settle-outside me marks b y L in
      let kept : QuietStands me (settle me marks b y L) c b qs L = quiet-same me marks (settle me marks b y L) c b qs L own quiet in
      let rest : SameOutside (settle me marks b y L) (touch_marks me (settle me marks b y L) b qs L y) c (size (top_static qs L)) =
      touch-outside me (settle me marks b y L) c b qs L y kept in
      let within = quiet-within me (settle me marks b y L) c b qs L kept in
      record {
        steps = stepped me s a given (top_status hs (top_static qs L) Untouched) (climb me hs (top_static qs L) (touch me qs L y)) (top_static hs (top_static qs L)) d
            (move-climbs me s a given hs (top_static qs L) Untouched offered_top acts
            ∙ ap (under (climb me hs (top_static qs L))) (start-touches me s a given qs L offered starts ∙ ap (under (touch me qs L)) is));
        stands = climb-stands me (touch_marks me (settle me marks b y L) b qs L y) top c hs (top_static qs L) (touch me qs L y)
            (path-same me marks (touch_marks me (settle me marks b y L) b qs L y) top c hs (top_static qs L)
            (record {
              below = λ k l. own.below k (omega (arith, within.0)) ∙ rest.below k l;
              above = λ k u. own.above k (omega (arith, within.1)) ∙ rest.above k u;
            }) path)
            (touch-stands me (settle me marks b y L) c b qs L y kept (settled me marks b L (start me s L a given) d y (leaf-settles me marks b s a given Untouched L leaf stands.1) is));
      }
