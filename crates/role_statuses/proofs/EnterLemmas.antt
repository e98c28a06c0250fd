-- The places that come in the place of the one that acted are those where its step has ended.
use Rattle.std.proofs.Common.{◌≡◌, ◌+◌, ◌-◌, ◌≤◌, ℕ, zero, suc, List, [], ◌∷◌, ◌++◌, length, Bool, true, false, if◌then◌else◌, Some, refl, ap, ap₂, ◌∙◌, sym, subst, arith, ⊎_elim}
use Rattle.std.proofs.lemmas.Bool.{both_ways, cases_Bool, cond-true, cond-false}
use Rattle.dioc_terms.specs.declared.names.Role.{Role}
use Rattle.dioc_terms.specs.declared.names.Index.{Index}
use Rattle.dioc_terms.specs.declared.processes.Key.{Key}
use Rattle.dioc_terms.specs.declared.processes.ScopeHead.{ScopeHead}
use Rattle.dioc_terms.specs.declared.processes.Tag.TheVariants.{Turn, End, Out}
use Rattle.dioc_terms.specs.declared.entries.Act.{Act}
use Rattle.dioc_terms.specs.Attempts.{Attempt, Does, under}
use Rattle.dioc_terms.specs.Expressions.{Expression}
use Rattle.dioc_terms.specs.Processes.{Process, Seq, Par, WhileLead, WhileFollow, ScopeLead, ScopeFollow, Letters, Nothing, More, Done}
use Rattle.dioc_terms.specs.Stores.{Store}
use Rattle.process_steps.specs.Steps.{Deed, Given, ended, letters_to, step}
use Rattle.role_statuses.specs.Entering.{entered, is_both, stop, stop_up}
use Rattle.role_statuses.specs.Flat.{Marks, PartsStand, PathAt, PathStands, Stands, hole_mark, inner, left_size, mark_of, settle, size}
use Rattle.role_statuses.specs.Kept.{kept}
use Rattle.role_statuses.specs.Local.{Layout, PathLays, is_first, mark_after, over_after}
use Rattle.role_statuses.specs.Marks.{Mark}
use Rattle.role_statuses.specs.Marks as mark
use Rattle.role_statuses.specs.Moves.{bodied, gathering_then, leaving, move, next_turn, scope_end}
use Rattle.role_statuses.specs.Paths.{Hole, InFirst, InSecond, InLeft, InRight, InLeadBranch, InFollowBranch, InLeadTurn, InFollowTurn, InLeadScope, InFollowScope, IsStarting, rise, static_of, status_of, top_static, top_status, touch}
use Rattle.role_statuses.specs.Sound.{is_sound}
use Rattle.role_statuses.specs.Spots.{fresh_spots, news_spots, spots}
use Rattle.role_statuses.specs.Statuses.{Status, Untouched, Finished, First, Second, Both, Telling, Branch, Body, Gathering, Ending, Left, Waiting, Became, is_over, keys_of, read}
use Rattle.role_statuses.proofs.ActiveLemmas.{SideSound, SidesSound, over-spots, rise_sound}
use Rattle.role_statuses.proofs.FlatLemmas.{SameOutside, at_place}
use Rattle.role_statuses.proofs.KeptLemmas.{kept-is}
use Rattle.role_statuses.proofs.LeafLemmas.{IsLeaf}
use Rattle.role_statuses.proofs.LocalLemmas.{AreQuiet, LevelLays, level_at, level_over, level_written, local-mark, local-over, quiet-mark, quiet-over, same_base, settle-writes}
use Rattle.role_statuses.proofs.PathLemmas.{touch-stays}
use Rattle.role_statuses.proofs.ReadLemmas.{over-reads}
use Rattle.role_statuses.proofs.RoleLemmas.{under_back}
use Rattle.role_statuses.proofs.SettleLemmas.{base_is, settle-outside}

-- what is next in a construct whose part has ended, by its new status
module _ (me : Role) where
  abbrev Next : ℕ → Hole → Process → Status → Process → Type 0
  Next c h P y S = fresh_spots me c h P ≡ (if is_both (mark_of me y S) then [] else spots me c y S)

  turn_next : (c : ℕ) (i : Index) (g : Expression) (others : List Role) (P : Process) (ks : List Key)
      → spots me c (gathering_then Untouched ks) (WhileLead i g others P)
      ≡ (if is_both (mark_of me (gathering_then Untouched ks) (WhileLead i g others P)) then [] else spots me c (gathering_then Untouched ks) (WhileLead i g others P))
  turn_next c i g others P [] = refl
  turn_next c i g others P (k ∷ ks) = refl

  end_next : (c : ℕ) (head : ScopeHead) (others : List Role) (P : Process) (ks : List Key) (ms : Letters)
      → spots me c (gathering_then (leaving ms) ks) (ScopeLead head others P)
      ≡ (if is_both (mark_of me (gathering_then (leaving ms) ks) (ScopeLead head others P)) then [] else spots me c (gathering_then (leaving ms) ks) (ScopeLead head others P))
  end_next c head others P [] Nothing = refl
  end_next c head others P [] (More k l ms) = refl
  end_next c head others P (k ∷ ks) ms = refl

  bodied_over : (next : Status) (P : Process) (x : Status) → is_over me x P ≡ true → bodied me next P x ≡ next
  bodied_over next P x h = cond-true (ended (read me x P)) next (Body x) (sym (over-reads me x P) ∙ h)

  level_next : (c : ℕ) (h : Hole) (P : Process) (x : Status) → is_over me x P ≡ true → is_over me (rise me h P x) (static_of h P) ≡ false
      → Next c h P (rise me h P x) (static_of h P)
  level_next c (InFirst Q) P x over goes = subst (λ y. Next c (InFirst Q) P y (Seq P Q))
      (sym (cond-true (ended (read me x P)) (Second Untouched) (First x) (sym (over-reads me x P) ∙ over))) refl
  level_next c (InSecond R) P x over goes = absurd (both_ways (is_over me x P) goes over)
  level_next c (InLeft y Q) P x over goes = refl
  level_next c (InRight y R) P x over goes = refl
  level_next c (InLeadBranch true i g others Q) P x over goes = absurd (both_ways (is_over me x P) goes over)
  level_next c (InLeadBranch false i g others Q) P x over goes = absurd (both_ways (is_over me x P) goes over)
  level_next c (InFollowBranch true i leader Q) P x over goes = absurd (both_ways (is_over me x P) goes over)
  level_next c (InFollowBranch false i leader Q) P x over goes = absurd (both_ways (is_over me x P) goes over)
  level_next c (InLeadTurn i g others) P x over goes = subst (λ y. Next c (InLeadTurn i g others) P y (WhileLead i g others P))
      (sym (bodied_over (next_turn me others i) P x over)) (turn_next c i g others P (keys_of me others i Turn))
  level_next c (InFollowTurn i leader) P x over goes = subst (λ y. Next c (InFollowTurn i leader) P y (WhileFollow i leader P))
      (sym (bodied_over Ending P x over)) refl
  level_next c (InLeadScope head others) P x over goes = subst (λ y. Next c (InLeadScope head others) P y (ScopeLead head others P))
      (sym (bodied_over (scope_end me others head.index) P x over))
      (end_next c head others P (keys_of me others head.index End) (letters_to me others head.index Out (λ q. Done)))
  level_next c (InFollowScope i leader) P x over goes = subst (λ y. Next c (InFollowScope i leader) P y (ScopeFollow i leader P))
      (sym (bodied_over Ending P x over)) refl

-- the marks of a whole say the status of a part that runs
module _ (me : Role) (marks : Marks) where
  level_down : (b c : ℕ) (h : Hole) (P : Process) (x : Status) → b ≡ c + left_size h
      → PartsStand me marks c (status_of h P x) (static_of h P) → Stands me marks b x P
  level_down b c (InFirst Q) P x e h = at_place me marks c b x P (omega arith) h.0
  level_down b c (InSecond R) P x e h = at_place me marks (c + size R) b x P (sym e) h
  level_down b c (InLeft y Q) P x e h = at_place me marks c b x P (omega arith) h.0
  level_down b c (InRight y R) P x e h = at_place me marks (c + size R) b x P (sym e) h.1
  level_down b c (InLeadBranch true i g others Q) P x e h = at_place me marks c b x P (omega arith) h
  level_down b c (InLeadBranch false i g others Q) P x e h = at_place me marks (c + size Q) b x P (sym e) h
  level_down b c (InFollowBranch true i leader Q) P x e h = at_place me marks c b x P (omega arith) h
  level_down b c (InFollowBranch false i leader Q) P x e h = at_place me marks (c + size Q) b x P (sym e) h
  level_down b c (InLeadTurn i g others) P x e h = at_place me marks c b x P (omega arith) h
  level_down b c (InFollowTurn i leader) P x e h = at_place me marks c b x P (omega arith) h
  level_down b c (InLeadScope head others) P x e h = at_place me marks c b x P (omega arith) h
  level_down b c (InFollowScope i leader) P x e h = at_place me marks c b x P (omega arith) h

  top_down : (top b : ℕ) (hs : List Hole) (P : Process) (x : Status) → PathAt top b hs P → Stands me marks top (top_status hs P x) (top_static hs P) → Stands me marks b x P
  top_down top b [] P x p h = at_place me marks top b x P (sym p) h
  top_down top b (k ∷ hs) P x p h = level_down b p.0 k P x p.1 (top_down top p.0 hs (static_of k P) (status_of k P x) p.2 h).1

-- the construct around a part is one where the loop writes what its new status says
pub record LevelGoes (me : Role) (marks : Marks) (c : ℕ) (h : Hole) (P : Process) : Type 0 where
  pub own : Mark
  pub is : marks (c + inner (static_of h P)) ≡ own
  pub mark_is : (x : Status) → is_over me x P ≡ true → mark_of me (rise me h P x) (static_of h P) ≡ mark_after me (static_of h P) (is_first h) true own
  pub over_is : (x : Status) → is_over me x P ≡ true → is_over me (rise me h P x) (static_of h P) ≡ over_after me (static_of h P) (is_first h) true own

-- and so to the top
abbrev pub WayGoes : Role → Marks → ℕ → List Hole → Process → Type 0
WayGoes me marks b [] P = Unit {0}
WayGoes me marks b (h ∷ hs) P = LevelGoes me marks (b - left_size h) h P × WayGoes me marks (b - left_size h) hs (static_of h P)

within_inner : (h : Hole) (P : Process) → left_size h + size P ≤ inner (static_of h P)
within_inner (InFirst Q) P = omega arith
within_inner (InSecond R) P = omega arith
within_inner (InLeft y Q) P = omega arith
within_inner (InRight y R) P = omega arith
within_inner (InLeadBranch true i g others Q) P = omega arith
within_inner (InLeadBranch false i g others Q) P = omega arith
within_inner (InFollowBranch true i leader Q) P = omega arith
within_inner (InFollowBranch false i leader Q) P = omega arith
within_inner (InLeadTurn i g others) P = omega arith
within_inner (InFollowTurn i leader) P = omega arith
within_inner (InLeadScope head others) P = omega arith
within_inner (InFollowScope i leader) P = omega arith

side_first : (me : Role) (h : Hole) (hs : List Hole) → SidesSound me (h ∷ hs) → SideSound me h
side_first me h hs sides = sides.0

sides_rest : (me : Role) (h : Hole) (hs : List Hole) → SidesSound me (h ∷ hs) → SidesSound me hs
sides_rest me h hs sides = sides.1

pub way_goes_same : (me : Role) (marks after : Marks) (top b : ℕ) (hs : List Hole) (P : Process) → SameOutside marks after b (size P) → PathAt top b hs P
    → WayGoes me marks b hs P → WayGoes me after b hs P
way_goes_same me marks after top b [] P s p g = tt
way_goes_same me marks after top b (h ∷ hs) P s p g =
    let room : left_size h + size P ≤ inner (static_of h P) = within_inner h P in
    let e : b ≡ p.0 + left_size h = p.1 in
    let base : b - left_size h ≡ p.0 = base_is b p.0 (left_size h) p.1 in (
      record {
        own = g.0.own;
        is = sym (s.above ((b - left_size h) + inner (static_of h P)) (omega (arith, base, e, room))) ∙ g.0.is;
        mark_is = g.0.mark_is;
        over_is = g.0.over_is;
      },
      subst (λ d. WayGoes me after d hs (static_of h P)) (sym base)
          (way_goes_same me marks after top p.0 hs (static_of h P)
          (record { below = λ k l. s.below k (omega (arith, e)); above = λ k u. s.above k (omega (arith, e, room)) }) p.2
          (subst (λ d. WayGoes me marks d hs (static_of h P)) base g.1)),
    )

module _ (me : Role) (code : Layout) (after : Marks) where
  -- the place says its status at the end
  pub entered_is : (b : ℕ) (P : Process) (y : Status) → code.lows (b + inner P) ≡ b → code.statics (b + inner P) ≡ P → Stands me after b y P → is_sound me y P ≡ true
      → entered me code after (Some (b + inner P)) ≡ (if is_both (mark_of me y P) then [] else spots me b y P)
  entered_is b P y low static stands sound =
      ap (λ m. if is_both m then [] else spots me (code.lows (b + inner P)) (kept after (code.lows (b + inner P)) (code.statics (b + inner P))) (code.statics (b + inner P))) stands.0
      ∙ ap (λ l. if is_both (mark_of me y P) then [] else spots me l (kept after l (code.statics (b + inner P))) (code.statics (b + inner P))) low
      ∙ ap (λ S. if is_both (mark_of me y P) then [] else spots me b (kept after b S) S) static
      ∙ ap (λ z. if is_both (mark_of me y P) then [] else spots me b z P) (kept-is me after b y P stands sound)

  news_none : (b : ℕ) (hs : List Hole) (P : Process) (y : Status) → is_over me y P ≡ false → news_spots me b hs P y ≡ spots me b y P
  news_none b [] P y goes = refl
  news_none b (h ∷ hs) P y goes = cond-false _ _ _ goes

  -- from a part that has ended on
  pub news-up : (n : ℕ) (marks : Marks) (b : ℕ) (hs : List Hole) (P : Process) (y : Status) → length hs ≤ n → PathLays code b hs P → PathAt 0 b hs P
      → WayGoes me marks b hs P → SidesSound me hs → is_sound me y P ≡ true → is_over me y P ≡ true → Stands me after 0 (touch me hs P y) (top_static hs P)
      → news_spots me b hs P y ≡ entered me code after (stop me code true n marks (b + inner P))
  news-up zero marks b [] P y few lays p goes sides sound over stands = over-spots me b y P sound over
  news-up (suc n) marks b [] P y few lays p goes sides sound over stands = over-spots me b y P sound over
      ∙ ap (λ up. entered me code after (stop_up me code (λ t ms q. stop me code t n ms q) marks (b + inner P) up)) (sym lays)
  news-up zero marks b (h ∷ hs) P y few lays p goes sides sound over stands = absurd (omega arith)
  news-up (suc n) marks b (h ∷ hs) P y few lays p goes sides sound over stands =
      let c : ℕ = p.0 in
      let S : Process = static_of h P in
      let z : Status = rise me h P y in
      let M : Marks = settle me marks c z S in
      let base : b - left_size h ≡ c = base_is b c (left_size h) p.1 in
      let level : LevelLays code b c h hs P = level_at code b lays.0 c h hs P (same_base b lays.0 c (left_size h) lays.1 p.1)
      (record { parent = lays.2; static = lays.3; low = lays.4; rest = lays.5 }) in
      let here : LevelGoes me marks c h P = subst (λ d. LevelGoes me marks d h P) base goes.0 in
      let above : WayGoes me marks c hs S = subst (λ d. WayGoes me marks d hs S) base goes.1 in
      let risen : is_sound me z S ≡ true = rise_sound me c h P y (side_first me h hs sides) sound over in
      let moved : stop me code true (suc n) marks (b + inner P) ≡ stop me code (is_over me z S) n M (c + inner S) =
      ap (stop_up me code (λ t ms q. stop me code t n ms q) marks (b + inner P)) level.parent
      ∙ ap₂ (λ t ms. stop me code t n ms (c + inner S))
      (level_over me code marks b c h hs P true here.own level p.1 here.is ∙ sym (here.over_is y over))
      (level_written me code marks b c h hs P true here.own (mark_of me z S) level p.1 here.is (here.mark_is y over) ∙ sym (settle-writes me marks c z S)) in
      cond-true _ _ _ over
      ∙ ap (λ d. if is_over me z S then news_spots me d hs S z else fresh_spots me d h P) base
      ∙ ⊎_elim
      (λ whole. cond-true _ _ _ whole
      ∙ news-up n M c hs S z (omega arith) level.rest p.2 (way_goes_same me marks M 0 c hs S (settle-outside me marks c z S) p.2 above) (sides_rest me h hs sides) risen whole stands
      ∙ ap (λ t. entered me code after (stop me code t n M (c + inner S))) (sym whole))
      (λ part. cond-false _ _ _ part
      ∙ level_next me c h P y over part
      ∙ sym (entered_is c S z level.low level.static
      (top_down me after 0 c hs S z p.2 (subst (λ v. Stands me after 0 v (top_static hs S)) (touch-stays me hs S z part) stands)) risen)
      ∙ ap (λ t. entered me code after (stop me code t n M (c + inner S))) (sym part))
      (cases_Bool (is_over me z S))
      ∙ ap (entered me code after) (sym moved)

  -- from a part that has acted on, whose mark isn't that of a parallel
  pub news-entered : (n : ℕ) (marks : Marks) (b : ℕ) (hs : List Hole) (P : Process) (y : Status) (t : Bool) → is_over me y P ≡ t → length hs ≤ n → PathLays code b hs P
      → code.lows (b + inner P) ≡ b → code.statics (b + inner P) ≡ P → is_both (mark_of me y P) ≡ false → PathAt 0 b hs P
      → WayGoes me marks b hs P → SidesSound me hs → is_sound me y P ≡ true → Stands me after 0 (touch me hs P y) (top_static hs P)
      → news_spots me b hs P y ≡ entered me code after (stop me code t n marks (b + inner P))
  news-entered n marks b hs P y true over few lays low static alone p goes sides sound stands =
      news-up n marks b hs P y few lays p goes sides sound over stands
  news-entered n marks b hs P y false on few lays low static alone p goes sides sound stands =
      news_none b hs P y on
      ∙ sym (cond-false (is_both (mark_of me y P)) [] (spots me b y P) alone)
      ∙ sym (entered_is b P y low static (top_down me after 0 b hs P y p (subst (λ v. Stands me after 0 v (top_static hs P)) (touch-stays me hs P y on) stands)) sound)

-- the mark of a leaf that has acted is not that of a parallel
abbrev is_parallel : Process → Bool
is_parallel (Par P Q) = true
is_parallel P = false

not_both : (me : Role) (y : Status) (P : Process) → is_parallel P ≡ false → is_both (mark_of me y P) ≡ false
not_both me (Both x y) (Par P Q) h = cc
not_both me (Both x y) P h = refl
not_both me y P h = refl

module _ (me : Role) (s : Store) (a : Act) (given : Given) where
  became_alone : (P : Process) (m : Attempt Deed Process) (d : Deed) (y : Status) → under Became m ≡ Does d y → is_both (mark_of me y P) ≡ false
  became_alone P m d y is = let back = under_back Became m d y is in ap (λ z. is_both (mark_of me z P)) (sym back.2)

  pub leaf_alone : (x : Status) (P : Process) (d : Deed) (y : Status) → IsLeaf x P → move me s x P a given ≡ Does d y → is_both (mark_of me y P) ≡ false
  leaf_alone (Became R) P d y leaf is = became_alone P (step me s R a given) d y is
  leaf_alone Untouched (Par P Q) d y leaf is = absurd leaf
  leaf_alone Finished (Par P Q) d y leaf is = cc
  leaf_alone (First x) (Par P Q) d y leaf is = absurd leaf
  leaf_alone (Second x) (Par P Q) d y leaf is = absurd leaf
  leaf_alone (Both x z) (Par P Q) d y leaf is = absurd leaf
  leaf_alone (Telling t k l ms) (Par P Q) d y leaf is = cc
  leaf_alone (Branch t x) (Par P Q) d y leaf is = absurd leaf
  leaf_alone (Body x) (Par P Q) d y leaf is = absurd leaf
  leaf_alone (Gathering k ks) (Par P Q) d y leaf is = cc
  leaf_alone Ending (Par P Q) d y leaf is = cc
  leaf_alone (Left k l ms) (Par P Q) d y leaf is = cc
  leaf_alone (Waiting k ks) (Par P Q) d y leaf is = cc
  leaf_alone x P d y leaf is = not_both me y P refl

-- The ways on which it writes so.

-- around a part that runs
pub run_goes : (me : Role) (marks : Marks) (top b : ℕ) (hs : List Hole) (P : Process) → PathStands me marks top b hs P → WayGoes me marks b hs P
run_goes me marks top b [] P p = tt
run_goes me marks top b (h ∷ hs) P p =
    subst (λ d. LevelGoes me marks d h P × WayGoes me marks d hs (static_of h P)) (sym (base_is b p.0 (left_size h) p.1)) (
      record {
        own = hole_mark me h;
        is = p.2;
        mark_is = λ x over. local-mark me marks p.0 h P x p.3 over;
        over_is = λ x over. local-over me marks p.0 h P x p.3 over;
      },
      run_goes me marks top p.0 hs (static_of h P) p.4,
    )

-- and around one that acts first
pub quiet_goes : (me : Role) (a : Act) (marks : Marks) (b : ℕ) (qs : List Hole) (P : Process) → AreQuiet marks b qs P → IsStarting me a qs P → WayGoes me marks b qs P
quiet_goes me a marks b [] P quiet starts = tt
quiet_goes me a marks b (h ∷ qs) P quiet starts = (
  record {
    own = mark.Untouched;
    is = quiet.0;
    mark_is = λ x over. quiet-mark me a h P x starts.0 ∙ ap (λ t. mark_after me (static_of h P) (is_first h) t mark.Untouched) over;
    over_is = λ x over. quiet-over me a h P x starts.0 ∙ ap (λ t. over_after me (static_of h P) (is_first h) t mark.Untouched) over;
  },
  quiet_goes me a marks (b - left_size h) qs (static_of h P) quiet.1 starts.2,
)

pub goes_append : (me : Role) (marks : Marks) (c b : ℕ) (qs hs : List Hole) (P : Process) → PathAt c b qs P → WayGoes me marks b qs P
    → WayGoes me marks c hs (top_static qs P) → WayGoes me marks b (qs ++ hs) P
goes_append me marks c b [] hs P p own rest = subst (λ d. WayGoes me marks d hs P) (sym p) rest
goes_append me marks c b (h ∷ qs) hs P p own rest = (
  own.0,
  subst (λ d. WayGoes me marks d (qs ++ hs) (static_of h P)) (sym (base_is b p.0 (left_size h) p.1))
      (goes_append me marks c p.0 qs hs (static_of h P) p.2 (subst (λ d. WayGoes me marks d qs (static_of h P)) (base_is b p.0 (left_size h) p.1) own.1) rest),
)
