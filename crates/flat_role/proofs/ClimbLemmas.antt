-- What the program writes on the way up is what the definitions say.
use Rattle.std.proofs.Common.{◌≡◌, ◌<◌, ◌≤◌, ◌+◌, ◌↔◌, ℕ, zero, suc, List, [], ◌∷◌, Bool, true, false, not, ◌&&◌, ◌||◌, Option, Some, None, get_or, length, refl, ap, ap₂, ◌∙◌, sym, subst, arith, ⊎_elim}
use Rattle.std.proofs.Math.Path.{fun_ext}
use Rattle.std.proofs.Math.Logic.{inl, inr}
use Rattle.std.specs.Prelude.{IfSome, IsTrue, if◌then◌else◌, nat_eq, nat_le, nat_lt, set}
use Rattle.std.proofs.lemmas.Bool.{cases_eq, cond-true, cond-false, false≢true}
use Rattle.std.proofs.lemmas.Bool.Decides.{nat_tests}
use Rattle.std.proofs.lemmas.List.{get_or-set_same, get_or-set_other}
use Rattle.dioc_terms.specs.declared.names.Index.{Index}
use Rattle.dioc_terms.specs.declared.names.Role.{Role}
use Rattle.dioc_terms.specs.declared.processes.Key.{Key}
use Rattle.dioc_terms.specs.declared.processes.ScopeHead.{ScopeHead}
use Rattle.dioc_terms.specs.Expressions.{Expression}
use Rattle.dioc_terms.specs.Processes.{Process, Seq, Par, WhileLead, ScopeLead, Letters, Nothing, More}
use Rattle.flat_code.specs.declared.plan.Plan.{Plan}
use Rattle.flat_code.specs.Layout.{size}
use Rattle.flat_code.specs.Levels.{level_at, parent_at}
use Rattle.flat_role.specs.declared.marks.Mark.{Mark as KeptMark}
use Rattle.flat_role.specs.declared.marks.Mark.TheVariants as kept
use Rattle.flat_role.specs.Climbing.{IsLeft, IsTop, Rises, both_kept, found, mark_then}
use Rattle.flat_role.specs.KeptMarks.{awaited, end_keys, gathered, left, meant, told}
use Rattle.flat_role.specs.PlanMarks.{low_at, plan_layout, plan_len, plan_marks, static_at}
use Rattle.process_steps.specs.Steps.{ended}
use Rattle.role_statuses.specs.Entering.{stop, stop_up}
use Rattle.role_statuses.specs.Flat.{Marks, put, wipe}
use Rattle.role_statuses.specs.Local.{Layout, both_over, is_untouched, mark_after, over_after, sides, walk, walk_up, write}
use Rattle.role_statuses.specs.Marks.{Mark}
use Rattle.role_statuses.specs.Marks as mark
use Rattle.flat_role.proofs.KnownPlaces.{PlaceSays, place_says}

-- One mark.

same_place : (p : ℕ) → nat_eq p p ≡ true
same_place p = grind (arith, nat_tests)

other_place : (k p : ℕ) → (k ≡ p → ⊥) → nat_eq k p ≡ false
other_place k p other = grind (arith, nat_tests)

put_is : (me : Role) (plan : Plan) (items : List KeptMark) (place : ℕ) (m : KeptMark) → place < length items
    → plan_marks me plan (set items place m) ≡ put (plan_marks me plan items) place (meant me (static_at plan place) m)
put_is me plan items place m inside = fun_ext (λ k. ⊎_elim
    (λ here. rw here
    (ap (meant me (static_at plan place)) (get_or-set_same items place m kept.Untouched inside)
    ∙ sym (cond-true (nat_eq place place) (meant me (static_at plan place) m) (plan_marks me plan items place) (same_place place))))
    (λ other. ap (meant me (static_at plan k)) (get_or-set_other items place k m kept.Untouched other)
    ∙ sym (cond-false (nat_eq k place) (meant me (static_at plan place) m) (plan_marks me plan items k) (other_place k place other)))
    (cases_eq k place))

touched_telling : (b : Bool) (ms : Letters) → is_untouched (told b ms) ≡ false
touched_telling b Nothing = refl
touched_telling b (More k l ms) = refl

touched_gathering : (ks : List Key) → is_untouched (gathered ks) ≡ false
touched_gathering [] = refl
touched_gathering (k ∷ ks) = refl

touched_left : (ms : Letters) → is_untouched (left ms) ≡ false
touched_left Nothing = refl
touched_left (More k l ms) = refl

touched_waiting : (ks : List Key) → is_untouched (awaited ks) ≡ false
touched_waiting [] = refl
touched_waiting (k ∷ ks) = refl

pub is_touched : (me : Role) (P : Process) (m : KeptMark) → (m ≡ kept.Untouched → ⊥) → is_untouched (meant me P m) ≡ false
is_touched me P kept.Untouched touched = absurd (touched refl)
is_touched me P (kept.Telling b n) touched = touched_telling b _
is_touched me P (kept.Gathering n) touched = touched_gathering _
is_touched me P (kept.Left n) touched = touched_left _
is_touched me P (kept.Waiting n) touched = touched_waiting _
is_touched me P m touched = refl

module _ (M : Marks) (low place : ℕ) (S : Process) where
  write_touched : (m : Mark) → is_untouched m ≡ false → write M low place S m ≡ put M place m
  write_touched mark.Untouched touched = cc
  write_touched m touched = refl

pub puts : (me : Role) (plan : Plan) (items : List KeptMark) (place : ℕ) (m : KeptMark) → place < length items → (m ≡ kept.Untouched → ⊥)
    → plan_marks me plan (set items place m)
    ≡ write (plan_marks me plan items) (low_at plan place) place (static_at plan place) (meant me (static_at plan place) m)
puts me plan items place m inside touched = put_is me plan items place m inside
    ∙ sym (write_touched (plan_marks me plan items) (low_at plan place) place (static_at plan place) (meant me (static_at plan place) m)
    (is_touched me (static_at plan place) m touched))

-- Those of a construct that begins again.

-- the marks from the one place to before the other are untouched, and those outside as they were
abbrev pub AreWiped : List KeptMark → List KeptMark → ℕ → ℕ → Type 0
AreWiped old new low end =
    (k : ℕ) → get_or new k kept.Untouched ≡ (if nat_le low k && nat_lt k end then kept.Untouched else get_or old k kept.Untouched)

pub none_wiped : (old : List KeptMark) (low : ℕ) → AreWiped old old low low
none_wiped old low k = sym (cond-false (nat_le low k && nat_lt k low) kept.Untouched (get_or old k kept.Untouched) (none low k))
  where
    none : (low k : ℕ) → (nat_le low k && nat_lt k low) ≡ false
    none low k = grind (arith, nat_tests)

wiped_here : (low place : ℕ) → low ≤ place → (nat_le low place && nat_lt place (place + 1)) ≡ true
wiped_here low place h = grind (arith, nat_tests)

not_here : (k place : ℕ) → (k ≡ place → ⊥) → nat_lt k place ≡ nat_lt k (place + 1)
not_here k place other = grind (arith, nat_tests)

pub one_wiped : (old new : List KeptMark) (low place : ℕ) → low ≤ place → place < length new → AreWiped old new low place
    → AreWiped old (set new place kept.Untouched) low (place + 1)
one_wiped old new low place least inside before k = ⊎_elim
    (λ here. rw here
    (get_or-set_same new place kept.Untouched kept.Untouched inside
    ∙ sym (cond-true (nat_le low place && nat_lt place (place + 1)) kept.Untouched (get_or old place kept.Untouched) (wiped_here low place least))))
    (λ other. get_or-set_other new place k kept.Untouched kept.Untouched other
    ∙ before k
    ∙ ap (λ t. if nat_le low k && t then kept.Untouched else get_or old k kept.Untouched) (not_here k place other))
    (cases_eq k place)

meant_wiped : (t : Bool) (me : Role) (P : Process) (m : KeptMark) → meant me P (if t then kept.Untouched else m) ≡ (if t then mark.Untouched else meant me P m)
meant_wiped true me P m = refl
meant_wiped false me P m = refl

pub wipes : (me : Role) (plan : Plan) (old new : List KeptMark) (place : ℕ) → place < plan_len plan → AreWiped old new (low_at plan place) (place + 1)
    → plan_marks me plan new ≡ wipe (plan_marks me plan old) (low_at plan place) (size (static_at plan place))
wipes me plan old new place inside wiped = fun_ext (λ k.
    ap (meant me (static_at plan k)) (wiped k)
    ∙ meant_wiped (nat_le (low_at plan place) k && nat_lt k (place + 1)) me (static_at plan k) (get_or old k kept.Untouched)
    ∙ ap (λ e. if nat_le (low_at plan place) k && nat_lt k e then mark.Untouched else plan_marks me plan old k) (sym (place_says plan place inside).begins))

pub begins_again : (me : Role) (plan : Plan) (old new : List KeptMark) (place low end : ℕ) (m : KeptMark) → place < plan_len plan → m ≡ kept.Untouched
    → low ≡ low_at plan place → end ≡ place + 1 → AreWiped old new low end
    → plan_marks me plan new ≡ write (plan_marks me plan old) (low_at plan place) place (static_at plan place) (meant me (static_at plan place) m)
begins_again me plan old new place low end m inside is base last wiped =
    wipes me plan old new place inside (subst (λ l. AreWiped old new l (place + 1)) base (subst (AreWiped old new low) last wiped))
    ∙ ap (λ k. write (plan_marks me plan old) (low_at plan place) place (static_at plan place) (meant me (static_at plan place) k)) (sym is)

pub low_before : (plan : Plan) (place : ℕ) → place < plan_len plan → low_at plan place ≤ place
low_before plan place inside = let says : PlaceSays plan place = place_says plan place inside in omega (arith, says.begins)

-- A part has ended, or has acted first.

pub second_over : (me : Role) (S P Q : Process) (first over e : Bool) (m : Mark) → S ≡ Seq P Q → first ≡ true → over ≡ true → e ≡ ended Q
    → e ≡ over_after me S first over m
second_over me S P Q first over e m s f o h = rw (s, f, o) h

both_meant : (me : Role) (S : Process) (first over l r : Bool) → meant me S (both_kept first over l r) ≡ sides first over l r
both_meant me S true over l r = refl
both_meant me S false over l r = refl

pub begun_mark : (me : Role) (S P Q : Process) (first over l r : Bool) (old : KeptMark) (new : Option KeptMark) → S ≡ Par P Q → old ≡ kept.Untouched
    → new ≡ Some (both_kept first over l r) → l ≡ ended P → r ≡ ended Q → mark_then me S new old ≡ mark_after me S first over (meant me S old)
begun_mark me S P Q first over l r old new s o n left right =
    rw (s, o, n) (both_meant me (Par P Q) first over l r ∙ ap₂ (sides first over) left right)

pub begun_over : (me : Role) (S P Q : Process) (first over l r e : Bool) (old : KeptMark) → S ≡ Par P Q → old ≡ kept.Untouched
    → e ≡ both_over first over l r → l ≡ ended P → r ≡ ended Q → e ≡ over_after me S first over (meant me S old)
begun_over me S P Q first over l r e old s o is left right = rw (s, o) (is ∙ ap₂ (both_over first over) left right)

-- there are others
pub record AreSome (others : List Role) : Type 0 where
  pub role : Role
  pub roles : List Role
  pub are : others ≡ role ∷ roles

pub are_some : (r : Bool) (others : List Role) → (IsTrue r ↔ (others ≡ [])) → r ≡ false → AreSome others
are_some r [] empty not = absurd (false≢true (sym not ∙ empty.1 refl))
are_some r (q ∷ qs) empty not = record { role = q; roles = qs; are = refl }

pub turn_gathers : (me : Role) (S : Process) (i : Index) (g : Expression) (others : List Role) (P : Process) (first over : Bool) (m : Mark)
    → S ≡ WhileLead i g others P → AreSome others → gathered (end_keys me S) ≡ mark_after me S first over m
turn_gathers me S i g others P first over m s some = rw (s, some.are) refl

pub scope_gathers : (me : Role) (S : Process) (head : ScopeHead) (others : List Role) (P : Process) (first over : Bool) (m : Mark)
    → S ≡ ScopeLead head others P → AreSome others → gathered (end_keys me S) ≡ mark_after me S first over m
scope_gathers me S head others P first over m s some = rw (s, some.are) refl

pub scope_goes_on : (me : Role) (S : Process) (head : ScopeHead) (others : List Role) (P : Process) (first over : Bool) (m : Mark)
    → S ≡ ScopeLead head others P → AreSome others → false ≡ over_after me S first over m
scope_goes_on me S head others P first over m s some = rw (s, some.are) refl

-- A step up.

put_same : (M : Marks) (place : ℕ) (m : Mark) → m ≡ M place → put M place m ≡ M
put_same M place m is = fun_ext (λ k. ⊎_elim
    (λ here. cond-true (nat_eq k place) m (M k) (ap (λ j. nat_eq j place) here ∙ same_place place) ∙ is ∙ ap M (sym here))
    (λ other. cond-false (nat_eq k place) m (M k) (other_place k place other))
    (cases_eq k place))

write_same : (M : Marks) (low place : ℕ) (S : Process) (m : Mark) → m ≡ M place → is_untouched m ≡ false → write M low place S m ≡ M
write_same M low place S m is touched = write_touched M low place S m touched ∙ put_same M place m is

or_over : (over t : Bool) → t ≡ false → over ≡ (over || t)
or_over true t h = refl
or_over false t h = sym h

pub stays_below : (me : Role) (P : Process) (over : Bool) (m : KeptMark) → (m ≡ kept.Untouched → ⊥) → over ≡ (over || is_untouched (meant me P m))
stays_below me P over m touched = or_over over (is_untouched (meant me P m)) (is_touched me P m touched)

pub parent_known : (plan : Plan) (at up : ℕ) → (level_at plan.levels.items at).parent ≡ up → up < plan_len plan → (plan_layout plan).parents at ≡ Some up
parent_known plan at up is inside = ap (parent_at (plan_len plan)) is ∙ cond-true (nat_lt up (plan_len plan)) (Some up) None (below up (plan_len plan) inside)
  where
    below : (k n : ℕ) → k < n → nat_lt k n ≡ true
    below k n h = grind (arith, nat_tests)

-- the walk writes a mark, or leaves it
module _ (me : Role) (plan : Plan) (old new : List KeptMark) (at up : ℕ) (first over ended : Bool) (m : KeptMark) where
  abbrev S : Process
  S = static_at plan up

  rises_by : (w : Mark) → (level_at plan.levels.items at).parent ≡ up → up < plan_len plan → m ≡ get_or old up kept.Untouched
      → first ≡ not (nat_eq (suc at) up) → (over || is_untouched (meant me S m)) ≡ true → ended ≡ over_after me S first over (meant me S m)
      → w ≡ mark_after me S first over (meant me S m) → plan_marks me plan new ≡ write (plan_marks me plan old) (low_at plan up) up S w
      → Rises me (plan_layout plan) (plan_marks me plan old) (plan_marks me plan new) at over (Some (up, ended))
  rises_by w parent inside is which goes over_is mark_is wrote = (
    parent_known plan at up parent inside,
    ap (λ k. over || is_untouched (meant me S k)) (sym is) ∙ goes,
    wrote ∙ ap (write (plan_marks me plan old) (low_at plan up) up S)
        (mark_is ∙ ap₂ (λ t k. mark_after me S t over (meant me S k)) which is),
    over_is ∙ ap₂ (λ t k. over_after me S t over (meant me S k)) which is,
  )

  pub rises_writing : (next : Option KeptMark) (w : KeptMark) → next ≡ Some w → (level_at plan.levels.items at).parent ≡ up → up < plan_len plan
      → m ≡ get_or old up kept.Untouched → first ≡ not (nat_eq (suc at) up) → (over || is_untouched (meant me S m)) ≡ true
      → ended ≡ over_after me S first over (meant me S m) → mark_then me S next m ≡ mark_after me S first over (meant me S m)
      → plan_marks me plan new ≡ write (plan_marks me plan old) (low_at plan up) up S (meant me S w)
      → Rises me (plan_layout plan) (plan_marks me plan old) (plan_marks me plan new) at over (Some (up, ended))
  rises_writing next w some parent inside is which goes over_is mark_is =
      rises_by (meant me S w) parent inside is which goes over_is (ap (λ r. mark_then me S r m) (sym some) ∙ mark_is)

  pub rises_leaving : (next : Option KeptMark) → next ≡ None → (level_at plan.levels.items at).parent ≡ up → up < plan_len plan
      → m ≡ get_or old up kept.Untouched → first ≡ not (nat_eq (suc at) up) → (over || is_untouched (meant me S m)) ≡ true
      → ended ≡ over_after me S first over (meant me S m) → mark_then me S next m ≡ mark_after me S first over (meant me S m)
      → IsLeft me S next m → new ≡ old
      → Rises me (plan_layout plan) (plan_marks me plan old) (plan_marks me plan new) at over (Some (up, ended))
  rises_leaving next none parent inside is which goes over_is mark_is touched same =
      rises_by (meant me S m) parent inside is which goes over_is (ap (λ r. mark_then me S r m) (sym none) ∙ mark_is)
      (ap (plan_marks me plan) same
      ∙ sym (write_same (plan_marks me plan old) (low_at plan up) up S (meant me S m) (ap (meant me S) is) (subst (λ r. IsLeft me S r m) none touched)))

pub behind : (plan : Plan) (at up : ℕ) → at < plan_len plan → up ≡ (level_at plan.levels.items at).parent → at < up
behind plan at up inside is = subst (λ n. at < n) (sym is) (place_says plan at inside).above

-- The whole way.

abbrev pub or_else : Option ℕ → Option ℕ → Option ℕ
or_else (Some p) later = Some p
or_else None later = later

-- what is left of the way from the part at this place
pub record IsWay (me : Role) (code : Layout) (n : ℕ) (start : Marks) (place : ℕ) (over : Bool) (marks : Marks) (at : ℕ) (ended : Bool) (before : Option ℕ) : Type 0 where
  pub steps : ℕ
  pub enough : n ≤ steps + at
  pub walks : walk me code n start place over ≡ walk me code steps marks at ended
  pub stops : stop me code over n start place ≡ or_else before (stop me code ended steps marks at)

pub way_begins : (me : Role) (code : Layout) (n : ℕ) (start : Marks) (place : ℕ) (over : Bool) → IsWay me code n start place over start place over None
way_begins me code n start place over = record { steps = n; enough = omega arith; walks = refl; stops = refl }

module _ (me : Role) (code : Layout) where
  step_walks : (k : ℕ) (old new : Marks) (at : ℕ) (over : Bool) (above : ℕ × Bool) → Rises me code old new at over (Some above)
      → walk me code (suc k) old at over ≡ walk me code k new above.0 above.1
  step_walks k old new at over above r = ap (walk_up me code (walk me code k) old at over) r.0
      ∙ cond-true (over || is_untouched (old above.0)) _ old r.1
      ∙ ap₂ (λ W t. walk me code k W above.0 t) (sym r.2) (sym r.3)

  step_stops : (k : ℕ) (old new : Marks) (at : ℕ) (over : Bool) (above : ℕ × Bool) (before : Option ℕ) → Rises me code old new at over (Some above)
      → or_else before (stop me code over (suc k) old at) ≡ or_else (found before at over) (stop me code above.1 k new above.0)
  step_stops k old new at over above (Some p) r = refl
  step_stops k old new at false above None r = refl
  step_stops k old new at true above None r =
      ap (stop_up me code (λ over ms up. stop me code over k ms up) old at) r.0
      ∙ ap₂ (λ W t. stop me code t k W above.0) (sym r.2) (sym r.3)

  top_walks : (k : ℕ) (marks : Marks) (at : ℕ) (over : Bool) → IsTop code marks at over → walk me code (suc k) marks at over ≡ marks
  top_walks k marks at over (inl none) = ap (walk_up me code (walk me code k) marks at over) none
  top_walks k marks at over (inr around) = ap (walk_up me code (walk me code k) marks at over) around.1
      ∙ cond-false (over || is_untouched (marks around.0)) _ marks around.2

  top_stops : (k : ℕ) (marks : Marks) (at : ℕ) (over : Bool) (before : Option ℕ) → IsTop code marks at over
      → or_else before (stop me code over (suc k) marks at) ≡ found before at over
  top_stops k marks at over (Some p) top = refl
  top_stops k marks at false None top = refl
  top_stops k marks at true None (inl none) = ap (stop_up me code (λ over ms up. stop me code over k ms up) marks at) none
  top_stops k marks at true None (inr around) = absurd (false≢true (sym around.2))

  pub way_rises : (n : ℕ) (start : Marks) (place : ℕ) (over : Bool) (old new : Marks) (at : ℕ) (ended : Bool) (before : Option ℕ) (above : ℕ × Bool)
      → IsWay me code n start place over old at ended before → at < n → at < above.0 → Rises me code old new at ended (Some above)
      → IsWay me code n start place over new above.0 above.1 (found before at ended)
  way_rises n start place over old new at ended before above way inside more r = on way.steps way.enough way.walks way.stops
    where
      on : (steps : ℕ) → n ≤ steps + at → walk me code n start place over ≡ walk me code steps old at ended
          → stop me code over n start place ≡ or_else before (stop me code ended steps old at)
          → IsWay me code n start place over new above.0 above.1 (found before at ended)
      on zero enough walks stops = absurd (omega arith)
      on (suc k) enough walks stops = record {
        steps = k;
        enough = omega arith;
        walks = walks ∙ step_walks k old new at ended above r;
        stops = stops ∙ step_stops k old new at ended above before r;
      }

  -- where the way ends
  pub record HasEnded (n : ℕ) (start : Marks) (place : ℕ) (over : Bool) (marks : Marks) (last : Option ℕ) : Type 0 where
    pub walked : marks ≡ walk me code n start place over
    pub stopped : last ≡ stop me code over n start place

  pub way_ends : (n : ℕ) (start : Marks) (place : ℕ) (over : Bool) (old new : Marks) (at : ℕ) (ended : Bool) (before : Option ℕ)
      → IsWay me code n start place over old at ended before → at < n → Rises me code old new at ended None
      → HasEnded n start place over new (found before at ended)
  way_ends n start place over old new at ended before way inside r = on way.steps way.enough way.walks way.stops
    where
      on : (steps : ℕ) → n ≤ steps + at → walk me code n start place over ≡ walk me code steps old at ended
          → stop me code over n start place ≡ or_else before (stop me code ended steps old at)
          → HasEnded n start place over new (found before at ended)
      on zero enough walks stops = absurd (omega arith)
      on (suc k) enough walks stops = record {
        walked = r.0 ∙ sym (walks ∙ top_walks k old at ended r.1);
        stopped = sym (stops ∙ top_stops k old at ended before r.1);
      }

pub found_inside : (before : Option ℕ) (at n : ℕ) (over : Bool) → IfSome before (λ p. p < n) → at < n → IfSome (found before at over) (λ p. p < n)
found_inside (Some p) at n over h inside = h
found_inside None at n true h inside = h
found_inside None at n false h inside = inside
