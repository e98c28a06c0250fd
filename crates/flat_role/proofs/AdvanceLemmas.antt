-- What an act at a place makes of the whole.
use Rattle.std.proofs.Common.{set, ◌≡◌, ◌+◌, ◌-◌, ◌<◌, ◌≤◌, ℕ, suc, List, ◌++◌, Bool, true, false, not, length, take, drop, refl, ap, ap₂, ◌∙◌, sym, subst, arith, length-take-le, Option, None, Some}
use Rattle.std.specs.Global.{Box}
use Rattle.std.specs.Prelude.{vec_capacity}
use Rattle.std.proofs.lemmas.List.{length-append, length-drop}
use Rattle.dioc_terms.specs.declared.names.Role.{Role}
use Rattle.dioc_terms.specs.declared.entries.Act.{Act}
use Rattle.dioc_terms.specs.Attempts.{Attempt, Stuck, Does, under, when}
use Rattle.dioc_terms.specs.Equality.{act_eq}
use Rattle.dioc_terms.specs.declared.entries.Act.TheVariants as act
use Rattle.dioc_terms.specs.declared.processes.ScopeHead.{ScopeHead}
use Rattle.dioc_terms.specs.declared.processes.Tag.TheVariants.{Begin}
use Rattle.std.specs.Option.{option_and_then}
use Rattle.dioc_terms.specs.Processes.{Process, IfLead, WhileLead, WhileFollow, ScopeLead, ScopeFollow, Tell, Gather, Letters, More, Part}
use Rattle.dioc_terms.specs.Stores.{Store}
use Rattle.dioc_terms.specs.declared.values.Value.{Value}
use Rattle.dpoc_process.specs.Acting.{Lead, acting, lead_of}
use Rattle.dpoc_process.specs.Growth.{handed_value, leader_end, value_at, with_written, write_at}
use Rattle.dpoc_process.specs.Handed.{Handed, Empty, Message, Kept, Parted, BookReplaces, Brings, IsEnabled, StandsFor, given_like}
use Rattle.dpoc_process.specs.KeptGrowth.{write_of}
use Rattle.dpoc_process.specs.RoleLaws.{advanced, local}
use Rattle.dpoc_process.specs.RoleSteps.{IsStep}
use Rattle.dpoc_process.proofs.LeafLemmas.{advances-are_steps}
use Rattle.flat_code.specs.Codes.{process_of}
use Rattle.flat_code.specs.declared.plan.Plan.{Plan}
use Rattle.flat_role.specs.declared.marks.Mark.{Mark as KeptMark}
use Rattle.flat_role.specs.declared.marks.Mark.TheVariants as kept_marks
use Rattle.flat_role.specs.declared.progress.Progress.{Progress}
use Rattle.flat_role.specs.declared.steps.Own.{Own}
use Rattle.flat_role.specs.Advancing.{ComesTo, IsActed, IsActingBy, IsReplacedBy, entered_places, front_in, marks_after, stop_after}
use Rattle.flat_role.specs.KeptMarks.{meant}
use Rattle.flat_role.specs.Leaves.{front, is_became}
use Rattle.flat_role.specs.MovedMarks.{runs_update, stays_itself}
use Rattle.flat_role.specs.PlanMarks.{mark_in, plan_layout, plan_len, plan_marks, static_at}
use Rattle.flat_role.specs.Progress.{AreOf, IsFound, IsProgress, marks_by, runs_by}
use Rattle.flat_role.specs.ReadySteps.{IsOwn, IsOwnOf}
use Rattle.flat_role.specs.Replacing.{IsRoomWhen, replaces, replacing}
use Rattle.flat_role.specs.Running.{Running}
use Rattle.flat_role.specs.Updates.{is_fresh}
use Rattle.flat_role.proofs.ClimbLemmas.{is_touched, puts}
use Rattle.flat_role.proofs.FoundLemmas.{found-acts, found-front, found-leaf, found-step, meant_own}
use Rattle.flat_role.proofs.ProgressLemmas.{active-after, is-code}
use Rattle.process_steps.specs.Laws.{is_done}
use Rattle.process_steps.specs.Steps.{Deed, Decision, after, ended, Given, FromBook, Keeps, Replaces, key, letters_to, step, store_after, telling}
use Rattle.role_statuses.specs.Entering.{entered, stop}
use Rattle.role_statuses.specs.Flat.{Marks, inner}
use Rattle.role_statuses.specs.Kept.{IsKept, marked, running}
use Rattle.role_statuses.specs.ListLaws.{active, places_of}
use Rattle.role_statuses.specs.Local.{is_untouched, walk}
use Rattle.role_statuses.specs.Marks.{Mark}
use Rattle.role_statuses.specs.Marks as role_mark
use Rattle.role_statuses.specs.Moves.{decided, move, start}
use Rattle.role_statuses.specs.PlaceLaws.{IsPlaceStep, status_at}
use Rattle.role_statuses.specs.Spots.{Spot}
use Rattle.role_statuses.specs.Statuses.{Status, Finished, Became}
use Rattle.role_statuses.proofs.ListLemmas.{places-are_listed}

-- Of attempts.

deed_done : (m : Attempt Deed Process) → is_done m ≡ true
    → (d : Deed) × ((Q : Process) × (m ≡ Does d Q))
deed_done Stuck h = cc
deed_done (Does d Q) h = (d, (Q, refl))

same_deed : {A : Type 0} {d e : Deed} {x y : A} → Does d x ≡ Does e y → d ≡ e
same_deed h = cc

when_left : {A : Type 0} (t : Bool) (d e : Deed) (x y : A) → when t (Does d x) ≡ Does e y → x ≡ y
when_left true d e x y h = cc
when_left false d e x y h = cc

-- Where a place goes on itself.

-- the part in front at a place leads a scope only where the place is untouched
lead_untouched : (me : Role) (M : Mark) (P : Process) → is_became M ≡ false
    → is_untouched M ≡ false → (scope : Lead) → lead_of (front me M P) ≡ Some scope → ⊥
lead_untouched me role_mark.Untouched P own touched scope led = cc
lead_untouched me (role_mark.Became R) P own touched scope led = cc
lead_untouched me (role_mark.Telling b k l ms) (IfLead i g others P Q) own touched scope led = cc
lead_untouched me (role_mark.Telling b k l ms) (WhileLead i g others P) own touched scope led = cc
lead_untouched me (role_mark.Telling b k l ms) (ScopeLead head others P) own touched scope led = cc
lead_untouched me (role_mark.Gathering k ks) (WhileLead i g others P) own touched scope led = cc
lead_untouched me (role_mark.Gathering k ks) (ScopeLead head others P) own touched scope led = cc
lead_untouched me role_mark.Ending (WhileFollow i leader P) own touched scope led = cc
lead_untouched me role_mark.Ending (ScopeFollow i leader P) own touched scope led = cc
lead_untouched me (role_mark.Left k l ms) (WhileLead i g others P) own touched scope led = cc
lead_untouched me (role_mark.Left k l ms) (ScopeLead head others P) own touched scope led = cc
lead_untouched me (role_mark.Waiting k ks) (ScopeFollow i leader P) own touched scope led = cc
lead_untouched me (role_mark.Waiting k ks) (Gather ls) own touched scope led = cc
lead_untouched me M P own touched scope led = cc

abbrev scope_lead : ScopeHead → List Role → Lead
scope_lead head others = record { head = head; others = others }

some_is : {x y : Lead} → Some x ≡ Some y → x ≡ y
some_is e = cc

some_part : {x y : Process} → Some x ≡ Some y → x ≡ y
some_part e = cc

-- where the book keeps the scope, it doesn't matter what it says of others
kept_start : (me : Role) (s : Store) (a : Act) (P : Process) (decide : ScopeHead → Decision)
    (scope : Lead) → lead_of P ≡ Some scope → decide scope.head ≡ Keeps
    → start me s P a (FromBook decide) ≡ start me s P a (FromBook (λ head. Keeps))
kept_start me s a (ScopeLead head others P) decide scope led keeps =
    let scope_is : scope_lead head others ≡ scope = some_is led in
    ap (λ e. when (act_eq a (act.Scope head.index)) (decided me head.index others P e))
    (ap (λ l. decide l.head) scope_is ∙ keeps)
kept_start me s a P decide scope led keeps = cc

kept_same : (me : Role) (s : Store) (a : Act) (M : Mark) (P : Process)
    (decide : ScopeHead → Decision) → is_became M ≡ false
    → (scope : Lead) → lead_of (front me M P) ≡ Some scope → decide scope.head ≡ Keeps
    → move me s (marked M Finished Finished) P a (FromBook decide)
    ≡ move me s (marked M Finished Finished) P a (FromBook (λ head. Keeps))
kept_same me s a role_mark.Untouched P decide own scope led keeps =
    kept_start me s a P decide scope led keeps
kept_same me s a (role_mark.Became R) P decide own scope led keeps = cc
kept_same me s a M P decide own scope led keeps =
    absurd (lead_untouched me M P own refl scope led)

-- a static process that goes on itself leads no scope that is replaced
none_replaced : (P own : Process) (ms : Letters) → not (replaces P (Parted own ms)) ≡ true
    → (scope : Lead) → lead_of P ≡ Some scope → ⊥
none_replaced (ScopeLead head others P) own ms stays scope led = cc
none_replaced P own ms stays scope led = cc

none_parted : (me : Role) (P : Process) (m : KeptMark) (own : Process) (ms : Letters)
    → runs_update m ≡ false → stays_itself m P (Parted own ms) ≡ true
    → (scope : Lead) → lead_of (front me (meant me P m) P) ≡ Some scope → ⊥
none_parted me P kept_marks.Untouched own ms itself stays scope led =
    none_replaced P own ms stays scope led
none_parted me P m own ms itself stays scope led =
    lead_untouched me (meant me P m) P (meant_own me P m itself) (is_touched me P m (λ e. cc)) scope
    led

-- where a place with this mark goes on itself, what stands for one thing that comes makes the same
-- of it
same_given : (me : Role) (s : Store) (a : Act) (P : Process) (m : KeptMark) (h : Handed)
    (given : Given) → runs_update m ≡ false → stays_itself m P h ≡ true
    → StandsFor me (lead_of (front me (meant me P m) P)) h given
    → move me s (marked (meant me P m) Finished Finished) P a given
    ≡ move me s (marked (meant me P m) Finished Finished) P a (given_like h)
same_given me s a P m Empty given own stays stands =
    ap (move me s (marked (meant me P m) Finished Finished) P a) stands
same_given me s a P m (Message l) given own stays stands =
    ap (move me s (marked (meant me P m) Finished Finished) P a) stands
same_given me s a P m Kept given own stays stands =
    ap (move me s (marked (meant me P m) Finished Finished) P a) stands.decides
    ∙ kept_same me s a (meant me P m) P stands.decide (meant_own me P m own) stands.scope
    stands.is_led stands.keeps
same_given me s a P m (Parted part ms) given own stays stands =
    absurd (none_parted me P m part ms own stays stands.scope stands.is_led)

-- Where another process comes.

-- the leader's part of an update and what tells the others
put_parts : (me : Role) (s : Store) (a : Act) (head : ScopeHead) (others : List Role)
    (P own : Process) (ms : Letters) (given : Given) (d : Deed) (y : Status)
    → BookReplaces me (Some (scope_lead head others)) own ms given
    → start me s (ScopeLead head others P) a given ≡ Does d y
    → y ≡ Became (replacing me (ScopeLead head others P) (Parted own ms))
put_parts me s a head others P own ms given d y stands does =
    let scope_is : scope_lead head others ≡ stands.scope = some_is stands.is_led in
    let i = head.index in
    let told : letters_to me stands.scope.others stands.scope.head.index Begin
    (λ q. Part stands.epoch (stands.part q))
    ≡ letters_to me others i Begin (λ q. Part stands.epoch (stands.part q)) =
    ap (λ l. letters_to me l.others l.head.index Begin (λ q. Part stands.epoch (stands.part q)))
    (sym scope_is) in
    let decision : stands.decide head ≡ Replaces stands.name stands.epoch stands.part =
    ap (λ l. stands.decide l.head) scope_is ∙ stands.replaces in
    let done : when (act_eq a (act.Scope i)) (decided me i others P
    (Replaces stands.name stands.epoch stands.part)) ≡ Does d y =
    ap (λ e. when (act_eq a (act.Scope i)) (decided me i others P e)) (sym decision)
    ∙ ap (start me s (ScopeLead head others P) a) (sym stands.decides) ∙ does in
    sym (when_left (act_eq a (act.Scope i)) _ _ _ _ done)
    ∙ ap₂ (λ R ls. Became (after (telling ls) (after R (leader_end me others i))))
    (sym stands.own_part) (sym (stands.told ∙ told))

put_other : (me : Role) (s : Store) (a : Act) (P : Process) (h : Handed) (given : Given) (d : Deed)
    (y : Status) → replaces P h ≡ true → StandsFor me (lead_of P) h given
    → start me s P a given ≡ Does d y → y ≡ Became (replacing me P h)
put_other me s a (ScopeLead head others P) (Parted own ms) given d y comes stands does =
    put_parts me s a head others P own ms given d y stands does
put_other me s a (ScopeFollow i leader P) (Message (Part n Q)) given d y comes stands does =
    sym (when_left (act_eq a (act.Take (key leader me i Begin))) _ _ _ _
    (ap (start me s (ScopeFollow i leader P) a) (sym stands) ∙ does))
put_other me s a (Tell (More k l ms)) h given d y comes stands does =
    sym (when_left (act_eq a (act.Put k)) _ _ _ _ does)
put_other me s a P h given d y comes stands does = cc

under_done : (n : Attempt Deed Process) {d : Deed} {y : Status} → under Became n ≡ Does d y
    → is_done n ≡ true
under_done Stuck e = cc
under_done (Does d Q) e = refl

became_touched : (u : Box Running) → kept_marks.Became u ≡ kept_marks.Untouched → ⊥
became_touched u e = cc

-- its act writes nothing
writes_nothing : (s : Store) (P : Process) (h : Handed) → replaces P h ≡ true
    → (v : Value)
    → with_written (write_at v P) None s ≡ with_written (write_at v P) (handed_value h) s
writes_nothing s (ScopeLead head others P) h comes v = refl
writes_nothing s (ScopeFollow i leader P) h comes v = refl
writes_nothing s (Tell ms) h comes v = refl
writes_nothing s P h comes v = cc

-- a place that doesn't go on itself is untouched, and another process comes in its place
not_false : (b : Bool) → not b ≡ false → b ≡ true
not_false true e = refl
not_false false e = cc

pub not_itself : (m : KeptMark) (P : Process) (h : Handed) → stays_itself m P h ≡ false
    → (m ≡ kept_marks.Untouched) × (replaces P h ≡ true)
not_itself kept_marks.Untouched P h stays = (refl, not_false (replaces P h) stays)
not_itself m P h stays = cc

module _ (me : Role) (plan : Plan) (progress : Progress) (k : IsProgress me plan progress)
    (s t : Store) (a : Act) (h : Handed) (at place : ℕ)
    (found : IsFound me plan progress a at place)
    (can : IsEnabled (local me (runs_by me plan progress) s) a h) where
  abbrev ms : Marks
  ms = marks_by me plan progress

  abbrev W : Process
  W = process_of plan.code

  abbrev P : Process
  P = static_at plan place

  abbrev m : KeptMark
  m = mark_in progress.marks.items place

  abbrev R : Process
  R = front_in me plan progress.marks.items place

  abbrev S : IsPlaceStep me (plan_layout plan) (plan_len plan) ms W a place
  S = found-step me plan progress k a at place found

  -- a move of the place, where something of the kind comes
  first_move : (d : Deed)
      × ((y : Status) × (move me s (status_at ms place) P a (given_like h) ≡ Does d y))
  first_move =
      let whole = deed_done (step me s (runs_by me plan progress) a (given_like h)) can in
      let own = S.only s (given_like h) whole.0 whole.1.0 whole.1.1 in
      (whole.0, own)

  -- the step of the whole by a move of the place, with the store that the act writes
  whole_steps : (part : Process) → acting me a (runs_by me plan progress) ≡ Some part
      → t ≡ with_written (write_at (value_at s part) part) (handed_value h) s
      → (given : Given) → StandsFor me (lead_of part) h given
      → (d : Deed) (y : Status) → move me s (status_at ms place) P a given ≡ Does d y
      → IsStep (local me (runs_by me plan progress) s) a given
      (local me (running me (marks_after me plan progress place y) W) t)
  whole_steps part acts stored given stands d y is =
      let step : IsStep (local me (runs_by me plan progress) s) a given
      (advanced me s a (runs_by me plan progress) part h) =
      advances-are_steps me s a (runs_by me plan progress) part h given acts can stands in
      let whole = (S.does s given d y is).0 in
      let deed_is : step.deed ≡ d = same_deed (sym step.does ∙ whole.steps) in
      record {
        deed = d;
        left = running me (marks_after me plan progress place y) W;
        does = whole.steps;
        becomes = ap (local me (running me (marks_after me plan progress place y) W))
            (stored ∙ ap (λ l. l.store) step.becomes ∙ ap (λ e. store_after e s) deed_is);
      }

  stands_as : (part : Process) → acting me a (runs_by me plan progress) ≡ Some part
      → (given : Given) → Brings (local me (runs_by me plan progress) s) a h given
      → StandsFor me (lead_of part) h given
  stands_as part acts given brings =
      subst (λ p. StandsFor me (option_and_then lead_of p) h given) acts brings

  acts_own : runs_update m ≡ false → acting me a (runs_by me plan progress) ≡ Some R
  acts_own itself =
      found-acts me plan progress k a at place found (meant_own me P m itself)

  pub own-acted : (own : Own) (marks : List KeptMark) (over : Bool) → runs_update m ≡ false
      → IsOwn me s R own → stays_itself m P h ≡ true
      → ((d : Deed) (y : Status)
      → move me s (status_at ms place) P a (given_like h) ≡ Does d y
      → ComesTo me plan progress.marks.items marks place over y
      × (t ≡ with_written (write_of own.write) (handed_value h) s))
      → IsActed me plan progress s t a h place marks over
  own-acted own marks over itself made stays comes =
      let moved = first_move in
      let both = comes moved.0 moved.1.0 moved.1.1 in
      let acts : acting me a (runs_by me plan progress) ≡ Some R = acts_own itself in
      let stored : t ≡ with_written (write_at (value_at s R) R) (handed_value h) s =
      both.1 ∙ ap (λ w. with_written w (handed_value h) s) made.write in
      record {
        y = moved.1.0;
        comes = both.0;
        keeps = (S.does s (given_like h) moved.0 moved.1.0 moved.1.1).0.keeps;
        lists = λ T. (T.does s (given_like h) moved.0 moved.1.0 moved.1.1).1;
        steps = λ given brings.
            let stands : StandsFor me (lead_of R) h given = stands_as R acts given brings in
            whole_steps R acts stored given stands moved.0 moved.1.0
            (same_given me s a P m h given itself stays stands ∙ moved.1.1);
      }

  pub other-acted : (own : Own) (marks : List KeptMark) (over : Bool) → m ≡ kept_marks.Untouched
      → IsOwn me s R own → replaces P h ≡ true
      → ComesTo me plan progress.marks.items marks place over (Became (replacing me P h))
      → t ≡ with_written (write_of own.write) None s
      → IsActed me plan progress s t a h place marks over
  other-acted own marks over untouched made replaced comes stored =
      let is_static : R ≡ P = ap (λ n. front me (meant me P n) P) untouched in
      let written : t ≡ with_written (write_at (value_at s R) R) (handed_value h) s =
      stored ∙ ap (λ w. with_written w None s) made.write
      ∙ subst (λ F. with_written (write_at (value_at s R) F) None s
      ≡ with_written (write_at (value_at s R) F) (handed_value h) s) (sym is_static)
      (writes_nothing s P h replaced (value_at s R)) in
      let acts : acting me a (runs_by me plan progress) ≡ Some R =
      acts_own (ap runs_update untouched) in
      record {
        y = Became (replacing me P h);
        comes = comes;
        keeps = (S.replaced (replacing me P h)).0;
        lists = λ T. (T.replaced (replacing me P h)).1;
        steps = λ given brings.
            let stands : StandsFor me (lead_of R) h given = stands_as R acts given brings in
            let whole : IsStep (local me (runs_by me plan progress) s) a given
            (advanced me s a (runs_by me plan progress) R h) =
            advances-are_steps me s a (runs_by me plan progress) R h given acts can stands in
            let own_move = S.only s given whole.deed whole.left whole.does in
            let start_is : start me s P a given ≡ Does whole.deed own_move.0 =
            ap (λ n. move me s (marked (meant me P n) Finished Finished) P a given)
            (sym untouched) ∙ own_move.1 in
            let status_is : own_move.0 ≡ Became (replacing me P h) =
            put_other me s a P h given whole.deed own_move.0 replaced
            (subst (λ F. StandsFor me (lead_of F) h given) is_static stands) start_is in
            whole_steps R acts written given stands whole.deed (Became (replacing me P h))
            (own_move.1 ∙ ap (Does whole.deed) status_is);
      }

  -- what was made ready is that of what stands in front
  own_front : (own : Own) → runs_update m ≡ false
      → IsOwnOf me s a (runs_by me plan progress) (is_fresh m) own
      → IsOwn me s R own × IsRoomWhen (is_fresh m) me R own.room
  own_front own itself ready =
      let part_is : ready.part ≡ R = some_part (sym ready.acts ∙ acts_own itself) in (
        subst (λ F. IsOwn me s F own) part_is ready.made,
        subst (λ F. IsRoomWhen (is_fresh m) me F own.room) part_is ready.room,
      )

  -- an act of the code there, by what it comes to in each case
  pub code-acted : (own : Own) (marks : List KeptMark) (over : Bool) → runs_update m ≡ false
      → IsOwnOf me s a (runs_by me plan progress) (is_fresh m) own
      → ((d : Deed) (y : Status) → IsActingBy me plan progress.marks.items place s own h a d y
      → ComesTo me plan progress.marks.items marks place over y
      × (t ≡ with_written (write_of own.write) (handed_value h) s))
      → (IsReplacedBy me plan progress.marks.items place own h
      → ComesTo me plan progress.marks.items marks place over (Became (replacing me P h))
      × (t ≡ with_written (write_of own.write) None s))
      → IsActed me plan progress s t a h place marks over
  code-acted own marks over itself ready moves replaces_it = by_case (stays_itself m P h) refl
    where
      by_case : (b : Bool) → stays_itself m P h ≡ b
          → IsActed me plan progress s t a h place marks over
      by_case true stays =
          let made = own_front own itself ready in
          own-acted own marks over itself made.0 stays
          (λ d y does. moves d y (record {
            goes = record {
              leaf = found-leaf me plan progress k a at place found;
              own_mark = itself;
              picks = made.0.pick;
              stays = stays;
              moves = does;
            };
            room = made.1;
          }))
      by_case false stays =
          let made = own_front own itself ready in
          let other = not_itself m P h stays in
          let both = replaces_it (record {
            untouched = other.0;
            room = subst (λ n. IsRoomWhen (is_fresh n) me (front me (meant me P n) P) own.room)
                other.0 made.1;
            replaced = other.1;
          }) in
          other-acted own marks over other.0 made.0 other.1 both.0 both.1

  -- an act of the update there, which does what it does by itself
  module _ (u v : Box Running) (was : m ≡ kept_marks.Became u)
      (inside : place < length progress.marks.items) where
    abbrev old : Process
    old = u.value.process

    abbrev new : Process
    new = v.value.process

    status : status_at ms place ≡ Became old
    status = ap (λ n. marked (meant me P n) Finished Finished) was

    pub update-front : acting me a (runs_by me plan progress) ≡ acting me a old
    update-front = found-front me plan progress k a at place found
        ∙ ap (λ n. acting me a (front me (meant me P n) P)) was

    pub update-can : IsEnabled (local me old s) a h
    update-can = under_done (step me s old a (given_like h))
        (ap (λ x. move me s x P a (given_like h)) (sym status) ∙ first_move.1.1)

    pub update-own : (own : Own) → IsOwnOf me s a (runs_by me plan progress) (is_fresh m) own
        → IsOwnOf me s a old u.value.fresh own
    update-own own ready = record {
      part = ready.part;
      acts = sym update-front ∙ ready.acts;
      made = ready.made;
      room = subst (λ b. IsRoomWhen b me ready.part own.room) (ap is_fresh was) ready.room;
    }

    pub update-acted : (over : Bool) → over ≡ ended new
        → ((given : Given) → Brings (local me old s) a h given
        → IsStep (local me old s) a given (local me new t))
        → IsActed me plan progress s t a h place
        (set progress.marks.items place (kept_marks.Became v)) over
    update-acted over ends steps = record {
      y = Became new;
      comes = record {
        written = puts me plan progress.marks.items place (kept_marks.Became v) inside
            (became_touched v);
        over_is = ends;
      };
      keeps = (S.replaced new).0;
      lists = λ T. (T.replaced new).1;
      steps = λ given brings.
          let own = steps given
          (subst (λ p. StandsFor me (option_and_then lead_of p) h given) update-front brings) in
          let left : new ≡ own.left = ap (λ l. l.process) own.becomes in
          let moves : move me s (status_at ms place) P a given ≡ Does own.deed (Became new) =
          ap (λ x. move me s x P a given) status ∙ ap (under Became) own.does
          ∙ ap (λ Q. Does own.deed (Became Q)) (sym left) in
          record {
            deed = own.deed;
            left = running me (marks_after me plan progress place (Became new)) W;
            does = (S.does s given own.deed (Became new) moves).0.steps;
            becomes = ap
                (local me (running me (marks_after me plan progress place (Became new)) W))
                (ap (λ l. l.store) own.becomes);
          };
    }

-- Once the constructs around the place have followed, and others can act in its place.
module _ (me : Role) (plan : Plan) (old new : Progress) (k : IsProgress me plan old)
    (s t : Store) (a : Act) (h : Handed) (at place : ℕ) (found : IsFound me plan old a at place)
    (mid : List KeptMark) (over : Bool)
    (acted : IsActed me plan old s t a h place mid over) where
  abbrev V : Process
  V = process_of plan.code

  abbrev later : Marks
  later = marks_after me plan old place acted.y

  abbrev between : List Spot
  between = entered me (plan_layout plan) later (stop_after me plan old place acted.y)

  pub marks-after : (ns : Marks)
      → ns ≡ walk me (plan_layout plan) (plan_len plan) (plan_marks me plan mid) place over
      → ns ≡ later
  marks-after ns walked = walked
      ∙ ap₂ (λ ns o. walk me (plan_layout plan) (plan_len plan) ns place o) acted.comes.written
      acted.comes.over_is

  pub stop-after : (q : Option ℕ)
      → q ≡ stop me (plan_layout plan) over (plan_len plan) (plan_marks me plan mid) place
      → q ≡ stop_after me plan old place acted.y
  stop-after q stopped = stopped
      ∙ ap₂ (λ ns o. stop me (plan_layout plan) o (plan_len plan) ns place) acted.comes.written
      acted.comes.over_is

  abbrev front_items : List ℕ
  front_items = take at old.active.items

  abbrev back_items : List ℕ
  back_items = drop (at + 1) old.active.items

  listed_after : active me later V ≡ front_items ++ (places_of between ++ back_items)
  listed_after =
      let step = found-step me plan old k a at place found in
      active-after me plan old k a at place place found step later between (acted.lists step)

  few_after : length (active me later V) ≤ plan_len plan
  few_after =
      let few : length (active me later V) ≤ suc (inner V) = places-are_listed.few me later V in
      let room : inner V < plan_len plan = (is-code plan).room in
      omega (arith, few, room)

  long_after : length (active me later V)
      ≡ length front_items + (length (places_of between) + length back_items)
  long_after = ap length listed_after
      ∙ length-append front_items (places_of between ++ back_items)
      ∙ ap (λ i. length front_items + i) (length-append (places_of between) back_items)

  same_places : (items : List KeptMark) (q : Option ℕ) → plan_marks me plan items ≡ later
      → q ≡ stop_after me plan old place acted.y
      → entered_places me plan items q ≡ places_of between
  same_places items q marks_is stop_is =
      ap₂ (λ ns o. places_of (entered me (plan_layout plan) ns o)) marks_is stop_is

  -- so there is room for them
  pub spare-after : (items : List KeptMark) (q : Option ℕ) → plan_marks me plan items ≡ later
      → q ≡ stop_after me plan old place acted.y
      → length (entered_places me plan items q) ≤ vec_capacity old.fresh
  spare-after items q marks_is stop_is =
      let spare : plan_len plan ≤ vec_capacity old.fresh = k.spare in
      let few : length (places_of between) ≤ vec_capacity old.fresh =
      omega (arith, long_after, few_after, spare) in
      subst (λ ps. length ps ≤ vec_capacity old.fresh)
      (sym (same_places items q marks_is stop_is)) few

  pub room-after : (items : List KeptMark) (q : Option ℕ) → at < length old.active.items
      → plan_marks me plan items ≡ later → q ≡ stop_after me plan old place acted.y
      → length old.active.items + length (entered_places me plan items q)
      ≤ vec_capacity old.active + 1
  room-after items q inside marks_is stop_is =
      let front : length front_items ≡ at =
      length-take-le at old.active.items (omega (arith, inside)) in
      let back : length back_items ≡ length old.active.items - (at + 1) =
      length-drop (at + 1) old.active.items in
      let room : plan_len plan ≤ vec_capacity old.active = k.room in
      let few : length old.active.items + length (places_of between)
      ≤ vec_capacity old.active + 1 =
      omega (arith, long_after, front, back, few_after, room, inside) in
      subst (λ ps. length old.active.items + length ps ≤ vec_capacity old.active + 1)
      (sym (same_places items q marks_is stop_is)) few

  pub progress-after : (q : Option ℕ) → length new.marks.items ≡ plan_len plan
      → marks_by me plan new ≡ later → q ≡ stop_after me plan old place acted.y
      → new.active.items ≡ take at old.active.items
      ++ (entered_places me plan new.marks.items q ++ drop (at + 1) old.active.items)
      → vec_capacity new.active ≡ vec_capacity old.active
      → vec_capacity new.fresh ≡ vec_capacity old.fresh → AreOf me new.marks.items
      → IsProgress me plan new
  progress-after q as_long marks_is stop_is listed room spare mine = record {
    as_long = as_long;
    kept = subst (λ ns. IsKept me ns V) (sym marks_is) acted.keeps;
    listed = listed
        ∙ ap (λ ps. front_items ++ (ps ++ back_items))
        (same_places new.marks.items q marks_is stop_is)
        ∙ sym listed_after ∙ ap (λ ns. active me ns V) (sym marks_is);
    room = subst (λ c. plan_len plan ≤ c) (sym room) k.room;
    spare = subst (λ c. plan_len plan ≤ c) (sym spare) k.spare;
    mine = mine;
  }

  pub steps-after : marks_by me plan new ≡ later → (given : Given)
      → Brings (local me (runs_by me plan old) s) a h given
      → IsStep (local me (runs_by me plan old) s) a given (local me (runs_by me plan new) t)
  steps-after marks_is given brings =
      subst (λ ns. IsStep (local me (runs_by me plan old) s) a given (local me (running me ns V) t))
      (sym marks_is) (acted.steps given brings)
