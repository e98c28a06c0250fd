-- A step of a role's process in a begun construct is a step of its mark.
use Rattle.std.proofs.Common.{◌≡◌, ◌⊎◌, ℕ, List, [], ◌∷◌, Bool, true, false, if◌then◌else◌, Option, Some, None, refl, sym, ap, ap₂, ◌∙◌, subst, inl, inr, ⊎_elim}
use Rattle.std.proofs.lemmas.Bool.{cases_Bool, cond-true, cond-false, both_ways, false_from_ne_true}
use Rattle.dioc_terms.specs.declared.names.Role.{Role}
use Rattle.dioc_terms.specs.declared.names.Index.{Index}
use Rattle.dioc_terms.specs.declared.values.Value.{Value}
use Rattle.dioc_terms.specs.declared.processes.Key.{Key}
use Rattle.dioc_terms.specs.declared.processes.Tag.{Tag}
use Rattle.dioc_terms.specs.declared.processes.Tag.TheVariants.{Choice, Go, Turn, Begin, End, Out}
use Rattle.dioc_terms.specs.declared.processes.ScopeHead.{ScopeHead}
use Rattle.dioc_terms.specs.declared.entries.Act.{Act}
use Rattle.dioc_terms.specs.declared.entries.Act.TheVariants as act
use Rattle.dioc_terms.specs.Equality.{role_eq, key_eq, tag_eq}
use Rattle.dioc_terms.specs.Expressions.{Expression}
use Rattle.dioc_terms.specs.Attempts.{Does}
use Rattle.dioc_terms.specs.Processes as process
use Rattle.dioc_terms.specs.Processes.{Process, Load, Val, Flag, Keep, Part, Done}
use Rattle.dioc_terms.specs.Stores.{Store}
use Rattle.dioc_terms.specs.Terms as term
use Rattle.dioc_terms.specs.Terms.{Term, is_in, others, distinct_roles}
use Rattle.projection.specs.Projection.{projected}
use Rattle.process_steps.specs.Steps.{Deed, Puts, Takes, Given, Got, Decision, ended, after, key, tell, gather, send_one, take_flag, take_begin, take_any, while_follows, scope_follows, step}
use Rattle.global_steps.specs.Follow.{BookChoice, updated}
use Rattle.marked_laws.proofs.Tells.{tell_ended, gather_ended}
use Rattle.marked_laws.proofs.Shapes.{none_some, some_same}
use Rattle.marked_laws.proofs.Agreeing.{own_given}
use Rattle.marked_laws.proofs.Constructs.{Phase, Phases, Kind, Branch, Turning, Stopping, Scoped, Releasing, Waits, Told, Inside, Sent, Gone, waits, gone, is_early, all_wait, leader, index, tag, told, whole, body, telling_key, backing_key, letter, opened, own_mail, Backs, turn_backs, end_backs, Busy, Begins, leads, before, inside, outside, follows, untold, ungone}
use Rattle.marked_laws.proofs.Ends.{place_leader, place_follower}
use Rattle.marked_laws.proofs.Equality.{role_itself, key_itself, key_parts}
use Rattle.marked_laws.proofs.FoundParts.{taken_by, when_act, seq_does, tell_does, gather_does, take_any_does}
use Rattle.marked_laws.proofs.FoundStill.{untold_all, Found, Finds, made, picks_loop}
use Rattle.marked_laws.proofs.Gates.{outsider, untold_head, ungone_head, untold_tells, ungone_gathers, untold_same, ungone_same}
use Rattle.marked_laws.proofs.Mark.{Mark, Held, Spent, run, place, Fine, Closed}
use Rattle.marked_laws.proofs.MarkSteps.{Steps, again, leaves, tells, hears, works, arrives, gathers, frees, doer_of, given_by, Agrees}
use Rattle.marked_laws.proofs.Moves.{does_same, stuck_does}
use Rattle.marked_laws.proofs.Norm.{norm, seq_norm, norm-after, norm_of_ended}
use Rattle.marked_laws.proofs.Roles.{role_cases, updated_here}

-- a message is opened by its own key, and not by one of another tag
opened_itself : (j : Key) (n l : Load) → opened (Some (j, n)) j ≡ Some l → l ≡ n
opened_itself j n l h = sym (some_same (sym (cond-true (key_eq j j) (Some n) None (key_itself j)) ∙ h))

opened_apart : (j i : Key) (n l : Load) → tag_eq j.tag i.tag ≡ false → opened (Some (i, n)) j ≡ Some l → ⊥
opened_apart j i n l apart h =
    none_some (sym (cond-false (key_eq j i) (Some n) None (false_from_ne_true (key_eq j i) (λ k. both_ways (tag_eq j.tag i.tag) apart (key_parts j i k).tag))) ∙ h)

-- the leader's message for a role is there where the role is told
told_phase : (k : Kind) (q : Role) (p : Phase) (l : Load) → opened (letter k q p) (telling_key k q) ≡ Some l → (p ≡ Told) × (l ≡ told k q)
told_phase k q Waits l h = absurd (none_some h)
told_phase k q Told l h = (refl, opened_itself (telling_key k q) (told k q) l h)
told_phase k q Inside l h = absurd (none_some h)
told_phase (Branch i r g I J b) q Sent l h = absurd (none_some h)
told_phase (Turning i r g I) q Sent l h = absurd (opened_apart (key r q i Go) (key q r i Turn) Done l refl h)
told_phase (Stopping i r g I) q Sent l h = absurd (none_some h)
told_phase (Scoped i r I extra props level begin B) q Sent l h = absurd (opened_apart (key r q i Begin) (key q r i End) Done l refl h)
told_phase (Releasing i r I extra props level) q Sent l h = absurd (none_some h)
told_phase k q Gone l h = absurd (none_some h)

-- and the role's own message where it has told that it is through
back_phase : {k : Kind} {t : Tag} → Backs k t → (q : Role) (p : Phase) (l : Load) → opened (letter k q p) (backing_key k t q) ≡ Some l → (p ≡ Sent) × (l ≡ Done)
back_phase (turn_backs {i = i} {r = r}) q Told l h = absurd (opened_apart (key q r i Turn) (key r q i Go) (Flag true) l refl h)
back_phase (end_backs {i = i} {r = r} {begin = begin}) q Told l h = absurd (opened_apart (key q r i End) (key r q i Begin) (begin q) l refl h)
back_phase (turn_backs {i = i} {r = r}) q Sent l h = (refl, opened_itself (key q r i Turn) Done l h)
back_phase (end_backs {i = i} {r = r}) q Sent l h = (refl, opened_itself (key q r i End) Done l h)
back_phase backs q p l h = absurd (none_some h)

-- no scope's release is pending before its leader has begun with it
no_release : (i : Index) (r : Role) (I : Term) (extra : List Role) (props : List (List ℕ × Value)) (level : ℕ) (begin : Role → Load) (B : Term) (q : Role) (p : Phase) (l : Load)
    → opened (letter (Scoped i r I extra props level begin B) q p) (key r q i Out) ≡ Some l → ⊥
no_release i r I extra props level begin B q Waits l h = none_some h
no_release i r I extra props level begin B q Told l h = opened_apart (key r q i Out) (key r q i Begin) (begin q) l refl h
no_release i r I extra props level begin B q Inside l h = none_some h
no_release i r I extra props level begin B q Sent l h = opened_apart (key r q i Out) (key q r i End) Done l refl h
no_release i r I extra props level begin B q Gone l h = none_some h

-- the role at the other end of a message from the leader, and of one to the leader
pub from_leader : (k : Kind) (phases : Phases) (q : Role) (t : Tag)
    → own_mail k phases (key (leader k) q (index k) t) ≡ opened (letter k q (phases q)) (key (leader k) q (index k) t)
from_leader k phases q t =
    ap (λ p. opened (letter k p (phases p)) (key (leader k) q (index k) t)) (cond-true (role_eq (leader k) (leader k)) q (leader k) (role_itself (leader k)))

pub to_leader : (k : Kind) (phases : Phases) (q : Role) (t : Tag) → role_eq q (leader k) ≡ false
    → own_mail k phases (backing_key k t q) ≡ opened (letter k q (phases q)) (backing_key k t q)
to_leader k phases q t other =
    ap (λ p. opened (letter k p (phases p)) (backing_key k t q)) (cond-false (role_eq q (leader k)) (leader k) q other)

seq_skip : (P Q : Process) → ended P ≡ true → norm (process.Seq P Q) ≡ norm Q
seq_skip P Q h = ap (λ p. seq_norm p (norm Q)) (norm_of_ended P h)

waiting_not_gone : (p : Phase) → waits p ≡ true → gone p ≡ false
waiting_not_gone Waits h = refl
waiting_not_gone p h = cc

flag_does : (j : Key) (P Q : Process) (given : Given) {d : Deed} {R : Process} → take_flag j P Q given ≡ Does d R
    → (b : Bool) × (given ≡ Got (Flag b)) × (d ≡ Takes j None (Flag b)) × (R ≡ (if b then P else Q))
flag_does j P Q (Got (Flag b)) h = let same = does_same h in (b, refl, sym same.0, sym same.1)
flag_does j P Q given h = absurd (stuck_does h)

begin_does : (r q : Role) (i : Index) (P : Process) (given : Given) {d : Deed} {R : Process} → take_begin r q i P given ≡ Does d R
    → ((given ≡ Got Keep) × (d ≡ Takes (key r q i Begin) None Keep) × (R ≡ scope_follows r q i P))
    ⊎ ((n : ℕ) × (Q : Process) × (given ≡ Got (Part n Q)) × (d ≡ Takes (key r q i Begin) None (Part n Q)) × (R ≡ scope_follows r q i Q))
begin_does r q i P (Got Keep) h = let same = does_same h in inl (refl, sym same.0, sym same.1)
begin_does r q i P (Got (Part n Q)) h = let same = does_same h in inr (n, Q, refl, sym same.0, sym same.1)
begin_does r q i P given h = absurd (stuck_does h)

flag_same : {b c : Bool} → Flag b ≡ Flag c → b ≡ c
flag_same h = cc

keep_part : {n : ℕ} {P : Process} → Keep ≡ Part n P → ⊥
keep_part h = cc

part_same : {m n : ℕ} {P Q : Process} → Part m P ≡ Part n Q → P ≡ Q
part_same h = cc

module _ (cast : List Role) (q : Role) (s : Store) (a : Act) (given : Given) where
  -- a take of the leader's message, and what the role goes on with if the message is that of the construct
  abbrev pub Takes_told : Kind → Deed → Process → Type 0
  Takes_told k d R = (a ≡ act.Take (telling_key k q)) × (l : Load) × (given ≡ Got l)
      × (l ≡ told k q → (d ≡ Takes (telling_key k q) None (told k q)) × (norm R ≡ norm (inside cast k q (projected cast (body k) q))))

  -- the part of a scope's own body that a follower runs
  own_part : (I : Term) → norm (if is_in q I then projected cast I q else process.Skip) ≡ norm (projected cast I q)
  own_part I = ⊎_elim (λ in_it. ap norm (cond-true (is_in q I) (projected cast I q) process.Skip in_it))
      (λ out. ap norm (cond-false (is_in q I) (projected cast I q) process.Skip out) ∙ sym (norm_of_ended (projected cast I q) (outsider cast I q out)))
      (cases_Bool (is_in q I))

  -- a role's only step before it has taken the leader's message
  takes_told : (k : Kind) → Begins cast k → role_eq q (leader k) ≡ false → is_in q (whole k) ≡ true → (d : Deed) (R : Process)
      → step q s (before cast k q) a given ≡ Does d R → Takes_told k d R
  takes_told (Branch i r g I J b) begins other in_it d R h =
      let P : Process = projected cast I q in
      let Q : Process = projected cast J q in
      let way : before cast (Branch i r g I J b) q ≡ process.IfFollow i r P Q = cond-false (role_eq q r) _ _ other ∙ cond-true (is_in q (term.If i r g I J)) _ process.Skip in_it in
      let done = when_act a (act.Take (key r q i Choice)) (take_flag (key r q i Choice) P Q given) (sym (ap (λ x. step q s x a given) way) ∙ h) in
      let took = flag_does (key r q i Choice) P Q given done.1 in (
        done.0,
        Flag took.0,
        took.1,
        λ is. (
          took.2 ∙ ap (Takes (key r q i Choice) None) is,
          ap norm (took.3 ∙ ap (λ c. if c then P else Q) (flag_same is) ∙ branch b),
        ),
      )
    where
      branch : (b : Bool) → (if b then projected cast I q else projected cast J q) ≡ projected cast (if b then I else J) q
      branch true = refl
      branch false = refl
  takes_told (Turning i r g I) begins other in_it d R h =
      let P : Process = projected cast I q in
      let W : Process = process.WhileFollow i r P in
      let way : projected cast (term.While i r g I) q ≡ W = cond-false (role_eq q r) _ _ other ∙ cond-true (is_in q (term.While i r g I)) W process.Skip in_it in
      let done = when_act a (act.Take (key r q i Go)) (take_flag (key r q i Go) (while_follows r q i P W) process.Skip given) (sym (ap (λ x. step q s x a given) way) ∙ h) in
      let took = flag_does (key r q i Go) (while_follows r q i P W) process.Skip given done.1 in (
        done.0,
        Flag took.0,
        took.1,
        λ is. (
          took.2 ∙ ap (Takes (key r q i Go) None) is,
          ap norm (took.3 ∙ ap (λ c. if c then while_follows r q i P W else process.Skip) (flag_same is))
              ∙ norm-after P (process.Seq (send_one (key q r i Turn) Done) W)
              ∙ ap (λ w. norm (process.Seq P (process.Seq (send_one (key q r i Turn) Done) w))) (sym way),
        ),
      )
  takes_told (Stopping i r g I) begins other in_it d R h =
      let P : Process = projected cast I q in
      let W : Process = process.WhileFollow i r P in
      let way : projected cast (term.While i r g I) q ≡ W = cond-false (role_eq q r) _ _ other ∙ cond-true (is_in q (term.While i r g I)) W process.Skip in_it in
      let done = when_act a (act.Take (key r q i Go)) (take_flag (key r q i Go) (while_follows r q i P W) process.Skip given) (sym (ap (λ x. step q s x a given) way) ∙ h) in
      let took = flag_does (key r q i Go) (while_follows r q i P W) process.Skip given done.1 in (
        done.0,
        Flag took.0,
        took.1,
        λ is. (
          took.2 ∙ ap (Takes (key r q i Go) None) is,
          ap norm (took.3 ∙ ap (λ c. if c then while_follows r q i P W else process.Skip) (flag_same is)),
        ),
      )
  takes_told (Scoped i r I extra props level begin B) begins other in_it d R h =
      let P : Process = if is_in q I then projected cast I q else process.Skip in
      let way : projected cast (term.Scope i r I extra props level) q ≡ process.ScopeFollow i r P =
      cond-false (role_eq q r) _ _ other ∙ cond-true (is_in q (term.Scope i r I extra props level)) (process.ScopeFollow i r P) process.Skip in_it in
      let done = when_act a (act.Take (key r q i Begin)) (take_begin r q i P given) (sym (ap (λ x. step q s x a given) way) ∙ h) in
      let rest : Process = process.Seq (send_one (key q r i End) Done) (process.Gather (key r q i Out ∷ [])) in
      ⊎_elim
      (λ kept. (
        done.0,
        Keep,
        kept.0,
        λ is. (
          kept.1 ∙ ap (Takes (key r q i Begin) None) is,
          ap norm kept.2 ∙ norm-after P rest ∙ ap (λ p. seq_norm p (norm rest)) (own_part I)
              ∙ ⊎_elim (λ b. ap (λ C. norm (process.Seq (projected cast C q) rest)) (sym b.0)) (λ b. absurd (keep_part (is ∙ b.1 q))) begins,
        ),
      ))
      (λ part. (
        done.0,
        Part part.0 part.1,
        part.2,
        λ is. (
          part.3 ∙ ap (Takes (key r q i Begin) None) is,
          ap norm part.4 ∙ norm-after part.1 rest
              ∙ ⊎_elim (λ b. absurd (keep_part (sym (b.1 q) ∙ sym is))) (λ b. ap (λ p. norm (process.Seq p rest)) (part_same (is ∙ b.1 q))) begins,
        ),
      ))
      (begin_does r q i P given done.1)
  takes_told (Releasing i r I extra props level) begins other in_it d R h =
      let way : before cast (Releasing i r I extra props level) q ≡ process.Gather (key r q i Out ∷ []) = cond-true (is_in q (term.Scope i r I extra props level)) _ process.Skip in_it in
      let done = when_act a (act.Take (key r q i Out)) (take_any (key r q i Out) process.Skip given) (sym (ap (λ x. step q s x a given) way) ∙ h) in
      let took = take_any_does (key r q i Out) process.Skip given done.1 in
      (done.0, took.0, took.1, λ is. (took.2 ∙ ap (Takes (key r q i Out) None) is, ap norm took.3))

module _ (cast : List Role) (stores : Role → Store) (choices : ScopeHead → BookChoice) (updates : ℕ) (unique : distinct_roles cast ≡ true)
    (mails : Key → Option Load) (decide : ScopeHead → Decision) (q : Role) (a : Act) where
  abbrev pub FoundHere : Mark → Deed → Process → Type 0
  FoundHere M d R = Found cast stores choices updates mails decide q a M d R

  abbrev pub FindsHere : Process → Mark → Type 0
  FindsHere P M = Finds cast stores choices updates mails decide q a P M

  module _ (k : Kind) (phases : Phases) (M : Mark) (fine : Fine cast (Held k phases M)) (agrees : Agrees mails (Held k phases M)) (body_finds : FindsHere (place cast M q) M) where
    -- a step inside the construct
    works_found : Busy cast k phases q → (d : Deed) (P R : Process) → step q (stores q) (place cast M q) a (given_by mails decide a) ≡ Does d P
        → ((N : Mark) → norm P ≡ norm (place cast N q) → norm R ≡ norm (place cast (Held k phases N) q)) → FoundHere (Held k phases M) d R
    works_found busy d P R h around =
        let found = body_finds d P h in
        (Held k phases found.0, works (subst (λ r. Busy cast k phases r) (sym found.3) busy) found.1, around found.0 found.2, found.3)

    -- the leader tells the next role
    tells_found : q ≡ leader k → (t : Role) (rest : List Role) → untold cast k phases ≡ t ∷ rest → (d : Deed) (R : Process)
        → d ≡ Puts (telling_key k t) (told k t) → norm R ≡ norm (leads cast k (updated t Told phases) (place cast M q)) → FoundHere (Held k phases M) d R
    tells_found is t rest first d R deed alike = (
      Held k (updated t Told phases) M,
      subst (λ x. Steps cast stores choices updates (Held k phases M) x (Held k (updated t Told phases) M)) (sym deed) (tells first),
      alike ∙ sym (ap norm (place_leader cast k (updated t Told phases) M q is)),
      ap doer_of deed ∙ sym is,
    )

    -- a leader that has nothing to do but to tell
    leads_telling : q ≡ leader k → ((ph : Phases) (P : Process) → leads cast k ph P ≡ tell (leader k) (untold cast k ph) (index k) (tag k) (told k))
        → FindsHere (leads cast k phases (place cast M q)) (Held k phases M)
    leads_telling is form d R h =
        let P : Process = place cast M q in
        let told_one = tell_does q (stores q) a (given_by mails decide a) (leader k) (untold cast k phases) (index k) (tag k) (told k)
        (sym (ap (λ x. step q (stores q) x a (given_by mails decide a)) (form phases P)) ∙ h) in
        let t : Role = told_one.0 in
        tells_found is t told_one.1 told_one.2 d R told_one.3
        (ap norm told_one.4
        ∙ ap (λ qs. norm (tell (leader k) qs (index k) (tag k) (told k))) (sym (untold_tells cast unique k phases t told_one.1 told_one.2 Told refl))
        ∙ sym (ap norm (form (updated t Told phases) P)))

    -- a leader that tells, and then runs its part and nothing more
    leads_running : q ≡ leader k → ((ph : Phases) (P : Process) → leads cast k ph P ≡ process.Seq (tell (leader k) (untold cast k ph) (index k) (tag k) (told k)) P)
        → FindsHere (leads cast k phases (place cast M q)) (Held k phases M)
    leads_running is form d R h =
        let P : Process = place cast M q in
        let T : Process = tell (leader k) (untold cast k phases) (index k) (tag k) (told k) in
        ⊎_elim
        (λ ran. works_found (inl (subst (λ r. role_eq q r ≡ true) is (role_itself q), tell_ended (leader k) (untold cast k phases) (index k) (tag k) (told k) ran.0)) d R R ran.1
        (λ N alike. alike ∙ sym (seq_skip T (place cast N q) ran.0) ∙ sym (ap norm (place_leader cast k phases N q is ∙ form phases (place cast N q)))))
        (λ telling.
        let told_one = tell_does q (stores q) a (given_by mails decide a) (leader k) (untold cast k phases) (index k) (tag k) (told k) telling.2 in
        let t : Role = told_one.0 in
        tells_found is t told_one.1 told_one.2 d R told_one.3
        (ap norm (sym telling.3) ∙ norm-after telling.1 P
        ∙ ap (λ x. norm (process.Seq x P)) (told_one.4 ∙ ap (λ qs. tell (leader k) qs (index k) (tag k) (told k)) (sym (untold_tells cast unique k phases t told_one.1 told_one.2 Told refl)))
        ∙ sym (ap norm (form (updated t Told phases) P))))
        (seq_does q (stores q) a (given_by mails decide a) T P (sym (ap (λ x. step q (stores q) x a (given_by mails decide a)) (form phases P)) ∙ h))

    -- a leader that tells, runs its part, gathers, and goes on with a tail
    module _ (t : Tag) (backs : Backs k t) (tail : Process)
        (form : (ph : Phases) (P : Process) → leads cast k ph P
        ≡ process.Seq (tell (leader k) (untold cast k ph) (index k) (tag k) (told k)) (process.Seq P (process.Seq (gather (leader k) (ungone cast k ph) (index k) t) tail))) where
      -- the leader takes the message of the next role that is through
      gathers_found : q ≡ leader k → ended (tell (leader k) (untold cast k phases) (index k) (tag k) (told k)) ≡ true → ended (place cast M q) ≡ true
          → (d : Deed) (G R : Process) → step q (stores q) (gather (leader k) (ungone cast k phases) (index k) t) a (given_by mails decide a) ≡ Does d G
          → after G tail ≡ R → FoundHere (Held k phases M) d R
      gathers_found is told_all ran d G R h left =
          let took = gather_does q (stores q) a (given_by mails decide a) (leader k) (ungone cast k phases) (index k) t h in
          let x : Role = took.0 in
          let rest : List Role = took.1 in
          let head = ungone_head cast k phases x rest took.3 in
          let here : own_mail k phases (backing_key k t x) ≡ Some took.2 =
          sym (own_given mails k phases M fine.1.own agrees (backing_key k t x) refl) ∙ taken_by mails decide a (backing_key k t x) took.2 took.4 took.5 in
          let sent = back_phase backs x (phases x) took.2 (sym (to_leader k phases x t head.1) ∙ here) in
          let same_untold : untold cast k (updated x Gone phases) ≡ untold cast k phases = untold_same cast k phases x Gone (sym (ap waits sent.0)) in
          let fewer : ungone cast k (updated x Gone phases) ≡ rest = ungone_gathers cast unique k phases x rest took.3 Gone refl in (
            Held k (updated x Gone phases) M,
            subst (λ e. Steps cast stores choices updates (Held k phases M) e (Held k (updated x Gone phases) M)) (sym (took.6 ∙ ap (Takes (backing_key k t x) None) sent.1))
                (gathers backs took.3 sent.0),
            ap norm (sym left) ∙ norm-after G tail ∙ ap (λ g. norm (process.Seq g tail)) took.7
                ∙ sym (seq_skip (place cast M q) (process.Seq (gather (leader k) rest (index k) t) tail) ran)
                ∙ sym (seq_skip (tell (leader k) (untold cast k phases) (index k) (tag k) (told k)) (process.Seq (place cast M q) (process.Seq (gather (leader k) rest (index k) t) tail)) told_all)
                ∙ ap₂ (λ qs rs. norm (process.Seq (tell (leader k) qs (index k) (tag k) (told k)) (process.Seq (place cast M q) (process.Seq (gather (leader k) rs (index k) t) tail))))
                (sym same_untold) (sym fewer)
                ∙ sym (ap norm (place_leader cast k (updated x Gone phases) M q is ∙ form (updated x Gone phases) (place cast M q))),
            ap doer_of took.6 ∙ sym is,
          )

      leads_backed : q ≡ leader k → (Closed cast k phases M → FindsHere tail (Held k phases M)) → FindsHere (leads cast k phases (place cast M q)) (Held k phases M)
      leads_backed is tail_finds d R h =
          let P : Process = place cast M q in
          let T : Process = tell (leader k) (untold cast k phases) (index k) (tag k) (told k) in
          let G : Process = gather (leader k) (ungone cast k phases) (index k) t in
          let given : Given = given_by mails decide a in
          ⊎_elim
          (λ ran. ⊎_elim
          (λ over. ⊎_elim
          (λ gathered. tail_finds (record {
            told = tell_ended (leader k) (untold cast k phases) (index k) (tag k) (told k) ran.0;
            done = subst (λ r. ended (place cast M r) ≡ true) is over.0;
            gathered = gather_ended (leader k) (ungone cast k phases) (index k) t gathered.0;
          }) d R gathered.1)
          (λ gathering. gathers_found is ran.0 over.0 d gathering.1 R gathering.2 gathering.3)
          (seq_does q (stores q) a given G tail over.1))
          (λ inner. works_found (inl (subst (λ r. role_eq q r ≡ true) is (role_itself q), tell_ended (leader k) (untold cast k phases) (index k) (tag k) (told k) ran.0))
          d inner.1 R inner.2
          (λ N alike. ap norm (sym inner.3) ∙ norm-after inner.1 (process.Seq G tail) ∙ ap (λ p. seq_norm p (norm (process.Seq G tail))) alike
          ∙ sym (seq_skip T (process.Seq (place cast N q) (process.Seq G tail)) ran.0)
          ∙ sym (ap norm (place_leader cast k phases N q is ∙ form phases (place cast N q)))))
          (seq_does q (stores q) a given P (process.Seq G tail) ran.1))
          (λ telling.
          let told_one = tell_does q (stores q) a given (leader k) (untold cast k phases) (index k) (tag k) (told k) telling.2 in
          let x : Role = told_one.0 in
          let head = untold_head cast k phases x told_one.1 told_one.2 in
          tells_found is x told_one.1 told_one.2 d R told_one.3
          (ap norm (sym telling.3) ∙ norm-after telling.1 (process.Seq P (process.Seq G tail))
          ∙ ap (λ y. norm (process.Seq y (process.Seq P (process.Seq G tail)))) told_one.4
          ∙ ap₂ (λ qs rs. norm (process.Seq (tell (leader k) qs (index k) (tag k) (told k)) (process.Seq P (process.Seq (gather (leader k) rs (index k) t) tail))))
          (sym (untold_tells cast unique k phases x told_one.1 told_one.2 Told refl))
          (sym (ungone_same cast k phases x Told (sym (waiting_not_gone (phases x) head.0))))
          ∙ sym (ap norm (form (updated x Told phases) P))))
          (seq_does q (stores q) a given T (process.Seq P (process.Seq G tail)) (sym (ap (λ x. step q (stores q) x a given) (form phases P)) ∙ h))

    -- a role that hasn't taken the leader's message takes it
    waits_found : role_eq q (leader k) ≡ false → is_early (phases q) ≡ true → FindsHere (before cast k q) (Held k phases M)
    waits_found other early d R h = ⊎_elim
        (λ in_it.
        let took = takes_told cast q (stores q) a (given_by mails decide a) k fine.1.begins other in_it d R h in
        let here : own_mail k phases (telling_key k q) ≡ Some took.1 =
        sym (own_given mails k phases M fine.1.own agrees (telling_key k q) refl) ∙ taken_by mails decide a (telling_key k q) took.1 took.0 took.2 in
        let at = told_phase k q (phases q) took.1 (sym (from_leader k phases q (tag k)) ∙ here) in
        let goes_on = took.3 at.1 in (
          Held k (updated q Inside phases) M,
          subst (λ e. Steps cast stores choices updates (Held k phases M) e (Held k (updated q Inside phases) M)) (sym goes_on.0) (hears at.0),
          goes_on.1 ∙ ap (λ I. norm (inside cast k q (projected cast I q))) (sym fine.1.is_body)
              ∙ ap (λ P. norm (inside cast k q P)) (sym (fine.1.fresh q early other))
              ∙ sym (ap norm (place_follower cast k (updated q Inside phases) M q other ∙ ap (λ p. follows cast k q p (place cast M q)) (updated_here q Inside phases))),
          ap doer_of goes_on.0,
        ))
        (λ out. absurd (outside_waits k out other h))
        (cases_Bool (is_in q (whole k)))
      where
        outside_waits : (k : Kind) → is_in q (whole k) ≡ false → role_eq q (leader k) ≡ false → step q (stores q) (before cast k q) a (given_by mails decide a) ≡ Does d R → ⊥
        outside_waits (Branch i r g I J b) out other h =
            let way : before cast (Branch i r g I J b) q ≡ process.Skip = cond-false (role_eq q r) _ _ other ∙ cond-false (is_in q (term.If i r g I J)) _ process.Skip out in
            stuck_does (sym (ap (λ x. step q (stores q) x a (given_by mails decide a)) way) ∙ h)
        outside_waits (Turning i r g I) out other h =
            let way : before cast (Turning i r g I) q ≡ process.Skip = cond-false (role_eq q r) _ _ other ∙ cond-false (is_in q (term.While i r g I)) _ process.Skip out in
            stuck_does (sym (ap (λ x. step q (stores q) x a (given_by mails decide a)) way) ∙ h)
        outside_waits (Stopping i r g I) out other h =
            let way : before cast (Stopping i r g I) q ≡ process.Skip = cond-false (role_eq q r) _ _ other ∙ cond-false (is_in q (term.While i r g I)) _ process.Skip out in
            stuck_does (sym (ap (λ x. step q (stores q) x a (given_by mails decide a)) way) ∙ h)
        outside_waits (Scoped i r I extra props level begin B) out other h =
            let way : before cast (Scoped i r I extra props level begin B) q ≡ process.Skip =
            cond-false (role_eq q r) _ _ other ∙ cond-false (is_in q (term.Scope i r I extra props level)) _ process.Skip out in
            stuck_does (sym (ap (λ x. step q (stores q) x a (given_by mails decide a)) way) ∙ h)
        outside_waits (Releasing i r I extra props level) out other h =
            let way : before cast (Releasing i r I extra props level) q ≡ process.Skip = cond-false (is_in q (term.Scope i r I extra props level)) _ process.Skip out in
            stuck_does (sym (ap (λ x. step q (stores q) x a (given_by mails decide a)) way) ∙ h)

    -- a role inside a turn or a scope runs its part, and then tells the leader that it is through
    inside_backed : (t : Tag) → Backs k t → ((P : Process) → inside cast k q P ≡ process.Seq P (process.Seq (send_one (backing_key k t q) Done) (outside cast k q)))
        → role_eq q (leader k) ≡ false → phases q ≡ Inside → FindsHere (inside cast k q (place cast M q)) (Held k phases M)
    inside_backed t backs form other at d R h =
        let P : Process = place cast M q in
        let S : Process = send_one (backing_key k t q) Done in
        let O : Process = outside cast k q in
        let given : Given = given_by mails decide a in
        ⊎_elim
        (λ over. ⊎_elim
        (λ not_sent. absurd (both_ways false refl not_sent.0))
        (λ sending.
        let done = when_act a (act.Put (backing_key k t q)) (Does (Puts (backing_key k t q) Done) process.Skip) sending.2 in
        let same = does_same done.1 in (
          Held k (updated q Sent phases) M,
          subst (λ e. Steps cast stores choices updates (Held k phases M) e (Held k (updated q Sent phases) M)) same.0 (arrives backs at over.0),
          ap norm (sym sending.3) ∙ ap (λ y. norm (after y O)) (sym same.1)
              ∙ sym (ap norm (place_follower cast k (updated q Sent phases) M q other ∙ ap (λ p. follows cast k q p P) (updated_here q Sent phases))),
          ap doer_of (sym same.0),
        ))
        (seq_does q (stores q) a given S O over.1))
        (λ inner. works_found (inr (other, at)) d inner.1 R inner.2
        (λ N alike. ap norm (sym inner.3) ∙ norm-after inner.1 (process.Seq S O) ∙ ap (λ p. seq_norm p (norm (process.Seq S O))) alike
        ∙ sym (ap norm (place_follower cast k phases N q other ∙ ap (λ p. follows cast k q p (place cast N q)) at ∙ form (place cast N q)))))
        (seq_does q (stores q) a given P (process.Seq S O) (sym (ap (λ x. step q (stores q) x a given) (form P)) ∙ h))

  -- the leader of a loop whose turn is over picks again
  turn_tail : (i : Index) (g : Expression) (I : Term) (phases : Phases) (M : Mark) → Closed cast (Turning i q g I) phases M
      → FindsHere (projected cast (term.While i q g I) q) (Held (Turning i q g I) phases M)
  turn_tail i g I phases M closed d R h = ⊎_elim
      (λ k. made cast stores choices updates mails decide q a R R k.1 refl (again k.0 closed) k.2 refl)
      (λ k. made cast stores choices updates mails decide q a R R k.1 refl (leaves k.0 closed) k.2 refl)
      (picks_loop cast stores choices updates mails decide q a i g I d R h)

  -- the leader of a scope that is over lets the others out
  scope_tail : (i : Index) (I : Term) (extra : List Role) (props : List (List ℕ × Value)) (level : ℕ) (begin : Role → Load) (B : Term) (phases : Phases) (M : Mark)
      → Closed cast (Scoped i q I extra props level begin B) phases M
      → FindsHere (tell q (others cast q (term.Scope i q I extra props level)) i Out (λ r. Done)) (Held (Scoped i q I extra props level begin B) phases M)
  scope_tail i I extra props level begin B phases M closed d R h =
      let told_one = tell_does q (stores q) a (given_by mails decide a) q (others cast q (term.Scope i q I extra props level)) i Out (λ r. Done) h in
      let k : Kind = Releasing i q I extra props level in
      let x : Role = told_one.0 in (
        Held k (updated x Told all_wait) (Spent (run M)),
        subst (λ e. Steps cast stores choices updates (Held (Scoped i q I extra props level begin B) phases M) e (Held k (updated x Told all_wait) (Spent (run M)))) (sym told_one.3)
            (frees closed told_one.2),
        ap norm told_one.4
            ∙ ap (λ qs. norm (tell q qs i Out (λ r. Done))) (sym (untold_tells cast unique k all_wait x told_one.1 (untold_all cast k ∙ told_one.2) Told refl))
            ∙ sym (ap norm (place_leader cast k (updated x Told all_wait) (Spent (run M)) q refl)),
        ap doer_of told_one.3,
      )

  finds_leads : (k : Kind) (phases : Phases) (M : Mark) → Fine cast (Held k phases M) → Agrees mails (Held k phases M) → FindsHere (place cast M q) M
      → q ≡ leader k → FindsHere (leads cast k phases (place cast M q)) (Held k phases M)
  finds_leads (Branch i r g I J b) phases M fine agrees body_finds is =
      leads_running (Branch i r g I J b) phases M fine agrees body_finds is (λ ph P. refl)
  finds_leads (Turning i r g I) phases M fine agrees body_finds is =
      leads_backed (Turning i r g I) phases M fine agrees body_finds Turn turn_backs (projected cast (term.While i r g I) r) (λ ph P. refl) is
      (subst (λ y. Closed cast (Turning i y g I) phases M → FindsHere (projected cast (term.While i y g I) y) (Held (Turning i y g I) phases M)) is (turn_tail i g I phases M))
  finds_leads (Stopping i r g I) phases M fine agrees body_finds is =
      leads_telling (Stopping i r g I) phases M fine agrees body_finds is (λ ph P. refl)
  finds_leads (Scoped i r I extra props level begin B) phases M fine agrees body_finds is =
      leads_backed (Scoped i r I extra props level begin B) phases M fine agrees body_finds End end_backs
      (tell r (others cast r (term.Scope i r I extra props level)) i Out (λ x. Done)) (λ ph P. refl) is
      (subst (λ y. Closed cast (Scoped i y I extra props level begin B) phases M
      → FindsHere (tell y (others cast y (term.Scope i y I extra props level)) i Out (λ x. Done)) (Held (Scoped i y I extra props level begin B) phases M)) is
      (scope_tail i I extra props level begin B phases M))
  finds_leads (Releasing i r I extra props level) phases M fine agrees body_finds is =
      leads_telling (Releasing i r I extra props level) phases M fine agrees body_finds is (λ ph P. refl)

  finds_inside : (k : Kind) (phases : Phases) (M : Mark) → Fine cast (Held k phases M) → Agrees mails (Held k phases M) → FindsHere (place cast M q) M
      → role_eq q (leader k) ≡ false → phases q ≡ Inside → FindsHere (inside cast k q (place cast M q)) (Held k phases M)
  finds_inside (Branch i r g I J b) phases M fine agrees body_finds other at d R h =
      works_found (Branch i r g I J b) phases M fine agrees body_finds (inr (other, at)) d R R h
      (λ N alike. alike ∙ sym (ap norm (place_follower cast (Branch i r g I J b) phases N q other ∙ ap (λ p. follows cast (Branch i r g I J b) q p (place cast N q)) at)))
  finds_inside (Turning i r g I) phases M fine agrees body_finds other at d R h =
      inside_backed (Turning i r g I) phases M fine agrees body_finds Turn turn_backs (λ P. refl) other at d R h
  finds_inside (Stopping i r g I) phases M fine agrees body_finds other at d R h = absurd (stuck_does h)
  finds_inside (Scoped i r I extra props level begin B) phases M fine agrees body_finds other at d R h =
      inside_backed (Scoped i r I extra props level begin B) phases M fine agrees body_finds End end_backs (λ P. refl) other at d R h
  finds_inside (Releasing i r I extra props level) phases M fine agrees body_finds other at d R h = absurd (stuck_does h)

  -- where the role is neither the leader nor inside, and what it waits for isn't pending
  no_turn : (i : Index) (r : Role) (g : Expression) (I : Term) (phases : Phases) (M : Mark) → Fine cast (Held (Turning i r g I) phases M)
      → Agrees mails (Held (Turning i r g I) phases M) → role_eq q r ≡ false → (phases q ≡ Told → ⊥) → is_in q (term.While i r g I) ≡ true
      → FindsHere (projected cast (term.While i r g I) q) (Held (Turning i r g I) phases M)
  no_turn i r g I phases M fine agrees other not_told in_it d R h =
      let k : Kind = Turning i r g I in
      let took = takes_told cast q (stores q) a (given_by mails decide a) k tt other in_it d R h in
      let here : own_mail k phases (telling_key k q) ≡ Some took.1 =
      sym (own_given mails k phases M fine.1.own agrees (telling_key k q) refl) ∙ taken_by mails decide a (telling_key k q) took.1 took.0 took.2 in
      absurd (not_told (told_phase k q (phases q) took.1 (sym (from_leader k phases q Go) ∙ here)).0)

  no_out : (i : Index) (r : Role) (I : Term) (extra : List Role) (props : List (List ℕ × Value)) (level : ℕ) (begin : Role → Load) (B : Term) (phases : Phases) (M : Mark)
      → Fine cast (Held (Scoped i r I extra props level begin B) phases M) → Agrees mails (Held (Scoped i r I extra props level begin B) phases M)
      → FindsHere (process.Gather (key r q i Out ∷ [])) (Held (Scoped i r I extra props level begin B) phases M)
  no_out i r I extra props level begin B phases M fine agrees d R h =
      let k : Kind = Scoped i r I extra props level begin B in
      let j : Key = key r q i Out in
      let done = when_act a (act.Take j) (take_any j process.Skip (given_by mails decide a)) h in
      let took = take_any_does j process.Skip (given_by mails decide a) done.1 in
      let here : own_mail k phases j ≡ Some took.0 = sym (own_given mails k phases M fine.1.own agrees j refl) ∙ taken_by mails decide a j took.0 done.0 took.1 in
      absurd (no_release i r I extra props level begin B q (phases q) took.0 (sym (from_leader k phases q Out) ∙ here))

  finds_outside : (k : Kind) (phases : Phases) (M : Mark) → Fine cast (Held k phases M) → Agrees mails (Held k phases M)
      → role_eq q (leader k) ≡ false → is_in q (whole k) ≡ true → (phases q ≡ Told → ⊥) → FindsHere (outside cast k q) (Held k phases M)
  finds_outside (Branch i r g I J b) phases M fine agrees other in_it not_told d R h = absurd (stuck_does h)
  finds_outside (Turning i r g I) phases M fine agrees other in_it not_told d R h = no_turn i r g I phases M fine agrees other not_told in_it d R h
  finds_outside (Stopping i r g I) phases M fine agrees other in_it not_told d R h = absurd (stuck_does h)
  finds_outside (Scoped i r I extra props level begin B) phases M fine agrees other in_it not_told d R h =
      no_out i r I extra props level begin B phases M fine agrees d R h
  finds_outside (Releasing i r I extra props level) phases M fine agrees other in_it not_told d R h = absurd (stuck_does h)

  finds_follows : (k : Kind) (phases : Phases) (M : Mark) → Fine cast (Held k phases M) → Agrees mails (Held k phases M) → FindsHere (place cast M q) M
      → role_eq q (leader k) ≡ false → (p : Phase) → phases q ≡ p → FindsHere (follows cast k q p (place cast M q)) (Held k phases M)
  finds_follows k phases M fine agrees body_finds other Waits at d R h = waits_found k phases M fine agrees body_finds other (ap is_early at) d R h
  finds_follows k phases M fine agrees body_finds other Told at d R h = waits_found k phases M fine agrees body_finds other (ap is_early at) d R h
  finds_follows k phases M fine agrees body_finds other Inside at d R h = finds_inside k phases M fine agrees body_finds other at d R h
  finds_follows k phases M fine agrees body_finds other Sent at d R h =
      finds_outside k phases M fine agrees other (fine.1.known q (ap waits at)).1 (λ is. sent_told (sym at ∙ is)) d R h
    where
      sent_told : Sent ≡ Told → ⊥
      sent_told e = cc
  finds_follows k phases M fine agrees body_finds other Gone at d R h =
      finds_outside k phases M fine agrees other (fine.1.known q (ap waits at)).1 (λ is. gone_told (sym at ∙ is)) d R h
    where
      gone_told : Gone ≡ Told → ⊥
      gone_told e = cc

  -- each step in a begun construct, where those of its body are found
  pub finds_held : (k : Kind) (phases : Phases) (M : Mark) → Fine cast (Held k phases M) → Agrees mails (Held k phases M) → FindsHere (place cast M q) M
      → FindsHere (place cast (Held k phases M) q) (Held k phases M)
  finds_held k phases M fine agrees body_finds d R h = ⊎_elim
      (λ is. finds_leads k phases M fine agrees body_finds is d R (sym (ap (λ P. step q (stores q) P a (given_by mails decide a)) (place_leader cast k phases M q is)) ∙ h))
      (λ other. finds_follows k phases M fine agrees body_finds other (phases q) refl d R
      (sym (ap (λ P. step q (stores q) P a (given_by mails decide a)) (place_follower cast k phases M q other)) ∙ h))
      (role_cases q (leader k))
