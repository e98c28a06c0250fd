-- Auxiliary messages come to an end: how many a mark may still put and take, which each auxiliary step lessens, and which any step
-- lets grow by six at most for each role of the cast.
use Rattle.std.proofs.Common.{◌≡◌, ◌≤◌, ◌<◌, ℕ, suc, ◌+◌, ◌*◌, List, [], ◌∷◌, length, filter, Bool, true, false, ◌&&◌, not, refl, sym, ap, subst, ⊎_elim, arith, le_refl}
use Rattle.std.proofs.lemmas.Bool.{cases_Bool, cond-true, cond-false, both_ways, or_cases}
use Rattle.dioc_terms.specs.declared.names.Role.{Role}
use Rattle.dioc_terms.specs.declared.processes.Tag.{Tag}
use Rattle.dioc_terms.specs.declared.processes.ScopeHead.{ScopeHead}
use Rattle.dioc_terms.specs.Equality.{role_eq, member}
use Rattle.dioc_terms.specs.Messages.{is_aux}
use Rattle.dioc_terms.specs.Processes.{Keep, Part}
use Rattle.dioc_terms.specs.Stores.{Store}
use Rattle.dioc_terms.specs.Terms as term
use Rattle.dioc_terms.specs.Terms.{Term, is_in, others, stamped}
use Rattle.dioc_terms.specs.Values.{eval, is_true}
use Rattle.projection.specs.Projection.{projected}
use Rattle.process_steps.specs.Steps.{Deed, entry_of}
use Rattle.global_steps.specs.Follow.{BookChoice, updated}
use Rattle.marked_laws.proofs.Constructs.{Phase, Phases, Kind, Branch, Turning, Stopping, Scoped, Releasing, Waits, Told, Inside, Sent, Gone, waits, all_wait, leader, whole, Backs, turn_backs, end_backs, followers}
use Rattle.marked_laws.proofs.Equality.{role_same}
use Rattle.marked_laws.proofs.Gates.{is_follower, untold_head, ungone_head}
use Rattle.marked_laws.proofs.Mark.{Mark, First, Second, Both, Held, Fine, first_fine, both_fine}
use Rattle.marked_laws.proofs.MarkSteps.{Steps, sends, lands, sets, reads, seq_opens, par_opens, seq_first, seq_begins, seq_lags, seq_goes, par_left, par_right, picks, turns, stops, again, leaves, tells, hears, works, arrives, gathers, keeps, replaces, frees}
use Rattle.marked_laws.proofs.Others.{waits_phase}
use Rattle.marked_laws.proofs.Plays.{tag_aux, backs_aux}
use Rattle.marked_laws.proofs.RoleLists.{member_here}
use Rattle.marked_laws.proofs.Roles.{role_cases, updated_here, updated_there}

-- what is still to be put and taken between the leader and a role: one message there
abbrev there : Phase → ℕ
there Waits = 2
there Told = 1
there p = 0

-- one there and one back
abbrev back : Phase → ℕ
back Waits = 4
back Told = 3
back Inside = 2
back Sent = 1
back Gone = 0

-- of a chosen scope also the message that lets the role out
abbrev pub weight : Kind → Phase → ℕ
weight (Branch i r g I J b) p = there p
weight (Turning i r g I) p = back p
weight (Stopping i r g I) p = there p
weight (Scoped i r I extra props level begin B) p = back p + 2
weight (Releasing i r I extra props level) p = there p

abbrev pub total : (Role → ℕ) → List Role → ℕ
total f [] = 0
total f (q ∷ qs) = f q + total f qs

total_mono : (f g : Role → ℕ) (xs : List Role) → ((q : Role) → f q ≤ g q) → total f xs ≤ total g xs
total_mono f g [] h = le_refl 0
total_mono f g (x ∷ xs) h = omega (arith, h x, total_mono f g xs h)

total_less : (f g : Role → ℕ) (xs : List Role) (t : Role) → member t xs ≡ true → f t < g t → ((q : Role) → f q ≤ g q) → total f xs < total g xs
total_less f g [] t in_it less h = absurd (both_ways false refl in_it)
total_less f g (x ∷ xs) t in_it less h = ⊎_elim
    (λ is. let here : f x < g x = subst (λ q. f q < g q) (role_same t x is) less in omega (arith, here, total_mono f g xs h))
    (λ later. omega (arith, h x, total_less f g xs t later less h))
    (or_cases (role_eq t x) (member t xs) in_it)

total_bound : (f : Role → ℕ) (xs : List Role) → ((q : Role) → f q ≤ 6) → total f xs ≤ 6 * length xs
total_bound f [] h = omega arith
total_bound f (x ∷ xs) h = omega (arith, h x, total_bound f xs h)

filter_length : (p : Role → Bool) (xs : List Role) → length (filter p xs) ≤ length xs
filter_length p [] = le_refl 0
filter_length p (x ∷ xs) = ⊎_elim
    (λ yes. subst (λ l. length l ≤ suc (length xs)) (sym (cond-true (p x) (x ∷ filter p xs) (filter p xs) yes)) (omega (arith, filter_length p xs)))
    (λ no. subst (λ l. length l ≤ suc (length xs)) (sym (cond-false (p x) (x ∷ filter p xs) (filter p xs) no)) (omega (arith, filter_length p xs)))
    (cases_Bool (p x))

there_bound : (p : Phase) → there p ≤ 2
there_bound Waits = omega arith
there_bound Told = omega arith
there_bound Inside = omega arith
there_bound Sent = omega arith
there_bound Gone = omega arith

back_bound : (p : Phase) → back p ≤ 4
back_bound Waits = omega arith
back_bound Told = omega arith
back_bound Inside = omega arith
back_bound Sent = omega arith
back_bound Gone = omega arith

weight_bound : (k : Kind) (p : Phase) → weight k p ≤ 6
weight_bound (Branch i r g I J b) p = omega (arith, there_bound p)
weight_bound (Turning i r g I) p = omega (arith, back_bound p)
weight_bound (Stopping i r g I) p = omega (arith, there_bound p)
weight_bound (Scoped i r I extra props level begin B) p = omega (arith, back_bound p)
weight_bound (Releasing i r I extra props level) p = omega (arith, there_bound p)

told_weight : (k : Kind) → weight k Told < weight k Waits
told_weight (Branch i r g I J b) = omega arith
told_weight (Turning i r g I) = omega arith
told_weight (Stopping i r g I) = omega arith
told_weight (Scoped i r I extra props level begin B) = omega arith
told_weight (Releasing i r I extra props level) = omega arith

heard_weight : (k : Kind) → weight k Inside < weight k Told
heard_weight (Branch i r g I J b) = omega arith
heard_weight (Turning i r g I) = omega arith
heard_weight (Stopping i r g I) = omega arith
heard_weight (Scoped i r I extra props level begin B) = omega arith
heard_weight (Releasing i r I extra props level) = omega arith

sent_weight : {k : Kind} {t : Tag} → Backs k t → weight k Sent < weight k Inside
sent_weight turn_backs = omega arith
sent_weight end_backs = omega arith

gone_weight : {k : Kind} {t : Tag} → Backs k t → weight k Gone < weight k Sent
gone_weight turn_backs = omega arith
gone_weight end_backs = omega arith

module _ (cast : List Role) where
  -- what is left of a construct's own messages
  abbrev pub load : Kind → Phases → ℕ
  load k phases = total (λ q. weight k (phases q)) (followers cast k)

  -- how many auxiliary messages may still be put and taken
  abbrev pub left : Mark → ℕ
  left (First M J) = left M
  left (Second M N) = left M + left N
  left (Both M N) = left M + left N
  left (Held k phases M) = load k phases + left M
  left _ = 0

  -- a role that comes further with a construct makes it less
  lowers : (k : Kind) (phases : Phases) (t : Role) (p : Phase) → member t (followers cast k) ≡ true → weight k p < weight k (phases t)
      → load k (updated t p phases) < load k phases
  lowers k phases t p in_it less = total_less (λ q. weight k (updated t p phases q)) (λ q. weight k (phases q)) (followers cast k) t in_it
      (subst (λ x. weight k x < weight k (phases t)) (sym (updated_here t p phases)) less) each
    where
      each : (q : Role) → weight k (updated t p phases q) ≤ weight k (phases q)
      each q = ⊎_elim
          (λ is. subst (λ y. weight k (updated t p phases y) ≤ weight k (phases y)) (sym is)
          (subst (λ x. weight k x ≤ weight k (phases t)) (sym (updated_here t p phases)) (omega (arith, less))))
          (λ differs. subst (λ x. weight k x ≤ weight k (phases q)) (sym (updated_there t p phases q differs)) (le_refl (weight k (phases q))))
          (role_cases q t)

  -- a construct that is just begun
  load_bound : (k : Kind) → load k all_wait ≤ 6 * length cast
  load_bound k =
      let few : length (followers cast k) ≤ length cast = filter_length (λ q. is_in q (whole k) && not (role_eq q (leader k))) cast in
      omega (arith, total_bound (λ q. weight k Waits) (followers cast k) (λ q. weight_bound k Waits), few)

  module _ (stores : Role → Store) (choices : ScopeHead → BookChoice) (updates : ℕ) where
    -- an auxiliary step lessens it
    pub lessens : {M N : Mark} {d : Deed} → Steps cast stores choices updates M d N → Fine cast M → is_aux (entry_of d) ≡ true → left N < left M
    lessens sends fine h = absurd (both_ways false refl h)
    lessens lands fine h = absurd (both_ways false refl h)
    lessens sets fine h = absurd (both_ways false refl h)
    lessens reads fine h = absurd (both_ways false refl h)
    lessens (seq_opens {I = I} {J = J} s) fine h = omega (arith, lessens s (first_fine cast I J fine) h)
    lessens (par_opens {I = I} {J = J} s) fine h = omega (arith, lessens s (both_fine cast I J fine) h)
    lessens (seq_first s) fine h = lessens s fine.0 h
    lessens (seq_begins e s) fine h = omega (arith, lessens s fine.1 h)
    lessens (seq_lags s) fine h = omega (arith, lessens s fine.0 h)
    lessens (seq_goes e s) fine h = omega (arith, lessens s fine.1 h)
    lessens (par_left s) fine h = omega (arith, lessens s fine.0 h)
    lessens (par_right s) fine h = omega (arith, lessens s fine.1 h)
    lessens picks fine h = absurd (both_ways false refl h)
    lessens (turns e) fine h = absurd (both_ways false refl h)
    lessens (stops e) fine h = absurd (both_ways false refl h)
    lessens (again e closed) fine h = absurd (both_ways false refl h)
    lessens (leaves e closed) fine h = absurd (both_ways false refl h)
    lessens (tells {k = k} {phases = phases} {q = t} {qs = ts} e) fine h =
        let head = untold_head cast k phases t ts e in
        omega (
          arith,
          lowers k phases t Told (is_follower cast k t fine.1.proper head.1 head.2)
              (subst (λ x. weight k Told < weight k x) (sym (waits_phase (phases t) head.0)) (told_weight k)),
        )
    lessens (hears {k = k} {phases = phases} {q = t} e) fine h =
        let who = fine.1.known t (ap waits e) in
        omega (
          arith,
          lowers k phases t Inside (is_follower cast k t fine.1.proper who.0 who.1)
              (subst (λ x. weight k Inside < weight k x) (sym e) (heard_weight k)),
        )
    lessens (works b s) fine h = omega (arith, lessens s fine.0 h)
    lessens (arrives {k = k} {phases = phases} {q = t} b e f) fine h =
        let who = fine.1.known t (ap waits e) in
        omega (
          arith,
          lowers k phases t Sent (is_follower cast k t fine.1.proper who.0 who.1)
              (subst (λ x. weight k Sent < weight k x) (sym e) (sent_weight b)),
        )
    lessens (gathers {k = k} {phases = phases} {q = t} {qs = ts} b e f) fine h =
        let head = ungone_head cast k phases t ts e in
        omega (
          arith,
          lowers k phases t Gone (is_follower cast k t fine.1.proper head.1 head.2)
              (subst (λ x. weight k Gone < weight k x) (sym f) (gone_weight b)),
        )
    lessens (keeps e) fine h = absurd (both_ways false refl h)
    lessens (replaces e) fine h = absurd (both_ways false refl h)
    lessens (frees {i = i} {r = r} {I = I} {extra = extra} {props = props} {level = level} {phases = phases} {q = t} {qs = ts} closed f) fine h =
        let qs : List Role = others cast r (term.Scope i r I extra props level) in
        let in_it : member t qs ≡ true = subst (λ l. member t l ≡ true) (sym f) (member_here t ts) in
        let less : there (updated t Told all_wait t) < back (phases t) + 2 =
        subst (λ x. there x < back (phases t) + 2) (sym (updated_here t Told all_wait)) (omega arith) in
        omega (
          arith,
          total_less (λ q. there (updated t Told all_wait q)) (λ q. back (phases q) + 2) qs t in_it less
              (λ q. omega (arith, there_bound (updated t Told all_wait q))),
        )

    -- a visible one lets it grow by what one construct has at most
    pub grows : {M N : Mark} {d : Deed} → Steps cast stores choices updates M d N → is_aux (entry_of d) ≡ false → left N ≤ left M + 6 * length cast
    grows sends h = omega arith
    grows lands h = omega arith
    grows sets h = omega arith
    grows reads h = omega arith
    grows (seq_opens s) h = omega (arith, grows s h)
    grows (par_opens s) h = omega (arith, grows s h)
    grows (seq_first s) h = grows s h
    grows (seq_begins e s) h = omega (arith, grows s h)
    grows (seq_lags s) h = omega (arith, grows s h)
    grows (seq_goes e s) h = omega (arith, grows s h)
    grows (par_left s) h = omega (arith, grows s h)
    grows (par_right s) h = omega (arith, grows s h)
    grows (picks {i = i} {r = r} {g = g} {I = I} {J = J}) h = omega (arith, load_bound (Branch i r g I J (is_true (eval g (stores r)))))
    grows (turns {i = i} {r = r} {g = g} {I = I} e) h = omega (arith, load_bound (Turning i r g I))
    grows (stops {i = i} {r = r} {g = g} {I = I} e) h = omega (arith, load_bound (Stopping i r g I))
    grows (again {i = i} {r = r} {g = g} {I = I} e closed) h = omega (arith, load_bound (Turning i r g I))
    grows (leaves {i = i} {r = r} {g = g} {I = I} e closed) h = omega (arith, load_bound (Stopping i r g I))
    grows (tells {k = k} e) h = absurd (both_ways _ h (tag_aux k))
    grows (hears {k = k} e) h = absurd (both_ways _ h (tag_aux k))
    grows (works b s) h = omega (arith, grows s h)
    grows (arrives b e f) h = absurd (both_ways _ h (backs_aux b))
    grows (gathers b e f) h = absurd (both_ways _ h (backs_aux b))
    grows (keeps {i = i} {r = r} {I = I} {extra = extra} {props = props} {level = level} e) h =
        omega (arith, load_bound (Scoped i r I extra props level (λ q. Keep) I))
    grows (replaces {i = i} {r = r} {I = I} {extra = extra} {props = props} {level = level} {B = B} e) h =
        omega (arith, load_bound (Scoped i r I extra props level (λ q. Part (suc updates) (projected cast (stamped B (suc updates) (suc level)) q)) (stamped B (suc updates) (suc level))))
    grows (frees closed f) h = absurd (both_ways true h refl)
