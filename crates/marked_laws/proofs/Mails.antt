-- How a step of a mark changes the mail: a put adds the one message of its key, and a take removes it.
use Rattle.std.proofs.Common.{◌≡◌, ℕ, List, Bool, true, false, if◌then◌else◌, Option, Some, None, refl, sym, ap, ap₂, ◌∙◌, subst, inl, inr, ⊎_elim}
use Rattle.std.proofs.lemmas.Bool.{cases_Bool, cond-true, cond-false, both_ways, false_from_ne_true}
use Rattle.dioc_terms.specs.declared.names.Role.{Role}
use Rattle.dioc_terms.specs.declared.processes.Key.{Key}
use Rattle.dioc_terms.specs.declared.processes.Tag.{Tag}
use Rattle.dioc_terms.specs.declared.processes.Tag.TheVariants.{Op, Out}
use Rattle.dioc_terms.specs.declared.processes.ScopeHead.{ScopeHead}
use Rattle.dioc_terms.specs.Equality.{role_eq, key_eq}
use Rattle.dioc_terms.specs.Processes.{Load, Val, Done}
use Rattle.dioc_terms.specs.Stores.{Store}
use Rattle.process_steps.specs.Steps.{Deed, Puts, Takes, Sets, Inputs, Picks, Chooses, key}
use Rattle.global_steps.specs.Follow.{BookChoice, updated}
use Rattle.marked_laws.proofs.Shapes.{none_some, some_same}
use Rattle.marked_laws.proofs.Constructs.{Phase, Phases, Kind, Turning, Scoped, Releasing, Waits, Told, Inside, Sent, Gone, waits, all_wait, leader, index, told, whole, telling_key, backing_key, Backs, turn_backs, end_backs, letter, peer, opened, own_mail}
use Rattle.marked_laws.proofs.Ends.{no_mail}
use Rattle.marked_laws.proofs.Equality.{role_itself, key_itself, key_same}
use Rattle.marked_laws.proofs.Gates.{untold_head, closed_ended}
use Rattle.marked_laws.proofs.Keeps.{deed_index, deed_at, index_in}
use Rattle.marked_laws.proofs.Mark.{Mark, Still, Flying, Over, First, Second, Both, Held, Spent, mail, first_of_two, At, Fine, Closed, first_fine, both_fine}
use Rattle.marked_laws.proofs.MarkSteps.{Steps, sends, lands, sets, reads, seq_opens, par_opens, seq_first, seq_begins, seq_lags, seq_goes, par_left, par_right, picks, turns, stops, again, leaves, tells, hears, works, arrives, gathers, keeps, replaces, frees}
use Rattle.marked_laws.proofs.Others.{waits_phase, closed_phase}
use Rattle.marked_laws.proofs.Proper.{Within}
use Rattle.marked_laws.proofs.Roles.{role_cases, updated_here, updated_there}

-- the message of a key after a deed, given that before it
abbrev pub mail_after : Deed → Key → Option Load → Option Load
mail_after (Puts k l) j old = if key_eq j k then Some l else old
mail_after (Takes k x l) j old = if key_eq j k then None else old
mail_after _ j old = old

-- whether the deed puts or takes the message of the key
abbrev pub touches : Deed → Key → Bool
touches (Puts k l) j = key_eq j k
touches (Takes k x l) j = key_eq j k
touches _ j = false

-- the message that is put is not pending, and the one that is taken is
abbrev pub MailFits : Deed → (Key → Option Load) → Type 0
MailFits (Puts k l) mails = mails k ≡ None
MailFits (Takes k x l) mails = mails k ≡ Some l
MailFits _ mails = Unit {0}

pub first_then_none : (x : Option Load) → first_of_two x None ≡ x
first_then_none None = refl
first_then_none (Some l) = refl

-- a deed in the first part, where the second has nothing of the key
after_left : (d : Deed) (j : Key) (x y : Option Load) → (touches d j ≡ true → y ≡ None) → first_of_two (mail_after d j x) y ≡ mail_after d j (first_of_two x y)
after_left (Puts k l) j x y h = by_test (key_eq j k)
  where
    by_test : (b : Bool) → first_of_two (if b then Some l else x) y ≡ (if b then Some l else first_of_two x y)
    by_test true = refl
    by_test false = refl
after_left (Takes k t l) j x y h = by_test (key_eq j k) h
  where
    by_test : (b : Bool) → (b ≡ true → y ≡ None) → first_of_two (if b then None else x) y ≡ (if b then None else first_of_two x y)
    by_test true h = h refl
    by_test false h = refl
after_left (Sets i r x v) j a b h = refl
after_left (Inputs i r x v) j a b h = refl
after_left (Picks i r v) j a b h = refl
after_left (Chooses i r c) j a b h = refl

-- a deed in the second part, where the first has nothing of the key
after_right : (d : Deed) (j : Key) (x y : Option Load) → (touches d j ≡ true → x ≡ None) → first_of_two x (mail_after d j y) ≡ mail_after d j (first_of_two x y)
after_right (Puts k l) j x y h = by_test (key_eq j k) h
  where
    by_test : (b : Bool) → (b ≡ true → x ≡ None) → first_of_two x (if b then Some l else y) ≡ (if b then Some l else first_of_two x y)
    by_test true h = ap (λ z. first_of_two z (Some l)) (h refl)
    by_test false h = refl
after_right (Takes k t l) j x y h = by_test (key_eq j k) h
  where
    by_test : (b : Bool) → (b ≡ true → x ≡ None) → first_of_two x (if b then None else y) ≡ (if b then None else first_of_two x y)
    by_test true h = ap (λ z. first_of_two z None) (h refl)
    by_test false h = refl
after_right (Sets i r x v) j a b h = refl
after_right (Inputs i r x v) j a b h = refl
after_right (Picks i r v) j a b h = refl
after_right (Chooses i r c) j a b h = refl

touched_index : (d : Deed) (j : Key) → touches d j ≡ true → deed_index d ≡ j.index
touched_index (Puts k l) j h = ap (λ (n : Key). n.index) (sym (key_same j k h))
touched_index (Takes k x l) j h = ap (λ (n : Key). n.index) (sym (key_same j k h))
touched_index (Sets i r x v) j h = absurd (both_ways false refl h)
touched_index (Inputs i r x v) j h = absurd (both_ways false refl h)
touched_index (Picks i r v) j h = absurd (both_ways false refl h)
touched_index (Chooses i r c) j h = absurd (both_ways false refl h)

-- where one part has nothing of the key, the other's message is the whole's
fits_left : (d : Deed) (m n : Key → Option Load) → ((j : Key) → touches d j ≡ true → n j ≡ None) → MailFits d m → MailFits d (λ j. first_of_two (m j) (n j))
fits_left (Puts k l) m n h fits = ap₂ first_of_two fits (h k (key_itself k))
fits_left (Takes k x l) m n h fits = ap (λ z. first_of_two z (n k)) fits
fits_left (Sets i r x v) m n h fits = tt
fits_left (Inputs i r x v) m n h fits = tt
fits_left (Picks i r v) m n h fits = tt
fits_left (Chooses i r c) m n h fits = tt

fits_right : (d : Deed) (m n : Key → Option Load) → ((j : Key) → touches d j ≡ true → m j ≡ None) → MailFits d n → MailFits d (λ j. first_of_two (m j) (n j))
fits_right (Puts k l) m n h fits = ap₂ first_of_two (h k (key_itself k)) fits
fits_right (Takes k x l) m n h fits = ap₂ first_of_two (h k (key_itself k)) fits
fits_right (Sets i r x v) m n h fits = tt
fits_right (Inputs i r x v) m n h fits = tt
fits_right (Picks i r v) m n h fits = tt
fits_right (Chooses i r c) m n h fits = tt

-- a message that isn't of the key
opened_none : (message : Option (Key × Load)) (j : Key) → ((m : Key × Load) → message ≡ Some m → key_eq j m.0 ≡ false) → opened message j ≡ None
opened_none None j h = refl
opened_none (Some message) j h = cond-false (key_eq j message.0) (Some message.1) None (h message refl)

-- each message of a construct has its index
letter_index : (k : Kind) (q : Role) (p : Phase) (message : Key × Load) → letter k q p ≡ Some message → message.0.index ≡ index k
letter_index k q Waits message h = absurd (none_some h)
letter_index k q Told message h = sym (ap (λ (m : Key × Load). m.0.index) (some_same h))
letter_index k q Inside message h = absurd (none_some h)
letter_index (Turning i r g I) q Sent message h = sym (ap (λ (m : Key × Load). m.0.index) (some_same h))
letter_index (Scoped i r I extra props level begin B) q Sent message h = sym (ap (λ (m : Key × Load). m.0.index) (some_same h))
letter_index k q Sent message h = absurd (none_some h)
letter_index k q Gone message h = absurd (none_some h)

-- the construct has no message of another index
pub own_absent : (k : Kind) (phases : Phases) (j : Key) → (j.index ≡ index k → ⊥) → own_mail k phases j ≡ None
own_absent k phases j h =
    let q : Role = peer k j in
    opened_none (letter k q (phases q)) j
    (λ m at. false_from_ne_true (key_eq j m.0) (λ is. h (ap (λ (x : Key). x.index) (key_same j m.0 is) ∙ letter_index k q (phases q) m at)))

-- a mark has no message of an index that it hasn't
pub mail_absent : (M : Mark) (j : Key) → (At j.index M → ⊥) → mail M j ≡ None
mail_absent (Still I) j h = refl
mail_absent (Flying i o a e b x v) j h =
    cond-false (key_eq j (key a b i (Op o))) (Some (Val v)) None
    (false_from_ne_true (key_eq j (key a b i (Op o))) (λ is. h (ap (λ (n : Key). n.index) (key_same j (key a b i (Op o)) is))))
mail_absent (Over I) j h = refl
mail_absent (First M J) j h = mail_absent M j (λ k. h (inl k))
mail_absent (Second M N) j h = ap₂ first_of_two (mail_absent M j (λ k. h (inl k))) (mail_absent N j (λ k. h (inr k)))
mail_absent (Both M N) j h = ap₂ first_of_two (mail_absent M j (λ k. h (inl k))) (mail_absent N j (λ k. h (inr k)))
mail_absent (Held k phases M) j h =
    ap₂ first_of_two (own_absent k phases j (λ is. h (inl (subst (λ n. Within n (whole k)) (sym is) (index_in k))))) (mail_absent M j (λ at. h (inr at)))
mail_absent (Spent G) j h = refl

-- a key of another role than this one's
of_other : (k : Kind) (j n : Key) (t : Role) → peer k n ≡ t → role_eq (peer k j) t ≡ false → key_eq j n ≡ false
of_other k j n t at differs = false_from_ne_true (key_eq j n)
    (λ is. both_ways (role_eq (peer k j) t) differs (subst (λ r. role_eq r t ≡ true) (sym (ap (peer k) (key_same j n is) ∙ at)) (role_itself t)))

-- a pending message of the leader with a role, and what the role's next phase makes of it
gate_put : (k : Kind) (phases : Phases) (t : Role) (p : Phase) (n : Key) (l : Load) → letter k t (phases t) ≡ None → letter k t p ≡ Some (n, l)
    → peer k n ≡ t → (j : Key) → own_mail k (updated t p phases) j ≡ (if key_eq j n then Some l else own_mail k phases j)
gate_put k phases t p n l was is at j = ⊎_elim
    (λ same.
    ap (λ q. opened (letter k q (updated t p phases q)) j) same
    ∙ ap (λ x. opened (letter k t x) j) (updated_here t p phases)
    ∙ ap (λ m. opened m j) is
    ∙ ap (λ x. if key_eq j n then Some l else x) (sym (ap (λ q. opened (letter k q (phases q)) j) same ∙ ap (λ m. opened m j) was)))
    (λ differs.
    ap (λ x. opened (letter k (peer k j) x) j) (updated_there t p phases (peer k j) differs)
    ∙ sym (cond-false (key_eq j n) (Some l) (own_mail k phases j) (of_other k j n t at differs)))
    (role_cases (peer k j) t)

gate_take : (k : Kind) (phases : Phases) (t : Role) (p : Phase) (n : Key) (l : Load) → letter k t (phases t) ≡ Some (n, l) → letter k t p ≡ None
    → peer k n ≡ t → (j : Key) → own_mail k (updated t p phases) j ≡ (if key_eq j n then None else own_mail k phases j)
gate_take k phases t p n l was is at j = ⊎_elim
    (λ same.
    ap (λ q. opened (letter k q (updated t p phases q)) j) same
    ∙ ap (λ x. opened (letter k t x) j) (updated_here t p phases)
    ∙ ap (λ m. opened m j) is
    ∙ by_test (key_eq j n)
    ∙ ap (λ x. if key_eq j n then None else x) (sym (ap (λ q. opened (letter k q (phases q)) j) same ∙ ap (λ m. opened m j) was)))
    (λ differs.
    ap (λ x. opened (letter k (peer k j) x) j) (updated_there t p phases (peer k j) differs)
    ∙ sym (cond-false (key_eq j n) None (own_mail k phases j) (of_other k j n t at differs)))
    (role_cases (peer k j) t)
  where
    by_test : (b : Bool) → None ≡ (if b then None else if b then Some l else None)
    by_test true = refl
    by_test false = refl

telling_peer : (k : Kind) (q : Role) → peer k (telling_key k q) ≡ q
telling_peer k q = cond-true (role_eq (leader k) (leader k)) q (leader k) (role_itself (leader k))

backing_peer : (k : Kind) (t : Tag) (q : Role) → role_eq q (leader k) ≡ false → peer k (backing_key k t q) ≡ q
backing_peer k t q other = cond-false (role_eq q (leader k)) (leader k) q other

backing_letter : (k : Kind) (t : Tag) (q : Role) → Backs k t → letter k q Sent ≡ Some (backing_key k t q, Done)
backing_letter k t q turn_backs = refl
backing_letter k t q end_backs = refl

module _ (cast : List Role) where
  -- no message is pending at a turn or a scope that is over
  pub closed_mail : (k : Kind) (phases : Phases) (M : Mark) → Fine cast (Held k phases M) → Closed cast k phases M → (j : Key) → mail (Held k phases M) j ≡ None
  closed_mail k phases M fine closed j =
      let q : Role = peer k j in
      ap₂ first_of_two (ap (λ m. opened m j) (none_for q)) (no_mail cast M fine.0 (closed_ended cast k phases M fine closed) j)
    where
      none_for : (q : Role) → letter k q (phases q) ≡ None
      none_for q = ⊎_elim
          (λ is. ap (letter k q) (waits_phase (phases q) (leader_waits q is)))
          (λ other. ⊎_elim (λ h. ap (letter k q) h.0) (λ h. ap (letter k q) h.0) (closed_phase cast k phases M fine closed q other))
          (role_cases q (leader k))
        where
          leader_waits : (q : Role) → q ≡ leader k → waits (phases q) ≡ true
          leader_waits q is = ⊎_elim (λ h. h)
              (λ h. absurd (both_ways (role_eq q (leader k)) (fine.1.known q h).0 (subst (λ r. role_eq q r ≡ true) is (role_itself q)))) (cases_Bool (waits (phases q)))

  -- inside a construct nothing is pending of its own index, and of its body's index nothing is its own
  inside_absent : (k : Kind) (phases : Phases) (M : Mark) → Fine cast (Held k phases M) → (j : Key) → j.index ≡ index k → mail M j ≡ None
  inside_absent k phases M fine j is = mail_absent M j (λ at. fine.1.own (subst (λ n. At n M) is at))

  put_over : (b : Bool) (l : Load) (x y : Option Load) → first_of_two (if b then Some l else x) y ≡ (if b then Some l else first_of_two x y)
  put_over true l x y = refl
  put_over false l x y = refl

  take_over : (b : Bool) (x y : Option Load) → (b ≡ true → y ≡ None) → first_of_two (if b then None else x) y ≡ (if b then None else first_of_two x y)
  take_over true x y h = h refl
  take_over false x y h = refl

  module _ (stores : Role → Store) (choices : ScopeHead → BookChoice) (updates : ℕ) where
    -- the message that is put was not pending, and the one that is taken was
    pub mail_fits : {M N : Mark} {d : Deed} → Steps cast stores choices updates M d N → Fine cast M → MailFits d (mail M)
    mail_fits sends fine = refl
    mail_fits (lands {i = i} {o = o} {a = a} {b = b} {v = v}) fine = cond-true (key_eq (key a b i (Op o)) (key a b i (Op o))) (Some (Val v)) None (key_itself (key a b i (Op o)))
    mail_fits sets fine = tt
    mail_fits reads fine = tt
    mail_fits (seq_opens {I = I} {J = J} s) fine = mail_fits s (first_fine cast I J fine)
    mail_fits (par_opens {I = I} {J = J} s) fine = mail_fits s (both_fine cast I J fine)
    mail_fits (seq_first s) fine = mail_fits s fine.0
    mail_fits (seq_begins {M = M} {J = J} {d = d} e s) fine =
        subst (MailFits d) (λ i j. first_then_none (mail M j) i)
        (fits_right d (mail M) (mail (Still J))
        (λ j at. mail_absent M j (λ in_it. fine.2 j.index in_it (subst (λ n. At n (Still J)) (touched_index d j at) (deed_at cast stores choices updates s))))
        (mail_fits s fine.1))
    mail_fits (seq_lags {M = M} {K = K} {d = d} s) fine =
        fits_left d (mail M) (mail K)
        (λ j at. mail_absent K j (λ in_it. fine.2 j.index (subst (λ n. At n M) (touched_index d j at) (deed_at cast stores choices updates s)) in_it)) (mail_fits s fine.0)
    mail_fits (seq_goes {M = M} {N = N} {d = d} e s) fine =
        fits_right d (mail M) (mail N)
        (λ j at. mail_absent M j (λ in_it. fine.2 j.index in_it (subst (λ n. At n N) (touched_index d j at) (deed_at cast stores choices updates s)))) (mail_fits s fine.1)
    mail_fits (par_left {M = M} {K = K} {d = d} s) fine =
        fits_left d (mail M) (mail K)
        (λ j at. mail_absent K j (λ in_it. fine.2 j.index (subst (λ n. At n M) (touched_index d j at) (deed_at cast stores choices updates s)) in_it)) (mail_fits s fine.0)
    mail_fits (par_right {M = M} {N = N} {d = d} s) fine =
        fits_right d (mail M) (mail N)
        (λ j at. mail_absent M j (λ in_it. fine.2 j.index in_it (subst (λ n. At n N) (touched_index d j at) (deed_at cast stores choices updates s)))) (mail_fits s fine.1)
    mail_fits picks fine = tt
    mail_fits (turns e) fine = tt
    mail_fits (stops e) fine = tt
    mail_fits (again e c) fine = tt
    mail_fits (leaves e c) fine = tt
    mail_fits (tells {k = k} {phases = phases} {M = M} {q = q} {qs = qs} e) fine =
        ap₂ first_of_two
        (ap (λ r. opened (letter k r (phases r)) (telling_key k q)) (telling_peer k q)
        ∙ ap (λ p. opened (letter k q p) (telling_key k q)) (waits_phase (phases q) (untold_head cast k phases q qs e).0))
        (inside_absent k phases M fine (telling_key k q) refl)
    mail_fits (hears {k = k} {phases = phases} {M = M} {q = q} e) fine =
        ap (λ m. first_of_two m (mail M (telling_key k q)))
        (ap (λ r. opened (letter k r (phases r)) (telling_key k q)) (telling_peer k q)
        ∙ ap (λ p. opened (letter k q p) (telling_key k q)) e
        ∙ cond-true (key_eq (telling_key k q) (telling_key k q)) (Some (told k q)) None (key_itself (telling_key k q)))
    mail_fits (works {k = k} {phases = phases} {M = M} {d = d} b s) fine =
        fits_right d (own_mail k phases) (mail M)
        (λ j at. own_absent k phases j (λ is. fine.1.own (subst (λ n. At n M) (touched_index d j at ∙ is) (deed_at cast stores choices updates s)))) (mail_fits s fine.0)
    mail_fits (arrives {k = k} {t = t} {phases = phases} {M = M} {q = q} b e f) fine =
        ap₂ first_of_two
        (ap (λ r. opened (letter k r (phases r)) (backing_key k t q)) (backing_peer k t q (fine.1.known q (ap waits e)).0)
        ∙ ap (λ p. opened (letter k q p) (backing_key k t q)) e)
        (inside_absent k phases M fine (backing_key k t q) refl)
    mail_fits (gathers {k = k} {t = t} {phases = phases} {M = M} {q = q} b e f) fine =
        ap (λ m. first_of_two m (mail M (backing_key k t q)))
        (ap (λ r. opened (letter k r (phases r)) (backing_key k t q)) (backing_peer k t q (fine.1.known q (ap waits f)).0)
        ∙ ap (λ p. opened (letter k q p) (backing_key k t q)) f
        ∙ ap (λ m. opened m (backing_key k t q)) (backing_letter k t q b)
        ∙ cond-true (key_eq (backing_key k t q) (backing_key k t q)) (Some Done) None (key_itself (backing_key k t q)))
    mail_fits (keeps e) fine = tt
    mail_fits (replaces e) fine = tt
    mail_fits (frees {i = i} {r = r} {I = I} {extra = extra} {props = props} {level = level} {begin = begin} {B = B} {phases = phases} {M = M} {q = q} c e) fine =
        closed_mail (Scoped i r I extra props level begin B) phases M fine c (key r q i Out)

    -- the mail after a step
    pub mail_step : {M N : Mark} {d : Deed} → Steps cast stores choices updates M d N → Fine cast M → (j : Key) → mail N j ≡ mail_after d j (mail M j)
    mail_step sends fine j = refl
    mail_step (lands {i = i} {o = o} {a = a} {b = b} {v = v}) fine j = by_test (key_eq j (key a b i (Op o)))
      where
        by_test : (t : Bool) → None ≡ (if t then None else if t then Some (Val v) else None)
        by_test true = refl
        by_test false = refl
    mail_step sets fine j = refl
    mail_step reads fine j = refl
    mail_step (seq_opens {I = I} {J = J} s) fine j = mail_step s (first_fine cast I J fine) j
    mail_step (par_opens {I = I} {J = J} s) fine j = mail_step s (both_fine cast I J fine) j
    mail_step (seq_first s) fine j = mail_step s fine.0 j
    mail_step (seq_begins {M = M} {J = J} {d = d} e s) fine j =
        ap (first_of_two (mail M j)) (mail_step s fine.1 j)
        ∙ after_right d j (mail M j) None
        (λ at. mail_absent M j (λ in_it. fine.2 j.index in_it (subst (λ n. At n (Still J)) (touched_index d j at) (deed_at cast stores choices updates s))))
        ∙ ap (mail_after d j) (first_then_none (mail M j))
    mail_step (seq_lags {M = M} {K = K} {d = d} s) fine j =
        ap (λ x. first_of_two x (mail K j)) (mail_step s fine.0 j)
        ∙ after_left d j (mail M j) (mail K j)
        (λ at. mail_absent K j (λ in_it. fine.2 j.index (subst (λ n. At n M) (touched_index d j at) (deed_at cast stores choices updates s)) in_it))
    mail_step (seq_goes {M = M} {N = N} {d = d} e s) fine j =
        ap (first_of_two (mail M j)) (mail_step s fine.1 j)
        ∙ after_right d j (mail M j) (mail N j)
        (λ at. mail_absent M j (λ in_it. fine.2 j.index in_it (subst (λ n. At n N) (touched_index d j at) (deed_at cast stores choices updates s))))
    mail_step (par_left {M = M} {K = K} {d = d} s) fine j =
        ap (λ x. first_of_two x (mail K j)) (mail_step s fine.0 j)
        ∙ after_left d j (mail M j) (mail K j)
        (λ at. mail_absent K j (λ in_it. fine.2 j.index (subst (λ n. At n M) (touched_index d j at) (deed_at cast stores choices updates s)) in_it))
    mail_step (par_right {M = M} {N = N} {d = d} s) fine j =
        ap (first_of_two (mail M j)) (mail_step s fine.1 j)
        ∙ after_right d j (mail M j) (mail N j)
        (λ at. mail_absent M j (λ in_it. fine.2 j.index in_it (subst (λ n. At n N) (touched_index d j at) (deed_at cast stores choices updates s))))
    mail_step picks fine j = refl
    mail_step (turns e) fine j = refl
    mail_step (stops e) fine j = refl
    mail_step (again {i = i} {r = r} {g = g} {I = I} {phases = phases} {M = M} e c) fine j = sym (closed_mail (Turning i r g I) phases M fine c j)
    mail_step (leaves {i = i} {r = r} {g = g} {I = I} {phases = phases} {M = M} e c) fine j = sym (closed_mail (Turning i r g I) phases M fine c j)
    mail_step (tells {k = k} {phases = phases} {M = M} {q = q} {qs = qs} e) fine j =
        ap (λ x. first_of_two x (mail M j))
        (gate_put k phases q Told (telling_key k q) (told k q) (ap (letter k q) (waits_phase (phases q) (untold_head cast k phases q qs e).0)) refl (telling_peer k q) j)
        ∙ put_over (key_eq j (telling_key k q)) (told k q) (own_mail k phases j) (mail M j)
    mail_step (hears {k = k} {phases = phases} {M = M} {q = q} e) fine j =
        ap (λ x. first_of_two x (mail M j)) (gate_take k phases q Inside (telling_key k q) (told k q) (ap (letter k q) e) refl (telling_peer k q) j)
        ∙ take_over (key_eq j (telling_key k q)) (own_mail k phases j) (mail M j)
        (λ is. inside_absent k phases M fine j (ap (λ (n : Key). n.index) (key_same j (telling_key k q) is)))
    mail_step (works {k = k} {phases = phases} {M = M} {d = d} b s) fine j =
        ap (first_of_two (own_mail k phases j)) (mail_step s fine.0 j)
        ∙ after_right d j (own_mail k phases j) (mail M j)
        (λ at. own_absent k phases j (λ is. fine.1.own (subst (λ n. At n M) (touched_index d j at ∙ is) (deed_at cast stores choices updates s))))
    mail_step (arrives {k = k} {t = t} {phases = phases} {M = M} {q = q} b e f) fine j =
        ap (λ x. first_of_two x (mail M j))
        (gate_put k phases q Sent (backing_key k t q) Done (ap (letter k q) e) (backing_letter k t q b) (backing_peer k t q (fine.1.known q (ap waits e)).0) j)
        ∙ put_over (key_eq j (backing_key k t q)) Done (own_mail k phases j) (mail M j)
    mail_step (gathers {k = k} {t = t} {phases = phases} {M = M} {q = q} b e f) fine j =
        ap (λ x. first_of_two x (mail M j))
        (gate_take k phases q Gone (backing_key k t q) Done (ap (letter k q) f ∙ backing_letter k t q b) refl (backing_peer k t q (fine.1.known q (ap waits f)).0) j)
        ∙ take_over (key_eq j (backing_key k t q)) (own_mail k phases j) (mail M j)
        (λ is. inside_absent k phases M fine j (ap (λ (n : Key). n.index) (key_same j (backing_key k t q) is)))
    mail_step (keeps e) fine j = refl
    mail_step (replaces e) fine j = refl
    mail_step (frees {i = i} {r = r} {I = I} {extra = extra} {props = props} {level = level} {begin = begin} {B = B} {phases = phases} {M = M} {q = q} c e) fine j =
        ap (λ x. first_of_two x None)
        (gate_put (Releasing i r I extra props level) all_wait q Told (key r q i Out) Done refl refl (telling_peer (Releasing i r I extra props level) q) j)
        ∙ first_then_none (if key_eq j (key r q i Out) then Some Done else None)
        ∙ ap (λ x. if key_eq j (key r q i Out) then Some Done else x) (sym (closed_mail (Scoped i r I extra props level begin B) phases M fine c j))
