-- What a mark makes of what a home keeps.
use Rattle.std.proofs.Common.{◌≡◌, ◌+◌, ℕ, zero, suc, List, [], ◌∷◌, length, Bool, true, Option, Some, None, slice_get, refl, sym, ap, ◌∙◌, subst, ⊎_elim, inl, inr, arith, zero-add}
use Rattle.std.specs.List.{position, position_from}
use Rattle.std.specs.Prelude.{◌⊎◌, slice_set}
use Rattle.std.proofs.lemmas.Bool.{cases_Bool, cond-true, cond-false}
use Rattle.std.proofs.lemmas.Iterator.Adapters.{position_from-zero}
use Rattle.std.proofs.lemmas.List.{length-set, set_past}
use Rattle.dioc_terms.specs.declared.entries.Entry.{Entry}
use Rattle.dioc_terms.specs.declared.names.Role.{Role}
use Rattle.dioc_terms.specs.Equality.{role_eq}
use Rattle.dioc_terms.specs.Plain.{PlainBundle}
use Rattle.marked_laws.proofs.Equality.{role_same}
use Rattle.marked_laws.proofs.Shapes.{none_some, some_same}
use Rattle.role_mailbox.specs.declared.mail.Mail.{Mail}
use Rattle.net_core.specs.Standing.{ScriptedChange}
use Rattle.rule_book.specs.declared.book.Book.{Book as KeptBook}
use Rattle.stage.specs.declared.faults.Why.{Why}
use Rattle.stage.specs.Homes.{HasEnded, HomeState, IsHome, MarksHold}
use Rattle.stage.specs.Marks.{with_finished}
use Rattle.stage.specs.Owners.{cast_place}

module _ (q : Role) where
  from_is : (cast : List Role) (n i : ℕ) → position_from (role_eq q) n cast ≡ Some i → i ≡ n + cast_place cast q
  from_is [] n i h = absurd (none_some h)
  from_is (r ∷ rs) n i h = ⊎_elim
      (λ here. let place = cond-true (role_eq q r) 0 (suc (cast_place rs q)) here in
      omega (arith, some_same (sym (cond-true (role_eq q r) (Some n) (position_from (role_eq q) (n + 1) rs) here) ∙ h), place))
      (λ there. let place = cond-false (role_eq q r) 0 (suc (cast_place rs q)) there in
      let later = from_is rs (n + 1) i (sym (cond-false (role_eq q r) (Some n) (position_from (role_eq q) (n + 1) rs) there) ∙ h) in
      omega (arith, later, place))
      (cases_Bool (role_eq q r))

  some_none : {A : Type 0} {x : A} → Some x ≡ None → ⊥
  some_none h = cc

  from_past : (cast : List Role) (n : ℕ) → position_from (role_eq q) n cast ≡ None → cast_place cast q ≡ length cast
  from_past [] n h = refl
  from_past (r ∷ rs) n h = ⊎_elim
      (λ here. absurd (some_none (sym (cond-true (role_eq q r) (Some n) (position_from (role_eq q) (n + 1) rs) here) ∙ h)))
      (λ there. cond-false (role_eq q r) 0 (suc (cast_place rs q)) there
      ∙ ap suc (from_past rs (n + 1) (sym (cond-false (role_eq q r) (Some n) (position_from (role_eq q) (n + 1) rs) there) ∙ h)))
      (cases_Bool (role_eq q r))

  -- the place of a role is where it is first found
  pub place_is : (cast : List Role) (i : ℕ) → position (role_eq q) cast ≡ Some i → i ≡ cast_place cast q
  place_is cast i h = from_is cast 0 i (sym (position_from-zero (role_eq q) cast) ∙ h) ∙ zero-add (cast_place cast q)

  pub place_past : (cast : List Role) → position (role_eq q) cast ≡ None → cast_place cast q ≡ length cast
  place_past cast h = from_past cast 0 (sym (position_from-zero (role_eq q) cast) ∙ h)

-- a mark is one that was there, or the one that was set
set_or_was : (marks : List Bool) (place i : ℕ) (t : Bool) → slice_get (slice_set marks place true) i ≡ Some t → ((i ≡ place) ⊎ (slice_get marks i ≡ Some t))
set_or_was [] place i t h = inr h
set_or_was (m ∷ ms) zero zero t h = inl refl
set_or_was (m ∷ ms) zero (suc i) t h = inr h
set_or_was (m ∷ ms) (suc place) zero t h = inr h
set_or_was (m ∷ ms) (suc place) (suc i) t h = ⊎_elim (λ same. inl (ap suc same)) (λ was. inr was) (set_or_was ms place i t h)

-- a role at the place of another is that role
at_place : (q r : Role) (cast : List Role) → slice_get cast (cast_place cast q) ≡ Some r → r ≡ q
at_place q r [] at = absurd (none_some at)
at_place q r (x ∷ xs) at = ⊎_elim
    (λ here. some_same (sym at ∙ ap (slice_get (x ∷ xs)) (cond-true (role_eq q x) 0 (suc (cast_place xs q)) here)) ∙ sym (role_same q x here))
    (λ there. at_place q r xs (sym (ap (slice_get (x ∷ xs)) (cond-false (role_eq q x) 0 (suc (cast_place xs q)) there)) ∙ at))
    (cases_Bool (role_eq q x))

-- the marks hold with one more, of a role that has ended
marks_more : (b : PlainBundle) (limit : ℕ) (H : List Entry) (finished : List Bool) (stopped : Option Why) → MarksHold b limit H finished stopped
    → (q : Role) → HasEnded b H q → MarksHold b limit H (slice_set finished (cast_place b.cast q) true) stopped
marks_more b limit H finished stopped hold q done = record {
  marks = length-set finished (cast_place b.cast q) true ∙ hold.marks;
  finish = λ i r here mark. ⊎_elim
      (λ same. subst (HasEnded b H) (sym (at_place q r b.cast (ap (slice_get b.cast) (sym same) ∙ here))) done)
      (λ was. hold.finish i r here was)
      (set_or_was finished (cast_place b.cast q) i true mark);
  stop = hold.stop;
}

-- the mark that is set is at the role's place, and a role that isn't of the cast is marked nowhere
pub mark_set : (q : Role) (cast : List Role) (finished : List Bool) (i : ℕ) → position (role_eq q) cast ≡ Some i → slice_set finished i true ≡ slice_set finished (cast_place cast q) true
mark_set q cast finished i found = ap (λ place. slice_set finished place true) (place_is q cast i found)

pub mark_nowhere : (q : Role) (cast : List Role) (finished : List Bool) → length finished ≡ length cast → position (role_eq q) cast ≡ None → finished ≡ slice_set finished (cast_place cast q) true
mark_nowhere q cast finished same none =
    let past = place_past q cast none in
    sym (set_past finished (cast_place cast q) true (omega (arith, past, same)))

module _ (of : PlainBundle) (limit : ℕ) (H : List Entry) (cast : List Role) (names : List (List ℕ)) (mail : Mail) (book : KeptBook) (script : List ScriptedChange) (count : ℕ) (finished : List Bool) (stopped : Option Why)
    (is : IsHome of limit H cast names mail book script count finished stopped) where
  -- each role of the cast has a place for its mark
  pub marks_fit : length finished ≡ length cast
  marks_fit = is.marks.marks ∙ ap length (sym is.same_cast)

  marks_same : (q : Role) (finished' : List Bool) → finished' ≡ slice_set finished (cast_place cast q) true → finished' ≡ slice_set finished (cast_place of.cast q) true
  marks_same q finished' set = set ∙ ap (λ l. slice_set finished (cast_place l q) true) is.same_cast

  -- what a home keeps once the role is marked
  pub home_finished : (q : Role) → HasEnded of H q → (finished' : List Bool) → finished' ≡ slice_set finished (cast_place cast q) true
      → IsHome of limit H cast names mail book script count finished' stopped
  home_finished q done finished' set = record {
    shared = is.shared;
    same_cast = is.same_cast;
    same_names = is.same_names;
    marks = subst (λ l. MarksHold of limit H l stopped) (sym (marks_same q finished' set)) (marks_more of limit H finished stopped is.marks q done);
  }

  abbrev shown_as : List Bool → HomeState
  shown_as marks = record { bundle = of; limit = limit; history = H; finished = marks; stopped = stopped }

  -- and what it then shows
  pub shows_finished : (q : Role) (finished' : List Bool) → finished' ≡ slice_set finished (cast_place cast q) true
      → shown_as finished' ≡ with_finished (shown_as finished) q
  shows_finished q finished' set = ap shown_as (marks_same q finished' set)
