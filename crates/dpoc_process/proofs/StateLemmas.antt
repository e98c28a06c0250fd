-- What a role state makes ready and shows.
use Rattle.std.proofs.Common.{◌≡◌, ℕ, zero, suc, List, [], ◌∷◌, Bool, true, false, ◌||◌, Option, Some, None, refl, sym, ap, ap₂, ◌∙◌, slice_get, subst}
use Rattle.std.specs.Option.{is_some, option_and_then}
use Rattle.std.specs.Prelude.{option_map}
use Rattle.dioc_terms.specs.declared.names.Role.{Role}
use Rattle.dioc_terms.specs.declared.entries.Act.{Act}
use Rattle.dioc_terms.specs.EqualityLemmas.{act_eq-decides}
use Rattle.dioc_terms.specs.Equality.{act_eq}
use Rattle.dioc_terms.specs.Processes.{Process, Load, Val, Flag, Keep, Part, Done, load, noted}
use Rattle.dioc_terms.specs.Stores.{Store}
use Rattle.dpoc_process.proofs.ActingLemmas.{acting-offered}
use Rattle.dpoc_process.proofs.LeafLemmas.{advances-are_steps, prepared-is_done}
use Rattle.dpoc_process.specs.declared.runs.Prepared.{Prepared}
use Rattle.dpoc_process.specs.declared.runs.Shown.{Shown}
use Rattle.dpoc_process.specs.Acting.{acting, lead_of, lead_head}
use Rattle.dpoc_process.specs.Changes.{replaced}
use Rattle.dpoc_process.specs.Growth.{Growth, Write, value_at, growth, grown, write_at, handed_value, with_written}
use Rattle.dpoc_process.specs.Handed.{Handed, Brings, StandsFor, IsEnabled}
use Rattle.dpoc_process.specs.KeptReady.{IsPreparedFor, IsShownFor}
use Rattle.dpoc_process.specs.RoleLaws.{local}
use Rattle.dpoc_process.specs.LocalStates.{LocalState}
use Rattle.dpoc_process.specs.RoleSteps.{IsPrepared, IsShown, IsStep, entry_before, sent}
use Rattle.dpoc_process.specs.Shows.{boxed_process, head_shown, noted_message, process_in, put_message}
use Rattle.process_steps.specs.Steps.{Deed, Puts, Takes, Sets, Inputs, Picks, Chooses, Given, offers, is_offered}

either_way : (t u : Bool) → u ≡ true → (t || u) ≡ true
either_way true u h = refl
either_way false u h = h

same_some : {X : Type 0} {x y : X} → Some x ≡ Some y → x ≡ y
same_some e = cc

-- an act that stands among some is one of them
pub stands-offered : (acts : List Act) (number : ℕ) (a : Act) → slice_get acts number ≡ Some a
    → is_offered a acts ≡ true
stands-offered [] number a there = cc
stands-offered (b ∷ acts) zero a there =
    ap (λ t. t || is_offered a acts) ((act_eq-decides a b).1 (sym (same_some there)))
stands-offered (b ∷ acts) (suc number) a there =
    either_way (act_eq a b) (is_offered a acts) (stands-offered acts number a there)

-- a note and the process that comes with it are the message
pub noted-whole : (l : Load) → noted_message (noted l) (process_in (Some l)) ≡ l
noted-whole (Val v) = refl
noted-whole (Flag b) = refl
noted-whole Keep = refl
noted-whole (Part n P) = refl
noted-whole Done = refl

-- what a deed sends is in its entry, but for the process
pub sent-shown : (d : Deed) → put_message (entry_before d) (process_in (sent d)) ≡ sent d
sent-shown (Puts k l) = ap Some (noted-whole l)
sent-shown (Takes k x l) = refl
sent-shown (Sets i r x v) = refl
sent-shown (Inputs i r x v) = refl
sent-shown (Picks i r b) = refl
sent-shown (Chooses i r c) = refl

-- what is shown with the act is shown without it
pub prepared-shows : (s : LocalState) (a : Act) (p : Prepared) (q : Shown) → q.entry ≡ p.entry
    → head_shown q ≡ p.head → boxed_process q.part ≡ process_in (option_map load p.payload)
    → IsPrepared s a p → IsShown s a q
prepared-shows s a p q entry head part is = record {
  can_act = is.can_act;
  head = head ∙ is.head;
  entry = λ given d P does. entry ∙ is.entry given d P does;
  message = λ given d P does.
      ap₂ put_message (entry ∙ is.entry given d P does)
      (part ∙ ap process_in (is.payload given d P does)) ∙ sent-shown d;
}

module _ (me : Role) (a : Act) (P : Process) where
  pub offered_where_acting : {R : Process} → acting me a P ≡ Some R → is_offered a (offers me P)
      ≡ true
  offered_where_acting acts = sym (acting-offered me a P) ∙ ap is_some acts

  pub not_offered : acting me a P ≡ None → is_offered a (offers me P) ≡ false
  not_offered none = sym (acting-offered me a P) ∙ ap is_some none

  pub acting_nowhere : is_offered a (offers me P) ≡ false → acting me a P ≡ None
  acting_nowhere none = nothing (acting me a P) (acting-offered me a P ∙ none)
    where
      nothing : (o : Option Process) → is_some o ≡ false → o ≡ None
      nothing None h = refl
      nothing (Some R) h = cc

module _ (me : Role) (s : Store) (a : Act) (P : Process) {R : Process}
    (acts : acting me a P ≡ Some R) where
  -- what is shown of the part is what is shown of the process
  pub shows-prepared : {p : Prepared} → IsPreparedFor me a (value_at s R) R p → IsPrepared (local me P s) a p
  shows-prepared shows = record {
    act = shows.act;
    can_act = offered_where_acting me a P acts;
    head = shows.head ∙ ap (λ part. option_map lead_head (option_and_then lead_of part)) (sym acts);
    entry = λ given d Q does. shows.entry ∙ (prepared-is_done me s a P R given d Q acts does).entry;
    payload = λ given d Q does. shows.payload ∙ (prepared-is_done me s a P R given d Q acts
        does).payload;
  }

  pub shows-shown : {p : Shown} → IsShownFor me (value_at s R) R p → IsShown (local me P s) a p
  shows-shown shows = record {
    can_act = offered_where_acting me a P acts;
    head = shows.head ∙ ap (λ part. option_map lead_head (option_and_then lead_of part)) (sym acts);
    entry = λ given d Q does. shows.entry ∙ (prepared-is_done me s a P R given d Q acts does).entry;
    message = λ given d Q does. shows.message ∙ (prepared-is_done me s a P R given d Q acts
        does).payload;
  }

  -- a change that grows as the one that was made ready, and what is written so, are the step
  pub state-steps : (h : Handed) (g : Growth) (w : Write) → IsEnabled (local me P s) a h → g
      ≡ growth me (value_at s R) R → w ≡ write_at (value_at s R) R
      → (given : Given) → Brings (local me P s) a h given
      → IsStep (local me P s) a given (local me (replaced me a P (grown g h))
      (with_written w (handed_value h) s))
  state-steps h g w can is_growth is_write given brings =
      let stands : StandsFor me (lead_of R) h given = subst
      (λ part. StandsFor me (option_and_then lead_of part) h given) acts brings in
      subst (IsStep (local me P s) a given)
      (ap₂ (λ g w. local me (replaced me a P (grown g h)) (with_written w (handed_value h) s)) (sym is_growth)
      (sym is_write))
      (advances-are_steps me s a P R h given acts can stands)
