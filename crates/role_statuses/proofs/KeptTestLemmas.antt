-- Marks hang together exactly where the test says so.
use Rattle.std.proofs.Common.{◌≡◌, ◌+◌, ◌<◌, ◌≤◌, ℕ, zero, suc, Bool, true, false, ◌&&◌, refl, ap, ap₂, ◌∙◌, sym, arith, ⊎_elim}
use Rattle.std.specs.Prelude.{nat_lt}
use Rattle.std.proofs.lemmas.Bool.{and_from, and_parts, cases_Bool}
use Rattle.std.proofs.lemmas.Bool.Decides.{nat_tests}
use Rattle.dioc_terms.specs.declared.names.Role.{Role}
use Rattle.dioc_terms.specs.Processes.{Process, Seq, Par, IfLead, IfFollow, WhileLead, WhileFollow, ScopeLead, ScopeFollow}
use Rattle.role_statuses.specs.Flat.{Marks, IsFresh, PartsStand, Stands, inner, mark_of, size}
use Rattle.role_statuses.specs.Kept.{kept, marked}
use Rattle.role_statuses.specs.KeptTests.{KeptIsTested, agrees, all_untouched, parts_say, says_over}
use Rattle.role_statuses.specs.Local.{is_untouched}
use Rattle.role_statuses.specs.Marks.{Mark}
use Rattle.role_statuses.specs.Marks as mark
use Rattle.role_statuses.specs.Sound.{is_sound}
use Rattle.role_statuses.specs.Statuses.{Status, Untouched, Finished, First, Second, Both, Telling, Branch, Body, is_over}
use Rattle.role_statuses.proofs.SpotLemmas.{not_true}

untouched_is : (m : Mark) → is_untouched m ≡ true → m ≡ mark.Untouched
untouched_is mark.Untouched h = refl
untouched_is m h = cc

agrees_says : (l t : Bool) → agrees l t ≡ true → l ≡ t
agrees_says true t h = sym h
agrees_says false false h = refl
agrees_says false true h = cc

agrees_said : (l t : Bool) → l ≡ t → agrees l t ≡ true
agrees_said true t h = sym h
agrees_said false false h = refl
agrees_said false true h = cc

test_below : (i j : ℕ) → nat_lt i j ≡ true → i < j
test_below i j h = grind (arith, nat_tests)

test_last : (i j : ℕ) → nat_lt i j ≡ false → i ≤ j → i ≡ j
test_last i j h g = grind (arith, nat_tests)

-- what a mark says
marked_first : (m : Mark) (u v x : Status) → marked m u v ≡ First x → u ≡ x
marked_first (mark.Branch true) u v x h = cc
marked_first (mark.Branch false) u v x h = cc
marked_first mark.First u v x h = cc
marked_first m u v x h = cc

marked_second : (m : Mark) (u v x : Status) → marked m u v ≡ Second x → v ≡ x
marked_second (mark.Branch true) u v x h = cc
marked_second (mark.Branch false) u v x h = cc
marked_second mark.Second u v x h = cc
marked_second m u v x h = cc

marked_left : (m : Mark) (u v x y : Status) → marked m u v ≡ Both x y → u ≡ x
marked_left (mark.Branch true) u v x y h = cc
marked_left (mark.Branch false) u v x y h = cc
marked_left (mark.Both l r) u v x y h = cc
marked_left m u v x y h = cc

marked_right : (m : Mark) (u v x y : Status) → marked m u v ≡ Both x y → v ≡ y
marked_right (mark.Branch true) u v x y h = cc
marked_right (mark.Branch false) u v x y h = cc
marked_right (mark.Both l r) u v x y h = cc
marked_right m u v x y h = cc

marked_yes : (m : Mark) (u v x : Status) → marked m u v ≡ Branch true x → u ≡ x
marked_yes (mark.Branch true) u v x h = cc
marked_yes (mark.Branch false) u v x h = cc
marked_yes m u v x h = cc

marked_no : (m : Mark) (u v x : Status) → marked m u v ≡ Branch false x → v ≡ x
marked_no (mark.Branch true) u v x h = cc
marked_no (mark.Branch false) u v x h = cc
marked_no m u v x h = cc

marked_body : (m : Mark) (u v x : Status) → marked m u v ≡ Body x → u ≡ x
marked_body (mark.Branch true) u v x h = cc
marked_body (mark.Branch false) u v x h = cc
marked_body mark.Body u v x h = cc
marked_body m u v x h = cc

module _ (me : Role) where
  -- a mark is that of the status that it says
  both_says : (l r : Bool) (u v : Status) (P : Process) → is_sound me (Both u v) P ≡ true → says_over me (mark.Both l r) (Both u v) P ≡ true
      → mark.Both l r ≡ mark_of me (Both u v) P
  both_says l r u v (Par P Q) sound h =
      let k = and_parts (agrees l (is_over me u P)) (agrees r (is_over me v Q)) h in
      ap₂ mark.Both (agrees_says l (is_over me u P) k.0) (agrees_says r (is_over me v Q) k.1)
  both_says l r u v P sound h = cc

  own_says : (m : Mark) (u v : Status) (P : Process) → is_sound me (marked m u v) P ≡ true → says_over me m (marked m u v) P ≡ true
      → m ≡ mark_of me (marked m u v) P
  own_says mark.Untouched u v P sound h = refl
  own_says mark.Finished u v P sound h = refl
  own_says mark.First u v P sound h = refl
  own_says mark.Second u v P sound h = refl
  own_says (mark.Both l r) u v P sound h = both_says l r u v P sound h
  own_says (mark.Telling f k l ms) u v P sound h = refl
  own_says (mark.Branch true) u v P sound h = refl
  own_says (mark.Branch false) u v P sound h = refl
  own_says mark.Body u v P sound h = refl
  own_says (mark.Gathering k ks) u v P sound h = refl
  own_says mark.Ending u v P sound h = refl
  own_says (mark.Left k l ms) u v P sound h = refl
  own_says (mark.Waiting k ks) u v P sound h = refl
  own_says (mark.Became R) u v P sound h = refl

  both_said : (l r : Bool) (x y : Status) (P Q : Process) → mark.Both l r ≡ mark.Both (is_over me x P) (is_over me y Q)
      → (agrees l (is_over me x P) && agrees r (is_over me y Q)) ≡ true
  both_said l r x y P Q h = and_from (agrees l (is_over me x P)) (agrees r (is_over me y Q))
      (agrees_said l (is_over me x P) (left_is h)) (agrees_said r (is_over me y Q) (right_is h))
    where
      left_is : {a b c d : Bool} → mark.Both a b ≡ mark.Both c d → a ≡ c
      left_is h = cc

      right_is : {a b c d : Bool} → mark.Both a b ≡ mark.Both c d → b ≡ d
      right_is h = cc

  own_said : (m : Mark) (x : Status) (P : Process) → m ≡ mark_of me x P → says_over me m x P ≡ true
  own_said (mark.Both l r) (Both x y) (Par P Q) h = both_said l r x y P Q h
  own_said (mark.Both l r) x P h = refl
  own_said m x P h = refl

module _ (me : Role) (marks : Marks) where
  fresh_says : (b n : ℕ) → all_untouched marks b n ≡ true → IsFresh marks b n
  fresh_says b zero h = record { fresh = λ k l u. absurd (omega arith) }
  fresh_says b (suc n) h =
      let both = and_parts (is_untouched (marks (b + n))) (all_untouched marks b n) h in
      let rest : IsFresh marks b n = fresh_says b n both.1 in record {
        fresh = λ k l u. ⊎_elim
            (λ below. rest.fresh k l (test_below k (b + n) below))
            (λ last. ap marks (test_last k (b + n) last (omega (arith, u))) ∙ untouched_is (marks (b + n)) both.0)
            (cases_Bool (nat_lt k (b + n)));
      }

  fresh_said : (b n : ℕ) → IsFresh marks b n → all_untouched marks b n ≡ true
  fresh_said b zero h = refl
  fresh_said b (suc n) h = and_from (is_untouched (marks (b + n))) (all_untouched marks b n)
      (ap is_untouched (h.fresh (b + n) (omega arith) (omega arith)))
      (fresh_said b n (record { fresh = λ k l u. h.fresh k l (omega arith) }))

  -- the status of a process is what its own mark says
  pub record IsMarked (b : ℕ) (P : Process) : Type 0 where
    pub first : Status
    pub second : Status
    pub is : kept marks b P ≡ marked (marks (b + inner P)) first second

  is_marked : (b : ℕ) (P : Process) → IsMarked b P
  is_marked b (Seq P Q) = record { first = kept marks b P; second = kept marks (b + size P) Q; is = refl }
  is_marked b (Par P Q) = record { first = kept marks b P; second = kept marks (b + size P) Q; is = refl }
  is_marked b (IfLead i g others P Q) = record { first = kept marks b P; second = kept marks (b + size P) Q; is = refl }
  is_marked b (IfFollow i leader P Q) = record { first = kept marks b P; second = kept marks (b + size P) Q; is = refl }
  is_marked b (WhileLead i g others P) = record { first = kept marks b P; second = Finished; is = refl }
  is_marked b (WhileFollow i leader P) = record { first = kept marks b P; second = Finished; is = refl }
  is_marked b (ScopeLead head others P) = record { first = kept marks b P; second = Finished; is = refl }
  is_marked b (ScopeFollow i leader P) = record { first = kept marks b P; second = Finished; is = refl }
  is_marked b P = record { first = Finished; second = Finished; is = refl }

  own_mark : (b : ℕ) (x : Status) (P : Process) → kept marks b P ≡ x → is_sound me x P ≡ true → says_over me (marks (b + inner P)) x P ≡ true
      → marks (b + inner P) ≡ mark_of me x P
  own_mark b x P e sound h =
      let m : IsMarked b P = is_marked b P in
      let is : x ≡ marked (marks (b + inner P)) m.first m.second = sym e ∙ m.is in
      own_says me (marks (b + inner P)) m.first m.second P (ap (λ z. is_sound me z P) (sym is) ∙ sound) (ap (λ z. says_over me (marks (b + inner P)) z P) (sym is) ∙ h)
      ∙ ap (λ z. mark_of me z P) (sym is)

  -- a part that says its status, where its own parts do
  one : (b : ℕ) (x : Status) (P : Process) → (is_sound me x P ≡ true → parts_say me marks b x P ≡ true → PartsStand me marks b x P)
      → kept marks b P ≡ x → is_sound me x P ≡ true → (says_over me (marks (b + inner P)) x P && parts_say me marks b x P) ≡ true → Stands me marks b x P
  one b x P rest e sound h = let k = and_parts (says_over me (marks (b + inner P)) x P) (parts_say me marks b x P) h in (own_mark b x P e sound k.0, rest sound k.1)

  pub parts-say : (b : ℕ) (x : Status) (P : Process) → kept marks b P ≡ x → is_sound me x P ≡ true → parts_say me marks b x P ≡ true → PartsStand me marks b x P
  parts-say b Untouched P e s h = fresh_says b (inner P) h
  parts-say b (First x) (Seq P Q) e s h =
      let k = and_parts (says_over me (marks (b + inner P)) x P && parts_say me marks b x P) (all_untouched marks (b + size P) (size Q)) h in
      let here : kept marks b P ≡ x = marked_first (marks (b + (size P + size Q))) (kept marks b P) (kept marks (b + size P) Q) x e in
      (one b x P (parts-say b x P here) here (not_true (is_over me x P) (is_sound me x P) s).1 k.0, fresh_says (b + size P) (size Q) k.1)
  parts-say b (Second x) (Seq P Q) e s h =
      let here : kept marks (b + size P) Q ≡ x = marked_second (marks (b + (size P + size Q))) (kept marks b P) (kept marks (b + size P) Q) x e in
      one (b + size P) x Q (parts-say (b + size P) x Q here) here s h
  parts-say b (Both x y) (Par P Q) e s h =
      let k = and_parts (says_over me (marks (b + inner P)) x P && parts_say me marks b x P) (says_over me (marks (b + size P + inner Q)) y Q && parts_say me marks (b + size P) y Q) h in
      let sides = and_parts (is_sound me x P) (is_sound me y Q) s in
      let left : kept marks b P ≡ x = marked_left (marks (b + (size P + size Q))) (kept marks b P) (kept marks (b + size P) Q) x y e in
      let right : kept marks (b + size P) Q ≡ y = marked_right (marks (b + (size P + size Q))) (kept marks b P) (kept marks (b + size P) Q) x y e in
      (one b x P (parts-say b x P left) left sides.0 k.0, one (b + size P) y Q (parts-say (b + size P) y Q right) right sides.1 k.1)
  parts-say b (Telling f k l ms) (IfLead i g others P Q) e s h = fresh_says b (size P + size Q) h
  parts-say b (Branch true x) (IfLead i g others P Q) e s h =
      let here : kept marks b P ≡ x = marked_yes (marks (b + (size P + size Q))) (kept marks b P) (kept marks (b + size P) Q) x e in
      one b x P (parts-say b x P here) here s h
  parts-say b (Branch false x) (IfLead i g others P Q) e s h =
      let here : kept marks (b + size P) Q ≡ x = marked_no (marks (b + (size P + size Q))) (kept marks b P) (kept marks (b + size P) Q) x e in
      one (b + size P) x Q (parts-say (b + size P) x Q here) here s h
  parts-say b (Branch true x) (IfFollow i leader P Q) e s h =
      let here : kept marks b P ≡ x = marked_yes (marks (b + (size P + size Q))) (kept marks b P) (kept marks (b + size P) Q) x e in
      one b x P (parts-say b x P here) here s h
  parts-say b (Branch false x) (IfFollow i leader P Q) e s h =
      let here : kept marks (b + size P) Q ≡ x = marked_no (marks (b + (size P + size Q))) (kept marks b P) (kept marks (b + size P) Q) x e in
      one (b + size P) x Q (parts-say (b + size P) x Q here) here s h
  parts-say b (Telling f k l ms) (WhileLead i g others P) e s h = fresh_says b (size P) h
  parts-say b (Telling f k l ms) (ScopeLead head others P) e s h = fresh_says b (size P) h
  parts-say b (Body x) (WhileLead i g others P) e s h =
      let here : kept marks b P ≡ x = marked_body (marks (b + size P)) (kept marks b P) Finished x e in
      one b x P (parts-say b x P here) here (not_true (is_over me x P) (is_sound me x P) s).1 h
  parts-say b (Body x) (WhileFollow i leader P) e s h =
      let here : kept marks b P ≡ x = marked_body (marks (b + size P)) (kept marks b P) Finished x e in
      one b x P (parts-say b x P here) here (not_true (is_over me x P) (is_sound me x P) s).1 h
  parts-say b (Body x) (ScopeLead head others P) e s h =
      let here : kept marks b P ≡ x = marked_body (marks (b + size P)) (kept marks b P) Finished x e in
      one b x P (parts-say b x P here) here (not_true (is_over me x P) (is_sound me x P) s).1 h
  parts-say b (Body x) (ScopeFollow i leader P) e s h =
      let here : kept marks b P ≡ x = marked_body (marks (b + size P)) (kept marks b P) Finished x e in
      one b x P (parts-say b x P here) here (not_true (is_over me x P) (is_sound me x P) s).1 h
  parts-say b (First x) P e s h = cc
  parts-say b (Second x) P e s h = cc
  parts-say b (Both x y) P e s h = cc
  parts-say b (Branch f x) P e s h = cc
  parts-say b (Body x) P e s h = cc
  parts-say b x P e s h = tt

  one_said : (b : ℕ) (x : Status) (P : Process) → (PartsStand me marks b x P → parts_say me marks b x P ≡ true) → Stands me marks b x P
      → (says_over me (marks (b + inner P)) x P && parts_say me marks b x P) ≡ true
  one_said b x P rest h = and_from (says_over me (marks (b + inner P)) x P) (parts_say me marks b x P) (own_said me (marks (b + inner P)) x P h.0) (rest h.1)

  pub parts-said : (b : ℕ) (x : Status) (P : Process) → PartsStand me marks b x P → parts_say me marks b x P ≡ true
  parts-said b Untouched P h = fresh_said b (inner P) h
  parts-said b (First x) (Seq P Q) h = and_from (says_over me (marks (b + inner P)) x P && parts_say me marks b x P) (all_untouched marks (b + size P) (size Q))
      (one_said b x P (parts-said b x P) h.0) (fresh_said (b + size P) (size Q) h.1)
  parts-said b (Second x) (Seq P Q) h = one_said (b + size P) x Q (parts-said (b + size P) x Q) h
  parts-said b (Both x y) (Par P Q) h =
      and_from (says_over me (marks (b + inner P)) x P && parts_say me marks b x P) (says_over me (marks (b + size P + inner Q)) y Q && parts_say me marks (b + size P) y Q)
      (one_said b x P (parts-said b x P) h.0) (one_said (b + size P) y Q (parts-said (b + size P) y Q) h.1)
  parts-said b (Telling f k l ms) (IfLead i g others P Q) h = fresh_said b (size P + size Q) h
  parts-said b (Branch true x) (IfLead i g others P Q) h = one_said b x P (parts-said b x P) h
  parts-said b (Branch false x) (IfLead i g others P Q) h = one_said (b + size P) x Q (parts-said (b + size P) x Q) h
  parts-said b (Branch true x) (IfFollow i leader P Q) h = one_said b x P (parts-said b x P) h
  parts-said b (Branch false x) (IfFollow i leader P Q) h = one_said (b + size P) x Q (parts-said (b + size P) x Q) h
  parts-said b (Telling f k l ms) (WhileLead i g others P) h = fresh_said b (size P) h
  parts-said b (Telling f k l ms) (ScopeLead head others P) h = fresh_said b (size P) h
  parts-said b (Body x) (WhileLead i g others P) h = one_said b x P (parts-said b x P) h
  parts-said b (Body x) (WhileFollow i leader P) h = one_said b x P (parts-said b x P) h
  parts-said b (Body x) (ScopeLead head others P) h = one_said b x P (parts-said b x P) h
  parts-said b (Body x) (ScopeFollow i leader P) h = one_said b x P (parts-said b x P) h
  parts-said b x P h = refl

pub kept-is_tested : KeptIsTested
kept-is_tested = record {
  says = λ me marks W h.
      let k = and_parts (says_over me (marks (0 + inner W)) (kept marks 0 W) W && parts_say me marks 0 (kept marks 0 W) W) (is_sound me (kept marks 0 W) W) h in record {
        stands = one me marks 0 (kept marks 0 W) W (parts-say me marks 0 (kept marks 0 W) W refl) refl k.1 k.0;
        sound = k.1;
      };
  said = λ me marks W k. and_from (says_over me (marks (0 + inner W)) (kept marks 0 W) W && parts_say me marks 0 (kept marks 0 W) W) (is_sound me (kept marks 0 W) W)
      (one_said me marks 0 (kept marks 0 W) W (parts-said me marks 0 (kept marks 0 W) W) k.stands) k.sound;
}
