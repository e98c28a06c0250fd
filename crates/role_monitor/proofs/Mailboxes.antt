-- The messages to one role, among those of all.
use Rattle.std.proofs.Common.{◌≡◌, List, [], ◌∷◌, ◌++◌, map, Bool, true, false, not, Some, None, if◌then◌else◌, refl, sym, ap, ◌∙◌, subst, ⊎_elim}
use Rattle.std.proofs.lemmas.Bool.{cases_Bool, cond-true, cond-false, and_parts, both_ways, false_from_ne_true, not-true, or_parts}
use Rattle.dioc_terms.specs.declared.names.Role.{Role}
use Rattle.dioc_terms.specs.declared.processes.Key.{Key}
use Rattle.dioc_terms.specs.Equality.{role_eq, key_eq}
use Rattle.dioc_terms.specs.Plain.{Setting}
use Rattle.dioc_terms.specs.Processes.{Load}
use Rattle.marked_laws.specs.Laws.{key_among, distinct_keys}
use Rattle.marked_laws.specs.MailLaws.{HasDistinctKeys}
use Rattle.network_steps.specs.Network.{pending_at, without}
use Rattle.marked_laws.proofs.Equality.{key_same, key_itself}
use Rattle.marked_laws.proofs.Shapes.{none_some, some_same}
use Rattle.role_monitor.specs.declared.updates.Update.{Update}
use Rattle.role_monitor.proofs.Goods.{Genuine, genuine_still}
use Rattle.role_monitor.proofs.Listings.{Extends}

abbrev pub to_role : Role → List (Key × Load) → List (Key × Load)
to_role r [] = []
to_role r (message ∷ rest) = if role_eq (message.0).to r then message ∷ to_role r rest else to_role r rest

-- whether the message is to the role
abbrev is_to : Role → Key × Load → Bool
is_to r message = role_eq (message.0).to r

kept : (r : Role) (message : Key × Load) (rest : List (Key × Load)) → is_to r message ≡ true → to_role r (message ∷ rest) ≡ message ∷ to_role r rest
kept r message rest h = cond-true (is_to r message) (message ∷ to_role r rest) (to_role r rest) h

left_out : (r : Role) (message : Key × Load) (rest : List (Key × Load)) → is_to r message ≡ false → to_role r (message ∷ rest) ≡ to_role r rest
left_out r message rest h = cond-false (is_to r message) (message ∷ to_role r rest) (to_role r rest) h

-- a key to the role is none of a message to another one
other_key : (r : Role) (k : Key) (message : Key × Load) (t : Bool) → role_eq k.to r ≡ not t → is_to r message ≡ t → key_eq k message.0 ≡ false
other_key r k message t mine is = false_from_ne_true (key_eq k message.0) (λ same. clash t (sym is ∙ (sym (ap (λ (j : Key). role_eq j.to r) (key_same k message.0 same)) ∙ mine)))
  where
    clash : (t : Bool) → t ≡ not t → ⊥
    clash true h = cc
    clash false h = cc

pub to_role-at : (r : Role) (k : Key) (pending : List (Key × Load)) → role_eq k.to r ≡ true → pending_at k (to_role r pending) ≡ pending_at k pending
to_role-at r k [] mine = refl
to_role-at r k (message ∷ rest) mine = ⊎_elim
    (λ yes. ap (pending_at k) (kept r message rest yes) ∙ ap (λ o. if key_eq k message.0 then Some message.1 else o) (to_role-at r k rest mine))
    (λ no. ap (pending_at k) (left_out r message rest no)
    ∙ (to_role-at r k rest mine ∙ sym (cond-false (key_eq k message.0) (Some message.1) (pending_at k rest) (other_key r k message false mine no))))
    (cases_Bool (is_to r message))

without_here : (k : Key) (message : Key × Load) (rest : List (Key × Load)) → key_eq k message.0 ≡ true → without k (message ∷ rest) ≡ rest
without_here k message rest h = cond-true (key_eq k message.0) rest (message ∷ without k rest) h

without_there : (k : Key) (message : Key × Load) (rest : List (Key × Load)) → key_eq k message.0 ≡ false → without k (message ∷ rest) ≡ message ∷ without k rest
without_there k message rest h = cond-false (key_eq k message.0) rest (message ∷ without k rest) h

pub to_role-without : (r : Role) (k : Key) (pending : List (Key × Load)) → role_eq k.to r ≡ true → without k (to_role r pending) ≡ to_role r (without k pending)
to_role-without r k [] mine = refl
to_role-without r k (message ∷ rest) mine = ⊎_elim
    (λ yes. ap (without k) (kept r message rest yes) ∙ ⊎_elim
    (λ same. without_here k message (to_role r rest) same ∙ sym (ap (to_role r) (without_here k message rest same)))
    (λ other. without_there k message (to_role r rest) other ∙ (ap (λ ms. message ∷ ms) (to_role-without r k rest mine)
    ∙ (sym (kept r message (without k rest) yes) ∙ sym (ap (to_role r) (without_there k message rest other)))))
    (cases_Bool (key_eq k message.0)))
    (λ no. ap (without k) (left_out r message rest no) ∙ (to_role-without r k rest mine
    ∙ (sym (left_out r message (without k rest) no) ∙ sym (ap (to_role r) (without_there k message rest (other_key r k message false mine no))))))
    (cases_Bool (is_to r message))

-- the take of a message to another role
pub to_role-untouched : (r : Role) (k : Key) (pending : List (Key × Load)) → role_eq k.to r ≡ false → to_role r (without k pending) ≡ to_role r pending
to_role-untouched r k [] other = refl
to_role-untouched r k (message ∷ rest) other = ⊎_elim
    (λ same. ap (to_role r) (without_here k message rest same)
    ∙ sym (left_out r message rest (sym (ap (λ (j : Key). role_eq j.to r) (key_same k message.0 same)) ∙ other)))
    (λ apart. ap (to_role r) (without_there k message rest apart) ∙ ap (λ ms. if is_to r message then message ∷ ms else ms) (to_role-untouched r k rest other))
    (cases_Bool (key_eq k message.0))

pub to_role-put : (r : Role) (k : Key) (l : Load) (pending : List (Key × Load)) → role_eq k.to r ≡ true → to_role r (pending ++ (k, l) ∷ []) ≡ to_role r pending ++ (k, l) ∷ []
to_role-put r k l [] mine = kept r (k, l) [] mine
to_role-put r k l (message ∷ rest) mine = ⊎_elim
    (λ yes. kept r message (rest ++ (k, l) ∷ []) yes ∙ (ap (λ ms. message ∷ ms) (to_role-put r k l rest mine) ∙ sym (ap (λ ms. ms ++ (k, l) ∷ []) (kept r message rest yes))))
    (λ no. left_out r message (rest ++ (k, l) ∷ []) no ∙ (to_role-put r k l rest mine ∙ sym (ap (λ ms. ms ++ (k, l) ∷ []) (left_out r message rest no))))
    (cases_Bool (is_to r message))

pub to_role-unput : (r : Role) (k : Key) (l : Load) (pending : List (Key × Load)) → role_eq k.to r ≡ false → to_role r (pending ++ (k, l) ∷ []) ≡ to_role r pending
to_role-unput r k l [] other = left_out r (k, l) [] other
to_role-unput r k l (message ∷ rest) other = ap (λ ms. if is_to r message then message ∷ ms else ms) (to_role-unput r k l rest other)

-- a key that was put beside distinct ones wasn't pending
among_last : (j k : Key) (l : Load) (rest : List (Key × Load)) → key_among j (map (λ message. message.0) (rest ++ (k, l) ∷ [])) ≡ false → key_eq j k ≡ false
among_last j k l [] h = (or_parts (key_eq j k) false h).0
among_last j k l (message ∷ rest) h = among_last j k l rest (or_parts (key_eq j message.0) (key_among j (map (λ message. message.0) (rest ++ (k, l) ∷ []))) h).1

pub free_before : (k : Key) (l : Load) (pending : List (Key × Load)) → HasDistinctKeys (pending ++ (k, l) ∷ []) → pending_at k pending ≡ None
free_before k l [] h = refl
free_before k l (message ∷ rest) h =
    let keys = map (λ (message : Key × Load). message.0) (rest ++ (k, l) ∷ []) in
    let parts = and_parts (not (key_among message.0 keys)) (distinct_keys keys) h in
    let apart = among_last message.0 k l rest (not-true (key_among message.0 keys) parts.0) in
    cond-false (key_eq k message.0) (Some message.1) (pending_at k rest)
    (false_from_ne_true (key_eq k message.0) (λ same. both_ways (key_eq message.0 k) apart (subst (λ j. key_eq j k ≡ true) (key_same k message.0 same) (key_itself k))))
    ∙ free_before k l rest parts.1

module _ (b : Setting) (us : List Update) where
  -- each message is genuine
  abbrev pub GoodMail : List (Key × Load) → Type 0
  GoodMail [] = Unit {0}
  GoodMail (message ∷ rest) = Genuine b us message.0 message.1 × GoodMail rest

  pub good_at : (k : Key) (l : Load) (pending : List (Key × Load)) → GoodMail pending → pending_at k pending ≡ Some l → Genuine b us k l
  good_at k l [] good h = absurd (none_some h)
  good_at k l (message ∷ rest) good h = ⊎_elim
      (λ yes. subst (λ j. Genuine b us j l) (sym (key_same k message.0 yes))
      (subst (Genuine b us message.0) (some_same (sym (cond-true (key_eq k message.0) (Some message.1) (pending_at k rest) yes) ∙ h)) good.0))
      (λ no. good_at k l rest good.1 (sym (cond-false (key_eq k message.0) (Some message.1) (pending_at k rest) no) ∙ h))
      (cases_Bool (key_eq k message.0))

  pub good_without : (k : Key) (pending : List (Key × Load)) → GoodMail pending → GoodMail (without k pending)
  good_without k [] good = tt
  good_without k (message ∷ rest) good = ⊎_elim
      (λ yes. subst GoodMail (sym (without_here k message rest yes)) good.1)
      (λ no. subst GoodMail (sym (without_there k message rest no)) (good.0, good_without k rest good.1))
      (cases_Bool (key_eq k message.0))

  pub good_put : (k : Key) (l : Load) (pending : List (Key × Load)) → GoodMail pending → Genuine b us k l → GoodMail (pending ++ (k, l) ∷ [])
  good_put k l [] good new = (new, tt)
  good_put k l (message ∷ rest) good new = (good.0, good_put k l rest good.1 new)

pub mail_still : (b : Setting) (us vs : List Update) → Extends us vs → (pending : List (Key × Load)) → GoodMail b us pending → GoodMail b vs pending
mail_still b us vs extends [] good = tt
mail_still b us vs extends (message ∷ rest) good = (genuine_still b us vs extends message.0 message.1 good.0, mail_still b us vs extends rest good.1)
