-- In a stage of one role the second seat is the feeder's, also after a run.
use Rattle.std.proofs.Common.{◌≡◌, ℕ, All, List, [], ◌∷◌, ◌++◌, Some, length, map, sym, ap, ◌∙◌, subst}
use Rattle.std.proofs.lemmas.List.{map-append}
use Rattle.std.proofs.lemmas.List.Elements.{All-head, All-tail}
use Rattle.dioc_terms.specs.declared.entries.Entry.{Entry}
use Rattle.dioc_terms.specs.Plain.{PlainBundle}
use Rattle.role_runner.specs.Endings.{AllWent}
use Rattle.role_runner.specs.Jobs.{HomeSeat}
use Rattle.stage.specs.Holds.{IsFeeder}
use Rattle.stage.specs.Seats.{Base, later_view, opening_views}
use Rattle.turn_lock.specs.declared.views.View.{View}
use Rattle.turn_lock.specs.Views.{number}
use Rattle.turn_lock.specs.Words.{view}

same_base : {b c : Base} → Some b ≡ Some c → b ≡ c
same_base h = cc

pub feeder_after : (b : PlainBundle) (limit n : ℕ) (vs : List (View Entry Base)) (seats : List HomeSeat) (first feeder : HomeSeat)
    → n ≡ 1 → n ≡ length b.cast → vs ≡ opening_views (b, limit) n → AllWent vs (map view seats)
    → seats ≡ first ∷ feeder ∷ [] → IsFeeder (view feeder)
feeder_after b limit n vs seats first feeder one cast opens went two base h =
    let all = subst (λ ws. AllWent ws (map view seats)) (opens ∙ ap (opening_views (b, limit)) one) went in
    let both = subst (λ ss. AllWent (opening_views (b, limit) 1) (map view ss)) two all in
    let same : base ≡ (b, limit) = same_base (sym h ∙ both.1.0.base) in
    both.1.0.number_is ∙ (sym one ∙ cast) ∙ ap (λ (c : Base). length c.0.cast) (sym same)

last_of_two : {A : Type 0} (xs : List A) (x a b : A) → xs ++ x ∷ [] ≡ a ∷ b ∷ [] → x ≡ b
last_of_two [] x a b h = cc
last_of_two (y ∷ []) x a b h = cc
last_of_two (y ∷ z ∷ []) x a b h = cc
last_of_two (y ∷ z ∷ w ∷ xs) x a b h = cc

-- the last seat of a new stage is the feeder's
pub feeder_last : (b : PlainBundle) (limit : ℕ) (seats others : List HomeSeat) (feeder : HomeSeat)
    → length b.cast ≡ 1 → map view seats ≡ opening_views (b, limit) (length b.cast)
    → seats ≡ others ++ feeder ∷ [] → IsFeeder (view feeder)
feeder_last b limit seats others feeder one opens last base h =
    let views = sym (map-append view others (feeder ∷ [])) ∙ (ap (map view) (sym last) ∙ (opens ∙ ap (opening_views (b, limit)) one)) in
    let second : view feeder ≡ later_view (b, limit) 1 = last_of_two (map view others) (view feeder) _ _ views in
    let same : base ≡ (b, limit) = same_base (sym h ∙ ap (λ (v : View Entry Base). v.base) second) in
    ap number second ∙ (sym one ∙ ap (λ (c : Base). length c.0.cast) (sym same))

-- what holds of all of two
pub all_two : {A : Type 0} (P : A → Type 0) (xs : List A) (x y : A) → xs ≡ x ∷ y ∷ [] → All P xs → P x × P y
all_two P xs x y two all =
    let both = subst (All P) two all in
    (All-head P x (y ∷ []) both, All-head P y [] (All-tail P x (y ∷ []) both))
