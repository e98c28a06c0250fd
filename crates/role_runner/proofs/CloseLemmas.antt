-- What a stage that was closed says of its history.
use Rattle.std.proofs.Common.{◌≡◌, ◌≢◌, ◌≤◌, ℕ, zero, suc, List, [], ◌∷◌, All, map, length, true, Some, slice_get, sym, ap, ◌∙◌, subst, arith}
use Rattle.std.proofs.lemmas.List.{length-map}
use Rattle.std.proofs.lemmas.Option.{slice_get-map}
use Rattle.std.specs.Prelude.{option_map}
use Rattle.dioc_terms.specs.declared.entries.Entry.{Entry}
use Rattle.dioc_terms.specs.Plain.{PlainBundle}
use Rattle.dioc_terms.specs.TermLaws.{CastsAreRoles}
use Rattle.dioc_terms.specs.Terms.{distinct_roles}
use Rattle.marked_laws.proofs.Choices.{all_at}
use Rattle.marked_laws.proofs.Shapes.{none_some, some_same}
use Rattle.marked_laws.specs.Laws.{IsSound}
use Rattle.network_steps.specs.Network.{network_run}
use Rattle.network_steps.specs.Schedule.{IsPrompt}
use Rattle.role_runner.proofs.EndLemmas.{at_within, if_some_at, went_at, went_lengths}
use Rattle.role_runner.proofs.JobLemmas.{mapped_at}
use Rattle.role_runner.proofs.RunLemmas.{Closed, opening_at, opening_length}
use Rattle.role_runner.specs.Endings.{AllWent, IsRun}
use Rattle.role_runner.specs.Jobs.{HomeSeat}
use Rattle.stage.specs.Owners.{owner_in}
use Rattle.stage.specs.Seats.{Base, IsClosed, opening_views}
use Rattle.turn_lock.specs.declared.views.View.{View}
use Rattle.turn_lock.specs.Items.{BeginsWith, Each, IsOwn, items_of}
use Rattle.turn_lock.specs.Views.{number, mine}
use Rattle.turn_lock.specs.Words.{FirstIs, claim_of, view}

pub distinct_cast : CastsAreRoles → (b : PlainBundle) → IsSound b → distinct_roles b.cast ≡ true
distinct_cast casts b sound = ap distinct_roles sound.formed.cast ∙ casts.distinct b.choreo

each_at : {A B : Type 0} (P : B → Type 0) (f : A → B) (xs : List A) (i : ℕ) (x : A) → Each P (map f xs) → slice_get xs i ≡ Some x → P (f x)
each_at P f [] i x each at = absurd (none_some at)
each_at P f (y ∷ ys) zero x each at = subst (λ z. P (f z)) (some_same at) each.0
each_at P f (y ∷ ys) (suc i) x each at = each_at P f ys i x each.1 at

module _ (bundle : PlainBundle) (limit : ℕ) (seats : List HomeSeat) (went : AllWent (opening_views (bundle, limit) (length bundle.cast)) (map view seats)) where
  -- the seats are as many as the first knows of
  pub seats_many : length seats ≡ suc (length bundle.cast)
  seats_many = sym (length-map seats view) ∙ went_lengths (opening_views (bundle, limit) (length bundle.cast)) (map view seats) went ∙ opening_length (bundle, limit) (length bundle.cast)

  first : (s : HomeSeat) × (slice_get seats 0 ≡ Some s)
  first = at_within seats 0 (let many = seats_many in omega (arith, many))

  first_made : (s : HomeSeat) → slice_get seats 0 ≡ Some s → (view s).made ≡ suc (length bundle.cast)
  first_made s at =
      let from = went_at (opening_views (bundle, limit) (length bundle.cast)) (map view seats) 0 (view s) went (slice_get-map view seats 0 ∙ ap (option_map view) at) in
      (from.2).made ∙ ap (λ (v : View Entry Base). v.made) (some_same (sym from.1))

  -- so nothing is missing where the stage is closed
  pub none_missing : All (λ s. (view s).made ≢ length seats) seats → ⊥
  none_missing missing = all_at (λ s. (view s).made ≢ length seats) seats 0 first.0 missing first.1 (first_made first.0 first.1 ∙ sym seats_many)

  module _ (sound : IsSound bundle) (H : List Entry) (closes : FirstIs (λ v. IsClosed v H (map claim_of seats)) seats) (begins : All (λ s. BeginsWith H (view s).seen) seats) where
    knowing : (s : HomeSeat) × (slice_get seats closes.0 ≡ Some s)
    knowing = at_within seats closes.0 closes.1

    abbrev closing : IsClosed (view knowing.0) H (map claim_of seats)
    closing = (if_some_at (λ s. ((view s).made ≡ length seats) × IsClosed (view s) H (map claim_of seats)) (slice_get seats closes.0) knowing.0 closes.2 knowing.1).1

    based : ◌≡◌ {A = Base} (closing.home.bundle, closing.home.limit) (bundle, limit)
    based =
        let from = went_at (opening_views (bundle, limit) (length bundle.cast)) (map view seats) closes.0 (view knowing.0) went (slice_get-map view seats closes.0 ∙ ap (option_map view) knowing.1) in
        let opened = opening_at (bundle, limit) (length bundle.cast) closes.0 from.0 from.1 in
        some_same (sym closing.found.base ∙ (from.2).base ∙ opened.based)

    pub closed_is : Closed bundle limit (map view seats) H
    closed_is = record {
      sound = sound;
      network = closing.found.sound.network;
      runs = subst (λ (b : Base). network_run b.0 H ≡ Some closing.found.sound.network) based
          (subst (λ h. network_run closing.home.bundle h ≡ Some closing.found.sound.network) closing.found.history closing.found.sound.runs);
      within = subst (λ (b : Base). length H ≤ b.1) based (subst (λ h. length h ≤ closing.home.limit) closing.found.history closing.found.sound.within);
      went = went;
      own = λ i v at.
          let s = mapped_at view seats i v at in
          subst (λ u. items_of (owner_in bundle.cast) (number u) H ≡ mine u) s.2
          (subst (λ (b : Base). items_of (owner_in b.0.cast) (number (view s.0)) H ≡ mine (view s.0)) based
          (each_at (IsOwn (owner_in closing.home.bundle.cast) H) claim_of seats i s.0 closing.shares.each s.1));
      begins = λ i v at.
          let s = mapped_at view seats i v at in
          subst (λ (u : View Entry Base). BeginsWith H u.seen) s.2 (all_at (λ x. BeginsWith H (view x).seen) seats i s.0 begins s.1);
    }

    pub closed_prompt : IsPrompt bundle H
    closed_prompt = subst (λ (b : Base). IsPrompt b.0 H) based (subst (IsPrompt closing.home.bundle) closing.found.history closing.found.sound.prompt)

    pub closed_run : IsRun bundle H
    closed_run = record { network = closed_is.network; runs = closed_is.runs }
