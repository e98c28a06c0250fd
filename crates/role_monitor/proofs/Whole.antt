-- The laws: no run deviates, and what every monitor keeps is a run.
use Rattle.std.proofs.Common.{◌≡◌, ◌⊎◌, ℕ, suc, List, [], ◌∷◌, ◌++◌, Bool, true, false, ◌&&◌, nat_le, Option, Some, None, IsSome, if◌then◌else◌, slice_get, refl, sym, ap, ap₂, ◌∙◌, inl, inr, ⊎_elim}
use Rattle.std.specs.Prelude.{is_some, is_none, option_and_then}
use Rattle.std.specs.List.{list_all}
use Rattle.std.specs.Option.{option_map_or}
use Rattle.std.proofs.lemmas.Bool.{cond-true, cond-false, and_parts}
use Rattle.dioc_terms.specs.declared.names.Role.{Role}
use Rattle.dioc_terms.specs.declared.entries.Act.{Act}
use Rattle.dioc_terms.specs.declared.entries.Act.TheVariants as act
use Rattle.dioc_terms.specs.declared.entries.Entry.{Entry}
use Rattle.dioc_terms.specs.declared.entries.Entry.TheVariants as entry
use Rattle.dioc_terms.specs.declared.bundles.Timed.{Timed}
use Rattle.dioc_terms.specs.Attempts.{Attempt, Stuck, Does}
use Rattle.dioc_terms.specs.Equality.{role_eq, member, entry_eq}
use Rattle.dioc_terms.specs.Messages.{doer, act_of}
use Rattle.dioc_terms.specs.Plain.{PlainBundle, Setting, setting}
use Rattle.dioc_terms.specs.Processes.{Process}
use Rattle.global_steps.specs.Follow.{change_entry, shows}
use Rattle.marked_laws.specs.Laws.{IsSound, UniqueKeys}
use Rattle.marked_laws.specs.MailLaws.{HasDistinctKeys}
use Rattle.network_steps.specs.Network.{Network, NextNetwork, act_step, change_step, network_after, network_step, network_start, network_run, run_from, visible_after}
use Rattle.marked_laws.specs.RunLaws.{Extensions}
use Rattle.marked_laws.proofs.Equality.{entry_same, entry_itself, role_itself}
use Rattle.marked_laws.proofs.Networks.{after_deed, after_change, deed_outcome, act_outcome, entry_outcome, script_outcome, change_outcome, network_cases}
use Rattle.marked_laws.proofs.Shapes.{none_some}
use Rattle.process_steps.specs.Steps.{Deed, entry_of, step}
use Rattle.net_laws.specs.Laws.{AcceptedIsSound}
use Rattle.role_monitor.specs.Laws.{RunsNeverDeviate, KeptTracesAreRuns, is_of_cast, change_stands, changes_stand}
use Rattle.role_monitor.specs.Monitoring.{MonitorState, comes_to, after_own, own_outcome, own_entry, others_entry, judged_by, mon, mon_from, deviates_from}
use Rattle.role_monitor.specs.declared.updates.Update.{Update}
use Rattle.role_monitor.proofs.Listings.{then_some}
use Rattle.role_monitor.proofs.Shown.{Along, role_along, change_along, take_doer, given_alike, that_option, shows_is}
use Rattle.role_monitor.proofs.Truths.{shown, Truth, truth_start}

step_along : (b : Setting) (us : List Update) (N : Network) (e : Entry) (N' : Network) → Truth b us N → network_step b N e ≡ Some N' → HasDistinctKeys N'.pending → Along b us N e N'
step_along b us N e N' truth stepped apart = ⊎_elim
    (λ s. role_along b us N e N' truth s apart)
    (λ s. change_along b us N e N' truth s)
    (network_cases b N e N' stepped)

-- an entry is of a role, with its act, or a change
entry_kind : (e : Entry) → ((q : Role) × (a : Act) × (doer e ≡ Some q) × (act_of e ≡ Some a)) ⊎ (doer e ≡ None)
entry_kind (entry.Put k n) = inl (k.from, act.Put k, refl, refl)
entry_kind (entry.Take k x) = inl (k.to, act.Take k, refl, refl)
entry_kind (entry.Set i r x v) = inl (r, act.Set i, refl, refl)
entry_kind (entry.Input i r x v) = inl (r, act.Input i, refl, refl)
entry_kind (entry.Pick i r t) = inl (r, act.Pick i, refl, refl)
entry_kind (entry.Scope i r c) = inl (r, act.Scope i, refl, refl)
entry_kind (entry.Add name) = inr refl
entry_kind (entry.Drop name) = inr refl
entry_kind (entry.Env key v) = inr refl

abbrev stepped_by : Setting → Network → Entry → Option Role → Option Act → Option Network
stepped_by b N e (Some r) (Some a) = network_after e (act_step b N r a)
stepped_by b N e _ _ = network_after e (change_step b N)

stepped_is : (b : Setting) (N : Network) (e : Entry) → network_step b N e ≡ stepped_by b N e (doer e) (act_of e)
stepped_is b N e = refl

there : {A B : Type 0} (f : A → Option B) (o : Option A) → IsSome (option_and_then f o) → (x : A) × (o ≡ Some x)
there f None h = cc
there f (Some x) h = (x, refl)

module _ (b : Setting) (us : List Update) (N : Network) (truth : Truth b us N) (e : Entry) where
  own_some : (M : MonitorState) (m : Attempt Deed Process) (M' : MonitorState) → own_outcome b M e m ≡ Some M' → (d : Deed) × (P : Process) × (m ≡ Does d P) × (entry_eq e (entry_of d) ≡ true)
  own_some M Stuck M' h = absurd (none_some h)
  own_some M (Does d P) M' h = (d, P, refl, passed (entry_eq e (entry_of d)) h)
    where
      passed : (t : Bool) → (if t then Some (after_own b M d P) else None) ≡ Some M' → t ≡ true
      passed true h = refl
      passed false h = absurd (none_some h)

  -- an entry that its role's monitor keeps is a step of the network
  kept_step : (q : Role) (a : Act) (M' : MonitorState) → doer e ≡ Some q → act_of e ≡ Some a → mon b (shown q us N) e ≡ Some M'
      → (d : Deed) × (P : Process) × (network_step b N e ≡ Some (after_deed N q d P)) × (e ≡ entry_of d)
  kept_step q a M' does acts kept =
      let M = shown q us N in
      let own = own_some M (step q (N.stores q) (N.processes q) a (comes_to b M a)) M'
      (sym (ap₂ (judged_by b M e) does acts ∙ cond-true (role_eq q q) (own_entry b M e a) (Some (others_entry b M e)) (role_itself q)) ∙ kept) in
      let d = own.0 in
      let P = own.1 in
      let out : NextNetwork = record { entry = entry_of d; network = after_deed N q d P } in (
        d,
        P,
        stepped_is b N e ∙ (ap₂ (stepped_by b N e) does acts
            ∙ (ap (network_after e) (act_outcome b N q a
            ∙ ap (deed_outcome N q) (ap (step q (N.stores q) (N.processes q) a) (sym (given_alike b us N truth q a (take_doer e a q does acts))) ∙ own.2))
            ∙ cond-true (entry_eq e (entry_of d)) (Some out.network) None own.3)),
        entry_same e (entry_of d) own.3,
      )

-- a change that stands as the script says is a step of the network
stands_some : (b : Setting) (e : Entry) (seen : ℕ) (o : Option Timed)
    → option_map_or (λ (timed : Timed). shows b.rules e timed.change && nat_le timed.after seen) o false ≡ true
    → (timed : Timed) × (o ≡ Some timed) × (shows b.rules e timed.change ≡ true) × (nat_le timed.after seen ≡ true)
stands_some b e seen None h = cc
stands_some b e seen (Some timed) h = let parts = and_parts (shows b.rules e timed.change) (nat_le timed.after seen) h in (timed, refl, parts.0, parts.1)

that_some : (e : Entry) (o : Option Entry) → that_option e o ≡ true → o ≡ Some e
that_some e None h = cc
that_some e (Some d) h = ap Some (sym (entry_same e d h))

change_step_is : (b : Setting) (N : Network) (e : Entry) → doer e ≡ None → change_stands b N.changes N.visible e ≡ true
    → (timed : Timed) × (network_step b N e ≡ Some (after_change b N timed))
change_step_is b N e nobody stands =
    let found = stands_some b e N.visible (slice_get b.script N.changes) stands in
    let timed = found.0 in
    let shown_entry = that_some e (change_entry b.rules timed.change) (sym (shows_is b.rules e timed.change) ∙ found.2) in
    let out : NextNetwork = record { entry = e; network = after_change b N timed } in (
      timed,
      stepped_is b N e ∙ (ap (λ o. stepped_by b N e o (act_of e)) nobody
          ∙ (ap (network_after e) (change_outcome b N ∙ (ap (script_outcome b N) found.1
          ∙ (ap (entry_outcome b N timed) shown_entry ∙ cond-true (nat_le timed.after N.visible) (Some out) None found.3)))
          ∙ cond-true (entry_eq e e) (Some out.network) None (entry_itself e))),
    )

-- an entry is a step of the network, and the changes behind it stand
record Went (b : Setting) (N : Network) (e : Entry) (es : List Entry) : Type 0 where
  pub next : Network
  pub steps : network_step b N e ≡ Some next
  pub stand : changes_stand b next.changes next.visible es ≡ true

module _ (b : PlainBundle) (sound : IsSound b) (unique : UniqueKeys) (extend : Extensions) where
  abbrev s : Setting
  s = setting b

  -- one entry more is reached too
  next_reached : (before : List Entry) (N M : Network) (e : Entry) → network_run b before ≡ Some N → network_step s N e ≡ Some M → network_run b (before ++ e ∷ []) ≡ Some M
  next_reached before N M e runs stepped = extend.run_one s (network_start b) before e ∙ (ap (option_and_then (λ M. network_step s M e)) runs ∙ stepped)

  along : (before : List Entry) (us : List Update) (N M : Network) (e : Entry) → network_run b before ≡ Some N → Truth s us N → network_step s N e ≡ Some M → Along s us N e M
  along before us N M e runs truth stepped = step_along s us N e M truth stepped (unique b (before ++ e ∷ []) M sound (next_reached before N M e runs stepped)).0

  goes_from : (H before : List Entry) (us : List Update) (N N' : Network) → network_run b before ≡ Some N → Truth s us N → run_from s N H ≡ Some N' → (r : Role) (n : ℕ)
      → IsSome (mon_from s (shown r us N) H) × (deviates_from s (shown r us N) n H ≡ None)
  goes_from [] before us N N' runs truth h r n = (refl, refl)
  goes_from (e ∷ es) before us N N' runs truth h r n =
      let parts = then_some (λ next. run_from s next es) (network_step s N e) N' h in
      let M = parts.0 in
      let a = along before us N M e runs truth parts.1 in
      let rest = goes_from es (before ++ e ∷ []) a.updates M N' (next_reached before N M e runs parts.1) a.truth parts.2 r (suc n) in (
        ap (λ o. is_some (option_and_then (λ next. mon_from s next es) o)) (a.all r) ∙ rest.0,
        ap (λ o. option_map_or (λ next. deviates_from s next (suc n) es) o (Some n)) (a.all r) ∙ rest.1,
      )

  went_role : (us : List Update) (N : Network) (e : Entry) (es : List Entry) → Truth s us N → (q : Role) (a : Act) → doer e ≡ Some q → act_of e ≡ Some a → is_of_cast b.cast e ≡ true
      → ((r : Role) → member r b.cast ≡ true → IsSome (mon_from s (shown r us N) (e ∷ es))) → changes_stand s N.changes N.visible (e ∷ es) ≡ true → Went s N e es
  went_role us N e es truth q a does acts of_cast keeps stand =
      let kept = there (λ next. mon_from s next es) (mon s (shown q us N) e) (keeps q (sym (ap (λ o. option_map_or (λ q. member q b.cast) o true) does) ∙ of_cast)) in
      let done = kept_step s us N truth e q a kept.0 does acts kept.1 in
      let no_change : is_none (doer e) ≡ false = ap is_none does in
      record {
        next = after_deed N q done.0 done.1;
        steps = done.2;
        stand = ap (λ x. changes_stand s N.changes (visible_after x N.visible) es) (sym done.3)
            ∙ (sym (cond-false (is_none (doer e)) (change_stands s N.changes N.visible e && changes_stand s (suc N.changes) (suc N.visible) es)
            (changes_stand s N.changes (visible_after e N.visible) es) no_change) ∙ stand);
      }

  went_change : (N : Network) (e : Entry) (es : List Entry) → doer e ≡ None → changes_stand s N.changes N.visible (e ∷ es) ≡ true → Went s N e es
  went_change N e es nobody stand =
      let parts = and_parts (change_stands s N.changes N.visible e) (changes_stand s (suc N.changes) (suc N.visible) es)
      (sym (cond-true (is_none (doer e)) (change_stands s N.changes N.visible e && changes_stand s (suc N.changes) (suc N.visible) es)
      (changes_stand s N.changes (visible_after e N.visible) es) (ap is_none nobody)) ∙ stand) in
      let done = change_step_is s N e nobody parts.0 in
      record { next = after_change s N done.0; steps = done.1; stand = parts.1 }

  kept_from : (t before : List Entry) (us : List Update) (N : Network) → network_run b before ≡ Some N → Truth s us N → list_all (is_of_cast b.cast) t ≡ true
      → ((r : Role) → member r b.cast ≡ true → IsSome (mon_from s (shown r us N) t)) → changes_stand s N.changes N.visible t ≡ true → IsSome (run_from s N t)
  kept_from [] before us N runs truth of_cast keeps stand = refl
  kept_from (e ∷ es) before us N runs truth of_cast keeps stand =
      let parts = and_parts (is_of_cast b.cast e) (list_all (is_of_cast b.cast) es) of_cast in
      let went : Went s N e es = ⊎_elim
      (λ k. went_role us N e es truth k.0 k.1 k.2 k.3 parts.0 keeps stand)
      (λ nobody. went_change N e es nobody stand)
      (entry_kind e) in
      let M = went.next in
      let a = along before us N M e runs truth went.steps in
      ap (λ o. is_some (option_and_then (λ next. run_from s next es) o)) went.steps
      ∙ kept_from es (before ++ e ∷ []) a.updates M (next_reached before N M e runs went.steps) a.truth parts.1
      (λ r of. sym (ap (λ o. is_some (option_and_then (λ next. mon_from s next es) o)) (a.all r)) ∙ keeps r of)
      went.stand

pub runs_keep : AcceptedIsSound → UniqueKeys → Extensions → RunsNeverDeviate
runs_keep are_sound unique extend b H N r accepted runs =
    let sound = are_sound b accepted in
    goes_from b sound unique extend H [] [] (network_start b) N refl (truth_start b (sound.formed).choreo.indices) runs r 1

pub kept_runs : AcceptedIsSound → UniqueKeys → Extensions → KeptTracesAreRuns
kept_runs are_sound unique extend b t accepted of_cast keeps stand =
    let sound = are_sound b accepted in
    kept_from b sound unique extend t [] [] (network_start b) refl (truth_start b (sound.formed).choreo.indices) of_cast keeps stand
