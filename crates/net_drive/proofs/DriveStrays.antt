-- The first entry that keeps a trace from being driven: as a number that is counted, and by the entries before it.
use Rattle.std.proofs.Common.{◌≡◌, ◌⊎◌, ℕ, suc, List, [], ◌∷◌, ◌++◌, length, true, not, Option, Some, None, IsSome, IfSome, refl, sym, ap, ◌∙◌, subst, append_assoc, append-nil}
use Rattle.std.specs.Prelude.{is_some}
use Rattle.std.specs.List.{list_all}
use Rattle.std.specs.Option.{option_map_or}
use Rattle.std.proofs.lemmas.Bool.{and_parts}
use Rattle.std.proofs.lemmas.List.Folds.{list_all-append}
use Rattle.dioc_terms.specs.declared.entries.Entry.{Entry}
use Rattle.dioc_terms.specs.Messages.{is_aux, visible}
use Rattle.dioc_terms.specs.Plain.{PlainBundle, Setting, setting}
use Rattle.global_steps.specs.Follow.{State, follow, play_from, play_start}
use Rattle.global_steps.specs.Settled.{SettledFrom}
use Rattle.global_steps.proofs.Lemmas.{plays-go_on}
use Rattle.marked_laws.specs.Laws.{IsSound}
use Rattle.network_steps.specs.Network.{network_run, network_step}
use Rattle.marked_laws.proofs.Shapes.{none_some, some_same}
use Rattle.net_laws.proofs.MoveLemmas.{some_got}
use Rattle.net_drive.specs.Driven.{driven, first_auxiliary, may_come}
use Rattle.net_drive.specs.Driving.{IsStuckAt}
use Rattle.net_drive.specs.Laws.{DrivenExactly, SameTraces, StraysAreExact}
use Rattle.net_drive.specs.Strays.{DriveStraysAreExact, IsDrivable, IsDriveStray, drive_stray, drive_stray_from}
use Rattle.net_drive.proofs.Driving.{and_then_got}
use Rattle.net_core.specs.Nets.{NetState}

-- ---- parts of traces

part_plays : (b : Setting) (S : State) (xs ys : List Entry) → IsSome (play_from b S (xs ++ ys)) → IsSome (play_from b S xs)
part_plays b S xs ys h =
    let got = some_got (play_from b S (xs ++ ys)) h in
    let first = and_then_got (play_from b S xs) (λ next. play_from b next ys) got.0 (sym (plays-go_on.appended b S xs ys) ∙ got.1) in
    ap is_some first.1

part_settles : (b : Setting) (S : State) (xs ys : List Entry) → SettledFrom b S (xs ++ ys) → SettledFrom b S xs
part_settles b S [] ys h = tt
part_settles b S (e ∷ xs) ys h = (h.0, by_follow (follow b S e) h.1 (λ T k. part_settles b T xs ys k))
  where
    by_follow : (o : Option State) → IfSome o (λ next. SettledFrom b next (xs ++ ys)) → ((T : State) → SettledFrom b T (xs ++ ys) → SettledFrom b T xs)
        → IfSome o (λ next. SettledFrom b next xs)
    by_follow None k rest = tt
    by_follow (Some T) k rest = rest T k

part_drivable : (b : PlainBundle) (xs ys : List Entry) → IsDrivable b (xs ++ ys) → IsDrivable b xs
part_drivable b xs ys h = (part_plays (setting b) (play_start b) xs ys h.0, part_settles (setting b) (play_start b) xs ys h.1)

abbrev Shown : List Entry → Type 0
Shown t = list_all (λ e. not (is_aux e)) t ≡ true

part_shown : (xs ys : List Entry) → Shown (xs ++ ys) → Shown xs
part_shown xs ys h =
    (and_parts (list_all (λ e. not (is_aux e)) xs) (list_all (λ e. not (is_aux e)) ys) (sym (list_all-append (λ e. not (is_aux e)) xs ys) ∙ h)).0

-- an entry between two parts is the last of the first
regroup : (xs : List Entry) (y : Entry) (ys : List Entry) → (xs ++ y ∷ []) ++ ys ≡ xs ++ (y ∷ ys)
regroup xs y ys = append_assoc xs (y ∷ []) ys

module _ (exact : DrivenExactly) (b : PlainBundle) (sound : IsSound b) where
  driven_some : (t : List Entry) → Shown t → IsDrivable b t → (H : List Entry) × (driven b t ≡ Some H)
  driven_some t shown drivable = some_got (driven b t) ((exact b t sound shown).1 drivable)

  driven_none : (t : List Entry) → Shown t → (IsDrivable b t → ⊥) → driven b t ≡ None
  driven_none t shown strays = by_driven (driven b t) refl
    where
      by_driven : (o : Option (List Entry)) → driven b t ≡ o → driven b t ≡ None
      by_driven None is = is
      by_driven (Some H) is = absurd (strays ((exact b t sound shown).0 (ap is_some is)))

  -- the count goes past each part that can be driven
  goes_past : (xs : List Entry) (y : Entry) (ys : List Entry) (H : List Entry) → driven b (xs ++ y ∷ []) ≡ Some H
      → drive_stray_from b xs (y ∷ ys) ≡ drive_stray_from b (xs ++ y ∷ []) ys
  goes_past xs y ys H h = ap (λ o. option_map_or (λ _. drive_stray_from b (xs ++ y ∷ []) ys) o (Some (suc (length xs)))) h

  stops_at : (xs : List Entry) (y : Entry) (ys : List Entry) → driven b (xs ++ y ∷ []) ≡ None → drive_stray_from b xs (y ∷ ys) ≡ Some (suc (length xs))
  stops_at xs y ys h = ap (λ o. option_map_or (λ _. drive_stray_from b (xs ++ y ∷ []) ys) o (Some (suc (length xs)))) h

  counted_from : (xs ys : List Entry) (e : Entry) (later : List Entry) → Shown ((xs ++ ys) ++ e ∷ []) → IsDrivable b (xs ++ ys)
      → (IsDrivable b ((xs ++ ys) ++ e ∷ []) → ⊥) → drive_stray_from b xs (ys ++ e ∷ later) ≡ Some (suc (length (xs ++ ys)))
  counted_from xs [] e later shown drivable strays =
      let same : xs ++ [] ≡ xs = append-nil xs in
      stops_at xs e later (driven_none (xs ++ e ∷ []) (subst (λ l. Shown (l ++ e ∷ [])) same shown)
      (subst (λ l. IsDrivable b (l ++ e ∷ []) → ⊥) same strays))
      ∙ ap (λ l. Some (suc (length l))) (sym same)
  counted_from xs (y ∷ ys) e later shown drivable strays =
      let same : xs ++ (y ∷ ys) ≡ (xs ++ y ∷ []) ++ ys = sym (regroup xs y ys) in
      let drivable' : IsDrivable b ((xs ++ y ∷ []) ++ ys) = subst (IsDrivable b) same drivable in
      let shown' : Shown (((xs ++ y ∷ []) ++ ys) ++ e ∷ []) = subst (λ l. Shown (l ++ e ∷ [])) same shown in
      let first = driven_some (xs ++ y ∷ []) (part_shown (xs ++ y ∷ []) ys (part_shown ((xs ++ y ∷ []) ++ ys) (e ∷ []) shown'))
      (part_drivable b (xs ++ y ∷ []) ys drivable') in
      goes_past xs y (ys ++ e ∷ later) first.0 first.1
      ∙ counted_from (xs ++ y ∷ []) ys e later shown' drivable' (subst (λ l. IsDrivable b (l ++ e ∷ []) → ⊥) same strays)
      ∙ ap (λ l. Some (suc (length l))) (sym same)

  -- the first stray is counted
  pub stray_counted : (t : List Entry) (n : ℕ) → Shown t → IsDriveStray b t n → drive_stray b t ≡ Some n
  stray_counted t n shown first =
      let front : Shown (first.before ++ first.entry ∷ []) =
      part_shown (first.before ++ first.entry ∷ []) first.later (subst Shown (first.splits ∙ sym (regroup first.before first.entry first.later)) shown) in
      ap (drive_stray b) first.splits
      ∙ counted_from [] first.before first.entry first.later front first.drivable first.strays
      ∙ ap Some (sym first.number)

  -- where none is counted the trace is driven
  none_driven : (xs ys : List Entry) → IsSome (driven b xs) → drive_stray_from b xs ys ≡ None → IsSome (driven b (xs ++ ys))
  none_driven xs [] some h = subst (λ l. IsSome (driven b l)) (sym (append-nil xs)) some
  none_driven xs (y ∷ ys) some h = by_driven (λ fits k. none_driven (xs ++ y ∷ []) ys fits k) (driven b (xs ++ y ∷ [])) refl
    where
      by_driven : (IsSome (driven b (xs ++ y ∷ [])) → drive_stray_from b (xs ++ y ∷ []) ys ≡ None → IsSome (driven b ((xs ++ y ∷ []) ++ ys)))
          → (o : Option (List Entry)) → driven b (xs ++ y ∷ []) ≡ o → IsSome (driven b (xs ++ (y ∷ ys)))
      by_driven rest None is = absurd (none_some (sym h ∙ stops_at xs y ys is))
      by_driven rest (Some H) is =
          subst (λ l. IsSome (driven b l)) (regroup xs y ys) (rest (ap is_some is) (sym (goes_past xs y ys H is) ∙ h))

  -- and where it is driven none is counted
  driven_uncounted : (xs ys : List Entry) → Shown (xs ++ ys) → IsDrivable b (xs ++ ys) → drive_stray_from b xs ys ≡ None
  driven_uncounted xs [] shown drivable = refl
  driven_uncounted xs (y ∷ ys) shown drivable =
      let same : xs ++ (y ∷ ys) ≡ (xs ++ y ∷ []) ++ ys = sym (regroup xs y ys) in
      let drivable' : IsDrivable b ((xs ++ y ∷ []) ++ ys) = subst (IsDrivable b) same drivable in
      let shown' : Shown ((xs ++ y ∷ []) ++ ys) = subst Shown same shown in
      let first = driven_some (xs ++ y ∷ []) (part_shown (xs ++ y ∷ []) ys shown') (part_drivable b (xs ++ y ∷ []) ys drivable') in
      goes_past xs y ys first.0 first.1 ∙ driven_uncounted (xs ++ y ∷ []) ys shown' drivable'

  -- what is counted is the first stray
  counted_stray : (xs ys : List Entry) (n : ℕ) → Shown (xs ++ ys) → IsDrivable b xs → drive_stray_from b xs ys ≡ Some n → IsDriveStray b (xs ++ ys) n
  counted_stray xs [] n shown drivable h = absurd (none_some h)
  counted_stray xs (y ∷ ys) n shown drivable h = by_driven (λ can k. counted_stray (xs ++ y ∷ []) ys n shown' can k) (driven b (xs ++ y ∷ [])) refl
    where
      shown' : Shown ((xs ++ y ∷ []) ++ ys)
      shown' = subst Shown (sym (regroup xs y ys)) shown

      front : Shown (xs ++ y ∷ [])
      front = part_shown (xs ++ y ∷ []) ys shown'

      by_driven : (IsDrivable b (xs ++ y ∷ []) → drive_stray_from b (xs ++ y ∷ []) ys ≡ Some n → IsDriveStray b ((xs ++ y ∷ []) ++ ys) n)
          → (o : Option (List Entry)) → driven b (xs ++ y ∷ []) ≡ o → IsDriveStray b (xs ++ (y ∷ ys)) n
      by_driven rest None is = record {
        before = xs;
        entry = y;
        later = ys;
        splits = refl;
        number = some_same (sym h ∙ stops_at xs y ys is);
        drivable = drivable;
        strays = λ can. none_some (sym is ∙ (driven_some (xs ++ y ∷ []) front can).1);
      }
      by_driven rest (Some H) is =
          subst (λ l. IsDriveStray b l n) (regroup xs y ys)
          (rest ((exact b (xs ++ y ∷ []) sound front).0 (ap is_some is)) (sym (goes_past xs y ys H is) ∙ h))

pub drive_strays_are_exact : DrivenExactly → DriveStraysAreExact
drive_strays_are_exact exact = record {
  none = λ b t sound shown. (
    λ h. none_driven exact b sound [] t ((exact b [] sound refl).1 (refl, tt)) h,
    λ h. driven_uncounted exact b sound [] t shown ((exact b t sound shown).0 h),
  );
  some = λ b t n sound shown. (
    λ h. counted_stray exact b sound [] t n shown (refl, tt) h,
    λ h. stray_counted exact b sound t n shown h,
  );
}

-- ---- a net that is stuck

-- where a net has been driven through a part of the trace and is stuck at the next entry, that is the first stray
pub stuck_stray : SameTraces → StraysAreExact → (start net : NetState) (before later : List Entry) (e : Entry) (trace : List Entry) → IsSound start.bundle
    → net.bundle ≡ start.bundle → visible net.history ≡ before → IsStuckAt net e → before ++ e ∷ later ≡ trace
    → IsDriveStray start.bundle trace (suc (length before))
stuck_stray same exact start net before later e trace sound bundle shows stuck splits =
    let b : PlainBundle = start.bundle in
    let seen : visible stuck.history ≡ before = stuck.shows ∙ shows in
    let runs : network_run b stuck.history ≡ Some stuck.network =
    subst (λ (B : PlainBundle). network_run B stuck.history ≡ Some stuck.network) bundle stuck.runs in
    let strays : network_step (setting b) stuck.network e ≡ None =
    subst (λ (B : PlainBundle). network_step (setting B) stuck.network e ≡ None) bundle stuck.strays in
    let why : (may_come stuck.network e ≡ true) ⊎ (first_auxiliary (setting b) stuck.network ≡ None) =
    subst (λ (B : PlainBundle). (may_come stuck.network e ≡ true) ⊎ (first_auxiliary (setting B) stuck.network ≡ None)) bundle stuck.why in
    record {
      before = before;
      entry = e;
      later = later;
      splits = sym splits;
      number = refl;
      drivable = subst (IsDrivable b) seen ((same b (visible stuck.history) sound).1 (stuck.history, ap is_some runs, refl));
      strays = λ can.
          let can' : IsDrivable b (visible stuck.history ++ e ∷ []) = subst (λ l. IsDrivable b (l ++ e ∷ [])) (sym seen) can in
          exact b stuck.history stuck.network e sound runs strays why can'.0 can'.1;
    }
