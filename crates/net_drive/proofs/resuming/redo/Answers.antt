-- The history grows by each entry that was done again; one that wasn't is the first stray.
use Rattle.std.proofs.Common.{◌≡◌, ◌≤◌, ◌+◌, suc, [], ◌∷◌, ◌++◌, drop, take, length, refl, sym, ap, ◌∙◌, subst, add-one, arith, append_assoc, append-nil, length-append}
use Rattle.std.proofs.lemmas.List.{drop_all}
use Rattle.std.proofs.Math.Seq.{drop-cons}
use Rattle.net_drive.specs.Redoing.{Redoes}
use Rattle.net_drive.proofs.Redone.{redone_stray, taken_front}
use Rattle.net_drive.proofs.resuming.redo.Goals as goal

pub returns-then-not-branch-clause-redone : goal.returns-then-not-branch-clause-redone
returns-then-not-branch-clause-redone g c =
    let i = c.loop-entry.entry-index in
    let so_far = c.loop-entry.invariant in
    let entries = c.args.entries.now in
    let rest : drop i entries ≡ c.entry-item.result ∷ drop (suc i) entries =
    drop-cons entries i c.entry-item.result c.loop-entry-test.true ∙ ap (λ x. x ∷ drop (suc i) entries) (sym c.entry-item.is) in
    let below : c.loop-entry.number + 1 ≤ c.args.net.now.limit =
    omega (arith, c.if-number-limit.false, so_far.limit, c.limit.ensures) in
    let number : c.loop-entry.number + 1 ≡ suc (length c.loop-entry.net.history) = omega (arith, so_far.number, so_far.count) in
    redone_stray c.args.net.now c.loop-entry.net c.redo_entry.new.net c.entry-item.result (drop (suc i) entries) entries (c.loop-entry.number + 1) so_far.run so_far.bundle
    (ap (λ es. c.loop-entry.net.history ++ es) (sym rest) ∙ so_far.splits) number below
    (subst (Redoes c.loop-entry.net c.entry-item.result c.redo_entry.new.net) c.if-not-branch.true c.in_ok-redo_entry.ensures.redone)

pub loop-entry-init : goal.loop-entry-init
loop-entry-init g c = record {
  splits = ap (λ es. es ++ c.args.entries.now) c.requires.fresh;
  number = c.len-number.ensures ∙ ap length (c.history.ensures.entries ∙ c.requires.fresh);
  count = ap length c.requires.fresh;
  within = omega arith;
  bundle = refl;
  limit = refl;
  run = c.history.ensures.run;
}

pub loop-entry-preserved : goal.loop-entry-preserved
loop-entry-preserved g c =
    let i = c.loop-entry.entry-index in
    let so_far = c.loop-entry.invariant in
    let old = c.loop-entry.net in
    let new = c.redo_entry.new.net in
    let entries = c.args.entries.now in
    let e = c.entry-item.result in
    let rest : drop i entries ≡ e ∷ drop (suc i) entries = drop-cons entries i e c.loop-entry-test.true ∙ ap (λ x. x ∷ drop (suc i) entries) (sym c.entry-item.is) in
    let done : new.history ≡ old.history ++ e ∷ [] = subst (Redoes old e new) c.if-not-branch.false c.in_ok-redo_entry.ensures.redone in
    record {
      splits = subst (λ n. new.history ++ drop n entries ≡ entries) (sym (add-one i))
          (ap (λ es. es ++ drop (suc i) entries) done ∙ append_assoc old.history (e ∷ []) (drop (suc i) entries) ∙ ap (λ es. old.history ++ es) (sym rest) ∙ so_far.splits);
      number = ap (λ n. n + 1) so_far.number;
      count = ap length done ∙ length-append old.history (e ∷ []) ∙ ap (λ n. n + 1) so_far.count;
      within = omega (arith, c.if-number-limit.false, c.limit.ensures, so_far.number, c.redo_entry.ensures.same_limit);
      bundle = c.redo_entry.ensures.bundle ∙ so_far.bundle;
      limit = c.redo_entry.ensures.same_limit ∙ so_far.limit;
      run = c.in_ok-redo_entry.ensures.run;
    }

pub redo_entry-requires-clause-run : goal.redo_entry-requires-clause-run
redo_entry-requires-clause-run g c = c.loop-entry.invariant.run

pub redo_entry-requires-clause-room : goal.redo_entry-requires-clause-room
redo_entry-requires-clause-room g c =
    omega (arith, c.if-number-limit.false, c.limit.ensures, c.loop-entry.invariant.number, c.loop-entry.invariant.count)

pub redo_entry-requires-clause-limit : goal.redo_entry-requires-clause-limit
redo_entry-requires-clause-limit g c = subst (λ most. most ≤ 4294967295) (sym c.loop-entry.invariant.limit) c.requires.limit

pub returns-then-number-limit-clause-redone : goal.returns-then-number-limit-clause-redone
returns-then-number-limit-clause-redone g c =
    let i = c.loop-entry.entry-index in
    let so_far = c.loop-entry.invariant in
    let history = c.loop-entry.net.history in
    let entries = c.args.entries.now in
    let full : c.args.net.now.limit ≡ length history =
    omega (arith, c.if-number-limit.true, c.limit.ensures, so_far.number, so_far.count, so_far.within, so_far.limit) in (
      omega (arith, full, so_far.count, c.loop-entry-test.true),
      sym (taken_front history (drop i entries)) ∙ ap (take (length history)) so_far.splits ∙ ap (λ n. take n entries) (sym full),
    )

pub returns-clause-redone : goal.returns-clause-redone
returns-clause-redone g c =
    let i = c.loop-entry.entry-index in
    let so_far = c.loop-entry.invariant in
    let history = c.loop-entry.net.history in
    let entries = c.args.entries.now in
    let whole = sym (append-nil history) ∙ ap (λ es. history ++ es) (sym (drop_all i entries c.loop-entry-test.false)) ∙ so_far.splits in
    (whole, subst (λ es. length es ≤ c.args.net.now.limit) whole (omega (arith, so_far.count, so_far.within, so_far.limit)))
