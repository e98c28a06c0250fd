-- The net that is resumed is that of the bundle; the number of a stray is counted.
use Rattle.std.proofs.Common.{◌≤◌, ◌<◌, length, take, sym, ap, ◌∙◌, subst}
use Rattle.dioc_terms.specs.Plain.{plain}
use Rattle.net_drive.specs.Redoing.{IsRedone}
use Rattle.net_drive.specs.Resumed.{IsFirstStray}
use Rattle.net_drive.proofs.Redone.{counted_for}
use Rattle.net_drive.specs.declared.resuming.Redone.TheVariants as redone
use Rattle.net_drive.proofs.resuming.resume_entries.Goals as goal

pub start-requires : goal.start-requires
start-requires g c = c.accepted_is_sound.ensures (plain c.args.bundle.now) c.requires.accepted

pub redo-requires-clause-fresh : goal.redo-requires-clause-fresh
redo-requires-clause-fresh g c = c.in-Ok.ensures.history

pub redo-requires-clause-limit : goal.redo-requires-clause-limit
redo-requires-clause-limit g c = subst (λ most. most ≤ 4294967295) (sym c.in-Ok.ensures.limit) c.requires.numbers

pub returns-in-Ok-Whole-clause-resumed : goal.returns-in-Ok-Whole-clause-resumed
returns-in-Ok-Whole-clause-resumed g c =
    let far : IsRedone c.in-Ok.net c.args.entries.now c.redo.new.net redone.Whole =
    subst (IsRedone c.in-Ok.net c.args.entries.now c.redo.new.net) c.in-Ok-Whole.field-0-is c.in-Ok-Whole.ensures.redone in
    record {
      bundle = c.redo.ensures.bundle ∙ c.in-Ok.ensures.bundle;
      history = far.0;
      limit = c.redo.ensures.same_limit ∙ c.in-Ok.ensures.limit;
      run = c.in-Ok-Whole.ensures.run;
    }

pub returns-in-Ok-Whole-clause-within : goal.returns-in-Ok-Whole-clause-within
returns-in-Ok-Whole-clause-within g c =
    let far : IsRedone c.in-Ok.net c.args.entries.now c.redo.new.net redone.Whole =
    subst (IsRedone c.in-Ok.net c.args.entries.now c.redo.new.net) c.in-Ok-Whole.field-0-is c.in-Ok-Whole.ensures.redone in
    subst (λ most. length c.args.entries.now ≤ most) c.in-Ok.ensures.limit far.1

pub returns-in-Ok-Full-clause-full : goal.returns-in-Ok-Full-clause-full
returns-in-Ok-Full-clause-full g c =
    let far : IsRedone c.in-Ok.net c.args.entries.now c.redo.new.net redone.Full =
    subst (IsRedone c.in-Ok.net c.args.entries.now c.redo.new.net) c.in-Ok-Full.field-0-is c.in-Ok-Full.ensures.redone in (
      subst (λ most. most < length c.args.entries.now) c.in-Ok.ensures.limit far.0,
      record {
        bundle = c.redo.ensures.bundle ∙ c.in-Ok.ensures.bundle;
        history = far.1 ∙ ap (λ most. take most c.args.entries.now) c.in-Ok.ensures.limit;
        limit = c.redo.ensures.same_limit ∙ c.in-Ok.ensures.limit;
        run = c.in-Ok-Full.ensures.run;
      },
    )

pub returns-in-Ok-Stray-clause-stray : goal.returns-in-Ok-Stray-clause-stray
returns-in-Ok-Stray-clause-stray g c =
    let n = c.in-Ok-Stray.number in
    let far : IsRedone c.in-Ok.net c.args.entries.now c.redo.new.net (redone.Stray n) =
    subst (IsRedone c.in-Ok.net c.args.entries.now c.redo.new.net) c.in-Ok-Stray.field-0-is c.in-Ok-Stray.ensures.redone in
    (subst (λ most. n ≤ most) c.in-Ok.ensures.limit far.0, subst (λ b. IsFirstStray b c.args.entries.now n) c.in-Ok.ensures.bundle far.1)

pub returns-in-Ok-Stray-clause-counted : goal.returns-in-Ok-Stray-clause-counted
returns-in-Ok-Stray-clause-counted g c =
    let far : IsRedone c.in-Ok.net c.args.entries.now c.redo.new.net (redone.Stray c.in-Ok-Stray.number) =
    subst (IsRedone c.in-Ok.net c.args.entries.now c.redo.new.net) c.in-Ok-Stray.field-0-is c.in-Ok-Stray.ensures.redone in
    counted_for c.in-Ok.net (plain c.args.bundle.now) c.args.entries.now c.args.limit c.redo.new.net c.in-Ok-Stray.number c.in-Ok.ensures.bundle c.in-Ok.ensures.limit far
