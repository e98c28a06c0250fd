-- The net is driven through the entries, one by one; where it is stuck the entry is the first stray.
use Rattle.std.proofs.Common.{◌≡◌, ◌≤◌, ◌+◌, suc, [], ◌∷◌, ◌++◌, length, take, drop, true, refl, sym, ap, ◌∙◌, subst, arith, append-nil}
use Rattle.std.proofs.lemmas.List.{drop_all, length-take-le, take_all}
use Rattle.marked_laws.specs.Laws.{IsSound}
use Rattle.net_drive.specs.Driving.{DrivesOn, IsStuckAt, Reaches, Settles}
use Rattle.net_drive.specs.Strays.{IsDriveStray}
use Rattle.net_drive.proofs.DriveStrays.{stuck_stray}
use Rattle.net_drive.proofs.Exactness.{same_traces, strays_are_exact}
use Rattle.net_drive.proofs.OnTheWay.{entry_more, entry_shown, join, part_left, room_on, shown_so_far, stay, way_whole, whole_driven}
use Rattle.net_drive.proofs.traces.drive_through.Goals as goal

pub loop-entry-init : goal.loop-entry-init
loop-entry-init g c = record { number = refl; way = stay c.args.net.now c.args.trace.now; agenda = c.in_ok-agenda.ensures }

pub reach-requires-clause-room : goal.reach-requires-clause-room
reach-requires-clause-room g c =
    let i = c.loop-entry.entry-index in
    let trace = c.args.trace.now in
    let few : length (take i trace) ≤ 1000000 = omega (arith, length-take-le i trace (omega (arith, c.loop-entry-test.true)), c.loop-entry-test.true, c.requires.few) in
    room_on c.args.net.now c.loop-entry.net (take i trace) (drop i trace) c.loop-entry.invariant.way c.requires.fresh few c.requires.room

pub reach-requires-clause-shown : goal.reach-requires-clause-shown
reach-requires-clause-shown g c =
    entry_shown c.args.trace.now c.loop-entry.entry-index c.entry-item.result c.requires.shown c.loop-entry-test.true c.entry-item.is

pub returns-then-not-branch-clause-driven : goal.returns-then-not-branch-clause-driven
returns-then-not-branch-clause-driven g c =
    let k = c.known.ensures in
    let known = c.term_laws.ensures in
    let start = c.args.net.now in
    let net = c.loop-entry.net in
    let i = c.loop-entry.entry-index in
    let e = c.entry-item.result in
    let trace = c.args.trace.now in
    let so_far = c.loop-entry.invariant in
    let stuck : IsStuckAt net e = subst (Reaches net e c.reach.new.net) c.if-not-branch.true c.in_ok-reach.ensures.reached in
    let splits : take i trace ++ e ∷ drop (i + 1) trace ≡ trace =
    ap (λ rest. take i trace ++ rest) (sym (part_left trace i e c.loop-entry-test.true c.entry-item.is)) ∙ way_whole i trace in
    let number : suc (length (take i trace)) ≡ c.loop-entry.number + 1 =
    omega (arith, length-take-le i trace (omega (arith, c.loop-entry-test.true)), so_far.number) in
    subst (IsDriveStray start.bundle trace) number
    (stuck_stray (same_traces known k.offered k.readiness k.auxiliary k.simulation k.settlement) (strays_are_exact known k.offered k.readiness k.auxiliary)
    start net (take i trace) (drop (i + 1) trace) e trace (subst IsSound so_far.way.bundle c.has_run.ensures.sound) so_far.way.bundle
    (shown_so_far start net (take i trace) (drop i trace) so_far.way c.requires.fresh) stuck splits)

pub loop-entry-preserved : goal.loop-entry-preserved
loop-entry-preserved g c =
    let net = c.loop-entry.net in
    let e = c.entry-item.result in
    let reaches : Reaches net e c.reach.new.net true = subst (Reaches net e c.reach.new.net) c.if-not-branch.false c.in_ok-reach.ensures.reached in
    record {
      number = ap (λ n. n + 1) c.loop-entry.invariant.number;
      way = entry_more c.args.net.now net c.reach.new.net c.args.trace.now c.loop-entry.entry-index e c.loop-entry.invariant.way reaches c.loop-entry-test.true c.entry-item.is;
      agenda = c.in_ok-reach.ensures.agenda c.if-not-branch.false;
    }

pub settle-requires-clause-room : goal.settle-requires-clause-room
settle-requires-clause-room g c =
    let i = c.loop-entry.entry-index in
    let trace = c.args.trace.now in
    let few : length (take i trace) ≤ 1000000 = subst (λ t. length t ≤ 1000000) (sym (take_all i trace c.loop-entry-test.false)) c.requires.few in
    room_on c.args.net.now c.loop-entry.net (take i trace) (drop i trace) c.loop-entry.invariant.way c.requires.fresh few c.requires.room

pub returns-clause-driven : goal.returns-clause-driven
returns-clause-driven g c =
    let start = c.args.net.now in
    let net = c.loop-entry.net in
    let new = c.settle.new.net in
    let i = c.loop-entry.entry-index in
    let trace = c.args.trace.now in
    let settles : Settles net new = c.in_ok-settle.ensures in
    let through : DrivesOn start net trace [] =
    subst (DrivesOn start net trace) (drop_all i trace c.loop-entry-test.false)
    (subst (λ t. DrivesOn start net t (drop i trace)) (take_all i trace c.loop-entry-test.false) c.loop-entry.invariant.way) in
    let on : DrivesOn start new trace [] =
    subst (λ t. DrivesOn start new t []) (append-nil trace) (join start net new trace [] [] through settles.drives) in
    (whole_driven c.known.ensures.auxiliary start new trace c.requires.fresh c.has_run-2.ensures on settles.rests, shown_so_far start new trace [] on c.requires.fresh)
