-- An act that can be done is one more.
use Rattle.std.proofs.Common.{◌≡◌, drop, take, sym, ap, ◌∙◌, arith, rules}
use Rattle.net_core.specs.Nets.{network_of}
use Rattle.network_steps.specs.Schedule.{is_ready}
use Rattle.schedule.proofs.PartLemmas.{one_ready, one_waits, whole}
use Rattle.schedule.specs.Agendas.{parted, with_place}
use Rattle.schedule.proofs.agenda.ask.Goals as goal
use Rattle.schedule.proofs.agenda.ask.Goals.{then-is_ready+in_ok-add_place, else-is_ready}

pub loop-at-init : goal.loop-at-init
loop-at-init g c = record { parted = c.requires.parted; order = c.requires.order }

pub loop-at-preserved : goal.loop-at-preserved
loop-at-preserved g c =
    let xs = c.args.acts.now in
    let i = c.loop-at.at in
    let x = c.index-acts-at.result in
    let p = is_ready (network_of c.args.net.now) in
    elim c.if-is_ready.branch [
      | then-is_ready+in_ok-add_place w ↦
          let added : w.add_place.new.ready.items ≡ with_place i c.loop-at.ready.items = search rules in
          record {
            parted = ap (λ v. v.items) w.ready-is ∙ added ∙ ap (with_place i) c.loop-at.invariant.parted
                ∙ one_ready p xs c.args.end c.requires.within i x c.loop-at-test.true c.index-acts-at.is (sym c.is_ready.ensures ∙ w.if-is_ready.true);
            order = omega (arith, c.loop-at-test.true);
          }
      | else-is_ready w ↦ record {
        parted = ap (λ v. v.items) w.ready-is ∙ c.loop-at.invariant.parted
            ∙ one_waits p xs c.args.end c.requires.within i x c.loop-at-test.true c.index-acts-at.is (sym c.is_ready.ensures ∙ w.if-is_ready.false);
        order = omega (arith, c.loop-at-test.true);
      }
    ]

pub returns : goal.returns
returns g c =
    let p = is_ready (network_of c.args.net.now) in
    let xs = c.args.acts.now in
    let last : c.loop-at.at ≡ c.args.end = omega (arith, c.loop-at-test.false, c.loop-at.invariant.order) in
    c.loop-at.invariant.parted ∙ ap (λ n. parted p c.args.end (take n xs) (drop c.args.end xs)) last ∙ whole p xs c.args.end c.requires.within
