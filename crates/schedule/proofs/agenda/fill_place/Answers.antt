-- The acts that were filled in stand between those before them and those behind.
use Rattle.std.proofs.Common.{◌≡◌, ◌+◌, ◌-◌, ◌<◌, ℕ, List, map, take, drop, length, sym, ap, ◌∙◌, arith}
use Rattle.std.specs.Prelude.{nat_le}
use Rattle.std.specs.List.{list_all}
use Rattle.std.proofs.lemmas.List.{length-drop, length-map, length-take-le}
use Rattle.dioc_terms.specs.declared.entries.Act.{Act}
use Rattle.net_core.specs.Nets.{network_of}
use Rattle.network_steps.specs.Schedule.{is_ready}
use Rattle.schedule.proofs.PartLemmas.{all_behind, all_small, filled_long, one_came, parts_are, taken_out, written}
use Rattle.schedule.specs.Agendas.{moved, parted}
use Rattle.schedule.proofs.agenda.fill_place.Goals as goal

pub move_behind-requires : goal.move_behind-requires
move_behind-requires g c =
    let p = is_ready (network_of c.args.net.now) in
    let old = c.args.acts.now.items in
    let new = c.fill_acts_at.new.acts.items in
    let at = c.args.vacancy.at in
    let long : length new ≡ length old + length c.requires.lacks.0 =
    filled_long p old new c.requires.lacks.0 at c.requires.inside (c.in_ok-fill_acts_at.ensures ∙ c.requires.lacks.1) in
    let count : c.len.result - c.len-before.result ≡ length c.requires.lacks.0 =
    omega (arith, long, c.len.ensures, c.len-before.ensures, c.args.acts.now.ok.0, c.fill_acts_at.new.acts.ok.0) in
    let room : (length (take at old) + length (drop at old)) + (c.len.result - c.len-before.result) < 18446744073709551616 =
    omega (arith, long, count, c.requires.inside, length-take-le at old c.requires.inside, length-drop at old, c.fill_acts_at.new.acts.ok.0, c.fill_acts_at.new.acts.ok.1) in
    record {
      small = ap (list_all (λ place. nat_le (place + (c.len.result - c.len-before.result)) 18446744073709551616)) (c.as_mut_slice.ensures.value ∙ c.remove.ensures.items ∙ taken_out p old c.args.vacancy.place at c.args.ready.now.items c.requires.stands)
          ∙ all_small p (take at old) (drop at old) at (c.len.result - c.len-before.result) 18446744073709551616 (sym (length-take-le at old c.requires.inside)) room;
    }

pub ask-requires-clause-parted : goal.ask-requires-clause-parted
ask-requires-clause-parted g c =
    let p = is_ready (network_of c.args.net.now) in
    let old = c.args.acts.now.items in
    let new = c.fill_acts_at.new.acts.items in
    let at = c.args.vacancy.at in
    let n : ℕ = c.len.result - c.len-before.result in
    let is = c.in_ok-fill_acts_at.ensures ∙ c.requires.lacks.1 in
    let long : length new ≡ length old + length c.requires.lacks.0 = filled_long p old new c.requires.lacks.0 at c.requires.inside is in
    let last : at + n ≡ at + length c.requires.lacks.0 =
    omega (arith, long, c.len.ensures, c.len-before.ensures, c.args.acts.now.ok.0, c.fill_acts_at.new.acts.ok.0) in
    let places : c.move_behind.new.places ≡ map (moved at n) c.remove.new.self.items = c.move_behind.ensures ∙ ap (map (moved at n)) c.as_mut_slice.ensures.value in
    let size : length c.move_behind.new.places ≡ length c.remove.new.self.items = ap length places ∙ length-map c.remove.new.self.items (moved at n) in
    written c.remove.new.self.len c.move_behind.new.places c.remove.new.self.items (omega (arith, c.remove.new.self.ok.0)) size
    ∙ places ∙ ap (map (moved at n)) (c.remove.ensures.items ∙ taken_out p old c.args.vacancy.place at c.args.ready.now.items c.requires.stands)
    ∙ all_behind p (take at old) (drop at old) at n (sym (length-take-le at old c.requires.inside))
    ∙ parts_are p old new c.requires.lacks.0 at c.requires.inside is (at + n) last
    ∙ ap (λ (l : List Act). parted p (at + n) (take at l) (drop (at + n) l)) (sym c.as_slice.ensures.value)

pub returns-then-count-eq1 : goal.returns-then-count-eq1
returns-then-count-eq1 g c =
    let p = is_ready (network_of c.args.net.now) in
    let old = c.args.acts.now.items in
    let new = c.fill_acts_at.new.acts.items in
    let at = c.args.vacancy.at in
    let news = c.requires.lacks.0 in
    let is = c.in_ok-fill_acts_at.ensures ∙ c.requires.lacks.1 in
    let long : length new ≡ length old + length news = filled_long p old new news at c.requires.inside is in
    let one : length news ≡ 1 = omega (arith, long, c.if-count-eq1.true, c.len.ensures, c.len-before.ensures, c.args.acts.now.ok.0, c.fill_acts_at.new.acts.ok.0) in
    record {
      all = c.in_ok-fill_acts_at.ensures;
      ready = c.ask_one.ensures
          ∙ one_came p old c.args.vacancy.place at c.args.ready.now.items c.requires.stands new news c.index.result.now c.requires.inside one is c.index.ensures;
    }
