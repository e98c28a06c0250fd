-- The agenda is brought up to date with the step that was made; where none was made the net stays.
use Rattle.std.proofs.Common.{◌≡◌, List, true, false, sym, ap, ◌∙◌, subst}
use Rattle.std.specs.Prelude.{map}
use Rattle.network_steps.specs.declared.moves.Move.{Move}
use Rattle.net_drive.specs.Making.{MakesListed}
use Rattle.net_drive.proofs.Trying.{move_made}
use Rattle.schedule.proofs.AgendaLemmas.{stale_after}
use Rattle.schedule.specs.declared.roles.Listed.TheVariants as listed
use Rattle.schedule.specs.declared.roles.ReadyRole.{ReadyRole}
use Rattle.schedule.specs.Agendas.{IsListed, IsStaleAt, agenda_of, move_at, ready_seen}
use Rattle.net_drive.proofs.entries.make_on.Goals as goal

pub make_listed-requires-clause-agenda : goal.make_listed-requires-clause-agenda
make_listed-requires-clause-agenda g c = ap (map ready_seen) c.as_slice.ensures.value ∙ c.requires.agenda

pub make_listed-requires-clause-listed : goal.make_listed-requires-clause-listed
make_listed-requires-clause-listed g c =
    subst (λ (rs : List ReadyRole). IsListed (map ready_seen rs) (listed.Act c.args.doer c.args.place)) (sym c.as_slice.ensures.value) c.requires.listed

pub returns-then-not-branch-clause-makes : goal.returns-then-not-branch-clause-makes
returns-then-not-branch-clause-makes g c =
    let old = c.args.net.now in
    let new = c.make_listed.new.net in
    let made = listed.Act c.args.doer c.args.place in
    subst (λ (rs : List ReadyRole). MakesListed old (map ready_seen rs) made new false) c.as_slice.ensures.value
    (subst (MakesListed old (map ready_seen c.as_slice.result.now) made new) c.if-not-branch.true c.in_ok-make_listed.ensures)

pub returns-then-not-branch-clause-agenda : goal.returns-then-not-branch-clause-agenda
returns-then-not-branch-clause-agenda g c =
    let old = c.args.net.now in
    let new = c.make_listed.new.net in
    let made = listed.Act c.args.doer c.args.place in
    let stays : MakesListed old (map ready_seen c.as_slice.result.now) made new false =
    subst (MakesListed old (map ready_seen c.as_slice.result.now) made new) c.if-not-branch.true c.in_ok-make_listed.ensures in
    let there = ap (λ (rs : List ReadyRole). move_at (map ready_seen rs) made) c.as_slice.ensures.value ∙ c.requires.listed.there in
    c.requires.agenda ∙ ap agenda_of (sym (stays c.requires.listed.move there).1)

pub catch_up-requires : goal.catch_up-requires
catch_up-requires g c =
    let known = c.term_laws.ensures in
    let old = c.args.net.now in
    let new = c.make_listed.new.net in
    let made = listed.Act c.args.doer c.args.place in
    let m : Move = c.requires.listed.move in
    let makes : MakesListed old (map ready_seen c.as_slice.result.now) made new true =
    subst (MakesListed old (map ready_seen c.as_slice.result.now) made new) c.if-not-branch.false c.in_ok-make_listed.ensures in
    let there = ap (λ (rs : List ReadyRole). move_at (map ready_seen rs) made) c.as_slice.ensures.value ∙ c.requires.listed.there in
    let of_old : map ready_seen c.args.agenda.now.items ≡ agenda_of old = c.requires.agenda in
    subst (λ (rs : List ReadyRole). IsStaleAt new made (map ready_seen rs)) (sym c.as_mut_slice.ensures.value)
    (record {
      move = m;
      there = c.requires.listed.there;
      stale = stale_after known old new m (map ready_seen c.args.agenda.now.items) c.requires.run (move_made old new m (makes m there)) of_old;
    })

pub returns-clause-makes : goal.returns-clause-makes
returns-clause-makes g c =
    let old = c.args.net.now in
    let new = c.make_listed.new.net in
    let made = listed.Act c.args.doer c.args.place in
    subst (λ (rs : List ReadyRole). MakesListed old (map ready_seen rs) made new true) c.as_slice.ensures.value
    (subst (MakesListed old (map ready_seen c.as_slice.result.now) made new) c.if-not-branch.false c.in_ok-make_listed.ensures)
