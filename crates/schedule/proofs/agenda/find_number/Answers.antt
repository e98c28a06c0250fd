-- The act is one of the role at which fewer are left than it has.
use Rattle.std.proofs.Common.{◌≡◌, ◌<◌, sym, ap, ◌∙◌, subst, arith}
use Rattle.std.specs.Prelude.{vec_len}
use Rattle.schedule.proofs.ActedLemmas.{number_at}
use Rattle.schedule.proofs.AgendaLemmas.{count_more}
use Rattle.schedule.specs.declared.roles.ReadyRole.{ReadyRole}
use Rattle.schedule.proofs.agenda.find_number.Goals as goal

pub returns-then-left-count : goal.returns-then-left-count
returns-then-left-count c =
    let count : c.len-count.result ≡ vec_len c.index-agenda-doer.result.ready =
    c.len-count.ensures ∙ ap (λ (ready : ReadyRole). vec_len ready.ready) (sym c.index-agenda-doer.is) in
    number_at c.args.agenda.now c.loop-doer.doer c.index-agenda-doer.result c.loop-doer.left c.args.number
    c.loop-doer-test.true c.index-agenda-doer.is c.loop-doer.invariant (subst (λ n. c.loop-doer.left < n) count c.if-left-count.true)

pub loop-doer-preserved : goal.loop-doer-preserved
loop-doer-preserved c =
    let count : c.len-count.result ≡ vec_len c.index-agenda-doer.result.ready =
    c.len-count.ensures ∙ ap (λ (ready : ReadyRole). vec_len ready.ready) (sym c.index-agenda-doer.is) in
    omega (
      arith,
      c.loop-doer.invariant,
      c.if-left-count.false,
      count,
      count_more c.args.agenda.now c.loop-doer.doer c.index-agenda-doer.result c.loop-doer-test.true c.index-agenda-doer.is,
    )
