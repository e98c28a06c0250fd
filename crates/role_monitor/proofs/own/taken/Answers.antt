-- The take of the act.
use Rattle.std.proofs.Common.{refl, sym, ap, ◌∙◌, subst}
use Rattle.dioc_terms.specs.declared.entries.Act.TheVariants as act
use Rattle.dioc_terms.specs.Processes.{load}
use Rattle.process_steps.specs.Laws.{given_fits}
use Rattle.role_mailbox.specs.Pending.{payload_at}
use Rattle.role_monitor.proofs.Owns.{fitting_is, needs_nothing, taken_holds}
use Rattle.role_monitor.specs.Judging.{TakenBy, mail_given}
use Rattle.role_monitor.specs.Monitoring.{arrived}
use Rattle.role_monitor.proofs.own.taken.Goals as goal

pub returns-in-Some-clause-taken : goal.returns-in-Some-clause-taken
returns-in-Some-clause-taken c =
    subst (λ a. TakenBy a c.args.mail.now c.taken_message.new.mail) (sym c.in-Take.is)
    (taken_holds c.mail_is_a_map.ensures c.args.mail.now c.taken_message.new.mail c.in-Take.key (load c.in-Some.payload) c.in-Some.ensures.taken)

pub returns-in-Some-clause-like : goal.returns-in-Some-clause-like
returns-in-Some-clause-like c = ap arrived (sym c.in-Some.ensures.payload) ∙ sym (ap (λ a. mail_given a c.args.mail.now) c.in-Take.is)

pub returns-in-Some-clause-stands : goal.returns-in-Some-clause-stands
returns-in-Some-clause-stands c = λ me lead. ap (λ a. mail_given a c.args.mail.now) c.in-Take.is ∙ ap arrived c.in-Some.ensures.payload

pub returns-in-Some-clause-fits : goal.returns-in-Some-clause-fits
returns-in-Some-clause-fits c =
    ap (λ a. given_fits a (mail_given a c.args.mail.now)) c.in-Take.is ∙ ap (λ o. given_fits (act.Take c.in-Take.key) (arrived o)) c.in-Some.ensures.payload ∙ c.in-Some.ensures.fits

pub returns-in-None-clause-misfit : goal.returns-in-None-clause-misfit
returns-in-None-clause-misfit c =
    ap (λ a. given_fits a (mail_given a c.args.mail.now)) c.in-Take.is ∙ fitting_is c.in-Take.key (payload_at c.in-Take.key c.args.mail.now) ∙ c.in-None.ensures.misfit

pub returns-in_default : goal.returns-in_default
returns-in_default c =
    let needs = needs_nothing c.args.act c.args.mail.now c.requires.plain c.in_default.not-Take in
    record {
      act = refl;
      like = needs.alone;
      stands = λ me lead. sym needs.alone;
      fits = needs.fits;
      taken = needs.taken;
      room = c.requires.room;
      misfit = tt;
      same = tt;
    }
