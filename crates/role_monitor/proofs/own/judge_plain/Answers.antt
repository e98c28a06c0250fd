-- The entry is the step's, or none.
use Rattle.std.proofs.Common.{sym, ap₂, ◌∙◌, subst}
use Rattle.dpoc_process.specs.Acting.{acting_lead}
use Rattle.dpoc_process.specs.LocalStates.{step_at}
use Rattle.dpoc_process.specs.RoleSteps.{IsStep}
use Rattle.dpoc_process.specs.Shows.{message_shown}
use Rattle.process_steps.specs.Laws.{is_done}
use Rattle.role_monitor.proofs.Owns.{makes, misfit_fails, other_fails, put_sends}
use Rattle.role_monitor.specs.Judging.{PutBy, mail_given}
use Rattle.role_monitor.proofs.own.judge_plain.Goals as goal

pub returns-then-not-is_entry-clause-refused : goal.returns-then-not-is_entry-clause-refused
returns-then-not-is_entry-clause-refused g c =
    let s = g.R.Runs.local c.args.state.now in
    let h = c.is_entry.ensures in
    let k = c.if-not-is_entry.true in
    other_fails c.steps_show_their_acts.ensures s c.args.act c.args.shown c.requires.shown c.requires.plain c.args.entry.now (mail_given c.args.act c.args.mail.now) (sym h ∙ k)

pub returns-in_default-clause-refused : goal.returns-in_default-clause-refused
returns-in_default-clause-refused g c =
    let s = g.R.Runs.local c.args.state.now in
    misfit_fails s c.args.act c.args.mail.now c.args.entry.now c.requires.plain c.requires.misfits c.in_default.ensures.misfit

pub advance-requires-clause-can : goal.advance-requires-clause-can
advance-requires-clause-can g c =
    let s = g.R.Runs.local c.args.state.now in
    ap₂ (λ a given. is_done (step_at s a given)) c.in-Some.ensures.act c.in-Some.ensures.like
    ∙ c.offers_are_steps.ensures.exactly s.role s.store s.process c.args.act (mail_given c.args.act c.args.mail.now) c.in-Some.ensures.fits
    ∙ c.requires.shown.can_act

pub returns-clause-kept : goal.returns-clause-kept
returns-clause-kept g c =
    let s = g.R.Runs.local c.args.state.now in
    let given = mail_given c.args.act c.args.mail.now in
    let s' = g.R.Runs.local c.advance.new.self in
    let stepped = subst (λ a. IsStep s a given s') c.in-Some.ensures.act (c.advance.ensures.steps given (c.in-Some.ensures.stands s.role (acting_lead s c.in-Some.act))) in
    makes c.steps_show_their_acts.ensures s c.args.act c.args.shown c.requires.shown c.requires.plain c.args.entry.now given
    (sym c.is_entry.ensures ∙ c.if-not-is_entry.false) s' stepped c.args.me.now c.requires.me c.args.mail.now c.taken.new.mail c.keep_own.new.mail c.in-Some.ensures.taken
    (subst (λ a. PutBy c.args.me.now a (message_shown c.args.shown) c.taken.new.mail c.keep_own.new.mail) c.in-Some.ensures.act c.keep_own.ensures)

pub keep_own-requires-clause-sends : goal.keep_own-requires-clause-sends
keep_own-requires-clause-sends g c = λ k put.
    let s = g.R.Runs.local c.args.state.now in
    put_sends c.offers_are_steps.ensures c.steps_show_their_acts.ensures s c.args.act c.args.shown c.requires.shown k (sym c.in-Some.ensures.act ∙ put)
