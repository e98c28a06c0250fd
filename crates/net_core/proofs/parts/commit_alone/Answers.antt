-- What the role did alone is the step that was prepared.
use Rattle.std.proofs.Common.{refl}
use Rattle.process_steps.specs.Steps.{Alone}
use Rattle.dpoc_process.specs.Shows.{message_shown}
use Rattle.net_core.proofs.DeedLemmas.{committed, leaves_mail, puts_none}
use Rattle.net_core.proofs.parts.commit_alone.Goals as goal

pub returns : goal.returns
returns g c =
    let a = c.args.act.now in
    record {
      done = λ mail count. committed c.steps_show_their_acts.ensures (g.R.Runs.local c.args.state.now) a c.args.shown c.requires.shown Alone
          c.requires.plain (g.R.Runs.local c.advance.new.self) (c.advance.ensures.steps Alone refl) c.unwrap.result c.unwrap.ensures mail mail
          mail (leaves_mail a mail c.requires.no_take) (puts_none a (message_shown c.args.shown) mail c.requires.no_put)
          c.args.history.now.entries c.push.new.self.entries c.push.ensures.pushed count;
    }
