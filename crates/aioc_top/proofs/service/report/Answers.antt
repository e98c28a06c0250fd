-- Each fault has its status and its line.
use Rattle.std.proofs.Common.{inl, sym, subst}
use Rattle.aioc_top.specs.Faults.{Reports}
use Rattle.aioc_top.proofs.Table.{said_made}
use Rattle.aioc_top.proofs.service.report.Goals as goal

pub returns-in-Usage : goal.returns-in-Usage
returns-in-Usage g c = subst (λ f. Reports f (g.E.Sink.state c.args.err.now) (g.E.Sink.state c.say.new.err) c.say.result) (sym c.in-Usage.is) (inl c.say.ensures)

pub returns-in-ReadFault : goal.returns-in-ReadFault
returns-in-ReadFault g c =
    subst (λ f. Reports f (g.E.Sink.state c.args.err.now) (g.E.Sink.state c.say-in-ReadFault.new.err) c.say-in-ReadFault.result) (sym c.in-ReadFault.is) (inl c.say-in-ReadFault.ensures)

pub returns-in-TooLong : goal.returns-in-TooLong
returns-in-TooLong g c =
    subst (λ f. Reports f (g.E.Sink.state c.args.err.now) (g.E.Sink.state c.say-in-TooLong.new.err) c.say-in-TooLong.result) (sym c.in-TooLong.is) (inl c.say-in-TooLong.ensures)

pub returns-in-Memory : goal.returns-in-Memory
returns-in-Memory g c =
    subst (λ f. Reports f (g.E.Sink.state c.args.err.now) (g.E.Sink.state c.say-in-Memory.new.err) c.say-in-Memory.result) (sym c.in-Memory.is) (inl c.say-in-Memory.ensures)

pub returns-in-Syntax : goal.returns-in-Syntax
returns-in-Syntax g c =
    subst (λ f. Reports f (g.E.Sink.state c.args.err.now) (g.E.Sink.state c.say_made.new.err) c.say_made.result) (sym c.in-Syntax.is)
    (said_made (λ line. line.items) c.make_syntax_line-line.result _ c.say_made.result _ (g.E.Sink.state c.args.err.now) (g.E.Sink.state c.say_made.new.err)
    c.make_syntax_line-line.ensures c.say_made.ensures.made c.say_made.ensures.memory)
