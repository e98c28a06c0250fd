-- Each clause, from what the call did and from what the crates below prove.
use Rattle.std.proofs.Common.{refl}
use Rattle.command_words.specs.Commands.{word_texts}
use Rattle.aioc_top.specs.Words.{asked}
use Rattle.aioc_top.proofs.Asked.{asked_alone, asked_short}
use Rattle.aioc_top.proofs.Finishing.{finished}
use Rattle.aioc_top.proofs.Serving.{headline, serves}
use Rattle.aioc_top.proofs.Table.{stopped}
use Rattle.aioc_top.proofs.service.serve_alone.Goals as goal

pub execute_alone-answered-requires : goal.execute_alone-answered-requires
execute_alone-answered-requires g c = record {
  short = c.in-Ok.ensures.ready.short;
  alone = asked_alone (word_texts c.args.words.now) c.in-Ok.task.command c.requires.alone c.in-Ok.ensures.ready.asked;
  fits = c.in-Ok.ensures.ready.read.fits;
  admits = c.in-Ok.ensures.ready.admits;
}

pub returns-in-Ok : goal.returns-in-Ok
returns-in-Ok g c =
    let answered = c.execute_alone-answered in
    let happens = finished (asked (word_texts c.args.words.now)) (g.S.Source.state c.args.source.now) (g.S.Source.state c.prepare_alone.new.source)
    (g.O.Sink.state c.args.out.now) (g.O.Sink.state c.tell.new.out) (g.E.Sink.state c.args.err.now) (g.E.Sink.state c.tell.new.err)
    c.in-Ok.task c.in-Ok.ensures.ready c.tell.result answered.result answered.ensures.reply answered.ensures.mendable answered.ensures.fault
    c.tell.ensures.printed c.tell.ensures.reported c.tell.ensures.quiet in
    record {
      serves = serves c.know_laws.ensures _ c.tell.result happens (asked_short (word_texts c.args.words.now));
      headline = headline c.know_laws.ensures _ c.tell.result happens;
      every_run = c.know_laws.ensures.every_run;
    }

pub returns-in-Err : goal.returns-in-Err
returns-in-Err g c =
    let happens = stopped (asked (word_texts c.args.words.now)) (g.S.Source.state c.args.source.now) (g.S.Source.state c.prepare_alone.new.source)
    (g.O.Sink.state c.args.out.now) (g.O.Sink.state c.args.out.now) (g.E.Sink.state c.args.err.now) (g.E.Sink.state c.report.new.err)
    c.in-Err.fault c.report.result refl c.in-Err.ensures.fault c.report.ensures in
    record {
      serves = serves c.know_laws.ensures _ c.report.result happens (asked_short (word_texts c.args.words.now));
      headline = headline c.know_laws.ensures _ c.report.result happens;
      every_run = c.know_laws.ensures.every_run;
    }
