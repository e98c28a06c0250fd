-- `gen` has read nothing.
use Rattle.aioc_top.specs.Replies.{reply_of}
use Rattle.aioc_top.proofs.FaultLemmas.{gen_is_mendable, gen_replies}
use Rattle.aioc_top.proofs.executing.execute_alone.Goals as goal

pub returns-in-Gen-clause-reply : goal.returns-in-Gen-clause-reply
returns-in-Gen-clause-reply c =
    gen_replies c.args.command.now c.in-Gen.number c.in-Gen.size c.in-Gen.is c.args.spelled.now (reply_of c.in_ok-generate.field-0) c.requires.fits c.in_ok-generate.ensures

pub returns-in-Gen-clause-mendable : goal.returns-in-Gen-clause-mendable
returns-in-Gen-clause-mendable c = gen_is_mendable c.args.command.now c.in-Gen.number c.in-Gen.size c.in-Gen.is c.args.spelled.now
