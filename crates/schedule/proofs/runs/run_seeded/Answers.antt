-- What a run leaves, by the entries that it has made and the rest of it.
use Rattle.schedule.proofs.RunLemmas.{goes_again, left_ended, left_full, left_whole, on_the_way}
use Rattle.schedule.proofs.runs.run_seeded.Goals as goal

pub returns-clause-history : goal.returns-clause-history
returns-clause-history g c =
    let ran = c.take_turns-finish in
    left_whole ran.new.net ran.ensures.run c.args.net.now c.args.seed ran.result ran.ensures.goes ran.ensures.finish

pub returns-clause-ended : goal.returns-clause-ended
returns-clause-ended g c =
    let ran = c.take_turns-finish in left_ended ran.new.net ran.ensures.run ran.result ran.ensures.finish

pub returns-clause-limit : goal.returns-clause-limit
returns-clause-limit g c =
    let ran = c.take_turns-finish in left_full ran.new.net ran.ensures.run ran.result ran.ensures.finish

pub returns-clause-way : goal.returns-clause-way
returns-clause-way g c =
    let gone = c.take_turns-finish.ensures.goes in
    on_the_way c.args.net.now c.take_turns-finish.new.net c.args.seed gone.next gone.goes c.take_turns-finish.ensures.run

pub returns-clause-again : goal.returns-clause-again
returns-clause-again g c =
    let gone = c.take_turns-finish.ensures.goes in
    goes_again c.args.net.now c.take_turns-finish.new.net c.args.seed gone.next gone.goes c.take_turns-finish.ensures.run

pub returns-clause-prompt : goal.returns-clause-prompt
returns-clause-prompt g c = c.take_turns-finish.ensures.goes.goes.prompt

pub returns-clause-same_bundle : goal.returns-clause-same_bundle
returns-clause-same_bundle g c = c.take_turns-finish.ensures.goes.goes.bundle

pub returns-clause-same_limit : goal.returns-clause-same_limit
returns-clause-same_limit g c = c.take_turns-finish.ensures.goes.goes.limit
