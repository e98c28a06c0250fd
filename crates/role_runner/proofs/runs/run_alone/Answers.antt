-- The run is the schedule's.
use Rattle.std.proofs.Common.{refl, ◌∙◌}
use Rattle.dioc_terms.specs.Plain.{plain}
use Rattle.role_runner.proofs.AloneLemmas.{alone_ended, alone_full, alone_prompt, alone_run, alone_within, nothing_prompt}
use Rattle.role_runner.proofs.runs.run_alone.Goals as goal

pub returns-in-Ok : goal.returns-in-Ok
returns-in-Ok c =
    let bundle = plain c.args.bundle.now in
    let net = c.run_seeded.new.net in
    let entries = c.outcome_of.result.history.entries in
    let owner = c.run_seeded.ensures.same_bundle ∙ c.in_ok-net.ensures.bundle in
    let bound = c.run_seeded.ensures.same_limit ∙ c.in_ok-net.ensures.limit in
    let same = c.outcome_of.ensures.history in
    let ran = c.run_seeded.ensures.run in
    record {
      run = alone_run bundle c.args.limit net entries owner bound same ran;
      prompt = alone_prompt bundle c.args.limit net entries owner bound same ran (c.run_seeded.ensures.prompt refl (nothing_prompt c.in_ok-net.net.bundle c.in_ok-net.net.history c.in_ok-net.ensures.history));
      within = alone_within bundle c.args.limit net entries owner bound same ran;
      ended = alone_ended bundle c.args.limit net entries owner bound same ran c.outcome_of.result.ended c.outcome_of.ensures.ended;
      full = alone_full bundle c.args.limit net entries owner bound same ran c.outcome_of.result.ended c.outcome_of.ensures.ended c.in-Ok._finish c.in-Ok.ensures.ended c.in-Ok.ensures.limit;
    }
