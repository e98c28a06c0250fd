use Rattle.std.proofs.Common.{length, refl, ap, ◌∙◌, arith}
use Rattle.flat_code.specs.Levels.{all_ended}
use Rattle.flat_code.specs.Places.{at, processes}
use Rattle.flat_code.proofs.LevelLemmas.{closed_ended, closed_levels, level_of_body, level_of_none, level_of_two, one_ended, two_ended}
use Rattle.flat_code.proofs.levels.+add_levels.Goals as goal

pub returns-in-Zero-clause-added : goal.returns-in-Zero-clause-added
returns-in-Zero-clause-added t c =
    closed_levels c.close.result c.args.levels.now.items c.args.levels.now.items c.close.new.levels.items c.args.parent c.len-low.result
    (at (processes c.args.code.now.ops.items) c.args.place)
    (level_of_none c.args.code.now.ops.items (length c.args.levels.now.items) c.args.place c.op_at-op.result.now
    (record { begins = c.requires.begins; lies = c.requires.lies; is = c.op_at-op.ensures.is; stands = c.op_at-op.ensures.stands })
    c.args.levels.now.items refl c.in-Zero.ensures)
    (omega (arith, c.len-low.ensures))
    (closed_ended c.close.result c.args.code.now.ops.items c.args.place c.op_at-op.result.now _ c.op_at-op.ensures.stands
    (ap (all_ended (processes c.args.code.now.ops.items)) c.in-Zero.ensures) c.close.ensures.ended)
    c.close.ensures.pushed

pub returns-in_ok-ended-in-One-clause-ended : goal.returns-in_ok-ended-in-One-clause-ended
returns-in_ok-ended-in-One-clause-ended t c =
    closed_ended c.close-in-One.result c.args.code.now.ops.items c.args.place c.op_at-op.result.now c.in_ok-ended-in-One.ended c.op_at-op.ensures.stands
    (one_ended (processes c.args.code.now.ops.items) c.op_at-op.result.now c.in-One.body c.in_ok-ended-in-One.ended c.in-One.ensures c.in_ok-ended-in-One.ensures.ended)
    c.close-in-One.ensures.ended

pub returns-in_ok-ended-in-One-clause-added : goal.returns-in_ok-ended-in-One-clause-added
returns-in_ok-ended-in-One-clause-added t c =
    closed_levels c.close-in-One.result c.args.levels.now.items c.add_levels.new.levels.items c.close-in-One.new.levels.items c.args.parent c.len-low.result
    (at (processes c.args.code.now.ops.items) c.args.place)
    (level_of_body c.args.code.now.ops.items (length c.args.levels.now.items) c.args.place c.op_at-op.result.now
    (record { begins = c.requires.begins; lies = c.requires.lies; is = c.op_at-op.ensures.is; stands = c.op_at-op.ensures.stands })
    c.args.levels.now.items c.add_levels.new.levels.items c.in-One.body refl c.in-One.ensures c.in_ok-ended-in-One.ensures.added)
    (omega (arith, c.len-low.ensures))
    (closed_ended c.close-in-One.result c.args.code.now.ops.items c.args.place c.op_at-op.result.now c.in_ok-ended-in-One.ended c.op_at-op.ensures.stands
    (one_ended (processes c.args.code.now.ops.items) c.op_at-op.result.now c.in-One.body c.in_ok-ended-in-One.ended c.in-One.ensures c.in_ok-ended-in-One.ensures.ended)
    c.close-in-One.ensures.ended)
    c.close-in-One.ensures.pushed

pub returns-in_ok-second_ended-in-Two-clause-ended : goal.returns-in_ok-second_ended-in-Two-clause-ended
returns-in_ok-second_ended-in-Two-clause-ended t c =
    closed_ended c.close-in-Two.result c.args.code.now.ops.items c.args.place c.op_at-op.result.now c.both.result c.op_at-op.ensures.stands
    (c.both.ensures ∙ two_ended (processes c.args.code.now.ops.items) c.op_at-op.result.now c.in-Two.first c.in-Two.second
    c.in_ok-first_ended-in-Two.first_ended c.in_ok-second_ended-in-Two.second_ended c.in-Two.ensures
    c.in_ok-first_ended-in-Two.ensures.ended c.in_ok-second_ended-in-Two.ensures.ended)
    c.close-in-Two.ensures.ended

pub returns-in_ok-second_ended-in-Two-clause-added : goal.returns-in_ok-second_ended-in-Two-clause-added
returns-in_ok-second_ended-in-Two-clause-added t c =
    closed_levels c.close-in-Two.result c.args.levels.now.items c.add_levels-in-Two-2.new.levels.items c.close-in-Two.new.levels.items c.args.parent c.len-low.result
    (at (processes c.args.code.now.ops.items) c.args.place)
    (level_of_two c.args.code.now.ops.items (length c.args.levels.now.items) c.args.place c.op_at-op.result.now
    (record { begins = c.requires.begins; lies = c.requires.lies; is = c.op_at-op.ensures.is; stands = c.op_at-op.ensures.stands })
    c.args.levels.now.items c.add_levels-in-Two.new.levels.items c.add_levels-in-Two-2.new.levels.items c.in-Two.first c.in-Two.second refl c.in-Two.ensures
    c.in_ok-first_ended-in-Two.ensures.added c.in_ok-second_ended-in-Two.ensures.added)
    (omega (arith, c.len-low.ensures))
    (closed_ended c.close-in-Two.result c.args.code.now.ops.items c.args.place c.op_at-op.result.now c.both.result c.op_at-op.ensures.stands
    (c.both.ensures ∙ two_ended (processes c.args.code.now.ops.items) c.op_at-op.result.now c.in-Two.first c.in-Two.second
    c.in_ok-first_ended-in-Two.first_ended c.in_ok-second_ended-in-Two.second_ended c.in-Two.ensures
    c.in_ok-first_ended-in-Two.ensures.ended c.in_ok-second_ended-in-Two.ensures.ended)
    c.close-in-Two.ensures.ended)
    c.close-in-Two.ensures.pushed
