use Rattle.std.proofs.Common.{take, flat_map, arith}
use Rattle.std.proofs.lemmas.Grind.{common_steps}
use Rattle.trace_picture.specs.Fragments.{fragment_text}
use Rattle.trace_picture.proofs.Repeats.{flat_map_at, still_front}
use Rattle.trace_picture.proofs.fragments.write_fragments.Goals as goal

pub loop-fragment-preserved : goal.loop-fragment-preserved
loop-fragment-preserved c =
    flat_map_at fragment_text c.args.fragments.now c.loop-fragment.fragment-index _ c.args.out.now.items c.loop-fragment.out.items c.write_fragment.new.out.items
    (omega arith) c.loop-fragment.invariant c.in_ok-write_fragment.ensures.ok

pub returns-in_err-write_fragment-clause-memory : goal.returns-in_err-write_fragment-clause-memory
returns-in_err-write_fragment-clause-memory c =
    still_front _ c.args.out.now.items (flat_map fragment_text (take c.loop-fragment.fragment-index c.args.fragments.now)) c.loop-fragment.out.items c.write_fragment.new.out.items
    c.loop-fragment.invariant c.in_err-write_fragment.ensures.memory

pub returns-clause-ok : goal.returns-clause-ok
returns-clause-ok c = grind (arith, common_steps)
