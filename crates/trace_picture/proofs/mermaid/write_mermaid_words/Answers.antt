use Rattle.std.proofs.Common.{take, arith}
use Rattle.std.proofs.lemmas.Grind.{common_steps}
use Rattle.trace_picture.specs.Mermaid.{mermaid_byte, mermaid_words}
use Rattle.trace_picture.proofs.Repeats.{flat_map_at, still_front}
use Rattle.trace_picture.proofs.mermaid.write_mermaid_words.Goals as goal

pub loop-byte-preserved : goal.loop-byte-preserved
loop-byte-preserved c =
    flat_map_at mermaid_byte c.args.bytes.now c.loop-byte.byte-index 0 c.args.out.now.items c.loop-byte.out.items c.write_mermaid_byte.new.out.items
    (omega arith) c.loop-byte.invariant c.in_ok-write_mermaid_byte.ensures.ok

pub returns-in_err-write_mermaid_byte-clause-memory : goal.returns-in_err-write_mermaid_byte-clause-memory
returns-in_err-write_mermaid_byte-clause-memory c =
    still_front _ c.args.out.now.items (mermaid_words (take c.loop-byte.byte-index c.args.bytes.now)) c.loop-byte.out.items c.write_mermaid_byte.new.out.items
    c.loop-byte.invariant c.in_err-write_mermaid_byte.ensures.memory

pub returns-clause-ok : goal.returns-clause-ok
returns-clause-ok c = grind (arith, common_steps)
