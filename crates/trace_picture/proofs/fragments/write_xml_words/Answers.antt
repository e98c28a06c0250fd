use Rattle.std.proofs.Common.{take, arith}
use Rattle.std.proofs.lemmas.Grind.{common_steps}
use Rattle.trace_picture.specs.Fragments.{xml_byte, xml_words}
use Rattle.trace_picture.proofs.Repeats.{flat_map_at, still_front}
use Rattle.trace_picture.proofs.fragments.write_xml_words.Goals as goal

pub loop-byte-preserved : goal.loop-byte-preserved
loop-byte-preserved c =
    flat_map_at xml_byte c.args.bytes.now c.loop-byte.byte-index 0 c.args.out.now.items c.loop-byte.out.items c.write_xml_byte.new.out.items
    (omega arith) c.loop-byte.invariant c.in_ok-write_xml_byte.ensures.ok

pub returns-in_err-write_xml_byte-clause-memory : goal.returns-in_err-write_xml_byte-clause-memory
returns-in_err-write_xml_byte-clause-memory c =
    still_front _ c.args.out.now.items (xml_words (take c.loop-byte.byte-index c.args.bytes.now)) c.loop-byte.out.items c.write_xml_byte.new.out.items
    c.loop-byte.invariant c.in_err-write_xml_byte.ensures.memory

pub returns-clause-ok : goal.returns-clause-ok
returns-clause-ok c = grind (arith, common_steps)
