use Rattle.std.proofs.Common.{◌≡◌, ◌++◌, map, take, flat_map}
use Rattle.dioc_terms.specs.Plain.{plain_rule}
use Rattle.bundle_text.specs.Pieces.{timed_text}
use Rattle.bundle_text.proofs.writer.write_each_timed.Given as goal

abbrev pub invariant-loop-timed : goal.invariant-loop-timed
invariant-loop-timed l = l.out.items ≡ l.fn.out.items ++ flat_map (timed_text (map plain_rule l.rules)) (take l.timed-index l.script)
