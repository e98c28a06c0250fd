use Rattle.std.proofs.Common.{length, take, drop, ap, ◌∙◌, arith, le_refl}
use Rattle.std.proofs.lemmas.Slice.{between_to_end}
use Rattle.aioc_io.proofs.Reading.{reads_from}
use Rattle.aioc_io.proofs.sure.SureSourceSource.read.Goals as goal

pub returns-clause-bytes : goal.returns-clause-bytes
returns-clause-bytes c =
    let source = c.args.self.now in
    let copied = c.copy_front-count in
    let bytes = c.deref.result.now in
    let left = between_to_end bytes source.at (length bytes) (le_refl _) ∙ ap (drop source.at) c.deref.ensures.value in
    reads_from source.bytes.items copied.new.into source.at copied.result (omega (arith, ap length left)) (copied.ensures.copied ∙ ap (take copied.result) left)
