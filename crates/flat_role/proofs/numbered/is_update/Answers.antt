-- What a mark stands for is an update just where the mark is.
use Rattle.std.proofs.Common.{◌≡◌, List, get_or, sym, ap, ◌∙◌}
use Rattle.std.proofs.lemmas.List.{get_or_default}
use Rattle.flat_role.specs.declared.marks.Mark.{Mark}
use Rattle.flat_role.specs.declared.marks.Mark.TheVariants as kept
use Rattle.flat_role.specs.KeptMarks.{meant}
use Rattle.flat_role.specs.Leaves.{is_became}
use Rattle.flat_role.specs.PlanMarks.{static_at}
use Rattle.flat_role.proofs.FillLemmas.{not_became}
use Rattle.flat_role.proofs.numbered.is_update.Goals as goal

pub returns-in-Became : goal.returns-in-Became
returns-in-Became c = λ me plan.
    let marks : List Mark = c.args.marks.now in
    let mark : Mark = c.index-marks-place.result in
    let read : mark ≡ get_or marks c.args.place kept.Untouched =
    c.index-marks-place.is ∙ get_or_default marks c.args.place mark kept.Untouched c.requires in
    ap (λ m. is_became (meant me (static_at plan c.args.place) m)) (sym c.in-Became.is ∙ read)

pub returns-in_default : goal.returns-in_default
returns-in_default c = λ me plan.
    let marks : List Mark = c.args.marks.now in
    let mark : Mark = c.index-marks-place.result in
    let read : mark ≡ get_or marks c.args.place kept.Untouched =
    c.index-marks-place.is ∙ get_or_default marks c.args.place mark kept.Untouched c.requires in
    sym (not_became me (static_at plan c.args.place) mark c.in_default.not-Became)
    ∙ ap (λ m. is_became (meant me (static_at plan c.args.place) m)) read
