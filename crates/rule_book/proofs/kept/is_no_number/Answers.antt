-- The property that is read isn't the number, or has another name.
use mir.Val.{to_z, of_z}
use Rattle.std.proofs.Common.{◌≡◌, sym, ap, ◌∙◌, take, Bool, true, false, if◌then◌else◌}
use Rattle.std.specs.Int.{w64}
use Rattle.dioc_terms.proofs.ValueLemmas.{bound-more}
use Rattle.dioc_terms.specs.declared.values.Value.{Value}
use Rattle.dioc_terms.specs.declared.values.Value.TheVariants as values
use Rattle.dioc_terms.specs.Equality.{value_eq}
use Rattle.dioc_terms.specs.Values.{bound}
use Rattle.rule_book.proofs.kept.is_no_number.Goals as goal
use Rattle.rule_book.proofs.kept.is_no_number.Goals.{else-is_number-via-then-is_number+else-eq, else-is_number-via-else-is_number}

-- neither of two values is the one that is looked for, so the one that is taken isn't
one_of_two : (named : Bool) (held last v : Value) → value_eq held v ≡ false → value_eq last v ≡ false → value_eq (if named then held else last) v ≡ false
one_of_two true held last v e f = e
one_of_two false held last v e f = f

pub loop-key-preserved : goal.loop-key-preserved
loop-key-preserved c =
    let held = c.loop-key-item.result.1 in
    let number = values.Int (to_z w64 (of_z w64 c.args.number)) in
    let last = bound (take c.loop-key.key-index c.args.props.now) c.args.name.now in
    let more = bound-more c.args.name.now c.args.props.now c.loop-key.key-index c.loop-key-item.result c.loop-key-test.true c.loop-key-item.is in
    let same = λ (v : Value). value_eq v number in
    elim c.else-is_number.branch [
      | else-is_number-via-then-is_number+else-eq w ↦
          ap same (more ∙ ap (λ (b : Bool). if b then held else last) (sym w.eq.ensures ∙ w.if-eq.false)) ∙ c.loop-key.invariant
      | else-is_number-via-else-is_number w ↦
          ap same more ∙ one_of_two _ held last number (sym c.is_number.ensures ∙ w.if-is_number.false) c.loop-key.invariant
    ]
