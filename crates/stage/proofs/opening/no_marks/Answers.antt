-- One mark more, of the role that comes next.
use Rattle.std.proofs.Common.{false, ◌∷◌, [], ◌++◌, ◌∙◌, sym, arith}
use Rattle.std.proofs.lemmas.List.{map_more}
use Rattle.dioc_terms.specs.declared.names.Role.{Role}
use Rattle.stage.proofs.opening.no_marks.Goals as goal

pub loop-role-preserved : goal.loop-role-preserved
loop-role-preserved c = record {
  marks = c.push_reserved.ensures.items ∙ (λ i. c.loop-role.invariant.marks i ++ false ∷ [])
      ∙ sym (map_more (λ (q : Role). false) c.args.cast.now c.loop-role._role-index c._role-item.result (omega arith));
  count = omega (arith, c.push_reserved.ensures.len, c.loop-role.invariant.count);
  room = omega (arith, c.push_reserved.ensures.capacity, c.loop-role.invariant.room);
}
