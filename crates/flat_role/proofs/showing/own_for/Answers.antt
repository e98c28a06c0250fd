-- What is written and what is picked are those of what is next.
use Rattle.std.proofs.Common.{ap, ◌∙◌}
use Rattle.dioc_terms.specs.Values.{is_true}
use Rattle.dpoc_process.specs.Growth.{write_at}
use Rattle.flat_role.proofs.showing.own_for.Goals as goal

pub returns-in-Ok-clause-own : goal.returns-in-Ok-clause-own
returns-in-Ok-clause-own c = λ R s value next. record {
  write = c.in_ok-write.ensures c.args.me.now R next ∙ ap (λ v. write_at v R) value;
  pick = c.is_true.ensures ∙ ap is_true value;
}
