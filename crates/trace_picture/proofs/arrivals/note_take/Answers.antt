use Rattle.std.proofs.Common.{Some, if◌then◌else◌, sym, ap, ◌∙◌}
use Rattle.indexmap.specs.IndexMap.{get}
use Rattle.dioc_terms.specs.Equality.{key_eq}
use Rattle.trace_picture.specs.Arrivals.{takes}
use Rattle.trace_picture.proofs.arrivals.note_take.Goals as goal

pub returns-in_ok-insert-in-Take : goal.returns-in_ok-insert-in-Take
returns-in_ok-insert-in-Take c = λ key.
    c.in_ok-insert-in-Take.ensures.updates.0 key
    ∙ ap (λ k. if key_eq k key then Some c.args.row else get key_eq c.args.next.now key) c.in_ok-copy-in-Take.ensures
    ∙ ap (λ e. if takes key e then Some c.args.row else get key_eq c.args.next.now key) (sym c.in-Take.is)
