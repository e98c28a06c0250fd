use Rattle.std.proofs.Common.{◌≡◌, ◌++◌, take, flat_map}
use Rattle.trace_picture.specs.Fragments.{fragment_text}
use Rattle.trace_picture.proofs.fragments.write_fragments.Given as goal

abbrev pub invariant-loop-fragment : goal.invariant-loop-fragment
invariant-loop-fragment l =
    l.out.items ≡ l.fn.out.items ++ flat_map fragment_text (take l.fragment-index l.fragments)
