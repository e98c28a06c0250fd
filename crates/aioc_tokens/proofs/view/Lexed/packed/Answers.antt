use Rattle.aioc_tokens.proofs.Packing.{packed_named, few_lexemes}
use Rattle.aioc_tokens.proofs.view.Lexed.packed.Goals as goal

pub returns-clause-lexemes : goal.returns-clause-lexemes
returns-clause-lexemes c =
    (packed_named c.args.bytes.now c.as_slice.result.now c.args.packed.now.starts.items c.as_slice-2.result.now c.args.packed.now.sorts.items c.as_slice-3.result.now c.requires c.as_slice.ensures.value c.as_slice-2.ensures.value c.as_slice-3.ensures).1

pub returns-clause-few : goal.returns-clause-few
returns-clause-few c =
    few_lexemes c.args.bytes.now _
    (packed_named c.args.bytes.now c.as_slice.result.now c.args.packed.now.starts.items c.as_slice-2.result.now c.args.packed.now.sorts.items c.as_slice-3.result.now c.requires c.as_slice.ensures.value c.as_slice-2.ensures.value c.as_slice-3.ensures).1
