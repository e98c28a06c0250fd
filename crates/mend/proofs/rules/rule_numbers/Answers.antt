use Rattle.dioc_terms.specs.Plain.{plain}
use Rattle.mend.proofs.Counted.{all_numbers}
use Rattle.mend.proofs.rules.rule_numbers.Goals as goal

pub returns : goal.returns
returns c =
    let all = all_numbers (plain c.args.bundle.now) c.requires.formed in
    cc (c.in_ok-add_numbers.ensures, c.in_ok-numbers.ensures, c.as_slice.ensures, all)
