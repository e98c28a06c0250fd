use Rattle.std.proofs.Common.{sym}
use Rattle.dioc_terms.specs.Plain.{plain, plain_rule}
use Rattle.global_follower.proofs.RuleLemmas.{no_join_at}
use Rattle.global_follower.proofs.rules.RuleList.fits.Goals as goal

pub test-requires : goal.test-requires
test-requires c =
    no_join_at (plain c.args.self.bundle.now).rules c.args.number (plain_rule c.in-Some.rule.now)
    c.args.self.join_nothing (sym c.in-Some.ensures)
