-- Each text has its pieces one after another.
use Rattle.rule_checks.proofs.texts.RefusalDisplay.fmt.Goals as goal

pub returns-in-UnknownRole-clause-writes : goal.returns-in-UnknownRole-clause-writes
returns-in-UnknownRole-clause-writes g c = λ is_plain is_ok. rw c.in-UnknownRole.is (c.write-in-UnknownRole.ensures.writes is_plain is_ok)

pub returns-in-SelfMessage-clause-writes : goal.returns-in-SelfMessage-clause-writes
returns-in-SelfMessage-clause-writes g c = λ is_plain is_ok. rw c.in-SelfMessage.is (c.write-in-SelfMessage.ensures.writes is_plain is_ok)

pub returns-in-BodyTooBig-clause-writes : goal.returns-in-BodyTooBig-clause-writes
returns-in-BodyTooBig-clause-writes g c = λ is_plain is_ok. rw c.in-BodyTooBig.is (c.write-in-BodyTooBig.ensures.writes is_plain is_ok)
