use Rattle.std.proofs.Common.{subst, sym}
use Rattle.std.specs.Str.{IsUtf8}
use Rattle.rule_checks.proofs.NameText.{name_utf8}
use Rattle.mend.proofs.texts.NamedDisplay.fmt.Goals as goal

pub unreachable-requires : goal.unreachable-requires
unreachable-requires g c = c.in-Err.ensures.cases.0 (subst IsUtf8 (sym c.bytes.ensures.value) (name_utf8 c.args.self.now.0.now c.bytes.ensures.valid))
