-- Why a command refuses a bundle.
use Rattle.std.specs.Prelude.{ℕ, List}
use Rattle.rule_checks.specs.declared.refusals.Refusal.{Refusal}
use Rattle.rule_checks.specs.Texts.{refusal_text}
use Rattle.mend.specs.declared.refusals.MendRefusal.{MendRefusal}
use Rattle.mend.specs.Texts.{mend_refusal_text}

pub data Reason : Type 0 where
  MayNotRun : Refusal → Reason
  CannotBeMended : MendRefusal → Reason

-- the text of it, as the line to a person has it
abbrev pub reason_text : Reason → List ℕ
reason_text (MayNotRun why) = refusal_text why
reason_text (CannotBeMended why) = mend_refusal_text why
