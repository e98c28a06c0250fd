-- The text of each refusal, as the line to a person has it.
use Rattle.std.specs.Prelude.{ℕ, List, ◌++◌, codes}
use Rattle.rule_checks.specs.Texts.{refusal_text, where_text}
use Rattle.mend.specs.declared.refusals.MendRefusal.{MendRefusal}
use Rattle.mend.specs.declared.refusals.MendRefusal.TheVariants.{Refused, NameTaken, TooDeep}

abbrev pub mend_refusal_text : MendRefusal → List ℕ
mend_refusal_text (Refused refusal) = refusal_text refusal
mend_refusal_text (NameTaken at name) = where_text at ++ (codes "name taken " ++ name)
mend_refusal_text TooDeep = codes "too deep"
