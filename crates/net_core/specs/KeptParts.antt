-- What a program's values of bodies and of changes stand for.
use Rattle.std.specs.Prelude.{Some}
use Rattle.dioc_terms.specs.Terms.{term}
use Rattle.net_core.specs.declared.bodies.Coming.{Coming}
use Rattle.net_core.specs.declared.bodies.RuleBody.{RuleBody}
use Rattle.net_core.specs.Standing.{Body, ScriptedChange}

abbrev pub body_seen : RuleBody → Body
body_seen kept = record { name = kept.name; body = term kept.body }

abbrev pub due_seen : Coming → ScriptedChange
due_seen kept = record { after = kept.after; change = kept.change; entry = Some kept.entry }
