-- What is accepted may run, so it is sound.
use Rattle.std.proofs.Common.{List, get_or}
use Rattle.dioc_terms.specs.declared.names.Role.{Role}
use Rattle.dioc_terms.specs.Plain.{PlainRule}
use Rattle.marked_laws.specs.Laws.{IsSoundRule}
use Rattle.rule_checks.specs.Laws.{AcceptedMayRun, MayReplace}
use Rattle.net_laws.specs.Laws.{AcceptedIsSound}

sound_rule : (cast : List Role) (rule : PlainRule) → MayReplace cast rule.body → IsSoundRule cast rule
sound_rule cast rule may = record {
  body = record { connected = may.connected; no_self_message = may.no_self_message };
  in_cast = may.in_cast;
}

pub accepted_sound : AcceptedMayRun → AcceptedIsSound
accepted_sound may_run b accepted =
    let may = (may_run b).0 accepted in
    record {
      formed = may.formed;
      choreo = record { connected = may.connected; no_self_message = may.no_self_message };
      rules = λ i d inside. sound_rule b.cast (get_or b.rules i d) (may.bodies i d inside);
    }
