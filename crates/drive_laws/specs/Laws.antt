-- Nothing is lost: what the choreography may do next, the roles can do once no auxiliary move is
-- left; and auxiliary moves come to an end.
use Rattle.std.specs.Prelude.{◌≡◌, ◌≤◌, ◌*◌, suc, List, length, Bool, true, false, Some, None, IsSome}
use Rattle.dioc_terms.specs.declared.names.Role.{Role}
use Rattle.dioc_terms.specs.declared.entries.Act.{Act}
use Rattle.dioc_terms.specs.declared.entries.Act.TheVariants as act
use Rattle.dioc_terms.specs.declared.entries.Entry.{Entry}
use Rattle.dioc_terms.specs.Equality.{member}
use Rattle.dioc_terms.specs.Messages.{is_aux_tag, visible}
use Rattle.dioc_terms.specs.Plain.{PlainBundle, Setting, setting}
use Rattle.global_steps.specs.Follow.{State, follow, play}
use Rattle.global_steps.specs.Settled.{Settled}
use Rattle.marked_laws.specs.Laws.{IsSound}
use Rattle.network_steps.specs.Network.{Network, act_step, network_step, network_run}

-- an act that puts or takes an auxiliary message
abbrev pub is_aux_act : Act → Bool
is_aux_act (act.Put k) = is_aux_tag k.tag
is_aux_act (act.Take k) = is_aux_tag k.tag
is_aux_act _ = false

-- no role of the cast can put or take an auxiliary message now
abbrev pub IsQuiet : Setting → Network → Type 0
IsQuiet b N =
    (q : Role) (a : Act) → member q b.cast ≡ true → is_aux_act a ≡ true → act_step b N q a ≡ None

-- Readiness: where a run has left no auxiliary move, each entry that the choreography plays next
-- and that is settled can be done.
abbrev pub Readiness : Type 0
Readiness =
    (b : PlainBundle) (H : List Entry) (N : Network) (S T : State) (e : Entry) → IsSound b
    → network_run b H ≡ Some N → IsQuiet (setting b) N → play b (visible H) ≡ Some S
    → follow (setting b) S e ≡ Some T → Settled (setting b) S e
    → IsSome (network_step (setting b) N e)

-- Auxiliary entries end: a run has at most six for each visible entry and each role of the cast.
abbrev pub AuxiliaryEnds : Type 0
AuxiliaryEnds =
    (b : PlainBundle) (H : List Entry) (N : Network) → IsSound b → network_run b H ≡ Some N
    → length H ≤ length (visible H) * suc (6 * length b.cast)
