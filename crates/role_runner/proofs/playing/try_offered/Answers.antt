-- A single act that may not come yet is all that there is, and after a first act of several that may not come yet the seat has only looked on.
use Rattle.std.proofs.Common.{◌≡◌, Some, length, slice_get, slice_index_or, refl, sym, ap, ◌∙◌, subst, arith}
use Rattle.std.proofs.lemmas.Option.{slice_get_read, slice_get_within}
use Rattle.flat_role.specs.FlatStates.{local_of}
use Rattle.marked_laws.proofs.Shapes.{some_same}
use Rattle.role_runner.proofs.EndLemmas.{all_by_place}
use Rattle.role_runner.proofs.TieLemmas.{if_refused_at, not_yet_is}
use Rattle.role_runner.proofs.TurnLemmas.{looked_nowhere, refused_from, refused_here}
use Rattle.role_runner.specs.Ties.{IsRefusedTry, RefusedIn}
use Rattle.stage.proofs.MetLemmas.{looked_met}
use Rattle.stage.specs.declared.faults.CommitFault.TheVariants as fault
use Rattle.stage.specs.Faults.{act_fault}
use Rattle.turn_lock.specs.Words.{view}
use Rattle.role_runner.proofs.playing.try_offered.Goals as goal

not_memory : fault.NotYet ≡ fault.Memory → ⊥
not_memory is = cc

pub returns-in-len1-clause-tried : goal.returns-in-len1-clause-tried
returns-in-len1-clause-tried g c = λ h.
    let now = c.args.acts.now in
    let act = c.act-item.result in
    let u = view c.args.seat in
    let w = view c.try_act.result.0 in
    let least = c.in-len1.len_at_least in
    let below = c.in-len1.len_below in
    let there : slice_get now 0 ≡ Some act = slice_get_read now (length now) 0 act refl (omega (arith, least)) c.act-item.is in
    let is = not_yet_is c.try_act.result.1 h in
    let refused = if_refused_at (IsRefusedTry act u w (local_of c.args.state.now) (local_of c.try_act.new.state)) c.try_act.result.1 fault.NotYet c.try_act.ensures.refused is in
    let held = refused.held not_memory in
    all_by_place (λ a. RefusedIn (act_fault a) u w fault.NotYet) now (λ i a at.
    let within = slice_get_within now i a at in
    let first : 0 ≡ i = omega (arith, within, below) in
    subst (λ b. RefusedIn (act_fault b) u w fault.NotYet) (some_same (sym there ∙ ap (slice_get now) first ∙ at))
    (refused_here (act_fault act) u u w fault.NotYet (looked_nowhere u c.requires.can.tied.met) (looked_met u w held.looked) held))

pub returns-then-is_not_yet-clause-tried : goal.returns-then-is_not_yet-clause-tried
returns-then-is_not_yet-clause-tried g c = λ h.
    let now = c.args.acts.now in
    let act = c.act-item-2.result in
    let u = view c.args.seat in
    let v = view c.try_act-next.result.0 in
    let w = view c.try_first-then-is_not_yet.result.0 in
    let is = not_yet_is c.try_act-next.result.1 (sym c.is_not_yet.ensures ∙ c.if-is_not_yet.true) in
    let refused = if_refused_at (IsRefusedTry act u v (local_of c.args.state.now) (local_of c.try_act-next.new.state)) c.try_act-next.result.1 fault.NotYet c.try_act-next.ensures.refused is in
    let held = refused.held not_memory in
    let all = c.try_first-then-is_not_yet.ensures.tried h in
    λ k d below. refused_from (act_fault (slice_index_or now k d)) u v w fault.NotYet held.looked (all k d below)
