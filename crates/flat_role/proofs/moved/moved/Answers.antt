-- By the op at the place.
use Rattle.std.proofs.Common.{◌≡◌, ◌+◌, List, true, if◌then◌else◌, refl, sym, ap, ◌∙◌, subst, length}
use Rattle.dioc_terms.specs.Expressions.{expression}
use Rattle.dioc_terms.specs.Processes.{Process, IfLead, IfFollow, WhileLead, WhileFollow, ScopeLead, ScopeFollow, Gather}
use Rattle.flat_code.specs.Places.{at, op_process, processes}
use Rattle.dpoc_process.specs.Handed.{handed}
use Rattle.flat_role.specs.declared.marks.Mark.TheVariants as kept
use Rattle.flat_role.specs.MovedMarks.{Moves, awaited_or, came, count_from, taken_in}
use Rattle.flat_role.proofs.MovedLemmas.{moves_as}
use Rattle.flat_role.proofs.OpMoveLemmas.{choice_followed, gather_moves, plain_moves, plain_op}
use Rattle.process_steps.specs.Steps.{ended}
use Rattle.flat_role.proofs.OwnMarks.{awaited_own, own_by}
use Rattle.flat_role.proofs.moved.moved.Goals as goal

pub returns-in-IfLead : goal.returns-in-IfLead
returns-in-IfLead c =
    let done : List Process = processes c.args.plan.now.code.ops.items in
    let op = c.in-IfLead in
    let here : at done c.args.place ≡ IfLead op.index (expression op.guard) op.others (at done op.yes)
    (at done op.no) =
    c.op_at.ensures.stands ∙ ap (op_process done) op.is in
    let got = handed c.args.got.now in
    record {
      moved = subst (λ P. Moves P c.args.mark.now c.args.pick got c.led_choice.result) (sym here)
          (c.led_choice.ensures.1 op.index (expression op.guard) op.others (at done op.yes)
          (at done op.no) got (cc) (cc) (cc));
      own = c.led_choice.ensures.0;
    }

pub returns-in-IfFollow : goal.returns-in-IfFollow
returns-in-IfFollow c =
    let done : List Process = processes c.args.plan.now.code.ops.items in
    let op = c.in-IfFollow in
    let here : at done c.args.place ≡ IfFollow op.index op.leader (at done op.yes) (at done op.no) =
    c.op_at.ensures.stands ∙ ap (op_process done) op.is in
    let got = handed c.args.got.now in
    let is : c.branch-flag_of.result ≡ (
      kept.Branch (came got),
      (if came got then ended (at done op.yes) else ended (at done op.no)),
    ) = cc in
    record {
      moved = subst (λ P. Moves P c.args.mark.now c.args.pick got c.branch-flag_of.result) (sym here)
          (moves_as (IfFollow op.index op.leader (at done op.yes) (at done op.no)) c.args.pick got
          refl is
          (choice_followed op.index op.leader (at done op.yes) (at done op.no) c.args.mark.now
          c.args.pick got (ended (at done op.yes)) (ended (at done op.no)) refl refl));
      own = own_by is refl;
    }

pub returns-in-WhileLead : goal.returns-in-WhileLead
returns-in-WhileLead c =
    let done : List Process = processes c.args.plan.now.code.ops.items in
    let op = c.in-WhileLead in
    let here : at done c.args.place ≡ WhileLead op.index (expression op.guard) op.others (at done op.body) =
    c.op_at.ensures.stands ∙ ap (op_process done) op.is in
    let got = handed c.args.got.now in
    record {
      moved = subst (λ P. Moves P c.args.mark.now c.args.pick got c.led_loop.result) (sym here)
          (c.led_loop.ensures.1 op.index (expression op.guard) op.others (at done op.body) got
          (cc) (cc));
      own = c.led_loop.ensures.0;
    }

pub returns-in-WhileFollow : goal.returns-in-WhileFollow
returns-in-WhileFollow c =
    let done : List Process = processes c.args.plan.now.code.ops.items in
    let op = c.in-WhileFollow in
    let here : at done c.args.place ≡ WhileFollow op.index op.leader (at done op.body) =
    c.op_at.ensures.stands ∙ ap (op_process done) op.is in
    let got = handed c.args.got.now in
    record {
      moved = subst (λ P. Moves P c.args.mark.now c.args.pick got c.followed_loop.result) (sym here)
          (c.followed_loop.ensures.1 op.index op.leader (at done op.body) got (cc) (cc)
          c.args.pick);
      own = c.followed_loop.ensures.0;
    }

pub returns-in-ScopeLead : goal.returns-in-ScopeLead
returns-in-ScopeLead c =
    let done : List Process = processes c.args.plan.now.code.ops.items in
    let op = c.in-ScopeLead in
    let here : at done c.args.place ≡ ScopeLead op.head op.others (at done op.body) =
    c.op_at.ensures.stands ∙ ap (op_process done) op.is in
    let got = handed c.args.got.now in
    record {
      moved = subst (λ P. Moves P c.args.mark.now c.args.pick got c.led_scope.result) (sym here)
          (c.led_scope.ensures.1 op.head op.others (at done op.body) got (cc) (cc) c.args.pick);
      own = c.led_scope.ensures.0;
    }

pub returns-in-ScopeFollow : goal.returns-in-ScopeFollow
returns-in-ScopeFollow c =
    let done : List Process = processes c.args.plan.now.code.ops.items in
    let op = c.in-ScopeFollow in
    let here : at done c.args.place ≡ ScopeFollow op.index op.leader (at done op.body) =
    c.op_at.ensures.stands ∙ ap (op_process done) op.is in
    let got = handed c.args.got.now in
    record {
      moved = subst (λ P. Moves P c.args.mark.now c.args.pick got c.followed_scope.result) (sym here)
          (c.followed_scope.ensures.1 op.index op.leader (at done op.body) got (cc) c.args.pick);
      own = c.followed_scope.ensures.0;
    }

pub returns-in-Gather : goal.returns-in-Gather
returns-in-Gather c =
    let done : List Process = processes c.args.plan.now.code.ops.items in
    let op = c.in-Gather in
    let here : at done c.args.place ≡ Gather op.keys =
    c.op_at.ensures.stands ∙ ap (op_process done) op.is in
    let got = handed c.args.got.now in
    let is : c.waiting.result
    ≡ awaited_or (count_from (taken_in c.args.mark.now + 1) (length op.keys)) = cc in
    record {
      moved = subst (λ P. Moves P c.args.mark.now c.args.pick got c.waiting.result) (sym here)
          (moves_as (Gather op.keys) c.args.pick got refl is
          (gather_moves op.keys c.args.mark.now c.args.pick got));
      own = own_by is (awaited_own _);
    }

pub returns-in_default : goal.returns-in_default
returns-in_default c =
    let done : List Process = processes c.args.plan.now.code.ops.items in
    let other = c.in_default in
    let got = handed c.args.got.now in
    record {
      moved = subst
          (λ P. Moves P c.args.mark.now c.args.pick got (kept.Finished, true))
          (sym c.op_at.ensures.stands)
          (plain_moves (op_process done c.op_at.result.now) c.args.mark.now c.args.pick got
          (plain_op done c.op_at.result.now other.not-IfLead other.not-IfFollow other.not-WhileLead
          other.not-WhileFollow other.not-ScopeLead other.not-ScopeFollow
          other.not-Gather));
      own = refl;
    }
