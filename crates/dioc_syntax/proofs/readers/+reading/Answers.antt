use Rattle.std.proofs.Common.{◌+◌, sym, ap, ◌∙◌, subst, arith, rules, drop}
use Rattle.dioc_terms.specs.Terms.{Skip, term}
use Rattle.dioc_syntax.specs.declared.places.Place.{Place}
use Rattle.aioc_tokens.specs.declared.words.Sort.TheVariants as sorts
use Rattle.aioc_tokens.specs.Fronts.{Longest}
use Rattle.dioc_syntax.specs.Choreographies.{Choreography, Sequence, Step, Block, Otherwise, IsShallow}
use Rattle.dioc_syntax.specs.Readers.{GuardAt, LeaderAt, Finds, FormAt, OtherwiseAt}
use Rattle.dioc_syntax.proofs.PlaceFacts.{at_place}
use Rattle.dioc_syntax.proofs.Fronts.{some_depth, nothing_shallow, block_begins}
use Rattle.dioc_syntax.proofs.StepFronts.{other_none}
use Rattle.dioc_syntax.proofs.Findings.{bar_missing, bar_deep, bar_open, bar_found, semicolon_missing, semicolon_deep, semicolon_open, semicolon_found, group_found, group_missing, group_unclosed, block_found, block_missing, block_unclosed, block_roomless, else_absent, else_missing_at, else_open_at, else_found, skip_found, choice_found, choice_unguarded, choice_missing, loop_found, loop_unguarded, loop_missing, scope_found, scope_unled, scope_missing}
use Rattle.dioc_syntax.proofs.readers.+reading.Goals as goal
use Rattle.dioc_syntax.proofs.readers.+reading.Goals.{block_at-then-not-has-via-then-not-has, block_at-then-not-has-via-else-not-has+then-place-eq0, choreo_at-then-not-has-via-then-not-has, choreo_at-then-not-has-via-else-not-has+then-first-place, otherwise_at-then-has+in_ok-found+in_default, otherwise_at-else-has, step_at-in_default-via-in-Symbol+in_default, step_at-in_default-via-in-Reserved+in_default, step_at-in_default-via-in_default}

pub block_at-returns-in-None : goal.block_at-returns-in-None
block_at-returns-in-None t c =
    block_missing c.args.reader.now.version c.args.place.room c.args.place.deep c.args.place.earlier c.args.reader.now.text.now c.args.place.at (c.has.ensures.value.0 cc) (at_place c.args.reader.now Choreography c.inside.ensures c.in-None.is c.in_ok-inner.ensures)

pub block_at-returns-then-has : goal.block_at-returns-then-has
block_at-returns-then-has t c =
    let one = at_place c.args.reader.now Choreography c.inside.ensures c.in-Some.is c.in_ok-inner.ensures in
    subst (Finds (IsShallow c.args.reader.now.version Block c.args.place.room c.args.place.deep c.args.place.earlier) 1 c.args.place.deep c.args.place.earlier c.args.reader.now.text.now c.args.place.at) (sym c.one_behind.ensures)
    (block_found c.args.reader.now.version c.args.place.room c.args.place.deep c.args.place.earlier c.args.reader.now.text.now c.args.place.at c.in-Some.inner (omega arith) (c.has.ensures.value.0 cc) one (c.has-2.ensures.value.0 c.if-has.true))

pub block_at-returns-else-has : goal.block_at-returns-else-has
block_at-returns-else-has t c =
    let one = at_place c.args.reader.now Choreography c.inside.ensures c.in-Some.is c.in_ok-inner.ensures in
    subst (FormAt c.args.reader.now.version Block c.args.place.room c.args.place.deep c.args.place.earlier c.args.reader.now.text.now c.args.place.at) (sym c.nothing_found.ensures) (block_unclosed c.args.reader.now.version c.args.place.room c.args.place.deep c.args.place.earlier c.args.reader.now.text.now c.args.place.at c.in-Some.inner (c.has.ensures.value.0 cc) one (λ is. let found = c.has-2.ensures.value.1 is in let missed = c.if-has.false in cc))

pub group_at-returns-in-None : goal.group_at-returns-in-None
group_at-returns-in-None t c =
    group_missing c.args.reader.now.version c.args.place.room c.args.place.deep c.args.place.earlier c.args.reader.now.text.now c.args.place.at c.requires.sort (at_place c.args.reader.now Choreography c.inside.ensures c.in-None.is c.in_ok-inner.ensures)

pub group_at-returns-then-has : goal.group_at-returns-then-has
group_at-returns-then-has t c =
    let one = at_place c.args.reader.now Choreography c.inside.ensures c.in-Some.is c.in_ok-inner.ensures in
    subst (Finds (IsShallow c.args.reader.now.version Step c.args.place.room c.args.place.deep c.args.place.earlier) 1 c.args.place.deep c.args.place.earlier c.args.reader.now.text.now c.args.place.at) (sym c.one_behind.ensures)
    (group_found c.args.reader.now.version c.args.place.room c.args.place.deep c.args.place.earlier c.args.reader.now.text.now c.args.place.at c.in-Some.inner (omega arith) c.requires.sort one (c.has.ensures.value.0 c.if-has.true))

pub group_at-returns-else-has : goal.group_at-returns-else-has
group_at-returns-else-has t c =
    let one = at_place c.args.reader.now Choreography c.inside.ensures c.in-Some.is c.in_ok-inner.ensures in
    subst (FormAt c.args.reader.now.version Step c.args.place.room c.args.place.deep c.args.place.earlier c.args.reader.now.text.now c.args.place.at) (sym c.nothing_found.ensures) (group_unclosed c.args.reader.now.version c.args.place.room c.args.place.deep c.args.place.earlier c.args.reader.now.text.now c.args.place.at c.in-Some.inner c.requires.sort one (λ is. let found = c.has.ensures.value.1 is in let missed = c.if-has.false in cc))

pub block_at-returns-then-not-has : goal.block_at-returns-then-not-has
block_at-returns-then-not-has t c = elim c.then-not-has.branch [
  | block_at-then-not-has-via-then-not-has w ↦ block_begins (λ is. let found = c.has.ensures.value.1 is in let missed = w.if-not-has.true in cc)
  | block_at-then-not-has-via-else-not-has+then-place-eq0 w ↦ block_roomless c.args.reader.now.version c.args.place.room c.args.place.deep c.args.place.earlier c.args.reader.now.text.now c.args.place.at (c.has.ensures.value.0 w.if-not-has.false) w.if-place-eq0.true
]

pub choreo_at-returns-then-not-has : goal.choreo_at-returns-then-not-has
choreo_at-returns-then-not-has t c =
    let one = subst (FormAt c.args.reader.now.version Sequence c.args.place.room c.args.place.deep c.args.place.earlier c.args.reader.now.text.now c.args.place.at) c.in-Some.is c.in_ok-first.ensures in
    elim c.then-not-has.branch [
      | choreo_at-then-not-has-via-then-not-has w ↦ bar_missing c.args.reader.now.version c.args.place.room c.args.place.deep c.args.place.earlier c.args.reader.now.text.now c.args.place.at c.in-Some.first one (λ is. let found = c.has.ensures.value.1 is in let missed = w.if-not-has.true in cc)
      | choreo_at-then-not-has-via-else-not-has+then-first-place w ↦ bar_deep c.args.reader.now.version c.args.place.room c.args.place.deep c.args.place.earlier c.args.reader.now.text.now c.args.place.at c.in-Some.first one w.if-first-place.true
    ]

pub choreo_at-returns-in_ok-both-in-Ok-Some : goal.choreo_at-returns-in_ok-both-in-Ok-Some
choreo_at-returns-in_ok-both-in-Ok-Some t c =
    let one = subst (FormAt c.args.reader.now.version Sequence c.args.place.room c.args.place.deep c.args.place.earlier c.args.reader.now.text.now c.args.place.at) c.in-Some.is c.in_ok-first.ensures in
    let two = at_place c.args.reader.now Choreography c.part.ensures c.in-Ok-Some.field-0-is c.in-Ok-Some.ensures in
    let here = c.in_ok-both-in-Ok-Some in
    bar_found c.args.reader.now.version c.args.place.room c.args.place.deep c.args.place.earlier c.args.reader.now.text.now c.args.place.at c.in-Some.first c.in-Ok-Some.second here.both one (c.has.ensures.value.0 c.if-not-has.false) c.if-first-place.false two here.ensures.choreo here.ensures.depth here.ensures.at here.ensures.next

pub sequence_at-returns-in_ok-both-in-Ok-Some : goal.sequence_at-returns-in_ok-both-in-Ok-Some
sequence_at-returns-in_ok-both-in-Ok-Some t c =
    let one = subst (FormAt c.args.reader.now.version Step c.args.place.room c.args.place.deep c.args.place.earlier c.args.reader.now.text.now c.args.place.at) c.in-Some.is c.in_ok-first.ensures in
    let two = at_place c.args.reader.now Sequence c.part.ensures c.in-Ok-Some.field-0-is c.in-Ok-Some.ensures in
    let here = c.in_ok-both-in-Ok-Some in
    semicolon_found c.args.reader.now.version c.args.place.room c.args.place.deep c.args.place.earlier c.args.reader.now.text.now c.args.place.at c.in-Some.first c.in-Ok-Some.second here.both one (c.has.ensures.value.0 c.if-not-has.false) c.if-first-place.false two here.ensures.choreo here.ensures.depth here.ensures.at here.ensures.next

pub choreo_at-returns-in-Ok-None : goal.choreo_at-returns-in-Ok-None
choreo_at-returns-in-Ok-None t c =
    bar_open c.args.reader.now.version c.args.place.room c.args.place.deep c.args.place.earlier c.args.reader.now.text.now c.args.place.at c.in-Some.first (subst (FormAt c.args.reader.now.version Sequence c.args.place.room c.args.place.deep c.args.place.earlier c.args.reader.now.text.now c.args.place.at) c.in-Some.is c.in_ok-first.ensures) (c.has.ensures.value.0 c.if-not-has.false) (at_place c.args.reader.now Choreography c.part.ensures c.in-Ok-None.field-0-is c.in-Ok-None.ensures)

pub sequence_at-returns-then-not-has : goal.sequence_at-returns-then-not-has
sequence_at-returns-then-not-has t c =
    semicolon_missing c.args.reader.now.version c.args.place.room c.args.place.deep c.args.place.earlier c.args.reader.now.text.now c.args.place.at c.in-Some.first (subst (FormAt c.args.reader.now.version Step c.args.place.room c.args.place.deep c.args.place.earlier c.args.reader.now.text.now c.args.place.at) c.in-Some.is c.in_ok-first.ensures) (λ is. let found = c.has.ensures.value.1 is in let missed = c.if-not-has.true in cc)

pub sequence_at-returns-then-first-place : goal.sequence_at-returns-then-first-place
sequence_at-returns-then-first-place t c =
    subst (Finds (IsShallow c.args.reader.now.version Sequence c.args.place.room c.args.place.deep c.args.place.earlier) 1 c.args.place.deep c.args.place.earlier c.args.reader.now.text.now c.args.place.at) (sym c.one_behind.ensures) (semicolon_deep c.args.reader.now.version c.args.place.room c.args.place.deep c.args.place.earlier c.args.reader.now.text.now c.args.place.at c.in-Some.first (subst (FormAt c.args.reader.now.version Step c.args.place.room c.args.place.deep c.args.place.earlier c.args.reader.now.text.now c.args.place.at) c.in-Some.is c.in_ok-first.ensures) (c.has.ensures.value.0 c.if-not-has.false) c.if-first-place.true)

pub sequence_at-returns-in-Ok-None : goal.sequence_at-returns-in-Ok-None
sequence_at-returns-in-Ok-None t c =
    subst (Finds (IsShallow c.args.reader.now.version Sequence c.args.place.room c.args.place.deep c.args.place.earlier) 1 c.args.place.deep c.args.place.earlier c.args.reader.now.text.now c.args.place.at) (sym c.one_behind-in-Ok-None.ensures)
    (semicolon_open c.args.reader.now.version c.args.place.room c.args.place.deep c.args.place.earlier c.args.reader.now.text.now c.args.place.at c.in-Some.first (subst (FormAt c.args.reader.now.version Step c.args.place.room c.args.place.deep c.args.place.earlier c.args.reader.now.text.now c.args.place.at) c.in-Some.is c.in_ok-first.ensures) (c.has.ensures.value.0 c.if-not-has.false) (at_place c.args.reader.now Sequence c.part.ensures c.in-Ok-None.field-0-is c.in-Ok-None.ensures))

pub otherwise_at-returns-in-Some : goal.otherwise_at-returns-in-Some
otherwise_at-returns-in-Some t c =
    else_found c.args.reader.now.version c.args.place.room c.args.place.deep c.args.place.earlier c.args.reader.now.text.now c.args.place.at c.in-Some.found (c.has.ensures.value.0 c.if-has.true) (at_place c.args.reader.now Block c.behind.ensures c.in-Some.is c.in_ok-found.ensures)

pub otherwise_at-returns : goal.otherwise_at-returns
otherwise_at-returns t c =
    let absent = λ (front : Longest (IsShallow c.args.reader.now.version Otherwise c.args.place.room c.args.place.deep c.args.place.earlier (drop c.args.place.at c.args.reader.now.text.now)) Skip (drop c.args.place.at c.args.reader.now.text.now)).
    else_absent c.args.reader.now.version c.args.place.room c.args.place.deep c.args.place.earlier c.args.reader.now.text.now c.args.place.at c.in_ok-skip.skip c.requires.some c.requires.within front c.in_ok-skip.ensures.choreo c.in_ok-skip.ensures.depth c.in_ok-skip.ensures.at c.in_ok-skip.ensures.next in
    elim c.if-has.branch [
      | otherwise_at-then-has+in_ok-found+in_default w ↦ absent (else_open_at c.args.reader.now.version c.args.place.room c.args.place.deep c.args.place.earlier c.args.reader.now.text.now c.args.place.at c.requires.some (c.has.ensures.value.0 w.if-has.true) (at_place c.args.reader.now Block w.behind.ensures w.in_default.is w.in_ok-found.ensures))
      | otherwise_at-else-has w ↦ absent (else_missing_at c.args.reader.now.version c.args.place.room c.args.place.deep c.args.place.earlier c.args.reader.now.text.now c.args.place.at c.requires.some (λ is. let found = c.has.ensures.value.1 is in let missed = w.if-has.false in cc))
    ]

pub branch_at-returns-in-None : goal.branch_at-returns-in-None
branch_at-returns-in-None t c =
    choice_unguarded c.args.reader.now.version c.args.place.room c.args.place.deep c.args.place.earlier c.args.reader.now.text.now c.args.place.at c.requires.sort (subst (GuardAt c.args.place.room c.args.reader.now.text.now (c.args.place.at + 1)) c.in-None.is c.in_ok-guard.ensures)

pub branch_at-returns-in-Ok-None : goal.branch_at-returns-in-Ok-None
branch_at-returns-in-Ok-None t c =
    let none = at_place c.args.reader.now Block c.part.ensures c.in-Ok-None.field-0-is c.in-Ok-None.ensures in
    subst (FormAt c.args.reader.now.version Step c.args.place.room c.args.place.deep c.args.place.earlier c.args.reader.now.text.now c.args.place.at) (sym c.nothing_found.ensures) (choice_missing c.args.reader.now.version c.args.place.room c.args.place.deep c.args.place.earlier c.args.reader.now.text.now c.args.place.at c.in-Some.guard c.requires.sort (subst (GuardAt c.args.place.room c.args.reader.now.text.now (c.args.place.at + 1)) c.in-Some.is c.in_ok-guard.ensures) none)

pub loop_at-returns-in-None : goal.loop_at-returns-in-None
loop_at-returns-in-None t c =
    loop_unguarded c.args.reader.now.version c.args.place.room c.args.place.deep c.args.place.earlier c.args.reader.now.text.now c.args.place.at c.requires.sort (subst (GuardAt c.args.place.room c.args.reader.now.text.now (c.args.place.at + 1)) c.in-None.is c.in_ok-guard.ensures)

pub loop_at-returns-in-Ok-None : goal.loop_at-returns-in-Ok-None
loop_at-returns-in-Ok-None t c =
    let none = at_place c.args.reader.now Block c.part.ensures c.in-Ok-None.field-0-is c.in-Ok-None.ensures in
    subst (FormAt c.args.reader.now.version Step c.args.place.room c.args.place.deep c.args.place.earlier c.args.reader.now.text.now c.args.place.at) (sym c.nothing_found.ensures) (loop_missing c.args.reader.now.version c.args.place.room c.args.place.deep c.args.place.earlier c.args.reader.now.text.now c.args.place.at c.in-Some.guard c.requires.sort (subst (GuardAt c.args.place.room c.args.reader.now.text.now (c.args.place.at + 1)) c.in-Some.is c.in_ok-guard.ensures) none)

pub branch_at-otherwise_at-requires : goal.branch_at-otherwise_at-requires
branch_at-otherwise_at-requires t c =
    let one = at_place c.args.reader.now Block c.part.ensures c.in-Ok-Some.field-0-is c.in-Ok-Some.ensures in
    let guard = subst (GuardAt c.args.place.room c.args.reader.now.text.now (c.args.place.at + 1)) c.in-Some.is c.in_ok-guard.ensures in
    let some = some_depth (term c.in-Ok-Some.first.choreo.value) in
    let at = ap (λ (p : Place). p.at) c.part-2.ensures in
    let deep = ap (λ (p : Place). p.deep) c.part-2.ensures in
    let earlier = ap (λ (p : Place). p.earlier) c.part-2.ensures in
    (first_of (omega arith, search rules), (omega arith, (omega arith, omega arith)))

pub branch_at-returns : goal.branch_at-returns
branch_at-returns t c =
    let one = at_place c.args.reader.now Block c.part.ensures c.in-Ok-Some.field-0-is c.in-Ok-Some.ensures in
    let here = c.in_ok-whole in
    choice_found c.args.reader.now.version c.args.place.room c.args.place.deep c.args.place.earlier c.args.reader.now.text.now c.args.place.at c.in-Some.guard c.in-Ok-Some.first c.in-Ok.second here.whole c.requires.some c.requires.sort (subst (GuardAt c.args.place.room c.args.reader.now.text.now (c.args.place.at + 1)) c.in-Some.is c.in_ok-guard.ensures) one (subst (λ p. OtherwiseAt c.args.reader.now p c.in-Ok.second) c.part-2.ensures c.in-Ok.ensures)
    here.ensures.choreo here.ensures.depth here.ensures.at here.ensures.next

pub loop_at-returns-in_ok-whole-in-Ok-Some : goal.loop_at-returns-in_ok-whole-in-Ok-Some
loop_at-returns-in_ok-whole-in-Ok-Some t c =
    let one = at_place c.args.reader.now Block c.part.ensures c.in-Ok-Some.field-0-is c.in-Ok-Some.ensures in
    let here = c.in_ok-whole-in-Ok-Some in
    loop_found c.args.reader.now.version c.args.place.room c.args.place.deep c.args.place.earlier c.args.reader.now.text.now c.args.place.at c.in-Some.guard c.in-Ok-Some.inner here.whole c.requires.some c.requires.sort (subst (GuardAt c.args.place.room c.args.reader.now.text.now (c.args.place.at + 1)) c.in-Some.is c.in_ok-guard.ensures) one here.ensures.choreo here.ensures.depth here.ensures.at here.ensures.next

pub scope_at-returns-in-None : goal.scope_at-returns-in-None
scope_at-returns-in-None t c =
    scope_unled c.args.reader.now.version c.args.place.room c.args.place.deep c.args.place.earlier c.args.reader.now.text.now c.args.place.at c.requires.sort (subst (LeaderAt c.args.reader.now.text.now (c.args.place.at + 1)) c.in-None.is c.in_ok-leader.ensures)

pub scope_at-returns-in-Ok-None : goal.scope_at-returns-in-Ok-None
scope_at-returns-in-Ok-None t c =
    let none = at_place c.args.reader.now Block c.part.ensures c.in-Ok-None.field-0-is c.in-Ok-None.ensures in
    subst (FormAt c.args.reader.now.version Step c.args.place.room c.args.place.deep c.args.place.earlier c.args.reader.now.text.now c.args.place.at) (sym c.nothing_found.ensures) (scope_missing c.args.reader.now.version c.args.place.room c.args.place.deep c.args.place.earlier c.args.reader.now.text.now c.args.place.at c.in-Some.leader c.requires.sort (subst (LeaderAt c.args.reader.now.text.now (c.args.place.at + 1)) c.in-Some.is c.in_ok-leader.ensures) none)

pub scope_at-returns : goal.scope_at-returns
scope_at-returns t c =
    let one = at_place c.args.reader.now Block c.part.ensures c.in-Ok-Some.field-0-is c.in-Ok-Some.ensures in
    let here = c.in_ok-whole in
    scope_found c.args.reader.now.version c.args.place.room c.args.place.deep c.args.place.earlier c.args.reader.now.text.now c.args.place.at c.in-Some.leader c.in-Ok-Some.inner here.whole c.in-Ok.parts c.requires.some c.requires.sort (subst (LeaderAt c.args.reader.now.text.now (c.args.place.at + 1)) c.in-Some.is c.in_ok-leader.ensures) one c.in-Ok.ensures.parts c.in-Ok.ensures.leader
    here.ensures.choreo here.ensures.depth here.ensures.at here.ensures.next

pub step_at-returns-then-place-eq0 : goal.step_at-returns-then-place-eq0
step_at-returns-then-place-eq0 t c = nothing_shallow c.if-place-eq0.true

pub step_at-returns-in_ok-skip-in-Reserved-Skip : goal.step_at-returns-in_ok-skip-in-Reserved-Skip
step_at-returns-in_ok-skip-in-Reserved-Skip t c =
    let sort = sym c.sort.ensures.value ∙ c.in-Reserved-Skip.is ∙ ap sorts.Reserved c.in-Reserved-Skip.field-0-is in
    skip_found c.args.reader.now.version c.args.place.room c.args.place.deep c.args.place.earlier c.args.reader.now.text.now c.args.place.at c.in_ok-skip-in-Reserved-Skip.skip (omega arith) sort c.in_ok-skip-in-Reserved-Skip.ensures.choreo c.in_ok-skip-in-Reserved-Skip.ensures.depth c.in_ok-skip-in-Reserved-Skip.ensures.at c.in_ok-skip-in-Reserved-Skip.ensures.next

pub step_at-returns-in_default : goal.step_at-returns-in_default
step_at-returns-in_default t c = elim c.in_default.branch [
  | step_at-in_default-via-in-Symbol+in_default w ↦ other_none (search rules) (search rules) (search rules) (search rules) (search rules) (search rules)
  | step_at-in_default-via-in-Reserved+in_default w ↦ other_none (search rules) (search rules) (search rules) (search rules) (search rules) (search rules)
  | step_at-in_default-via-in_default w ↦ other_none (search rules) (search rules) (search rules) (search rules) (search rules) (search rules)
]
