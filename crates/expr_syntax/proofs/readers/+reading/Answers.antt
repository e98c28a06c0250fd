use Rattle.std.proofs.Common.{◌≡◌, ◌+◌, ◌-◌, refl, sym, ◌∙◌, ap, subst, arith, drop}
use Rattle.aioc_tokens.specs.Fronts.{NoFront}
use Rattle.aioc_tokens.specs.declared.words.Word.TheVariants as word
use Rattle.aioc_tokens.specs.declared.words.Punctuator.TheVariants as punctuator
use Rattle.aioc_tokens.proofs.Places.{one_more, symbol_at, reserved_at}
use Rattle.expr_syntax.specs.Readers.{FoundAt, Finds}
use Rattle.expr_syntax.specs.Grammar.{IsShallow}
use Rattle.expr_syntax.specs.Levels.{tighter, operator, looseness}
use Rattle.expr_syntax.specs.declared.levels.Level.TheVariants.{Disjunction, Negation, Comparison, Sum, Unary}
use Rattle.expr_syntax.proofs.LeafFacts.{if_ok, if_ok_four}
use Rattle.expr_syntax.proofs.PlaceFacts.{at_place}
use Rattle.expr_syntax.proofs.Tables.{joined_chain, outside_loose, looseness_most}
use Rattle.expr_syntax.proofs.Fronts.{no_operator, no_depth, no_second, nothing_shallow, negation_none, minus_none, bracket_none, bracket_open}
use Rattle.expr_syntax.proofs.Findings.{whole_found, side_found, comparison_found, denied_found, negated_found, bracket_found, follow_stays, follow_more, stays, operand_of, plain_looser, rises_none}
use Rattle.expr_syntax.proofs.readers.+reading.Goals as goal

pub bracket_at-returns-in-None : goal.bracket_at-returns-in-None
bracket_at-returns-in-None t c =
    let begins = symbol_at c.args.reader.now.text.now c.args.place.at punctuator.LeftParen punctuator.LeftParen (sym c.requires.sort) refl in
    bracket_none (drop (c.args.place.at + 1) c.args.reader.now.text.now) begins (at_place c.args.reader.now Disjunction c.inside.ensures c.in-None.is c.in_ok-inner.ensures)

pub bracket_at-returns-then-is_right_paren : goal.bracket_at-returns-then-is_right_paren
bracket_at-returns-then-is_right_paren t c =
    let inner = at_place c.args.reader.now Disjunction c.inside.ensures c.in-Some.is c.in_ok-inner.ensures in
    let begins = symbol_at c.args.reader.now.text.now c.args.place.at punctuator.LeftParen punctuator.LeftParen (sym c.requires.sort) refl in
    bracket_found c.args.reader.now.kind c.args.place.room c.args.place.deep c.args.reader.now.text.now c.args.place.at c.in-Some.inner c.sort.result (omega arith) c.requires.small c.sort.ensures.value begins inner
    (symbol_at c.args.reader.now.text.now c.in-Some.inner.at punctuator.RightParen punctuator.RightParen (sym (c.is_right_paren.ensures.0 c.if-is_right_paren.true) ∙ inner.noted.behind) refl)

pub bracket_at-returns-else-is_right_paren : goal.bracket_at-returns-else-is_right_paren
bracket_at-returns-else-is_right_paren t c =
    let begins = symbol_at c.args.reader.now.text.now c.args.place.at punctuator.LeftParen punctuator.LeftParen (sym c.requires.sort) refl in
    let inner = at_place c.args.reader.now Disjunction c.inside.ensures c.in-Some.is c.in_ok-inner.ensures in
    subst (FoundAt c.args.reader.now.kind Unary c.args.place.room c.args.place.deep c.args.reader.now.text.now c.args.place.at) (sym c.nothing_found.ensures)
    (bracket_open begins inner.front (λ is. let found = c.is_right_paren.ensures.1 (inner.noted.behind ∙ is) in let missed = c.if-is_right_paren.false in cc))

pub follow-returns-in-None : goal.follow-returns-in-None
follow-returns-in-None t c =
    follow_stays c.args.reader.now.kind c.args.level c.args.place.room c.args.place.deep c.args.reader.now.text.now c.args.first c.requires (no_operator (c.in-None.ensures ∙ ap (operator c.args.reader.now.kind c.args.level) c.requires.behind))

pub follow-returns-then-first-place : goal.follow-returns-then-first-place
follow-returns-then-first-place t c = follow_stays c.args.reader.now.kind c.args.level c.args.place.room c.args.place.deep c.args.reader.now.text.now c.args.first c.requires (no_depth (sym c.requires.depth ∙ c.if-first-place.true))

pub follow-returns-in_ok-both-in-Ok-Some : goal.follow-returns-in_ok-both-in-Ok-Some
follow-returns-in_ok-both-in-Ok-Some t c =
    let second = at_place c.args.reader.now c.tighter.result c.operand.ensures c.in-Ok-Some.field-0-is c.in-Ok-Some.ensures in
    let here = subst (λ level. Finds c.args.reader.now.kind level c.args.place.room (c.args.place.deep - 1) c.args.reader.now.text.now (c.args.first.at + 1) c.in-Ok-Some.second) c.tighter.ensures second in
    let joins = c.in_ok-both-in-Ok-Some in
    if_ok c.follow.result (λ found grows. follow_more c.args.reader.now.kind c.args.level c.args.place.room c.args.place.deep c.args.reader.now.text.now c.in-Some.oper c.args.first c.in-Ok-Some.second joins.both found c.requires
    (c.in-Some.ensures ∙ ap (operator c.args.reader.now.kind c.args.level) c.requires.behind) here joins.ensures.expr joins.ensures.at grows) c.follow.ensures

pub follow-returns-in-Ok-None : goal.follow-returns-in-Ok-None
follow-returns-in-Ok-None t c =
    let none = at_place c.args.reader.now c.tighter.result c.operand.ensures c.in-Ok-None.field-0-is c.in-Ok-None.ensures in
    let here = subst (λ level. NoFront (IsShallow c.args.reader.now.kind level c.args.place.room (c.args.place.deep - 1) (drop (c.args.first.at + 1) c.args.reader.now.text.now))) c.tighter.ensures none in
    follow_stays c.args.reader.now.kind c.args.level c.args.place.room c.args.place.deep c.args.reader.now.text.now c.args.first c.requires
    (no_second (subst (λ rest. NoFront (IsShallow c.args.reader.now.kind (tighter c.args.level) c.args.place.room (c.args.place.deep - 1) rest)) (sym (one_more c.args.reader.now.text.now c.args.first.at)) here))

pub minus_at-returns-then-place-eq0 : goal.minus_at-returns-then-place-eq0
minus_at-returns-then-place-eq0 t c = nothing_shallow c.if-place-eq0.true

pub minus_at-returns-in_ok-whole-in-Some : goal.minus_at-returns-in_ok-whole-in-Some
minus_at-returns-in_ok-whole-in-Some t c =
    let begins = symbol_at c.args.reader.now.text.now c.args.place.at punctuator.Minus punctuator.Minus (sym c.requires.sort) refl in
    let here = c.in_ok-whole-in-Some in
    negated_found c.args.reader.now.kind c.args.place.room c.args.place.deep c.args.reader.now.text.now c.args.place.at c.in-Some.inner here.whole (omega arith) begins (sym c.is_number.ensures ∙ c.if-is_number.false)
    (at_place c.args.reader.now Unary c.operand.ensures c.in-Some.is c.in_ok-inner.ensures) here.ensures.expr here.ensures.depth here.ensures.at here.ensures.behind

pub minus_at-returns-in-None : goal.minus_at-returns-in-None
minus_at-returns-in-None t c =
    let begins = symbol_at c.args.reader.now.text.now c.args.place.at punctuator.Minus punctuator.Minus (sym c.requires.sort) refl in
    minus_none (drop (c.args.place.at + 1) c.args.reader.now.text.now) begins (sym c.is_number.ensures ∙ c.if-is_number.false)
    (at_place c.args.reader.now Unary c.operand.ensures c.in-None.is c.in_ok-inner.ensures)

pub compared-returns-in-None-clause-found : goal.compared-returns-in-None-clause-found
compared-returns-in-None-clause-found t c =
    let left = c.requires in
    side_found c.args.reader.now.kind c.args.place.room c.args.place.deep c.args.reader.now.text.now c.args.place.at c.args.left left (no_operator (c.in-None.ensures ∙ ap (operator c.args.reader.now.kind Comparison) left.noted.behind))

pub compared-returns-then-left-place-clause-found : goal.compared-returns-then-left-place-clause-found
compared-returns-then-left-place-clause-found t c =
    let left = c.requires in
    side_found c.args.reader.now.kind c.args.place.room c.args.place.deep c.args.reader.now.text.now c.args.place.at c.args.left left (no_depth (sym left.noted.depth ∙ c.if-left-place.true))

pub compared-returns-in-Ok-None-clause-found : goal.compared-returns-in-Ok-None-clause-found
compared-returns-in-Ok-None-clause-found t c =
    let left = c.requires in
    let none = at_place c.args.reader.now Sum c.operand.ensures c.in-Ok-None.field-0-is c.in-Ok-None.ensures in
    side_found c.args.reader.now.kind c.args.place.room c.args.place.deep c.args.reader.now.text.now c.args.place.at c.args.left left
    (no_second (subst (λ rest. NoFront (IsShallow c.args.reader.now.kind Sum c.args.place.room (c.args.place.deep - 1) rest)) (sym (one_more c.args.reader.now.text.now c.args.left.at)) none))

pub compared-returns-in-Ok-Some-clause-found : goal.compared-returns-in-Ok-Some-clause-found
compared-returns-in-Ok-Some-clause-found t c =
    let left = c.requires in
    let right = at_place c.args.reader.now Sum c.operand.ensures c.in-Ok-Some.field-0-is c.in-Ok-Some.ensures in
    let joins = c.two_sided.ensures in
    if_ok_four c.two_sided.result (λ both expr depth at behind. comparison_found c.args.reader.now.kind c.args.place.room c.args.place.deep c.args.reader.now.text.now c.args.place.at c.in-Some.oper c.args.left c.in-Ok-Some.right both
    (c.in-Some.ensures ∙ ap (operator c.args.reader.now.kind Comparison) left.noted.behind) c.if-left-place.false left right expr depth at behind) joins.expr joins.depth joins.at joins.behind

pub climb-returns-in-None : goal.climb-returns-in-None
climb-returns-in-None t c =
    stays c.args.reader.now.kind c.args.place.room c.args.place.deep c.args.reader.now.text.now c.args.place.at c.args.from c.args.level c.args.first c.requires.below (λ l is above under. let none = sym c.in-None.is ∙ c.joined_level.ensures ∙ is in cc) c.requires.plain c.requires.found

pub climb-returns-then-looseness : goal.climb-returns-then-looseness
climb-returns-then-looseness t c =
    stays c.args.reader.now.kind c.args.place.room c.args.place.deep c.args.reader.now.text.now c.args.place.at c.args.from c.args.level c.args.first c.requires.below
    (λ l is above under. let same : c.in-Some.next ≡ l = (let one = sym c.in-Some.is ∙ c.joined_level.ensures ∙ is in cc) in let low = c.if-looseness.true in omega (arith, ap looseness same, c.looseness.ensures, c.looseness-2.ensures)) c.requires.plain c.requires.found

pub climb-returns-then-looseness-2 : goal.climb-returns-then-looseness-2
climb-returns-then-looseness-2 t c =
    stays c.args.reader.now.kind c.args.place.room c.args.place.deep c.args.reader.now.text.now c.args.place.at c.args.from c.args.level c.args.first c.requires.below
    (λ l is above under. let same : c.in-Some.next ≡ l = (let one = sym c.in-Some.is ∙ c.joined_level.ensures ∙ is in cc) in let high = c.if-looseness-2.true in omega (arith, ap looseness same, c.looseness-3.ensures, c.looseness-4.ensures)) c.requires.plain c.requires.found

pub climb-joined-requires : goal.climb-joined-requires
climb-joined-requires t c =
    let joins = sym c.joined_level.ensures ∙ c.in-Some.is in
    let above = c.if-looseness.false in
    let under = c.if-looseness-2.false in
    let low = looseness_most c.args.from in
    let high = looseness_most c.in-Some.next in (
      omega (arith, c.decreases),
      (
        operand_of c.args.reader.now.kind c.args.place.room c.args.place.deep c.args.reader.now.text.now c.args.place.at c.args.from c.in-Some.next c.args.level c.args.first joins (omega (arith, c.looseness.ensures, c.looseness-2.ensures)) (omega (arith, c.looseness-3.ensures, c.looseness-4.ensures)) c.requires.plain c.requires.found,
        joined_chain c.args.reader.now.kind c.args.first.behind c.in-Some.next joins,
      ),
    )

pub climb-climb-requires : goal.climb-climb-requires
climb-climb-requires t c =
    let above = c.if-looseness.false in
    let under = c.if-looseness-2.false in
    let low = looseness_most c.args.from in
    let high = looseness_most c.in-Some.next in
    let more = c.in_ok-whole.ensures.after in (
      omega (arith, c.decreases, c.looseness.ensures, c.looseness-2.ensures),
      (
        c.in_ok-whole.ensures.found,
        (
          omega (arith, c.looseness-3.ensures, c.looseness-4.ensures),
          plain_looser c.args.reader.now.kind c.args.place.room c.args.place.deep c.args.reader.now.text.now c.args.place.at c.args.from c.in-Some.next c.args.level (omega (arith, c.looseness.ensures, c.looseness-2.ensures)) c.requires.plain,
        ),
      ),
    )

pub joined-returns-else-is_comparison : goal.joined-returns-else-is_comparison
joined-returns-else-is_comparison t c =
    let chains = c.requires.joins (λ is. let found = c.is_comparison.ensures.1 is in let missed = c.if-is_comparison.false in cc) in
    record {
      found = if_ok c.follow.result (λ found grows. whole_found c.args.reader.now.kind c.args.place.room c.args.place.deep c.args.reader.now.text.now c.args.place.at c.args.level c.args.first found chains c.requires.found grows) c.follow.ensures;
      after = if_ok c.follow.result (λ found grows. grows.after) c.follow.ensures;
    }

pub denied_at-returns-then-place-eq0 : goal.denied_at-returns-then-place-eq0
denied_at-returns-then-place-eq0 t c = nothing_shallow c.if-place-eq0.true

pub denied_at-climb-requires : goal.denied_at-climb-requires
denied_at-climb-requires t c =
    let begins = reserved_at c.args.reader.now.text.now c.args.place.at word.Not word.Not (sym c.requires.sort) refl in
    let here = c.in_ok-denied-in-Some in
    let one = at_place c.args.reader.now Negation c.operand.ensures c.in-Some.is c.in_ok-inner.ensures in
    let found = denied_found c.args.reader.now.kind c.args.place.room c.args.place.deep c.args.reader.now.text.now c.args.place.at c.in-Some.inner here.denied (omega arith) begins one here.ensures.expr here.ensures.depth here.ensures.at here.ensures.behind in
    let more = found.after in
    let within = found.noted.within in
    (omega (arith, c.decreases), (found, (outside_loose c.args.level c.requires.level, λ inside outside is. absurd cc)))

pub denied_at-returns-in-None : goal.denied_at-returns-in-None
denied_at-returns-in-None t c =
    let begins = reserved_at c.args.reader.now.text.now c.args.place.at word.Not word.Not (sym c.requires.sort) refl in
    rises_none c.args.reader.now.kind c.args.place.room c.args.place.deep c.args.reader.now.text.now c.args.place.at (looseness c.args.level) Negation c.args.level refl (outside_loose c.args.level c.requires.level) (λ inside outside is. absurd cc)
    (negation_none (drop (c.args.place.at + 1) c.args.reader.now.text.now) begins
    (at_place c.args.reader.now Negation c.operand.ensures c.in-None.is c.in_ok-inner.ensures))

pub level_at-returns-in-None : goal.level_at-returns-in-None
level_at-returns-in-None t c =
    rises_none c.args.reader.now.kind c.args.place.room c.args.place.deep c.args.reader.now.text.now c.args.place.at (looseness c.args.level) Unary c.args.level refl (omega arith) (λ inside outside. c.is_denied.ensures.plain c.if-is_denied.false outside)
    (subst (FoundAt c.args.reader.now.kind Unary c.args.place.room c.args.place.deep c.args.reader.now.text.now c.args.place.at) c.in-None.is c.in_ok-first.ensures)
