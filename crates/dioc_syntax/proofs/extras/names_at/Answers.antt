use Rattle.std.proofs.Common.{◌+◌, [], ◌∷◌, ◌++◌, refl, sym, ap, ◌∙◌, subst, drop, arith}
use Rattle.aioc_tokens.specs.declared.words.Sort.TheVariants as sorts
use Rattle.aioc_tokens.specs.declared.words.Punctuator.TheVariants as punctuator
use Rattle.aioc_tokens.specs.Fronts.{Longest}
use Rattle.dioc_syntax.specs.Choreographies.{NamesRoles}
use Rattle.dioc_syntax.proofs.HeadSorts.{follows}
use Rattle.dioc_syntax.proofs.Lists.{NamesUpTo, names_begin, names_go_on, named_ended}
use Rattle.dioc_syntax.proofs.extras.names_at.Goals as goal

pub loop-alloc-init : goal.loop-alloc-init
loop-alloc-init c =
    let role = c.in_ok-role_at.field-0 in
    subst (λ items. NamesUpTo c.args.text.now c.args.at items (c.args.at + 1)) (sym (c.in_ok-push.ensures.items ∙ ap (λ items. items ++ role ∷ []) c.new-roles.ensures.items))
    (names_begin c.args.text.now c.args.at role.0 c.in_ok-role_at.ensures.value)

pub role_at-requires-in-loop-alloc : goal.role_at-requires-in-loop-alloc
role_at-requires-in-loop-alloc c =
    (follows c.args.text.now (sorts.Symbol punctuator.Comma) (sorts.Name ∷ []) c.loop-alloc.next (c.loop-alloc.next + 1) refl (c.begins.ensures.0 cc)).1.0

pub loop-alloc-preserved : goal.loop-alloc-preserved
loop-alloc-preserved c =
    let role = c.in_ok-role_at-2.field-0 in
    subst (λ items. NamesUpTo c.args.text.now c.args.at items (c.loop-alloc.next + 2)) (sym c.in_ok-push-2.ensures.items)
    (names_go_on c.args.text.now c.args.at c.loop-alloc.roles.items role.0 c.loop-alloc.next c.loop-alloc.invariant (c.begins.ensures.0 cc) c.in_ok-role_at-2.ensures.value)

pub loop-alloc-smaller : goal.loop-alloc-smaller
loop-alloc-smaller c =
    let more = names_go_on c.args.text.now c.args.at c.loop-alloc.roles.items c.in_ok-role_at-2.field-0.0 c.loop-alloc.next c.loop-alloc.invariant (c.begins.ensures.0 cc) c.in_ok-role_at-2.ensures.value in
    let within = more.within in omega arith

pub returns : goal.returns
returns c =
    let so_far = c.loop-alloc.invariant in (
      subst (λ names. Longest (NamesRoles (drop c.args.at c.args.text.now)) names (drop c.loop-alloc.next c.args.text.now)) (sym c.new.ensures) (named_ended so_far.named (λ is. let found = c.begins.ensures.1 is in let missed = c.loop-alloc-test.false in cc)),
      so_far.after,
      so_far.within,
    )
