use Rattle.std.proofs.Common.{◌+◌, [], ◌∷◌, ◌++◌, refl, sym, ap, ◌∙◌, subst, drop}
use Rattle.aioc_tokens.specs.declared.words.Punctuator.TheVariants as punctuator
use Rattle.aioc_tokens.specs.Lexemes.{sort_of}
use Rattle.aioc_tokens.specs.Fronts.{Longest}
use Rattle.dioc_syntax.specs.Choreographies.{GivesProperties}
use Rattle.dioc_syntax.specs.Readers.{PairAt}
use Rattle.dioc_syntax.proofs.HeadSorts.{symbol_here}
use Rattle.dioc_syntax.proofs.Compare.{behind_is}
use Rattle.dioc_syntax.proofs.Lists.{PropertiesUpTo, properties_begin, properties_go_on, given_ended}
use Rattle.dioc_syntax.proofs.extras.pairs_at.Goals as goal

pub loop-alloc-init : goal.loop-alloc-init
loop-alloc-init c =
    let pair = c.in-Some.pair in
    subst (λ items. PropertiesUpTo c.args.text.now c.args.at items pair.1) (sym (c.in_ok-push.ensures.items ∙ ap (λ items. items ++ pair.0 ∷ []) c.new-props.ensures.items))
    (properties_begin c.args.text.now c.args.at pair.0 pair.1 (subst (PairAt c.args.text.now c.args.at) c.in-Some.is c.in_ok-pair.ensures))

pub loop-alloc-preserved : goal.loop-alloc-preserved
loop-alloc-preserved c =
    let more = subst (PairAt c.args.text.now (c.loop-alloc.next + 1)) c.in-Some-2.is c.in_ok-pair-2.ensures in
    subst (λ items. PropertiesUpTo c.args.text.now c.args.at items c.in-Some-2.behind) (sym c.in_ok-push-in-Some-2.ensures.items)
    (properties_go_on c.args.text.now c.args.at c.loop-alloc.props.items c.in-Some-2.pair c.loop-alloc.next c.in-Some-2.behind c.loop-alloc.invariant (c.has.ensures.value.0 c.loop-alloc-test.true) more)

pub returns-in-None-2 : goal.returns-in-None-2
returns-in-None-2 c =
    let so_far = c.loop-alloc.invariant in
    let none = subst (PairAt c.args.text.now (c.loop-alloc.next + 1)) c.in-None-2.is c.in_ok-pair-2.ensures in
    let comma = symbol_here c.args.text.now punctuator.Comma c.loop-alloc.next (c.loop-alloc.next + 1) refl (c.has.ensures.value.0 c.loop-alloc-test.true) in (
      subst (λ props. Longest (GivesProperties (drop c.args.at c.args.text.now)) props (drop c.loop-alloc.next c.args.text.now)) (sym c.new.ensures)
          (given_ended so_far.given (λ others end rest comma2 given. none rest end (subst (λ list. GivesProperties list rest end) (behind_is refl comma2 comma) given))),
      so_far.after,
      so_far.within,
    )

pub returns : goal.returns
returns c =
    let so_far = c.loop-alloc.invariant in (
      subst (λ props. Longest (GivesProperties (drop c.args.at c.args.text.now)) props (drop c.loop-alloc.next c.args.text.now)) (sym c.new-2.ensures)
          (given_ended so_far.given (λ others end rest comma given. let found = c.has.ensures.value.1 (ap sort_of comma) in let missed = c.loop-alloc-test.false in cc)),
      so_far.after,
      so_far.within,
    )
