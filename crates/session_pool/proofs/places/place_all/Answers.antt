-- What is placed is the first of what is left, and the places stay as many.
use Rattle.std.proofs.Common.{◌∙◌, ◌<◌, Some, arith, length, ap, sym, subst}
use Rattle.std.specs.List.{AllByRecursion}
use Rattle.session_pool.specs.declared.jobs.Numbered.{Numbered}
use Rattle.session_pool.specs.Places.{placed}
use Rattle.session_pool.proofs.Lists.{length_set}
use Rattle.session_pool.proofs.places.place_all.Goals as goal

pub loop-numbered-init : goal.loop-numbered-init
loop-numbered-init g c =
    let left = c.into_iter-numbered-iterator.ensures.into_iter_gives.0 in (
      ap (placed c.args.places.now.items) left,
      subst (AllByRecursion (λ (numbered : Numbered _). numbered.number < length c.args.places.now.items)) (sym left) c.requires,
    )

pub index_mut-requires : goal.index_mut-requires
index_mut-requires g c =
    let fit = subst (AllByRecursion (λ (numbered : Numbered _). numbered.number < length c.loop-numbered.places.items)) c.in-Some.ensures.steps.0 c.loop-numbered.invariant.1 in
    omega (arith, c.loop-numbered.places.ok.0, fit.0)

pub loop-numbered-preserved : goal.loop-numbered-preserved
loop-numbered-preserved g c =
    let places = c.loop-numbered.places.items in
    let numbered = c.in-Some.numbered in
    let fit = subst (AllByRecursion (λ (numbered : Numbered _). numbered.number < length places)) c.in-Some.ensures.steps.0 c.loop-numbered.invariant.1 in (
      sym (ap (placed places) c.in-Some.ensures.steps.0) ∙ c.loop-numbered.invariant.0,
      subst (λ many. AllByRecursion (λ (numbered : Numbered _). numbered.number < many) c.next.new.self.rest.items)
          (sym (length_set places numbered.number (Some numbered.made))) fit.1,
    )
