-- Each chunk that begins where the sessions so far end is joined to them.
use Rattle.std.proofs.Common.{rules, ◌≡◌, IfOk, map, sym, subst, arith, drop_of_length-le}
use Rattle.std.specs.List.{AllByRecursion}
use Rattle.dioc_terms.specs.Plain.{plain}
use Rattle.bundle_text.specs.Many.{Many, no_more}
use Rattle.bundle_text.specs.SessionReaders.{IsChunkIn}
use Rattle.bundle_text.specs.Sessions.{IsSession}
use Rattle.bundle_text.proofs.SessionSteps.{sessions_joined}
use Rattle.bundle_text.proofs.chunks.join_chunks.Goals as goal

pub loop-chunk-init : goal.loop-chunk-init
loop-chunk-init c =
    let same : c.args.chunks.items ≡ c.into_iter-chunk-iterator.result.rest.items = search rules in (
      subst (λ list. Many IsSession c.args.text.now (map plain list) c.args.text.now) (sym c.new-sessions.ensures.items) no_more,
      subst (AllByRecursion (λ chunk. IfOk chunk (IsChunkIn c.args.text.now))) same c.requires,
    )

pub loop-chunk-preserved-then-chunk-next : goal.loop-chunk-preserved-then-chunk-next
loop-chunk-preserved-then-chunk-next c =
    let all = subst (AllByRecursion (λ chunk. IfOk chunk (IsChunkIn c.args.text.now))) c.in-Some.ensures.steps.0 c.loop-chunk.invariant.1 in
    (c.loop-chunk.invariant.0, all.1)

pub loop-chunk-preserved : goal.loop-chunk-preserved
loop-chunk-preserved c =
    let all = subst (AllByRecursion (λ chunk. IfOk chunk (IsChunkIn c.args.text.now))) c.in-Some.ensures.steps.0 c.loop-chunk.invariant.1 in
    let chunk = c.in_ok-chunk.chunk in
    let stands : IsChunkIn c.args.text.now chunk = subst (λ chunk. IfOk chunk (IsChunkIn c.args.text.now)) c.in_ok-chunk.was all.0 in
    let joins : chunk.from ≡ c.loop-chunk.next = omega arith in (
      sessions_joined c.args.text.now c.loop-chunk.sessions.items chunk c.loop-chunk.next c.loop-chunk.invariant.0 stands joins c.append.new.self.items c.in_ok-append.ensures.items,
      all.1,
    )

pub returns-clause-stand : goal.returns-clause-stand
returns-clause-stand c = subst (Many IsSession c.args.text.now (map plain c.loop-chunk.sessions.items)) (drop_of_length-le c.args.text.now (omega arith)) c.loop-chunk.invariant.0
