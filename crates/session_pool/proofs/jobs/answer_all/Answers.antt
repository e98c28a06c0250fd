-- A session more was claimed, and what was wanted of it was made; or the claim was past the last one.
use Rattle.std.proofs.Common.{rules, tests, ◌≡◌, ◌≤◌, [], ◌∷◌, ◌++◌, length, refl, ap, sym, ◌∙◌, subst, arith, length-append}
use Rattle.std.specs.List.{AllByRecursion}
use Rattle.std.proofs.lemmas.List.{length-map}
use Rattle.ticket_table.specs.declared.views.View.{View}
use Rattle.ticket_table.specs.Words.{drawn_by}
use Rattle.session_pool.specs.declared.jobs.Numbered.{Numbered}
use Rattle.session_pool.specs.Answers.{answer_seen}
use Rattle.session_pool.specs.Jobs.{IsRight, expected, numbers_of}
use Rattle.session_pool.proofs.Gathering.{claims_more, expected_length, right_more, session_right}
use Rattle.session_pool.proofs.jobs.answer_all.Goals as goal

pub sessions-init : goal.sessions-init
sessions-init g c = (
  c.requires.ready.of,
  ap (λ v. v.parts) c.requires.ready.view,
  ap (λ v. v.drawn) c.requires.ready.view ∙ sym (ap numbers_of c.requires.ready.none),
  omega (arith, ap length c.requires.ready.none),
  subst (AllByRecursion (IsRight g.T.Made.seen (expected g.T.Made.made_of c.args.order.now))) (sym c.requires.ready.none) tt,
)

pub sessions-preserved : goal.sessions-preserved
sessions-preserved g c =
    let are = c.in_ok-push.ensures.items in
    let v = c.draw-ticket.ensures.view in
    let inv = c.sessions.invariant in
    let beyond = c.draw-ticket.ensures.beyond in
    let one : Numbered _ = record { number = c.draw-ticket.result; made = c.in_ok-one.one } in
    let old : length (drawn_by c.sessions.job.drawer) ≡ length c.sessions.job.made.items = ap length inv.2 ∙ length-map c.sessions.job.made.items (λ (n : Numbered _). n.number) in (
      c.draw-ticket.ensures.of,
      ap (λ (x : View). x.parts) v ∙ inv.1,
      claims_more g.T.Made.seen c.sessions.job.made.items c.push.new.self.items one (drawn_by c.sessions.job.drawer) (drawn_by c.draw-ticket.new.drawer) c.draw-ticket.result inv.2 (ap (λ (x : View). x.drawn) v) refl are,
      omega (arith, ap length are, length-append c.sessions.job.made.items (one ∷ [])),
      right_more g.T.Made.seen (expected g.T.Made.made_of c.args.order.now) c.sessions.job.made.items c.push.new.self.items one inv.4
          (session_right g.T.Made.made_of c.args.order.now.seed c.args.order.now.limit c.args.order.now.bundles.now c.draw-ticket.result c.index-order-number.result (answer_seen c.in_ok-answer.answer) (g.T.Made.seen c.in_ok-one.one) (omega arith)
          c.in_ok-answer.ensures c.in_ok-one.ensures) are,
    )

pub returns-then-ticket-order : goal.returns-then-ticket-order
returns-then-ticket-order g c =
    let v = c.draw-ticket.ensures.view in
    let inv = c.sessions.invariant in
    let many = expected_length g.T.Made.made_of c.args.order.now in
    let test : length c.args.order.now.bundles.now ≤ c.draw-ticket.result = (let t = c.if-ticket-order.true in search (rules, tests)) in
    record {
      of = c.draw-ticket.ensures.of;
      one = ap (λ (x : View). x.parts) v ∙ inv.1;
      worked = record {
        last = c.draw-ticket.result;
        past = omega (arith, many, test);
        drawn = ap (λ (x : View). x.drawn) v ∙ ap (λ l. l ++ c.draw-ticket.result ∷ []) inv.2;
        right = inv.4;
      };
    }
