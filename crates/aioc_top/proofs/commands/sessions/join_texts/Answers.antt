-- Each text comes behind those that were joined.
use Rattle.std.proofs.Common.{rules, ◌≡◌, List, [], ◌∷◌, ◌++◌, refl, sym, ap, ◌∙◌, append-nil, append_assoc, arith, length}
use Rattle.std.specs.Prelude.{map}
use Rattle.aioc_top.specs.Texts.{joined, text_seen}
use Rattle.aioc_top.proofs.commands.sessions.join_texts.Goals as goal

pub loop-session-init : goal.loop-session-init
loop-session-init c =
    let none : c.in_ok-joined.joined.items ≡ [] = (let made = c.in_ok-joined.ensures in search rules) in
    ap (λ bytes. bytes ++ joined (map text_seen c.into_iter-session-iterator.result.rest.items)) none
    ∙ ap (λ texts. joined (map text_seen texts)) c.into_iter-session-iterator.ensures.into_iter_gives.0

pub loop-session-preserved : goal.loop-session-preserved
loop-session-preserved c =
    ap (λ bytes. bytes ++ joined (map text_seen c.next.new.self.rest.items)) c.in_ok-append.ensures.items
    ∙ append_assoc c.loop-session.joined.items c.in-Some.session.text.items (joined (map text_seen c.next.new.self.rest.items))
    ∙ ap (λ texts. c.loop-session.joined.items ++ joined (map text_seen texts)) (sym c.in-Some.ensures.steps.0)
    ∙ c.loop-session.invariant

pub returns : goal.returns
returns c =
    sym (append-nil c.loop-session.joined.items)
    ∙ ap (λ texts. c.loop-session.joined.items ++ joined (map text_seen texts)) (sym (none _ (sym c.loop-session.session-iterator.rest.ok.0 ∙ c.in-None.ensures.steps.0)))
    ∙ c.loop-session.invariant
  where
    none : {A : Type 0} (left : List A) → length left ≡ 0 → left ≡ []
    none [] is = refl
    none (x ∷ xs) is = absurd (omega arith)
