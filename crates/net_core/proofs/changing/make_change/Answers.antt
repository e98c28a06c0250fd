-- The change that was looked at is taken out and made.
use Rattle.std.proofs.Common.{◌≡◌, List, ◌∷◌, ◌++◌, [], map, refl, ap, ◌∙◌, arith}
use Rattle.dioc_terms.specs.declared.entries.Entry.{Entry}
use Rattle.net_core.proofs.ChangeLemmas.{looked_at}
use Rattle.net_core.specs.declared.bodies.Coming.{Coming}
use Rattle.net_core.specs.KeptParts.{due_seen}
use Rattle.std.specs.Option.{option_to_list}
use Rattle.net_core.proofs.changing.make_change.Goals as goal

pub returns-clause-made : goal.returns-clause-made
returns-clause-made c = λ rules of.
    let x = c.in-Some-pop_front.field-0 in
    let rest = c.pop_front.new.self.items in
    let items : c.args.script.now.items ≡ x ∷ rest = c.pop_front.ensures.items ∙ ap (λ o. option_to_list o ++ rest) c.in-Some-pop_front.is in
    let same : c.in-Some.next.now ≡ x = looked_at c.args.script.now.items rest x c.in-Some.next.now items c.in-Some.ensures.lookup in
    let kept : c.reserve.new.self.entries ≡ c.args.history.now.entries = c.reserve.ensures.same in
    let pushed : c.push.new.self.entries ≡ c.reserve.new.self.entries ++ x.entry ∷ [] = c.push.ensures.pushed in
    record {
      due = due_seen x;
      script = ap (map due_seen) items;
      entry = x.entry;
      shows = refl;
      stands = omega (arith, c.if-visible_len-next.false, c.visible_len.ensures, ap (λ (k : Coming). k.after) same);
      book = c.apply.ensures.applied rules of;
      of = c.apply.ensures.of rules of;
      next = c.apply.ensures.coming;
      entries = pushed ∙ ap (λ (H : List Entry). H ++ x.entry ∷ []) kept;
    }
