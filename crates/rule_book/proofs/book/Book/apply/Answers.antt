use Rattle.std.proofs.Common.{◌≡◌, ◌∙◌, ◌∷◌, ap, sym, subst}
use Rattle.dioc_terms.specs.Equality.{name_eq}
use Rattle.indexmap.specs.IndexMap.{insert_entry}
use Rattle.rule_book.specs.declared.kept.KeptChange.{KeptChange}
use Rattle.rule_book.specs.declared.kept.KeptChange.TheVariants as kept
use Rattle.rule_book.specs.Kept.{AreKept, IsKeptChange}
use Rattle.rule_book.proofs.ApplyLemmas.{next_is, first_and_rest, applied-add, applied-drop, applied-env}
use Rattle.rule_book.proofs.OrderLemmas.{kept-insert_entry, kept-remove_entry}
use Rattle.rule_book.proofs.book.Book.apply.Goals as goal

pub returns-in-Some-Add-clause-applied : goal.returns-in-Some-Add-clause-applied
returns-in-Some-Add-clause-applied c = λ rules of.
    let book = c.args.self.now in
    let name = c.in-Some-Add.name in
    let rule = c.in-Some-Add.rule in
    let rest = c.pop_front.new.self.items in
    let first : book.coming.items ≡ kept.Add name rule ∷ rest = c.in-Some-Add.ensures.items ∙ ap (λ (k : KeptChange). k ∷ rest) c.in-Some-Add.field-0-is in
    let known = first_and_rest (IsKeptChange rules) book.coming.items rest (kept.Add name rule) first of.coming in
    applied-add rules c.args.change.now book.rules.entries c.insert.new.self.entries book.env.items name rule of.kept known.0
    (rw c.unwrap-replaced.ensures at c.insert.ensures.entries) (next_is book.coming.items rest (kept.Add name rule) c.args.change.now first c.requires.next)

pub returns-in-Some-Add-clause-of : goal.returns-in-Some-Add-clause-of
returns-in-Some-Add-clause-of c = λ rules of.
    let book = c.args.self.now in
    let name = c.in-Some-Add.name in
    let rule = c.in-Some-Add.rule in
    let rest = c.pop_front.new.self.items in
    let first : book.coming.items ≡ kept.Add name rule ∷ rest = c.in-Some-Add.ensures.items ∙ ap (λ (k : KeptChange). k ∷ rest) c.in-Some-Add.field-0-is in
    let known = first_and_rest (IsKeptChange rules) book.coming.items rest (kept.Add name rule) first of.coming in
    let inserted : c.insert.new.self.entries ≡ insert_entry name_eq book.rules.entries name rule = rw c.unwrap-replaced.ensures at c.insert.ensures.entries in
    record {
      kept = subst (AreKept rules) (sym inserted) (kept-insert_entry rules name rule book.rules.entries of.kept known.0);
      coming = known.1;
    }

pub returns-in-Some-Drop-clause-applied : goal.returns-in-Some-Drop-clause-applied
returns-in-Some-Drop-clause-applied c = λ rules of.
    let book = c.args.self.now in
    let name = c.in-Some-Drop.name in
    let rest = c.pop_front.new.self.items in
    let removed = c.shift_remove-dropped.ensures in
    let first : book.coming.items ≡ kept.Drop name ∷ rest = c.in-Some-Drop.ensures.items ∙ ap (λ (k : KeptChange). k ∷ rest) c.in-Some-Drop.field-0-is in
    applied-drop rules c.args.change.now book.rules.entries c.shift_remove-dropped.new.self.entries book.env.items name of.kept removed.entries removed.updates.1
    (next_is book.coming.items rest (kept.Drop name) c.args.change.now first c.requires.next)

pub returns-in-Some-Drop-clause-of : goal.returns-in-Some-Drop-clause-of
returns-in-Some-Drop-clause-of c = λ rules of.
    let book = c.args.self.now in
    let name = c.in-Some-Drop.name in
    let rest = c.pop_front.new.self.items in
    let first : book.coming.items ≡ kept.Drop name ∷ rest = c.in-Some-Drop.ensures.items ∙ ap (λ (k : KeptChange). k ∷ rest) c.in-Some-Drop.field-0-is in
    record {
      kept = subst (AreKept rules) (sym c.shift_remove-dropped.ensures.entries) (kept-remove_entry rules name book.rules.entries of.kept);
      coming = (first_and_rest (IsKeptChange rules) book.coming.items rest (kept.Drop name) first of.coming).1;
    }

pub returns-in-Some-Env-clause-applied : goal.returns-in-Some-Env-clause-applied
returns-in-Some-Env-clause-applied c = λ rules of.
    let book = c.args.self.now in
    let key = c.in-Some-Env.key in
    let value = c.in-Some-Env.value in
    let rest = c.pop_front.new.self.items in
    let first : book.coming.items ≡ kept.Env key value ∷ rest = c.in-Some-Env.ensures.items ∙ ap (λ (k : KeptChange). k ∷ rest) c.in-Some-Env.field-0-is in
    applied-env rules c.args.change.now book.rules.entries book.env.items c.push.new.self.items key value
    (rw c.unwrap.ensures at c.push.ensures.items) (next_is book.coming.items rest (kept.Env key value) c.args.change.now first c.requires.next)
