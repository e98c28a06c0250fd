-- What is added is what stands at the number.
use Rattle.std.proofs.Common.{◌≡◌, ◌∙◌, ◌++◌, List, Option, Result, Ok, Err, IfOk, append-nil, map, ap, sym, subst}
use Rattle.std.specs.Prelude.{IfErr, OnOk}
use Rattle.dioc_terms.specs.Plain.{PlainRule, plain, plain_rule}
use Rattle.mend.specs.declared.refusals.MendRefusal.{MendRefusal}
use Rattle.mend.specs.Refusals.{refused, IsMendRefusalOf}
use Rattle.mend.proofs.Growing.{mended_there, mended_nowhere, refusal_there, refusal_nowhere}
use Rattle.mend.proofs.bundle_parts.add_rule.Goals as goal

mapped_ok : {A E : Type 0} {P Q : A → Type 0} → ((x : A) → P x → Q x) → (r : Result A E) → IfOk r P → IfOk r Q
mapped_ok f (Ok x) h = f x h
mapped_ok f (Err e) h = h

pub returns-in-Some-clause-added : goal.returns-in-Some-clause-added
returns-in-Some-clause-added c =
    subst (λ (more : List PlainRule). OnOk c.add_one.result (map plain_rule c.add_one.new.made.items ≡ map plain_rule c.args.made.now.items ++ more))
    (sym (mended_there (plain c.args.bundle.now) c.args.number (plain_rule c.in-Some.rule.now) (sym c.in-Some.ensures))) c.add_one.ensures.added

pub returns-in-Some-clause-ok : goal.returns-in-Some-clause-ok
returns-in-Some-clause-ok c =
    let there = refusal_there (plain c.args.bundle.now) c.args.number (plain_rule c.in-Some.rule.now) (sym c.in-Some.ensures) in
    mapped_ok (λ done none. there ∙ ap refused none) c.add_one.result c.add_one.ensures.ok

pub returns-in-Some-clause-refused : goal.returns-in-Some-clause-refused
returns-in-Some-clause-refused c =
    subst (λ (test : Option MendRefusal). IfErr c.add_one.result (IsMendRefusalOf test))
    (sym (refusal_there (plain c.args.bundle.now) c.args.number (plain_rule c.in-Some.rule.now) (sym c.in-Some.ensures))) c.add_one.ensures.refused

pub returns-in-None-clause-added : goal.returns-in-None-clause-added
returns-in-None-clause-added c =
    sym (ap (λ (more : List PlainRule). map plain_rule c.args.made.now.items ++ more) (mended_nowhere (plain c.args.bundle.now) c.args.number (sym c.in-None.ensures))
    ∙ append-nil (map plain_rule c.args.made.now.items))

pub returns-in-None-clause-ok : goal.returns-in-None-clause-ok
returns-in-None-clause-ok c = refusal_nowhere (plain c.args.bundle.now) c.args.number (sym c.in-None.ensures)
