-- The mended rule is that of the bundle's cast.
use Rattle.std.proofs.Common.{◌≡◌, ◌∙◌, [], ◌∷◌, ◌++◌, None, map, ap, sym, subst}
use Rattle.std.proofs.lemmas.Result.{err_from_is_err_and}
use Rattle.dioc_terms.specs.Plain.{PlainRule, plain_rule}
use Rattle.dioc_terms.specs.Terms.{term}
use Rattle.mend.specs.Mended.{mended}
use Rattle.mend.specs.Traces.{mended_rule}
use Rattle.rule_checks.specs.Refusals.{body_too_big}
use Rattle.mend.specs.Mendable.{IsMendableText}
use Rattle.mend.specs.Refusals.{refused, IsMendRefusalOf}
use Rattle.mend.proofs.bundle_parts.add_one.Goals as goal

pub mended_rule-requires : goal.mended_rule-requires
mended_rule-requires c =
    subst (λ cast. IsMendableText cast (term c.args.rule.now.body)) (sym c.as_slice.ensures)
    (c.requires.ready c.args.number (plain_rule c.args.rule.now) c.requires.at)

pub returns-in_err-rule-clause-refused : goal.returns-in_err-rule-clause-refused
returns-in_err-rule-clause-refused c =
    let p = err_from_is_err_and c.from_residual.result c.from_residual.ensures.1 in
    rw (p.1, p.2)
    (subst (λ cast. IsMendRefusalOf (refused (body_too_big c.args.number (mended cast (term c.args.rule.now.body)))) c.in_err-rule.field-0.0) c.as_slice.ensures c.in_err-rule.ensures.refused)

pub returns-clause-added : goal.returns-clause-added
returns-clause-added c =
    c.in_ok-push_rule.ensures
    ∙ ap (λ (one : PlainRule). map plain_rule c.args.made.now.items ++ one ∷ [])
    (c.in_ok-rule.ensures.made ∙ ap (λ cast. mended_rule cast (plain_rule c.args.rule.now)) c.as_slice.ensures)

pub returns-clause-ok : goal.returns-clause-ok
returns-clause-ok c =
    subst (λ cast. body_too_big c.args.number (mended cast (term c.args.rule.now.body)) ≡ None) c.as_slice.ensures c.in_ok-rule.ensures.ok
