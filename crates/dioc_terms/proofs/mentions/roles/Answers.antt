use Rattle.std.proofs.Common.{◌≡◌, ◌∙◌, ap, subst, List, IfOk}
use Rattle.indexmap.specs.IndexSet.{insert_all}
use Rattle.dioc_terms.specs.declared.names.Role.{Role}
use Rattle.dioc_terms.specs.Equality.{role_eq}
use Rattle.dioc_terms.specs.Terms.{term, mentions}
use Rattle.dioc_terms.proofs.RoleLemmas.{cast_of-inserted}
use Rattle.dioc_terms.proofs.mentions.roles.Goals as goal

pub returns : goal.returns
returns c =
    let whole = term c.args.choreo.now in
    let put = ap (λ (known : List Role). insert_all role_eq known (mentions whole)) c.new-seen.ensures.empty in
    subst (λ known. IfOk c.in_order.result (λ roles. roles ≡ known)) (c.in_ok-add_mentions.ensures ∙ (put ∙ cast_of-inserted whole)) c.in_order.ensures
