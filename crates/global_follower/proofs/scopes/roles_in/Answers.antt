use Rattle.std.proofs.Common.{◌<◌, ◌∙◌, ◌++◌, ◌∷◌, [], cond, filter, length, take, sym, ap, ap₂, arith}
use Rattle.std.proofs.lemmas.List.Elements.{filter_more}
use Rattle.dioc_terms.specs.declared.names.Role.{Role}
use Rattle.dioc_terms.specs.Terms.{term, is_in}
use Rattle.global_follower.proofs.scopes.roles_in.Goals as goal

pub loop-role-preserved : goal.loop-role-preserved
loop-role-preserved c =
    let cast = c.args.cast.now in
    let i = c.loop-role.role-index in
    let named = λ (q : Role). is_in q (term c.args.scope.now) in
    let within : i < length cast = omega arith in
    c.in_ok-keep.ensures
    ∙ ap₂ (λ kept (b : _). kept ++ cond b (c.role-item.result ∷ []) []) c.loop-role.invariant c.names_role.ensures
    ∙ sym (filter_more named cast i c.role-item.result within
    ∙ ap (λ y. filter named (take i cast) ++ cond (named y) (y ∷ []) []) (sym c.role-item.is))
