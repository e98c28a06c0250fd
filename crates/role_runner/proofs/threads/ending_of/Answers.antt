-- The calls over the jobs give the tests of the ending.
use Rattle.std.proofs.Common.{◌≡◌, ◌∙◌, take, sym, rules, tests}
use Rattle.std.proofs.lemmas.Iterator.{YieldsList-from_slice}
use Rattle.std.proofs.lemmas.Iterator.Search.{all_from_yields_List, any_from_yields_List}
use Rattle.std.specs.List.{list_all, list_any}
use Rattle.role_runner.proofs.EndLemmas.{told_ended, told_memory}
use Rattle.role_runner.specs.Jobs.{is_cut, has_done_state}
use Rattle.role_runner.proofs.threads.ending_of.Goals as goal

pub returns-then-all : goal.returns-then-all
returns-then-all c =
    let jobs = take c.args.roles c.args.jobs.now in
    let all : c.all.result ≡ list_all has_done_state jobs =
    all_from_yields_List has_done_state _ _ _ c.all.ensures.ran (YieldsList-from_slice jobs cc) (λ x b q k. search (rules, tests)) in
    told_ended c.args.limit jobs (sym all ∙ c.if-all.true)

pub returns : goal.returns
returns c =
    let jobs = take c.args.roles c.args.jobs.now in
    let all : c.all.result ≡ list_all has_done_state jobs =
    all_from_yields_List has_done_state _ _ _ c.all.ensures.ran (YieldsList-from_slice jobs cc) (λ x b q k. search (rules, tests)) in
    let any : c.any.result ≡ list_any (is_cut c.args.limit) jobs =
    any_from_yields_List (is_cut c.args.limit) _ _ _ c.any.ensures.ran (YieldsList-from_slice jobs cc) (λ x b q k. search (rules, tests)) in
    told_memory c.args.limit jobs (sym all ∙ c.if-all.false) (sym any ∙ c.if-any.false)
