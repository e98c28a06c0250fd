-- The first act, and then the others.
use Rattle.std.proofs.Common.{List, Option, sym, ap, length, subst, arith}
use Rattle.std.proofs.lemmas.Result.{on_ok_weaker, on_err_weaker}
use Rattle.std.specs.Prelude.{OnErr}
use Rattle.dioc_terms.specs.declared.entries.Act.{Act}
use Rattle.dioc_terms.specs.declared.entries.Entry.{Entry}
use Rattle.dpoc_process.specs.LocalStates.{LocalState}
use Rattle.dpoc_process.specs.declared.runs.Got.{Got}
use Rattle.flat_role.proofs.PlayLemmas.{CanAll, DidAct, enabled_offered, first_enabled, front_more, front_nothing, goes_on, plays_more}
use Rattle.flat_role.specs.Plays.{Plays, PlaysFront}
use Rattle.flat_role.proofs.plays.+play.Goals as goal

pub make_ready-requires : goal.make_ready-requires
make_ready-requires g t c =
    let s : LocalState = g.R.Runs.local c.args.role.now in
    let x : Act × Got = (c.in-Some.act, c.in-Some.got) in
    let xs = c.pop_front.new.self.items in
    enabled_offered s x (first_enabled s x xs (subst (CanAll s) c.in-Some.ensures.items c.requires))

pub play-requires : goal.play-requires
play-requires g t c κs within =
    let s : LocalState = g.R.Runs.local c.args.role.now in
    let mid : LocalState = g.R.Runs.local c.advance.new.self in
    let x : Act × Got = (c.in-Some.act, c.in-Some.got) in
    let xs = c.pop_front.new.self.items in
    let did = subst (λ m. DidAct m x mid) c.in-Ok.ensures.same c.advance.ensures.steps in
    let fewer = ap length c.in-Some.ensures.items in
    let others = goes_on s mid x xs did (subst (CanAll s) c.in-Some.ensures.items c.requires) in
    (omega (arith, c.decreases, fewer), (within, others))

pub returns-in-Ok-clause-plays : goal.returns-in-Ok-clause-plays
returns-in-Ok-clause-plays g t c =
    let s : LocalState = g.R.Runs.local c.args.role.now in
    let mid : LocalState = g.R.Runs.local c.advance.new.self in
    let last : LocalState = g.R.Runs.local c.play.new.role in
    let x : Act × Got = (c.in-Some.act, c.in-Some.got) in
    let xs = c.pop_front.new.self.items in
    let old = c.args.entries.now.items in
    let between = c.make_ready.new.entries.items in
    let new = c.play.new.entries.items in
    let did = subst (λ m. DidAct m x mid) c.in-Ok.ensures.same c.advance.ensures.steps in
    on_ok_weaker c.play.result
    (λ others. subst (λ ys. Plays s ys old new last)
    (sym {A = List (Act × Got)} c.in-Some.ensures.items)
    (plays_more s mid x xs did last old between new c.in-Ok.ensures.adds others))
    c.play.ensures.plays

pub returns-in-Ok-clause-refused : goal.returns-in-Ok-clause-refused
returns-in-Ok-clause-refused g t c =
    let s : LocalState = g.R.Runs.local c.args.role.now in
    let mid : LocalState = g.R.Runs.local c.advance.new.self in
    let last : LocalState = g.R.Runs.local c.play.new.role in
    let x : Act × Got = (c.in-Some.act, c.in-Some.got) in
    let xs = c.pop_front.new.self.items in
    let old = c.args.entries.now.items in
    let between = c.make_ready.new.entries.items in
    let new = c.play.new.entries.items in
    let did = subst (λ m. DidAct m x mid) c.in-Ok.ensures.same c.advance.ensures.steps in
    on_err_weaker c.play.result
    (λ others. subst (λ ys. PlaysFront s ys old new last)
    (sym {A = List (Act × Got)} c.in-Some.ensures.items)
    (front_more s mid x xs did last old between new c.in-Ok.ensures.adds others))
    c.play.ensures.refused

pub returns-in-Err-clause-refused : goal.returns-in-Err-clause-refused
returns-in-Err-clause-refused g t c =
    let s : LocalState = g.R.Runs.local c.args.role.now in
    let xs = c.args.acts.items in
    let old = c.args.entries.now.items in
    let done = subst (λ m. PlaysFront s xs old old m) (sym {A = LocalState} c.in-Err.ensures.same)
    (front_nothing s xs old) in
    let left = subst (λ es. PlaysFront s xs old es (g.R.Runs.local c.make_ready.new.role))
    (sym {A = List (Option Entry)} c.in-Err.ensures.refused) done in
    subst (λ r. OnErr r (PlaysFront s xs old c.make_ready.new.entries.items
    (g.R.Runs.local c.make_ready.new.role))) (sym c.give_up.ensures) left
