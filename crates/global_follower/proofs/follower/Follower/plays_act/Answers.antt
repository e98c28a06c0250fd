use Rattle.std.proofs.Common.{◌≡◌, ◌+◌, Bool, true, false, refl, add-one}
use Rattle.global_follower.specs.KeptEffects.{effect_of, is_put}
use Rattle.global_follower.specs.KeptPlays.{setting_of, state_of}
use Rattle.global_follower.specs.KeptRunning.{running}
use Rattle.global_follower.specs.KeptStores.{stores_of}
use Rattle.global_follower.proofs.FollowLemmas.{put_played, role_played, role_stray}
use Rattle.global_follower.proofs.follower.Follower.plays_act.Goals as goal

pub returns-then-not-branch-clause-goes : goal.returns-then-not-branch-clause-goes
returns-then-not-branch-clause-goes c =
    let before = c.args.self.now in
    let old = state_of before in
    let stays = c.in_ok-play.ensures.stays c.if-not-branch.true in (
      role_stray (setting_of before) old c.args.role.now c.args.entry.now
          (stores_of c.make_ready_for.new.self) c.in_ok-make_ready_for.ensures.same
          (rw c.if-not-branch.true at c.in_ok-play.ensures.played),
      λ j. record {
        running = stays j;
        stores = c.in_ok-make_ready_for.ensures.same j;
        book = old.book;
        updates = old.updates;
        changes = old.changes;
        entries = old.entries;
      },
    )

pub returns-clause-goes : goal.returns-clause-goes
returns-clause-goes c =
    let old = c.args.self.now in
    role_played (setting_of old) (state_of old) c.args.role.now c.args.entry.now
    (stores_of c.make_ready_for.new.self) (stores_of c.affect.new.self) (effect_of c.play.new.effect)
    (running c.play.new.left) c.updates_after-self.result (old.entries + 1)
    c.in_ok-make_ready_for.ensures.same
    (rw c.if-not-branch.false at c.in_ok-play.ensures.played)
    c.affect.ensures c.updates_after-self.ensures (add-one old.entries)

by_either : {A : Type 0} (b : Bool) → (b ≡ true → A) → (b ≡ false → A) → A
by_either true t f = t refl
by_either false t f = f refl

-- what writes into the store isn't a put, so there is room
pub affect-requires : goal.affect-requires
affect-requires c = λ writes.
    let old = c.args.self.now in
    by_either (is_put c.args.entry.now)
    (λ put. absurd (writes (put_played (setting_of old) (state_of old) c.args.role.now
    c.args.entry.now (stores_of c.make_ready_for.new.self) (effect_of c.play.new.effect)
    (running c.play.new.left)
    (rw c.if-not-branch.false at c.in_ok-play.ensures.played) put)))
    c.in_ok-make_ready_for.ensures.ready
