use Rattle.std.proofs.Common.{◌+◌, add-one, refl, rules, tests}
use Rattle.std.proofs.lemmas.Option.{slice_get_read}
use Rattle.global_follower.specs.KeptBooks.{book_of}
use Rattle.global_follower.specs.KeptPlays.{setting_of, state_of}
use Rattle.global_follower.proofs.FollowLemmas.{change_made, change_stray}
use Rattle.global_follower.proofs.follower.Follower.plays_change.Goals as goal

pub returns-then-not-shows-clause-goes : goal.returns-then-not-shows-clause-goes
returns-then-not-shows-clause-goes c =
    let old = c.args.self.now in (
      change_stray (setting_of old) (state_of old) c.args.entry.now c.in-Some.timed.now
          (rw c.as_slice.ensures
          at (slice_get_read c.as_slice.result.now _ old.changes c.in-Some.timed.now refl
          c.in-Some.ensures.lookup.3.0 c.in-Some.ensures.lookup.1))
          (search (rules, tests)),
      refl,
    )

pub returns-in_ok-apply-in-Some-clause-goes : goal.returns-in_ok-apply-in-Some-clause-goes
returns-in_ok-apply-in-Some-clause-goes c =
    let old = c.args.self.now in
    change_made (setting_of old) (state_of old) c.args.entry.now c.in-Some.timed.now
    (book_of c.apply.new.self) (old.changes + 1) (old.entries + 1)
    (rw c.as_slice.ensures
    at (slice_get_read c.as_slice.result.now _ old.changes c.in-Some.timed.now refl
    c.in-Some.ensures.lookup.3.0 c.in-Some.ensures.lookup.1))
    (rw (← c.if-not-shows.ensures) (search (rules, tests)))
    c.in_ok-apply-in-Some.ensures.applied (add-one old.changes) (add-one old.entries)
