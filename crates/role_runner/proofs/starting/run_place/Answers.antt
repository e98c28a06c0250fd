-- The seat is that of its place: a role's, or behind the roles the feeder's. One that is sent home is as it was.
use Rattle.std.proofs.Common.{◌≡◌, ◌∙◌, Some, length, slice_get, refl, sym, ap}
use Rattle.std.proofs.lemmas.Option.{slice_get_read}
use Rattle.dioc_terms.specs.Plain.{plain}
use Rattle.role_runner.proofs.CloseLemmas.{distinct_cast}
use Rattle.role_runner.proofs.JobLemmas.{of_role, role_seated}
use Rattle.role_runner.proofs.TieLemmas.{went_nowhere}
use Rattle.turn_lock.specs.Words.{view}
use Rattle.role_runner.proofs.starting.run_place.Goals as goal

pub returns-then-not-begins : goal.returns-then-not-begins
returns-then-not-begins g c = record {
  ends = record {
    of = c.requires.opens.of;
    went = went_nowhere (view c.args.seat) c.requires.opens.seated.met;
    tied = tt;
  };
}

pub play-seat-requires-clause-seated : goal.play-seat-requires-clause-seated
play-seat-requires-clause-seated g c =
    let bundle = plain c.args.bundle.now in
    let found = c.in-Some.ensures.lookup in
    let cast = c.as_slice.result.now in
    let at : slice_get bundle.cast c.args.place ≡ Some c.in-Some.role.now =
    ap (λ l. slice_get l c.args.place) (sym c.as_slice.ensures) ∙ slice_get_read cast (length cast) c.args.place c.in-Some.role.now refl found.3.0 found.1 in
    role_seated bundle c.args.place (view c.args.seat) c.requires.opens.seated (distinct_cast c.casts_are_roles.ensures bundle c.requires.sound) c.in-Some.role.now at

pub returns-in-Some : goal.returns-in-Some
returns-in-Some g c =
    let bundle = plain c.args.bundle.now in
    let found = c.in-Some.ensures.lookup in
    let cast = c.as_slice.result.now in
    let at : slice_get bundle.cast c.args.place ≡ Some c.in-Some.role.now =
    ap (λ l. slice_get l c.args.place) (sym c.as_slice.ensures) ∙ slice_get_read cast (length cast) c.args.place c.in-Some.role.now refl found.3.0 found.1 in
    record {
      ends = record {
        of = c.play-seat.ensures.of;
        went = c.play-seat.ensures.went;
        tied = of_role bundle c.args.place (view c.play-seat.result.0) c.in-Some.role.now at c.play-seat.result.1 c.play-seat.ensures.tied;
      };
    }
