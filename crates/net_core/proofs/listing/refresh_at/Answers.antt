-- The role stands at its place.
use Rattle.std.proofs.Common.{◌≡◌, ◌<◌, Some, slice_get, length, sym, ap, ◌∙◌, arith}
use Rattle.std.specs.Prelude.{filter}
use Rattle.std.proofs.lemmas.Bool.{false≢true}
use Rattle.std.proofs.lemmas.Option.{slice_get_within}
use Rattle.std.proofs.lemmas.Result.{on_ok_weaker}
use Rattle.dioc_terms.specs.declared.entries.Act.{Act}
use Rattle.net_core.proofs.PlaceLemmas.{place_at, place_none}
use Rattle.net_core.proofs.RoleLemmas.{here_is}
use Rattle.net_core.specs.Deeds.{is_there}
use Rattle.net_core.specs.MovesIn.{chosen}
use Rattle.net_core.specs.Places.{places_of}
use Rattle.net_core.proofs.listing.refresh_at.Goals as goal

pub unreachable-requires : goal.unreachable-requires
unreachable-requires g c =
    absurd (false≢true (sym (place_none c.args.role.now c.args.cast.now (sym c.place_of.ensures ∙ c.in_default.is)) ∙ c.requires.member))

pub returns-clause-ready : goal.returns-clause-ready
returns-clause-ready g c =
    let at : slice_get c.args.cast.now c.in-Some.at ≡ Some c.args.role.now =
    place_at c.args.role.now c.args.cast.now c.in-Some.at (sym c.place_of.ensures ∙ c.in-Some.is) in
    let within : c.in-Some.at < length c.args.roles.now =
    omega (arith, c.requires.lengths, slice_get_within c.args.cast.now c.in-Some.at c.args.role.now at) in
    on_ok_weaker c.add_ready.result
    (λ listed. record {
      local = g.R.Runs.local c.index-roles-at.result;
      is_at = record {
        place = c.in-Some.at;
        at = at;
        here = here_is g.R.Runs.local c.args.roles.now c.in-Some.at c.index-roles-at.result c.index-roles-at.is within;
      };
      ready = ap (chosen c.add_ready.new.ready.items) (sym c.as_slice.ensures.value) ∙ listed
          ∙ ap (filter (λ (a : Act). is_there a c.args.mail.now)) (c.as_slice.ensures.value ∙ c.in_ok-refresh_acts.ensures);
    })
    c.add_ready.ensures.ready

pub returns-clause-listed : goal.returns-clause-listed
returns-clause-listed g c =
    let at : slice_get c.args.cast.now c.in-Some.at ≡ Some c.args.role.now =
    place_at c.args.role.now c.args.cast.now c.in-Some.at (sym c.place_of.ensures ∙ c.in-Some.is) in
    let within : c.in-Some.at < length c.args.roles.now =
    omega (arith, c.requires.lengths, slice_get_within c.args.cast.now c.in-Some.at c.args.role.now at) in
    on_ok_weaker c.add_ready.result
    (λ listed. record {
      local = g.R.Runs.local c.index-roles-at.result;
      is_at = record {
        place = c.in-Some.at;
        at = at;
        here = here_is g.R.Runs.local c.args.roles.now c.in-Some.at c.index-roles-at.result c.index-roles-at.is within;
      };
      offers = c.in_ok-refresh_acts.ensures;
      ready = listed ∙ ap (places_of (λ (a : Act). is_there a c.args.mail.now)) c.as_slice.ensures.value;
    })
    c.add_ready.ensures.places
