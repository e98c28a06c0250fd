-- The role is at its place, and the others stay.
use Rattle.std.proofs.lemmas.List.{map-set}
use Rattle.std.specs.Prelude.{map}
use Rattle.rule_book.specs.KeptBooks.{book_of}
use Rattle.net_core.proofs.RoleLemmas.{here_is, locals_same, refused_role}
use Rattle.net_core.proofs.SameMail.{can_same, done_same}
use Rattle.net_core.proofs.parts.step_role.Goals as goal

pub do_act-requires-clause-numbered : goal.do_act-requires-clause-numbered
do_act-requires-clause-numbered g c =
    c.requires.numbered (g.R.Runs.local c.index_mut-state.result.now)
    (here_is g.R.Runs.local c.args.roles.now.items c.args.place c.index_mut-state.result.now c.index_mut-state.ensures.value c.requires.there)

pub do_act-requires-clause-can : goal.do_act-requires-clause-can
do_act-requires-clause-can g c =
    can_same c.args.mail.now c.make_room.new.mail c.make_room.ensures.same_mail (g.R.Runs.local c.index_mut-state.result.now) c.args.asked.act.now
    (c.requires.can (g.R.Runs.local c.index_mut-state.result.now)
    (here_is g.R.Runs.local c.args.roles.now.items c.args.place c.index_mut-state.result.now c.index_mut-state.ensures.value c.requires.there))

pub do_act-requires-clause-tells : goal.do_act-requires-clause-tells
do_act-requires-clause-tells g c =
    c.requires.tells (g.R.Runs.local c.index_mut-state.result.now)
    (here_is g.R.Runs.local c.args.roles.now.items c.args.place c.index_mut-state.result.now c.index_mut-state.ensures.value c.requires.there)

pub returns-in-Ok-clause-did : goal.returns-in-Ok-clause-did
returns-in-Ok-clause-did g c = λ role rules at of bodies.
    record {
      place = c.args.place;
      at = at;
      local = g.R.Runs.local c.index_mut-state.result.now;
      here = here_is g.R.Runs.local c.args.roles.now.items c.args.place c.index_mut-state.result.now c.index_mut-state.ensures.value c.requires.there;
      becomes = g.R.Runs.local c.do_act.new.state;
      locals = map-set g.R.Runs.local c.args.roles.now.items c.args.place c.do_act.new.state;
      did = done_same c.args.mail.now c.make_room.new.mail c.make_room.ensures.same_mail c.args.fixed.now.cast.now rules (book_of c.args.fixed.now.book.now) c.args.updates.now c.args.asked.act.now
          (g.R.Runs.local c.index_mut-state.result.now) c.args.history.now.entries c.make_room.new.history.entries
          (g.R.Runs.local c.do_act.new.state) c.do_act.new.mail c.do_act.new.updates c.do_act.new.history.entries
          c.make_room.ensures.same_history (c.in-Ok.ensures.did rules of bodies);
    }

pub returns-in-Err-clause-refused : goal.returns-in-Err-clause-refused
returns-in-Err-clause-refused g c = λ role at.
    refused_role c.args.fixed.now.cast.now (map g.R.Runs.local c.args.roles.now.items) role (g.R.Runs.local c.index_mut-state.result.now)
    (record {
      place = c.args.place;
      at = at;
      here = here_is g.R.Runs.local c.args.roles.now.items c.args.place c.index_mut-state.result.now c.index_mut-state.ensures.value c.requires.there;
    })
    c.args.mail.now c.make_room.new.mail c.make_room.ensures.same_mail c.args.asked.act.now c.in-Err.fault c.in-Err.ensures.refused

pub returns-in-Err-clause-same_roles : goal.returns-in-Err-clause-same_roles
returns-in-Err-clause-same_roles g c =
    locals_same g.R.Runs.local c.args.roles.now.items c.args.place c.index_mut-state.result.now c.index_mut-state.ensures.value
    c.do_act.new.state c.in-Err.ensures.same_local
