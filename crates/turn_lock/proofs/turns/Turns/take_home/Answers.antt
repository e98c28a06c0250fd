use Rattle.turn_lock.proofs.Closing.{closed_some, closed_value}
use Rattle.turn_lock.proofs.turns.Turns.take_home.Goals as goal

pub unreachable-requires : goal.unreachable-requires
unreachable-requires g c =
    closed_some g.H.Chronicle.items g.H.Chronicle.base g.H.Chronicle.owner g.H.Chronicle.at g.H.Chronicle.grows g.met.H.Chronicle.stays g.met.H.Chronicle.goes_on _ _ c.args.token.me.0 c.requires.all.0 c.requires.all.1 c.requires.waits.1
    _ _ _ c.close_with-closed.ensures.values.2 c.take-home.ensures.value c.in_default.is

pub returns-clause-base : goal.returns-clause-base
returns-clause-base g c _ =
    (closed_value g.H.Chronicle.items g.H.Chronicle.base g.H.Chronicle.owner g.H.Chronicle.at g.H.Chronicle.grows g.met.H.Chronicle.stays g.met.H.Chronicle.goes_on _ _ c.args.token.me.0 c.requires.all.0 c.requires.all.1 c.requires.waits.1
    _ _ _ c.close_with-closed.ensures.values.2 c.take-home.ensures.value c.in-Some.home c.in-Some.is).0

pub returns-clause-shares : goal.returns-clause-shares
returns-clause-shares g c =
    (closed_value g.H.Chronicle.items g.H.Chronicle.base g.H.Chronicle.owner g.H.Chronicle.at g.H.Chronicle.grows g.met.H.Chronicle.stays g.met.H.Chronicle.goes_on _ _ c.args.token.me.0 c.requires.all.0 c.requires.all.1 c.requires.waits.1
    _ _ _ c.close_with-closed.ensures.values.2 c.take-home.ensures.value c.in-Some.home c.in-Some.is).1

pub returns-clause-begins : goal.returns-clause-begins
returns-clause-begins g c =
    (closed_value g.H.Chronicle.items g.H.Chronicle.base g.H.Chronicle.owner g.H.Chronicle.at g.H.Chronicle.grows g.met.H.Chronicle.stays g.met.H.Chronicle.goes_on _ _ c.args.token.me.0 c.requires.all.0 c.requires.all.1 c.requires.waits.1
    _ _ _ c.close_with-closed.ensures.values.2 c.take-home.ensures.value c.in-Some.home c.in-Some.is).2
