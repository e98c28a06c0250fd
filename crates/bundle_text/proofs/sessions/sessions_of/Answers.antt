use Rattle.std.proofs.Common.{◌≢◌, ◌≤◌, ⊎_elim, inl, inr, IfErr, length, map, refl, ap, sym, subst, arith, drop_of_length-le}
use Rattle.std.proofs.lemmas.List.{length-map}
use Rattle.dioc_terms.specs.Plain.{plain}
use Rattle.bundle_text.specs.declared.stops.Stop.TheVariants as stops
use Rattle.bundle_text.specs.Many.{Many, no_more}
use Rattle.bundle_text.specs.Sessions.{IsSession, EndsAmongSessions}
use Rattle.bundle_text.specs.Stops.{place_in}
use Rattle.bundle_text.proofs.SessionSteps.{sessions_further}
use Rattle.bundle_text.proofs.sessions.sessions_of.Goals as goal

pub sessions-init : goal.sessions-init
sessions-init c = (
  subst (λ list. Many IsSession c.args.text.now (map plain list) c.args.text.now) (sym c.new-sessions.ensures.items) no_more,
  omega arith,
  omega (arith, ap length c.new-sessions.ensures.items),
  inr c.new-sessions.ensures.items,
)

pub returns-in-Err-clause-stopped : goal.returns-in-Err-clause-stopped
returns-in-Err-clause-stopped c =
    subst (λ result. IfErr result (λ stop. stop ≢ stops.Memory → EndsAmongSessions c.args.text.now (place_in stop))) (sym c.lost.ensures) (λ told. record {
      sessions = map plain c.sessions.sessions.items;
      next = c.sessions.next;
      stand = c.sessions.invariant.0;
      more = ⊎_elim inl (λ none. inr (ap (map plain) none)) c.sessions.invariant.3;
      ends = inl (c.in-Err.ensures.stopped told);
    })

pub returns-then-next-len-clause-stand : goal.returns-then-next-len-clause-stand
returns-then-next-len-clause-stand c =
    let over : length c.args.text.now ≤ c.in-Ok.behind = omega arith in
    subst (Many IsSession c.args.text.now (map plain c.push.new.self.items)) (drop_of_length-le c.args.text.now over)
    (sessions_further c.args.text.now c.sessions.sessions.items c.in-Ok.bundle c.sessions.next c.in-Ok.behind c.sessions.invariant.0 c.in-Ok.ensures.found c.push.new.self.items c.in_ok-push-in-Ok.ensures.items)

pub returns-then-len-ge-MOST_SESSIONS-clause-stopped : goal.returns-then-len-ge-MOST_SESSIONS-clause-stopped
returns-then-len-ge-MOST_SESSIONS-clause-stopped c =
    subst (λ result. IfErr result (λ stop. stop ≢ stops.Memory → EndsAmongSessions c.args.text.now (place_in stop))) (sym c.lost-then-len-ge-MOST_SESSIONS.ensures) (λ told. record {
      sessions = map plain c.push.new.self.items;
      next = c.in-Ok.behind;
      stand = sessions_further c.args.text.now c.sessions.sessions.items c.in-Ok.bundle c.sessions.next c.in-Ok.behind c.sessions.invariant.0 c.in-Ok.ensures.found c.push.new.self.items c.in_ok-push-in-Ok.ensures.items;
      more = inl (omega arith);
      ends = inr (refl, omega (arith, length-map c.push.new.self.items plain));
    })

pub sessions-preserved : goal.sessions-preserved
sessions-preserved c = (
  sessions_further c.args.text.now c.sessions.sessions.items c.in-Ok.bundle c.sessions.next c.in-Ok.behind c.sessions.invariant.0 c.in-Ok.ensures.found c.push.new.self.items c.in_ok-push-in-Ok.ensures.items,
  c.in-Ok.ensures.found.within,
  omega arith,
  inl (omega arith),
)
