use Rattle.std.proofs.Common.{map, drop, sym, subst}
use Rattle.dioc_terms.specs.Plain.{plain}
use Rattle.bundle_text.specs.Many.{Many, no_more}
use Rattle.bundle_text.specs.Sessions.{IsSession}
use Rattle.bundle_text.proofs.SessionSteps.{sessions_further}
use Rattle.bundle_text.proofs.chunks.read_chunk.Goals as goal

pub sessions-init : goal.sessions-init
sessions-init c =
    let from = drop c.guessed_start-from.result c.args.text.now in
    subst (λ list. Many IsSession from (map plain list) from) (sym c.new-sessions.ensures.items) no_more

pub sessions-preserved : goal.sessions-preserved
sessions-preserved c =
    sessions_further c.args.text.now c.sessions.sessions.items c.in-Ok.bundle c.sessions.to c.in-Ok.behind c.sessions.invariant c.in-Ok.ensures.found c.push.new.self.items c.in_ok-push-in-Ok.ensures.items
