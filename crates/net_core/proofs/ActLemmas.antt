-- What a net gives to the step of a role.
use Rattle.std.proofs.Common.{◌≡◌, ◌<◌, ℕ, Bool, List, Some, length, slice_get, All, sym, ap, ◌∙◌, subst, arith}
use Rattle.std.proofs.lemmas.List.{length-map}
use Rattle.dioc_terms.specs.declared.entries.Act.{Act}
use Rattle.dioc_terms.specs.declared.names.Role.{Role}
use Rattle.dioc_terms.specs.declared.entries.Entry.{Entry}
use Rattle.dioc_terms.specs.Plain.{PlainBundle, PlainRule}
use Rattle.dioc_terms.specs.Rules.{Book}
use Rattle.role_mailbox.specs.declared.mail.Mail.{Mail}
use Rattle.dpoc_process.specs.LocalStates.{LocalState}
use Rattle.marked_laws.specs.Laws.{IsSoundRule}
use Rattle.network_steps.specs.Network.{Network}
use Rattle.process_steps.specs.Steps.{ended}
use Rattle.net_core.proofs.NetLemmas.{network_is, local_is}
use Rattle.net_core.proofs.PlaceLemmas.{role_there}
use Rattle.net_core.proofs.TellLemmas.{tells_run}
use Rattle.net_core.specs.Deeds.{DoneAt, IsAt, RoleDid, given_to}
use Rattle.net_core.specs.Nets.{network_at}
use Rattle.net_core.specs.Scopes.{KnownRules, Tells}
use Rattle.net_core.specs.Standing.{Parts, HoldsRun, local_in}
use Rattle.scope_leader.specs.Leaders.{LeadersTell, TellsOthers}

module _ (b : PlainBundle) (limit : ℕ) (parts : Parts) (is : HoldsRun b limit parts) where
  -- there is one local for each role of the cast
  pub locals_long : length parts.locals ≡ length parts.cast
  locals_long = ap length is.locals ∙ length-map b.cast (local_in is.network) ∙ ap length (sym is.cast)

  -- so at each place of the cast stands a role with its local
  pub role_at : (place : ℕ) → place < length b.cast → (q : Role) × (slice_get parts.cast place ≡ Some q)
  role_at place inside = role_there parts.cast place (omega (arith, inside, ap length is.cast))

  pub locals_at : (place : ℕ) → place < length b.cast → place < length parts.locals
  locals_at place inside = omega (arith, inside, locals_long, ap length is.cast)

  -- the book and the bodies are of the bundle's rules, which may run
  pub known_rules : KnownRules parts.cast parts.book parts.bodies
  known_rules = record {
    rules = b.rules;
    of = is.of;
    same = is.bodies;
    sound = subst (λ cast. All (IsSoundRule cast) b.rules) (sym is.cast) is.sound.rules;
  }

  -- a role tells the others of the scopes that it begins
  pub role_tells : LeadersTell → (q : Role) (s : LocalState) (a : Act) → IsAt parts.cast parts.locals q s → Tells parts.cast s a
  role_tells leaders q s a is_at =
      subst (λ t. Tells parts.cast t a) (sym (local_is b limit parts is is_at.place q s is_at.at is_at.here))
      (λ lead led. subst (λ cast. TellsOthers cast q lead.head lead.others) (sym is.cast)
      (tells_run leaders b parts.history is.network is.runs q a lead led))

  -- a role has ended where its process in the network has
  pub done_is : (q : Role) (done : Bool) → DoneAt parts.cast parts.locals q done → done ≡ ended ((network_at b parts.history).processes q)
  done_is q done at =
      at.is_done ∙ ap (λ (t : LocalState). ended t.process) (local_is b limit parts is at.is_at.place q at.local at.is_at.at at.is_at.here)
      ∙ ap (λ (N : Network). ended (N.processes q)) (sym (network_is b parts.history is.network is.runs))

  -- the number of updates is the network's
  pub few_updates : (network_at b parts.history).updates < 4294967295 → parts.updates < 4294967295
  few_updates few = omega (arith, is.updates, ap (λ (N : Network). N.updates) (network_is b parts.history is.network is.runs), few)

-- what the role did, by the cast of the bundle
pub did_here : (cast cast' : List Role) (q : Role) (a : Act) (rules : List PlainRule) (mail : Mail) (book : Book) (count : ℕ) (locals : List LocalState) (H : List Entry)
    (locals' : List LocalState) (mail' : Mail) (count' : ℕ) (H' : List Entry) → cast ≡ cast'
    → RoleDid cast q a (λ s. given_to cast rules mail book count s a) locals mail count H locals' mail' count' H'
    → RoleDid cast q a (λ s. given_to cast' rules mail book count s a) locals mail count H locals' mail' count' H'
did_here cast cast' q a rules mail book count locals H locals' mail' count' H' same did =
    subst (λ cs. RoleDid cast q a (λ s. given_to cs rules mail book count s a) locals mail count H locals' mail' count' H') same did
