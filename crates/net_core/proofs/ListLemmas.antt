-- The listed moves are those of the network.
use Rattle.std.proofs.Common.{◌≡◌, ℕ, List, [], ◌∷◌, ◌++◌, map, filter, Bool, false, ◌&&◌, not, Option, Some, None, slice_get, length, refl, sym, ap, ap₂, ◌∙◌}
use Rattle.std.specs.Prelude.{flat_map, option_map, if◌then◌else◌, nat_le}
use Rattle.std.specs.Option.{option_map_or}
use Rattle.dioc_terms.specs.declared.bundles.Timed.{Timed}
use Rattle.dioc_terms.specs.declared.entries.Act.{Act}
use Rattle.dioc_terms.specs.declared.names.Role.{Role}
use Rattle.dioc_terms.specs.Messages.{visible}
use Rattle.dioc_terms.specs.Plain.{PlainBundle, setting}
use Rattle.network_steps.specs.Network.{Network, network_ended}
use Rattle.dpoc_process.specs.LocalStates.{LocalState, offered}
use Rattle.network_steps.specs.declared.moves.Move.TheVariants as move
use Rattle.network_steps.specs.Schedule.{change_due, is_ready, moves, role_moves}
use Rattle.process_steps.specs.Steps.{offers}
use Rattle.net_core.proofs.ChangeLemmas.{next_due}
use Rattle.net_core.proofs.NetLemmas.{local_is, network_is, ready_is}
use Rattle.net_core.specs.Deeds.{is_there}
use Rattle.net_core.specs.MovesIn.{ReadyAt, is_first_due, local_moves, moves_in, ready_of}
use Rattle.net_core.specs.Nets.{network_at}
use Rattle.net_core.specs.Standing.{ScriptedChange, Parts, HoldsRun, due_of, local_in}

module _ (b : PlainBundle) (limit : ℕ) (parts : Parts) (is : HoldsRun b limit parts) where
  ready_alike : (a : Act) → is_there a parts.mail ≡ is_ready is.network a
  ready_alike a = ready_is b limit parts is a

  -- what a role can do now, by its local and the mail
  pub ready_is_of : (q : Role) (acts : List Act) → ReadyAt parts.cast parts.locals parts.mail q acts → acts ≡ ready_of (network_at b parts.history) q
  ready_is_of q acts at =
      at.ready ∙ ap (λ (s : LocalState). filter (λ a. is_there a parts.mail) (offered s)) (local_is b limit parts is at.is_at.place q at.local at.is_at.at at.is_at.here)
      ∙ (λ j. filter (λ a. ready_alike a j) (offers q (is.network.processes q)))
      ∙ ap (λ (N : Network). ready_of N q) (sym (network_is b parts.history is.network is.runs))

  local_alike : (q : Role) → local_moves q (local_in is.network q) parts.mail ≡ role_moves is.network q
  local_alike q i = map (move.Act q) (filter (λ a. ready_alike a i) (offers q (is.network.processes q)))

  locals_alike : (roles : List Role) → moves_in roles (map (local_in is.network) roles) parts.mail ≡ flat_map (role_moves is.network) roles
  locals_alike [] = refl
  locals_alike (q ∷ qs) = ap₂ (λ xs ys. xs ++ ys) (local_alike q) (locals_alike qs)

  due_alike : is_first_due parts.coming is.network.visible ≡ change_due b.script is.network.changes is.network.visible
  due_alike = first_is parts.coming (slice_get b.script is.network.changes) (next_due b limit parts is)
    where
      first_is : (script : List ScriptedChange) (o : Option Timed) → slice_get script 0 ≡ option_map (due_of b.rules) o
          → is_first_due script is.network.visible ≡ option_map_or (λ (timed : Timed). nat_le timed.after is.network.visible) o false
      first_is [] None h = refl
      first_is [] (Some timed) h = cc
      first_is (due ∷ rest) None h = cc
      first_is (due ∷ rest) (Some timed) h = ap (λ after. nat_le after is.network.visible) (after_same h)
        where
          after_same : Some due ≡ Some (due_of b.rules timed) → due.after ≡ timed.after
          after_same e = cc

  -- whether the change is due, and the network has not ended
  pub due_listed : (is_first_due parts.coming (length (visible parts.history)) && not (network_ended b.cast (network_at b parts.history)))
      ≡ (change_due b.script (network_at b parts.history).changes (network_at b parts.history).visible && not (network_ended b.cast (network_at b parts.history)))
  due_listed = ap (λ t. t && not (network_ended b.cast (network_at b parts.history)))
      (ap (is_first_due parts.coming) (sym is.visible) ∙ due_alike
      ∙ ap (λ (N : Network). change_due b.script N.changes N.visible) (sym (network_is b parts.history is.network is.runs)))

  -- the change where it is due, and then the moves of the roles
  pub moves_listed : (due : Bool) → due ≡ (change_due b.script (network_at b parts.history).changes (network_at b parts.history).visible && not (network_ended b.cast (network_at b parts.history)))
      → ((if due then move.Change ∷ [] else []) ++ moves_in parts.cast parts.locals parts.mail) ≡ moves (setting b) (network_at b parts.history)
  moves_listed due same =
      ap₂ (λ (t : Bool) l. (if t then move.Change ∷ [] else []) ++ l) (same ∙ ap (λ (N : Network). change_due b.script N.changes N.visible && not (network_ended b.cast N)) (network_is b parts.history is.network is.runs))
      (ap₂ (λ cast locals. moves_in cast locals parts.mail) is.cast is.locals ∙ locals_alike b.cast)
      ∙ ap (moves (setting b)) (sym (network_is b parts.history is.network is.runs))
