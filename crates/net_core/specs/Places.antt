-- The places of the acts that a role can do, among all that its process offers.
use Rattle.std.specs.Prelude.{◌≡◌, ◌+◌, ℕ, List, [], ◌∷◌, Bool, if◌then◌else◌, slice_get}
use Rattle.std.specs.Option.{option_map_or}
use Rattle.dioc_terms.specs.declared.names.Role.{Role}
use Rattle.dioc_terms.specs.declared.entries.Act.{Act}
use Rattle.dpoc_process.specs.LocalStates.{LocalState, offered}
use Rattle.network_steps.specs.Network.{Network}
use Rattle.process_steps.specs.Steps.{offers}
use Rattle.role_mailbox.specs.declared.mail.Mail.{Mail}
use Rattle.net_core.specs.Deeds.{IsAt, is_there}
use Rattle.net_core.specs.Nets.{NetState, network_of}

-- the places of the acts that pass, from the left, where the first stands at this place
abbrev pub places_from : (Act → Bool) → ℕ → List Act → List ℕ
places_from p n [] = []
places_from p n (a ∷ acts) =
    if p a then n ∷ places_from p (n + 1) acts else places_from p (n + 1) acts

abbrev pub places_of : (Act → Bool) → List Act → List ℕ
places_of p acts = places_from p 0 acts

-- all acts that the process of a role offers
abbrev pub offers_of : Network → Role → List Act
offers_of N q = offers q (N.processes q)

-- all acts that the role at a place of the cast offers, none where no role stands there
abbrev pub offers_at : NetState → ℕ → List Act
offers_at net place =
    option_map_or (offers_of (network_of net)) (slice_get net.bundle.cast place) []

-- the role is at a place, and these are all acts that it offers, and the places of those that it
-- can do now
pub record ListedAt (cast : List Role) (locals : List LocalState) (mail : Mail) (q : Role)
    (acts : List Act) (places : List ℕ) : Type 0 where
  pub local : LocalState
  pub is_at : IsAt cast locals q local
  pub offers : acts ≡ offered local
  pub ready : places ≡ places_of (λ a. is_there a mail) acts
