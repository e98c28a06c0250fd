-- The marked term: a choreography in the middle of a run of its network, with each role's place in it. It gives the process of each
-- role, the pending messages, and the running term. Below it stand what holds of each mark in a run: that it is sound, and that it is
-- in order.
use Rattle.std.proofs.Common.{◌≡◌, ◌⊎◌, ℕ, List, [], Bool, true, false, ◌||◌, not, if◌then◌else◌, Option, Some, None}
use Rattle.dioc_terms.specs.declared.names.Role.{Role}
use Rattle.dioc_terms.specs.declared.names.Index.{Index}
use Rattle.dioc_terms.specs.declared.values.Value.{Value}
use Rattle.dioc_terms.specs.declared.processes.Key.{Key}
use Rattle.dioc_terms.specs.declared.processes.Tag.TheVariants.{Op}
use Rattle.dioc_terms.specs.Equality.{role_eq, key_eq}
use Rattle.dioc_terms.specs.Expressions.{Expression}
use Rattle.dioc_terms.specs.Processes as process
use Rattle.dioc_terms.specs.Processes.{Process, Load, Val}
use Rattle.dioc_terms.specs.Terms as term
use Rattle.dioc_terms.specs.Terms.{Term, is_in}
use Rattle.projection.specs.Projection.{projected}
use Rattle.process_steps.specs.Steps.{key, ended}
use Rattle.global_steps.specs.Running as running
use Rattle.global_steps.specs.Running.{Running, started, light}
use Rattle.marked_laws.proofs.Constructs.{Phase, Phases, Kind, Releasing, waits, is_early, is_late, leader, index, whole, body, runs, own_mail, leads, follows, untold, ungone, Begins}
use Rattle.marked_laws.proofs.Proper.{Proper, Linked, Within, proper_seq, proper_par}

pub data Mark : Type 0 where
  -- nobody has begun it
  Still : Term → Mark
  -- an interaction whose message is pending
  Flying : Index → List ℕ → Role → Expression → Role → List ℕ → Value → Mark
  -- an interaction, a setting or an input that is done
  Over : Term → Mark
  -- a sequence whose second part nobody has begun
  First : Mark → Term → Mark
  -- a sequence whose second part somebody has begun
  Second : Mark → Mark → Mark
  Both : Mark → Mark → Mark
  -- a begun construct: its kind, the phase of each role, and the mark of what runs inside
  Held : Kind → Phases → Mark → Mark
  -- what ran inside a scope that its leader releases: only its running term is still of use
  Spent : Running → Mark

-- the term that it was before anybody began it
abbrev pub origin : Mark → Term
origin (Still I) = I
origin (Flying i o a e b x v) = term.Com i o a e b x
origin (Over I) = I
origin (First M J) = term.Seq (origin M) J
origin (Second M N) = term.Seq (origin M) (origin N)
origin (Both M N) = term.Par (origin M) (origin N)
origin (Held k phases M) = whole k
origin (Spent G) = term.Skip

-- the running term
abbrev pub run : Mark → Running
run (Still I) = started I
run (Flying i o a e b x v) = running.Fly i o a b x v
run (Over I) = running.Skip
run (First M J) = running.Seq (run M) (started J)
run (Second M N) = running.Seq (run M) (run N)
run (Both M N) = running.Par (run M) (run N)
run (Held k phases M) = runs k (run M)
run (Spent G) = G

abbrev pub first_of_two : Option Load → Option Load → Option Load
first_of_two None second = second
first_of_two (Some l) second = Some l

-- the pending message of a key
abbrev pub mail : Mark → Key → Option Load
mail (Still I) j = None
mail (Flying i o a e b x v) j = if key_eq j (key a b i (Op o)) then Some (Val v) else None
mail (Over I) j = None
mail (First M J) j = mail M j
mail (Second M N) j = first_of_two (mail M j) (mail N j)
mail (Both M N) j = first_of_two (mail M j) (mail N j)
mail (Held k phases M) j = first_of_two (own_mail k phases j) (mail M j)
mail (Spent G) j = None

-- The index may still show in a step from here on. All indices of constructs that are over are among these; by a step they become
-- fewer, but for those of an update.
abbrev pub At : Index → Mark → Type 0
At n (Still I) = Within n I
At n (Flying i o a e b x v) = n ≡ i
At n (Over I) = ⊥
At n (First M J) = At n M ⊎ Within n J
At n (Second M N) = At n M ⊎ At n N
At n (Both M N) = At n M ⊎ At n N
At n (Held k phases M) = Within n (whole k) ⊎ At n M
At n (Spent G) = ⊥

-- whether the role is of a chosen scope in the running term
abbrev pub in_bars : Role → Running → Bool
in_bars q (running.Seq G H) = in_bars q G || in_bars q H
in_bars q (running.Par G H) = in_bars q G || in_bars q H
in_bars q (running.Bar roles G) = roles q || in_bars q G
in_bars q (running.Again i r g I G) = in_bars q G
in_bars q _ = false

-- whether the role has begun the construct: its leader, and who took the leader's message; of a scope's release all roles have
abbrev pub has_passed : Role → Kind → Phase → Bool
has_passed q (Releasing i r I extra props level) phase = is_in q (term.Scope i r I extra props level)
has_passed q k phase = role_eq q (leader k) || not (is_early phase)

-- whether the role has begun the term
abbrev pub acted : Role → Mark → Bool
acted q (Still I) = false
acted q (Flying i o a e b x v) = role_eq q a
acted q (Over I) = is_in q I
acted q (First M J) = acted q M
acted q (Second M N) = acted q M || acted q N
acted q (Both M N) = acted q M || acted q N
acted q (Held k phases M) = has_passed q k (phases q) || acted q M
acted q (Spent G) = in_bars q G

module _ (cast : List Role) where
  -- the process of a role
  abbrev pub place : Mark → Role → Process
  place (Still I) q = projected cast I q
  place (Flying i o a e b x v) q = if role_eq q a then process.Skip else if role_eq q b then process.Recv i o a x else process.Skip
  place (Over I) q = process.Skip
  place (First M J) q = process.Seq (place M q) (projected cast J q)
  place (Second M N) q = process.Seq (place M q) (place N q)
  place (Both M N) q = process.Par (place M q) (place N q)
  place (Held k phases M) q = if role_eq q (leader k) then leads cast k phases (place M q) else follows cast k q (phases q) (place M q)
  place (Spent G) q = process.Skip

  -- what holds of a begun construct
  pub record Sound (k : Kind) (phases : Phases) (M : Mark) : Type 0 where
    pub proper : Proper cast (whole k)
    pub is_body : origin M ≡ body k
    -- its own index isn't used inside
    pub own : At (index k) M → ⊥
    -- who isn't in the construct isn't in its body
    pub inner : (q : Role) → is_in q (whole k) ≡ false → is_in q (body k) ≡ false
    pub begins : Begins cast k
    -- only other roles than the leader have a phase but Waits
    pub known : (q : Role) → waits (phases q) ≡ false → (role_eq q (leader k) ≡ false) × (is_in q (whole k) ≡ true)
    -- who hasn't taken the leader's message has its part of the body before it
    pub fresh : (q : Role) → is_early (phases q) ≡ true → role_eq q (leader k) ≡ false → place M q ≡ projected cast (origin M) q
    -- who told the leader that it is through has ended its part
    pub through : (q : Role) → is_late (phases q) ≡ true → ended (place M q) ≡ true

  abbrev pub Fine : Mark → Type 0
  Fine (Still I) = Proper cast I
  Fine (Flying i o a e b x v) = Proper cast (term.Com i o a e b x)
  Fine (Over I) = Unit {0}
  Fine (First M J) = Fine M × Proper cast J × ((n : Index) → At n M → Within n J → ⊥) × Linked (origin M) J
  Fine (Second M N) = Fine M × Fine N × ((n : Index) → At n M → At n N → ⊥) × (light (run M) ≡ true)
  Fine (Both M N) = Fine M × Fine N × ((n : Index) → At n M → At n N → ⊥)
  Fine (Held k phases M) = Fine M × Sound k phases M
  Fine (Spent G) = running.ended G ≡ true

  -- who has begun a second part has ended the first
  abbrev pub Order : Mark → Type 0
  Order (First M J) = Order M
  Order (Second M N) = Order M × Order N × ((q : Role) → acted q N ≡ true → ended (place M q) ≡ true)
  Order (Both M N) = Order M × Order N
  Order (Held k phases M) = Order M
  Order _ = Unit {0}

  -- the turn or the scope is over for its leader: all were told, the leader's own part has ended, all have told that they are through
  pub record Closed (k : Kind) (phases : Phases) (M : Mark) : Type 0 where
    pub told : untold cast k phases ≡ []
    pub done : ended (place M (leader k)) ≡ true
    pub gathered : ungone cast k phases ≡ []

  -- a sequence, and a parallel, as soon as a part is begun
  pub first_fine : (I J : Term) → Proper cast (term.Seq I J) → Fine (First (Still I) J)
  first_fine I J h = let parts = proper_seq cast I J h in (parts.0, parts.1, parts.2, parts.3)

  pub both_fine : (I J : Term) → Proper cast (term.Par I J) → Fine (Both (Still I) (Still J))
  both_fine I J h = let parts = proper_par cast I J h in (parts.0, parts.1, parts.2)
