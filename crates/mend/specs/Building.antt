-- What building a mended choreography asks of its parts, and when it stops.
use Rattle.std.specs.Prelude.{ℕ, ◌<◌, Bool, true, false, ◌&&◌, if◌then◌else◌, Option, Some, None}
use Rattle.dioc_terms.specs.declared.names.Role.{Role}
use Rattle.dioc_terms.specs.Terms.{Term, Skip, Com, Set, Input, Seq, Par, If, While, Scope, empty}
use Rattle.connectedness.specs.ByCases.{attends_ends}
use Rattle.mend.specs.declared.faults.Stop.{Stop}
use Rattle.mend.specs.declared.faults.Stop.TheVariants.{TooMany, Memory}

-- whether each role that begins the second term is in each group that ends the first, by recursion
-- over the second
abbrev pub attended : Term → Term → Bool
attended I Skip = true
attended I (Com i o a e b x) = attends_ends a I
attended I (Set i x r e) = attends_ends r I
attended I (Input i x r) = attends_ends r I
attended I (Seq J K) = if empty J then attended I K else attended I J
attended I (Par J K) = attended I J && attended I K
attended I (If i r g J K) = attends_ends r I
attended I (While i r g J) = attends_ends r I
attended I (Scope i r J extra props level) = attends_ends r I

-- the role that tells of a construct: its receiver or its leader
abbrev pub teller : Term → Option Role
teller (Com i o a e b x) = Some b
teller (Set i x r e) = Some r
teller (Input i x r) = Some r
teller (If i r g I J) = Some r
teller (While i r g I) = Some r
teller (Scope i r I extra props level) = Some r
teller _ = None

-- the role that begins a construct
abbrev pub beginner : Term → Option Role
beginner (Com i o a e b x) = Some a
beginner (Set i x r e) = Some r
beginner (Input i x r) = Some r
beginner (If i r g I J) = Some r
beginner (While i r g I) = Some r
beginner (Scope i r I extra props level) = Some r
beginner _ = None

-- a term of two parts, one after the other or side by side
abbrev pub is_pair : Term → Bool
is_pair (Seq I J) = true
is_pair (Par I J) = true
is_pair _ = false

-- one that is closed in its parts: a pair or a choice
abbrev pub is_joint : Term → Bool
is_joint (Seq I J) = true
is_joint (Par I J) = true
is_joint (If i r g I J) = true
is_joint _ = false

-- building stops exactly where more nodes are needed than are left; want of memory says nothing
abbrev pub IsStopOf : ℕ → ℕ → Stop → Type 0
IsStopOf left needed TooMany = left < needed
IsStopOf left needed Memory = Unit {0}
