-- A choreography with the messages that connect it. Where a sequence isn't linked, one role is let
-- know of each ending of the first part, and lets know whoever begins the second.
use Rattle.std.specs.Prelude.{ℕ, ◌+◌, List, Bool, ◌&&◌, if◌then◌else◌, Option, Some, None, codes, find}
use Rattle.dioc_terms.specs.declared.names.Role.{Role}
use Rattle.dioc_terms.specs.declared.values.Value.TheVariants.{Nil}
use Rattle.dioc_terms.specs.Equality.{role_eq, member}
use Rattle.dioc_terms.specs.Expressions.{Const}
use Rattle.dioc_terms.specs.Terms.{Term, Skip, Com, Set, Input, Seq, Par, If, While, Scope, empty, is_in, index_at, indexed}
use Rattle.connectedness.specs.Connected.{starters, linked}
use Rattle.mend.specs.Names.{begins_sq, sq_name}

-- an added message, before it gets its number and its index
abbrev pub message : Role → Role → Term
message a b = Com (index_at 0) (codes "sq_") a (Const Nil) b (codes "sq_v")

-- the term, and where the role doesn't know of it yet, a message to it from a role that does
abbrev pub told : Bool → Term → Role → Role → Term
told knows I r k = if knows then I else Seq I (message r k)

-- the term, and before it a message from the role to who begins it, where that is another
abbrev pub led_in : Bool → Term → Role → Role → Term
led_in begins I r k = if begins then I else Seq (message k r) I

-- the term, closed for a role: each of its endings has that role
abbrev pub closed : Role → Term → Term
closed k Skip = Skip
closed k (Com i o a e b x) = told (is_in k (Com i o a e b x)) (Com i o a e b x) b k
closed k (Set i x r e) = told (role_eq k r) (Set i x r e) r k
closed k (Input i x r) = told (role_eq k r) (Input i x r) r k
closed k (Seq I J) = if empty J then Seq (closed k I) J else Seq I (closed k J)
closed k (Par I J) = Par (closed k I) (closed k J)
closed k (If i r g I J) =
    if empty I && empty J then told (is_in k (If i r g I J)) (If i r g I J) r k
    else If i r g (closed k I) (closed k J)
closed k (While i r g I) = told (is_in k (While i r g I)) (While i r g I) r k
closed k (Scope i r I extra props level) =
    told (is_in k (Scope i r I extra props level)) (Scope i r I extra props level) r k

-- the term, opened for a role: nobody but that role begins it
abbrev pub opened : Role → Term → Term
opened k Skip = Skip
opened k (Com i o a e b x) = led_in (role_eq k a) (Com i o a e b x) a k
opened k (Set i x r e) = led_in (role_eq k r) (Set i x r e) r k
opened k (Input i x r) = led_in (role_eq k r) (Input i x r) r k
opened k (Seq I J) = if empty I then Seq I (opened k J) else Seq (opened k I) J
opened k (Par I J) = Par (opened k I) (opened k J)
opened k (If i r g I J) = led_in (role_eq k r) (If i r g I J) r k
opened k (While i r g I) = led_in (role_eq k r) (While i r g I) r k
opened k (Scope i r I extra props level) =
    led_in (role_eq k r) (Scope i r I extra props level) r k

-- the first role of the cast that begins the term
abbrev pub first_starter : List Role → Term → Option Role
first_starter cast J = find (λ q. member q (starters J)) cast

-- a sequence that goes through a role
abbrev pub through : Option Role → Term → Term → Term
through None I J = Seq I J
through (Some k) I J = Seq (closed k I) (opened k J)

-- a sequence of two terms, linked
abbrev pub join : List Role → Term → Term → Term
join cast I J = if linked I J then Seq I J else through (first_starter cast J) I J

-- each sequence inside joined, inner ones first; the indices stay
abbrev pub relinked : List Role → Term → Term
relinked cast (Seq I J) = join cast (relinked cast I) (relinked cast J)
relinked cast (Par I J) = Par (relinked cast I) (relinked cast J)
relinked cast (If i r g I J) = If i r g (relinked cast I) (relinked cast J)
relinked cast (While i r g I) = While i r g (relinked cast I)
relinked cast (Scope i r I extra props level) = Scope i r (relinked cast I) extra props level
relinked cast leaf = leaf

-- how many added messages
abbrev pub added_messages : Term → ℕ
added_messages (Com i o a e b x) = if begins_sq o then 1 else 0
added_messages (Seq I J) = added_messages I + added_messages J
added_messages (Par I J) = added_messages I + added_messages J
added_messages (If i r g I J) = added_messages I + added_messages J
added_messages (While i r g I) = added_messages I
added_messages (Scope i r I extra props level) = added_messages I
added_messages _ = 0

-- the added messages numbered in the order of the text, where so many stand before the term
abbrev pub with_numbers : ℕ → Term → Term
with_numbers n (Com i o a e b x) = Com i (if begins_sq o then sq_name n else o) a e b x
with_numbers n (Seq I J) = Seq (with_numbers n I) (with_numbers (n + added_messages I) J)
with_numbers n (Par I J) = Par (with_numbers n I) (with_numbers (n + added_messages I) J)
with_numbers n (If i r g I J) = If i r g (with_numbers n I) (with_numbers (n + added_messages I) J)
with_numbers n (While i r g I) = While i r g (with_numbers n I)
with_numbers n (Scope i r I extra props level) = Scope i r (with_numbers n I) extra props level
with_numbers n leaf = leaf

-- the mended term, with the indices of its own text
abbrev pub mended : List Role → Term → Term
mended cast I = indexed (with_numbers 0 (relinked cast I))
