-- A mended choreography without what was added.
use Rattle.std.specs.Prelude.{if◌then◌else◌, Option, Some, None, unwrap_or}
use Rattle.dioc_terms.specs.Terms.{Term, Skip, Com, Set, Input, Seq, Par, If, While, Scope}
use Rattle.mend.specs.Names.{begins_sq}

-- a sequence of what is kept of its two parts; of a part that isn't kept, nothing stays
abbrev pub both_kept : Option Term → Option Term → Option Term
both_kept None J = J
both_kept (Some I) None = Some I
both_kept (Some I) (Some J) = Some (Seq I J)

-- what is kept of a part, where a lost one is nothing to do
abbrev pub or_skip : Option Term → Term
or_skip I = unwrap_or I Skip

-- the term without its added messages, each dropped with the sequence that joins it; None where it
-- is one
abbrev pub kept : Term → Option Term
kept Skip = Some Skip
kept (Com i o a e b x) = if begins_sq o then None else Some (Com i o a e b x)
kept (Set i x r e) = Some (Set i x r e)
kept (Input i x r) = Some (Input i x r)
kept (Seq I J) = both_kept (kept I) (kept J)
kept (Par I J) = Some (Par (or_skip (kept I)) (or_skip (kept J)))
kept (If i r g I J) = Some (If i r g (or_skip (kept I)) (or_skip (kept J)))
kept (While i r g I) = Some (While i r g (or_skip (kept I)))
kept (Scope i r I extra props level) = Some (Scope i r (or_skip (kept I)) extra props level)

abbrev pub dropped : Term → Term
dropped I = or_skip (kept I)
