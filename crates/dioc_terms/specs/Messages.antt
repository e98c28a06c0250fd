-- Which entries are visible, who an entry belongs to, and which act it is.
use Rattle.std.specs.Prelude.{List, Bool, true, false, not, filter, Option, Some, None}
use Rattle.dioc_terms.specs.declared.names.Role.{Role}
use Rattle.dioc_terms.specs.declared.processes.Tag.{Tag}
use Rattle.dioc_terms.specs.declared.processes.Tag.TheVariants.{Op}
use Rattle.dioc_terms.specs.declared.entries.Entry.{Entry}
use Rattle.dioc_terms.specs.declared.entries.Entry.TheVariants as entry
use Rattle.dioc_terms.specs.declared.entries.Act.{Act}
use Rattle.dioc_terms.specs.declared.entries.Act.TheVariants as act

-- every tag but an operation
abbrev pub is_aux_tag : Tag → Bool
is_aux_tag (Op o) = false
is_aux_tag _ = true

-- an entry that puts or takes an auxiliary tag
abbrev pub is_aux : Entry → Bool
is_aux (entry.Put k n) = is_aux_tag k.tag
is_aux (entry.Take k x) = is_aux_tag k.tag
is_aux _ = false

abbrev pub visible : List Entry → List Entry
visible entries = filter (λ e. not (is_aux e)) entries

-- the role of an entry: the sender of a put, the receiver of a take, else the acting role; a change
-- has none
abbrev pub doer : Entry → Option Role
doer (entry.Put k n) = Some k.from
doer (entry.Take k x) = Some k.to
doer (entry.Set i r x v) = Some r
doer (entry.Input i r x v) = Some r
doer (entry.Pick i r b) = Some r
doer (entry.Scope i r c) = Some r
doer _ = None

-- the act of a role that an entry shows; a change shows none
abbrev pub act_of : Entry → Option Act
act_of (entry.Put k n) = Some (act.Put k)
act_of (entry.Take k x) = Some (act.Take k)
act_of (entry.Set i r x v) = Some (act.Set i)
act_of (entry.Input i r x v) = Some (act.Input i)
act_of (entry.Pick i r b) = Some (act.Pick i)
act_of (entry.Scope i r c) = Some (act.Scope i)
act_of _ = None
