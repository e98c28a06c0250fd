-- What does an act at a place that can act.
use Rattle.std.specs.Prelude.{◌≡◌, List, ◌∷◌, Bool, true, false, Option, Some, None}
use Rattle.dioc_terms.specs.declared.names.Role.{Role}
use Rattle.dioc_terms.specs.declared.processes.Key.{Key}
use Rattle.dioc_terms.specs.declared.processes.Tag.{Tag}
use Rattle.dioc_terms.specs.declared.processes.Tag.TheVariants as tag
use Rattle.dioc_terms.specs.Processes.{Process, Skip, IfLead, WhileLead, WhileFollow, ScopeLead, ScopeFollow, Tell, Gather, Letters, More, Load, Flag, Keep, Done, letters}
use Rattle.dpoc_process.specs.Acting.{is_single}
use Rattle.dpoc_process.specs.Shows.{process_in}
use Rattle.flat_code.specs.declared.ops.Op.{Op}
use Rattle.flat_code.specs.declared.ops.Op.TheVariants as op
use Rattle.flat_code.specs.Places.{op_process}
use Rattle.flat_role.specs.declared.leaves.Next.{Next}
use Rattle.flat_role.specs.declared.leaves.Next.TheVariants as next
use Rattle.flat_role.specs.declared.leaves.Sign.{Sign}
use Rattle.flat_role.specs.declared.leaves.Sign.TheVariants as sign
use Rattle.process_steps.specs.Steps.{key, send_one}
use Rattle.role_statuses.specs.Marks.{Mark}
use Rattle.role_statuses.specs.Marks as mark

-- with this mark the place itself acts, and none of its parts
abbrev pub is_leaf : Mark → Process → Bool
is_leaf mark.Untouched P = is_single P
is_leaf mark.First P = false
is_leaf mark.Second P = false
is_leaf (mark.Both l r) P = false
is_leaf (mark.Branch b) P = false
is_leaf mark.Body P = false
is_leaf m P = true

-- another process runs in the place of the scope there
abbrev pub is_became : Mark → Bool
is_became (mark.Became R) = true
is_became m = false

-- the process that acts there: the static one, or what is to be told or taken before it goes on
abbrev pub front : Role → Mark → Process → Process
front me mark.Untouched P = P
front me (mark.Became R) P = R
front me (mark.Telling b k l ms) (IfLead i g others P Q) = Tell (More k l ms)
front me (mark.Telling b k l ms) (WhileLead i g others P) = Tell (More k l ms)
front me (mark.Telling b k l ms) (ScopeLead head others P) = Tell (More k l ms)
front me (mark.Gathering k ks) (WhileLead i g others P) = Gather (k ∷ ks)
front me (mark.Gathering k ks) (ScopeLead head others P) = Gather (k ∷ ks)
front me mark.Ending (WhileFollow i leader P) = send_one (key me leader i tag.Turn) Done
front me mark.Ending (ScopeFollow i leader P) = send_one (key me leader i tag.End) Done
front me (mark.Left k l ms) (WhileLead i g others P) = Tell (More k l ms)
front me (mark.Left k l ms) (ScopeLead head others P) = Tell (More k l ms)
front me (mark.Waiting k ks) (ScopeFollow i leader P) = Gather (k ∷ ks)
front me (mark.Waiting k ks) (Gather ls) = Gather (k ∷ ks)
front me m P = Skip

-- what an auxiliary message is for
abbrev pub tag_of : Sign → Tag
tag_of (sign.Choice b) = tag.Choice
tag_of (sign.Go b) = tag.Go
tag_of sign.Turn = tag.Turn
tag_of sign.Begin = tag.Begin
tag_of sign.End = tag.End
tag_of sign.Out = tag.Out

-- what it carries
abbrev pub load_of : Sign → Load
load_of (sign.Choice b) = Flag b
load_of (sign.Go b) = Flag b
load_of sign.Begin = Keep
load_of s = Done

-- the process that the message of a part brings
abbrev pub process_brought : Process → Option Process
process_brought (Tell (More k l ms)) = process_in (Some l)
process_brought P = None

-- neither a sequence nor a parallel
abbrev pub is_single_op : Op → Bool
is_single_op (op.Seq p q) = false
is_single_op (op.Par p q) = false
is_single_op o = true

-- it is neither a sequence nor a parallel
abbrev pub is_single_next : Next → Bool
is_single_next (next.Op op) = is_single_op op.now
is_single_next n = true

-- nothing was done there yet
abbrev pub is_first : Next → Bool
is_first (next.Op op) = true
is_first n = false

-- what is next stands for this process
abbrev pub IsNext : Role → Next → Process → Type 0
IsNext me (next.Op op) R = (done : List Process) × (R ≡ op_process done op.now)
IsNext me (next.Put to i s) R =
    (ms : Letters) × (R ≡ Tell (More (key me to.now i (tag_of s)) (load_of s) ms))
IsNext me (next.Take from i s) R =
    (ks : List Key) × (R ≡ Gather (key from.now me i (tag_of s) ∷ ks))
IsNext me (next.Gather ks) R = R ≡ Gather ks.now
IsNext me (next.Tell ms) R = R ≡ Tell (letters ms.now)
IsNext me next.Nothing R = R ≡ Skip
