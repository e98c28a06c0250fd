-- What is shown of an act without the act: what is rare of it is in boxes, and of a message its
-- entry shows all but a process.
use Rattle.std.specs.Prelude.{Option, Some, None, Box, option_map}
use Rattle.std.specs.Global.{Global}
use Rattle.dioc_terms.specs.declared.entries.Entry.{Entry}
use Rattle.dioc_terms.specs.declared.entries.Entry.TheVariants as entry
use Rattle.dioc_terms.specs.declared.entries.Note.{Note}
use Rattle.dioc_terms.specs.declared.processes.Proc.{Proc}
use Rattle.dioc_terms.specs.declared.processes.ScopeHead.{ScopeHead}
use Rattle.dioc_terms.specs.Processes.{Process, Skip, Load, Part, noted_load, process}
use Rattle.dpoc_process.specs.declared.runs.Shown.{Shown}

-- the process in a box, where there is one
abbrev pub boxed_process : Option (Box Proc Global) → Option Process
boxed_process = option_map (λ proc. process proc.value)

-- the head in a box, where there is one
abbrev pub boxed_head : Option (Box ScopeHead Global) → Option ScopeHead
boxed_head = option_map (λ head. head.value)

-- the process that a message brings
abbrev pub process_in : Option Load → Option Process
process_in (Some (Part n P)) = Some P
process_in _ = None

-- it, or nothing to do where there is none
abbrev pub process_or_skip : Option Process → Process
process_or_skip (Some P) = P
process_or_skip None = Skip

-- the message that an entry notes so, with the process that it brings
abbrev pub noted_message : Note → Option Process → Load
noted_message n part = noted_load n (process_or_skip part)

-- the message that an entry puts
abbrev pub put_message : Option Entry → Option Process → Option Load
put_message (Some (entry.Put k n)) part = Some (noted_message n part)
put_message _ part = None

-- what the book sees of the scope, and the message
abbrev pub head_shown : Shown → Option ScopeHead
head_shown p = boxed_head p.head

abbrev pub message_shown : Shown → Option Load
message_shown p = put_message p.entry (boxed_process p.part)
