-- What an entry shows of what a construct does.
use Rattle.std.specs.Prelude.{Option, Some, None, if◌then◌else◌}
use Rattle.dioc_terms.specs.declared.processes.Key.{Key}
use Rattle.dioc_terms.specs.declared.entries.Entry.{Entry}
use Rattle.dioc_terms.specs.Equality.{entry_eq}
use Rattle.global_follower.specs.declared.running.Message.{Message}
use Rattle.global_steps.specs.Follow.{operation}

abbrev pub key_of : Message → Key
key_of m = operation m.from.now m.to.now m.index m.op.now

-- what is done, where the entry is that one
abbrev pub where_shown : {A : Type 0} → Entry → Entry → A → Option A
where_shown e shown x = if entry_eq e shown then Some x else None
