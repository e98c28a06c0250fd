-- The monitor of one role. It reads a full trace: it takes the role's own entries as the network
-- does, and believes the entries of the others.
use Rattle.std.specs.Prelude.{ℕ, zero, suc, List, [], ◌∷◌, ◌++◌, length, filter, find, Bool, false, ◌==◌, Option, Some, None, if◌then◌else◌, is_some, slice_get, option_map, option_and_then}
use Rattle.std.specs.Option.{option_map_or}
use Rattle.dioc_terms.specs.declared.names.Role.{Role}
use Rattle.dioc_terms.specs.declared.names.Index.{Index}
use Rattle.dioc_terms.specs.declared.processes.Key.{Key}
use Rattle.dioc_terms.specs.declared.entries.Act.{Act}
use Rattle.dioc_terms.specs.declared.entries.Act.TheVariants as act
use Rattle.dioc_terms.specs.declared.entries.Chosen.TheVariants as chosen
use Rattle.dioc_terms.specs.declared.entries.Entry.{Entry}
use Rattle.dioc_terms.specs.declared.entries.Entry.TheVariants as entry
use Rattle.dioc_terms.specs.declared.entries.Note.{Note}
use Rattle.dioc_terms.specs.declared.entries.Note.TheVariants as note
use Rattle.dioc_terms.specs.declared.bundles.Timed.{Timed}
use Rattle.dioc_terms.specs.Attempts.{Attempt, Stuck, Does}
use Rattle.dioc_terms.specs.Equality.{role_eq, entry_eq}
use Rattle.dioc_terms.specs.Messages.{doer, act_of}
use Rattle.dioc_terms.specs.Plain.{PlainRule, PlainBundle, Setting, setting}
use Rattle.dioc_terms.specs.Processes.{Process, Load, Val, Flag, Keep, Part, Done}
use Rattle.dioc_terms.specs.Rules.{Book, apply, choose, is_named, opening_book}
use Rattle.dioc_terms.specs.Terms.{stamped}
use Rattle.dpoc_process.specs.Acting.{Lead, acting_lead}
use Rattle.dpoc_process.specs.LocalStates.{LocalState, local_done, step_at}
use Rattle.global_steps.specs.Follow.{book_choice, opening_store, shows}
use Rattle.network_steps.specs.Network.{decision, pending_at, without}
use Rattle.process_steps.specs.Steps.{Deed, Puts, Takes, Chooses, Given, Alone, Got, FromBook, entry_of}
use Rattle.projection.specs.Projection.{projected}
use Rattle.role_monitor.specs.declared.updates.Update.{Update}

pub record MonitorState : Type 0 where
  -- the role with its process and its store
  pub local : LocalState
  -- the messages to the role, in the order of their puts
  pub mail : List (Key × Load)
  pub book : Book
  -- how many changes of the script were seen
  pub changes : ℕ
  -- each update that was seen, the role's own among them
  pub updates : List Update

-- the first update of this number
abbrev pub update_numbered : ℕ → List Update → Option Update
update_numbered n us = find (λ (u : Update). u.epoch == n) us

-- how many updates the texts of an epoch stand inside: none for the program's own text
abbrev pub epoch_level : List Update → ℕ → Option ℕ
epoch_level us zero = Some 0
epoch_level us (suc n) = option_map (λ (u : Update). u.level) (update_numbered (suc n) us)

-- a role's part of the update of this number, of its rule's body
abbrev pub rule_part : Setting → Role → Update → ℕ → Option Process
rule_part b q u n =
    option_map (λ (rule : PlainRule). projected b.cast (stamped rule.body n u.level) q)
    (slice_get b.rules u.rule)

-- a role's part of an update that was seen; the program's own text is no update
abbrev pub update_part : Setting → Role → List Update → ℕ → Option Process
update_part b q us zero = None
update_part b q us (suc n) =
    option_and_then (λ u. rule_part b q u (suc n)) (update_numbered (suc n) us)

-- what a message to a role carries whose entry has this note
abbrev pub noted_load : Setting → Role → List Update → Note → Option Load
noted_load b q us (note.Val v) = Some (Val v)
noted_load b q us (note.Flag t) = Some (Flag t)
noted_load b q us note.Keep = Some Keep
noted_load b q us (note.Part n) = option_map (Part n) (update_part b q us n)
noted_load b q us note.Done = Some Done

abbrev pub arrived : Option Load → Given
arrived None = Alone
arrived (Some l) = Got l

-- what comes to an act of the role: the message of a take's key, the book for a scope
abbrev pub comes_to : Setting → MonitorState → Act → Given
comes_to b M (act.Take k) = arrived (pending_at k M.mail)
comes_to b M (act.Scope i) =
    FromBook (λ head. decision b.cast (length M.updates) head
    (book_choice b.rules M.book head M.local.store))
comes_to b M _ = Alone

-- a message goes last, and nowhere where its key is there
abbrev pub mail_with : Key → Load → List (Key × Load) → List (Key × Load)
mail_with k l mail = if is_some (pending_at k mail) then mail else mail ++ (k, l) ∷ []

-- the role's messages after its own deed: it takes one, or it puts one to itself
abbrev pub own_mail : Role → Deed → List (Key × Load) → List (Key × Load)
own_mail me (Puts k l) mail = if role_eq k.to me then mail_with k l mail else mail
own_mail me (Takes k x l) mail = without k mail
own_mail me _ mail = mail

-- the update of a scope that the role begins with this number: the rule that the book chooses, one
-- level above the scope's
abbrev pub begun_update : Setting → MonitorState → ℕ → Lead → Option Update
begun_update b M n lead =
    option_map (λ m. record { epoch = n; rule = m; level = suc lead.head.level })
    (choose b.rules M.book lead.head M.local.store)

abbrev pub with_update : List Update → Option Update → List Update
with_update us None = us
with_update us (Some u) = us ++ u ∷ []

-- the updates after the role's own deed
abbrev pub own_updates : Setting → MonitorState → Deed → List Update
own_updates b M (Chooses i r (chosen.Rule name n)) =
    with_update M.updates
    (option_and_then (begun_update b M n) (acting_lead M.local (act.Scope i)))
own_updates b M _ = M.updates

-- the monitor after the role's own deed
abbrev pub after_own : Setting → MonitorState → Deed → Process → MonitorState
after_own b M d P = record {
  local = local_done M.local d P;
  mail = own_mail M.local.role d M.mail;
  book = M.book;
  changes = M.changes;
  updates = own_updates b M d;
}

-- the monitor after the role's step, where the entry is exactly that of the step
abbrev pub own_outcome : Setting → MonitorState → Entry → Attempt Deed Process
    → Option MonitorState
own_outcome b M e Stuck = None
own_outcome b M e (Does d P) = if entry_eq e (entry_of d) then Some (after_own b M d P) else None

-- an entry of the role by this act: its step, with the monitor's messages and book
abbrev pub own_entry : Setting → MonitorState → Entry → Act → Option MonitorState
own_entry b M e a = own_outcome b M e (step_at M.local a (comes_to b M a))

abbrev pub mail_with_some : Key → Option Load → List (Key × Load) → List (Key × Load)
mail_with_some k None mail = mail
mail_with_some k (Some l) mail = mail_with k l mail

-- another's put to the role: the message, where the entry tells what it carries
abbrev pub received : Setting → MonitorState → Key → Note → MonitorState
received b M k sent =
    record M { mail = mail_with_some k (noted_load b k.to M.updates sent) M.mail }

-- the update that another's scope begins: the rule of that name in the book, one level above the
-- texts that the scope stands in. It is none for number 0 or a number that was seen, or where the
-- rule or the scope's epoch isn't known
abbrev pub heard_update : List PlainRule → Book → List Update → Index → List ℕ → ℕ → Option Update
heard_update rules book us i name zero = None
heard_update rules book us i name (suc n) =
    if is_some (update_numbered (suc n) us) then None else
    option_and_then (λ m.
    option_map (λ level. record { epoch = suc n; rule = m; level = suc level })
    (epoch_level us i.epoch))
    (find (is_named rules name) book.order)

abbrev pub heard : Setting → MonitorState → Index → List ℕ → ℕ → MonitorState
heard b M i name n =
    record M { updates = with_update M.updates (heard_update b.rules M.book M.updates i name n) }

-- an entry of another role
abbrev pub others_entry : Setting → MonitorState → Entry → MonitorState
others_entry b M (entry.Put k sent) = if role_eq k.to M.local.role then received b M k sent else M
others_entry b M (entry.Scope i r (chosen.Rule name n)) = heard b M i name n
others_entry b M _ = M

-- the monitor after this change of the script
abbrev pub with_change : Setting → MonitorState → Timed → MonitorState
with_change b M timed = record M {
  book = apply b.rules M.book timed.change;
  changes = suc M.changes;
}

abbrev pub change_outcome : Setting → MonitorState → Entry → Option Timed → MonitorState
change_outcome b M e None = M
change_outcome b M e (Some timed) =
    if shows b.rules e timed.change then with_change b M timed else M

-- a change that is the script's next; every other one changes nothing
abbrev pub change_noted : Setting → MonitorState → Entry → MonitorState
change_noted b M e = change_outcome b M e (slice_get b.script M.changes)

abbrev pub judged_by : Setting → MonitorState → Entry → Option Role → Option Act
    → Option MonitorState
judged_by b M e (Some q) (Some a) =
    if role_eq q M.local.role then own_entry b M e a else Some (others_entry b M e)
judged_by b M e _ _ = Some (change_noted b M e)

-- The monitor after an entry. It is undefined where the entry is the role's own and isn't a step
-- of it: there the role deviates.
abbrev pub mon : Setting → MonitorState → Entry → Option MonitorState
mon b M e = judged_by b M e (doer e) (act_of e)

-- the monitor of a role before the first entry
abbrev pub mon_start : PlainBundle → Role → MonitorState
mon_start b r = record {
  local = record { role = r; process = projected b.cast b.choreo r; store = opening_store b r };
  mail = [];
  book = opening_book b.rules b.opening b.env;
  changes = 0;
  updates = [];
}

-- the monitor after entries, where the role deviates in none
abbrev pub mon_from : Setting → MonitorState → List Entry → Option MonitorState
mon_from b M [] = Some M
mon_from b M (e ∷ es) = option_and_then (λ next. mon_from b next es) (mon b M e)

abbrev pub mon_run : PlainBundle → Role → List Entry → Option MonitorState
mon_run b r es = mon_from (setting b) (mon_start b r) es

-- the number of the first entry that deviates, where the first of these has number n
abbrev pub deviates_from : Setting → MonitorState → ℕ → List Entry → Option ℕ
deviates_from b M n [] = None
deviates_from b M n (e ∷ es) =
    option_map_or (λ next. deviates_from b next (suc n) es) (mon b M e) (Some n)

-- the number, from 1, of the first entry in which the role deviates
abbrev pub deviates : PlainBundle → Role → List Entry → Option ℕ
deviates b r es = deviates_from (setting b) (mon_start b r) 1 es

-- whether the entry is the role's own
abbrev pub is_own : Role → Entry → Bool
is_own r e = option_map_or (λ q. role_eq q r) (doer e) false

abbrev pub own_entries : Role → List Entry → List Entry
own_entries r es = filter (is_own r) es
