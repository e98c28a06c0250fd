-- Why a commit is refused in the hold of a home.
use Rattle.std.specs.Prelude.{length, Bool, true, false, not, nat_le, nat_lt, Option, Some, None, is_none, if◌then◌else◌, slice_get}
use Rattle.std.specs.List.{list_all}
use Rattle.std.specs.Option.{option_or}
use Rattle.dioc_terms.specs.declared.bundles.Timed.{Timed}
use Rattle.dioc_terms.specs.declared.entries.Act.{Act}
use Rattle.dioc_terms.specs.declared.entries.Act.TheVariants as act
use Rattle.dioc_terms.specs.declared.processes.Key.{Key}
use Rattle.dioc_terms.specs.Messages.{visible}
use Rattle.dioc_terms.specs.Processes.{Load}
use Rattle.network_steps.specs.Network.{pending_at}
use Rattle.network_steps.specs.Schedule.{changes_in, change_is_due}
use Rattle.net_core.specs.Nets.{network_at}
use Rattle.stage.specs.declared.faults.CommitFault.{CommitFault}
use Rattle.stage.specs.declared.faults.CommitFault.TheVariants as fault
use Rattle.stage.specs.declared.faults.Why.{Why}
use Rattle.stage.specs.Homes.{HomeState}

-- the fault of a stop mark, where one is kept
abbrev pub stop_fault : Option Why → Option CommitFault
stop_fault None = None
stop_fault (Some why) = Some (fault.Stopped why)

abbrev pub fault_if : Bool → CommitFault → Option CommitFault
fault_if holds f = if holds then Some f else None

-- the history has as many entries as it may
abbrev pub full_fault : HomeState → Option CommitFault
full_fault home = fault_if (nat_le home.limit (length home.history)) fault.Full

-- of each commit of a role: the stage was stopped, the history is full, the script's next change
-- comes first
abbrev pub role_fault : HomeState → Option CommitFault
role_fault home =
    option_or (stop_fault home.stopped)
    (option_or (full_fault home)
    (fault_if (change_is_due home.bundle home.history) fault.NotYet))

-- of a take: those, and its message isn't pending
abbrev pub take_fault : Key → HomeState → Option CommitFault
take_fault k home =
    option_or (role_fault home)
    (fault_if (is_none (pending_at k (network_at home.bundle home.history).pending)) fault.NotYet)

-- a take that a home with no fault for roles refuses, by what is pending for its key
abbrev pub refusal_by : Option Load → CommitFault
refusal_by None = fault.NotYet
refusal_by (Some l) = fault.Memory

-- the fault for which a commit of the act is refused, by the home that is found
abbrev pub act_fault : Act → HomeState → Option CommitFault
act_fault (act.Take k) = take_fault k
act_fault _ = role_fault

abbrev pub says_not_yet : Option CommitFault → Bool
says_not_yet (Some fault.NotYet) = true
says_not_yet _ = false

-- a commit of the act isn't refused since it may not come yet
abbrev pub comes_now : HomeState → Act → Bool
comes_now home a = not (says_not_yet (act_fault a home))

-- of the script's next change, after so many visible entries
abbrev pub next_fault : HomeState → Option Timed → Option CommitFault
next_fault home None = Some fault.NoMore
next_fault home (Some timed) =
    option_or (full_fault home)
    (fault_if (nat_lt (length (visible home.history)) timed.after) fault.NotYet)

-- of a change: the stage was stopped, every role has finished, the script has no more, the history
-- is full, the change isn't due
abbrev pub feeder_fault : HomeState → Option CommitFault
feeder_fault home =
    option_or (stop_fault home.stopped)
    (option_or (fault_if (list_all (λ finished. finished) home.finished) fault.Ended)
    (next_fault home (slice_get home.bundle.script (changes_in home.history))))
