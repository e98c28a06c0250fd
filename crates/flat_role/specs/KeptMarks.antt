-- What a mark of the program stands for.
use Rattle.std.specs.Prelude.{ℕ, zero, suc, List, [], ◌∷◌, Bool, false, get_or, drop}
use Rattle.dioc_terms.specs.declared.names.Role.{Role}
use Rattle.dioc_terms.specs.declared.processes.Key.{Key}
use Rattle.dioc_terms.specs.declared.processes.Tag.TheVariants.{Choice, Go, Turn, Begin, End, Out}
use Rattle.dioc_terms.specs.Processes.{Process, IfLead, WhileLead, ScopeLead, ScopeFollow, Gather, Letters, Nothing, More, Flag, Keep, Done}
use Rattle.flat_code.specs.declared.ops.Op.{Op}
use Rattle.flat_code.specs.Places.{at, processes}
use Rattle.flat_role.specs.declared.marks.Mark.{Mark as KeptMark}
use Rattle.flat_role.specs.declared.marks.Mark.TheVariants as kept
use Rattle.process_steps.specs.Steps.{key, letters_to}
use Rattle.role_statuses.specs.Flat.{Marks}
use Rattle.role_statuses.specs.Marks.{Mark}
use Rattle.role_statuses.specs.Marks as mark
use Rattle.role_statuses.specs.Statuses.{keys_of}

-- without so many at the front
abbrev pub letters_from : ℕ → Letters → Letters
letters_from zero ms = ms
letters_from (suc n) Nothing = Nothing
letters_from (suc n) (More k l ms) = letters_from n ms

-- what a leader tells before it goes on
abbrev pub first_letters : Role → Process → Bool → Letters
first_letters me (IfLead i g others P Q) b = letters_to me others i Choice (λ q. Flag b)
first_letters me (WhileLead i g others P) b = letters_to me others i Go (λ q. Flag b)
first_letters me (ScopeLead head others P) b = letters_to me others head.index Begin (λ q. Keep)
first_letters me P b = Nothing

-- the ends that a leader gathers
abbrev pub end_keys : Role → Process → List Key
end_keys me (WhileLead i g others P) = keys_of me others i Turn
end_keys me (ScopeLead head others P) = keys_of me others head.index End
end_keys me P = []

-- the last that is told
abbrev pub last_letters : Role → Process → Letters
last_letters me (WhileLead i g others P) = letters_to me others i Go (λ q. Flag false)
last_letters me (ScopeLead head others P) = letters_to me others head.index Out (λ q. Done)
last_letters me P = Nothing

-- the last that is taken
abbrev pub last_keys : Role → Process → List Key
last_keys me (ScopeFollow i leader P) = key leader me i Out ∷ []
last_keys me (Gather ks) = ks
last_keys me P = []

abbrev pub told : Bool → Letters → Mark
told b Nothing = mark.Finished
told b (More k l ms) = mark.Telling b k l ms

abbrev pub gathered : List Key → Mark
gathered [] = mark.Finished
gathered (k ∷ ks) = mark.Gathering k ks

abbrev pub left : Letters → Mark
left Nothing = mark.Finished
left (More k l ms) = mark.Left k l ms

abbrev pub awaited : List Key → Mark
awaited [] = mark.Finished
awaited (k ∷ ks) = mark.Waiting k ks

-- the mark at the place of this process; a number says how many of what is told or taken are done
abbrev pub meant : Role → Process → KeptMark → Mark
meant me P kept.Untouched = mark.Untouched
meant me P kept.Finished = mark.Finished
meant me P kept.First = mark.First
meant me P kept.Second = mark.Second
meant me P (kept.Both l r) = mark.Both l r
meant me P (kept.Telling b n) = told b (letters_from n (first_letters me P b))
meant me P (kept.Branch b) = mark.Branch b
meant me P kept.Body = mark.Body
meant me P (kept.Gathering n) = gathered (drop n (end_keys me P))
meant me P kept.Ending = mark.Ending
meant me P (kept.Left n) = left (letters_from n (last_letters me P))
meant me P (kept.Waiting n) = awaited (drop n (last_keys me P))
meant me P (kept.Became update) = mark.Became update.value.process

-- the marks at the places of this code
abbrev pub marks_of : Role → List Op → List KeptMark → Marks
marks_of me ops marks place =
    meant me (at (processes ops) place) (get_or marks place kept.Untouched)
