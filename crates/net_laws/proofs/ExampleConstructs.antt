-- A run of each construct alone, computed by the schedule without a seed: nothing, two messages of one role, values, inputs, parts side by
-- side, a choice, a loop that makes no turn, a scope that keeps its body, scopes that are replaced one in the other, and a script.
use Rattle.std.proofs.Common.{◌≡◌, ℕ, zero, suc, List, [], ◌∷◌, true, false, Some, None, refl, length}
use Rattle.std.specs.Prelude.{codes}
use Rattle.dioc_terms.specs.declared.values.Value.TheVariants as value
use Rattle.dioc_terms.specs.declared.expressions.Oper.TheVariants as oper
use Rattle.dioc_terms.specs.declared.processes.Tag.TheVariants.{Op, Choice, Go, Begin, End, Out}
use Rattle.dioc_terms.specs.declared.entries.Note.TheVariants as note
use Rattle.dioc_terms.specs.declared.entries.Chosen.TheVariants as chosen
use Rattle.dioc_terms.specs.declared.entries.Entry.{Entry}
use Rattle.dioc_terms.specs.declared.entries.Entry.TheVariants as entry
use Rattle.dioc_terms.specs.declared.bundles.Change.TheVariants as change
use Rattle.dioc_terms.specs.declared.bundles.Timed.{Timed}
use Rattle.dioc_terms.specs.Expressions.{Const, Var, Prop, Bin}
use Rattle.dioc_terms.specs.Messages.{visible}
use Rattle.dioc_terms.specs.Plain.{PlainRule, PlainBundle}
use Rattle.dioc_terms.specs.Terms.{Term, Skip, Com, Set, Input, Seq, If, While, Scope}
use Rattle.network_steps.specs.Schedule.{sched}
use Rattle.net_laws.proofs.Examples.{program, role, at, unmarked, put, take_op, take_aux, int, val, played_to_end, run_to_end}
use Rattle.net_laws.proofs.ExampleRuns.{program_with, rule_of, side_by_side, trade_bundle}

abbrev a : List ℕ
a = codes "a"

abbrev b : List ℕ
b = codes "b"

abbrev c : List ℕ
c = codes "c"

abbrev x : List ℕ
x = codes "x"

abbrev y : List ℕ
y = codes "y"

abbrev o : List ℕ
o = codes "o"

-- nothing: `skip`, and `skip; skip`. The network has ended before its first step.
skip-sched : sched (program Skip) None 20000 ≡ []
skip-sched = refl

skip-ended : run_to_end (program Skip) [] ≡ Some true
skip-ended = refl

skip-played : played_to_end (program Skip) [] ≡ Some true
skip-played = refl

skips-ended : run_to_end (program (Seq Skip Skip)) (sched (program (Seq Skip Skip)) None 20000) ≡ Some true
skips-ended = refl

-- one role sends twice: `p: a(1) -> b(x); q: a(2) -> c(y)`
abbrev sends_twice : Term
sends_twice = Seq (Com unmarked (codes "p") (role a) (Const (int 1)) (role b) x) (Com unmarked (codes "q") (role a) (Const (int 2)) (role c) y)

sends_twice-sched : sched (program sends_twice) None 20000 ≡
    put a b (Op (codes "p")) (at 0 0) (val 1) ∷ put a c (Op (codes "q")) (at 0 1) (val 2) ∷
    take_op a b (codes "p") (at 0 0) x ∷ take_op a c (codes "q") (at 0 1) y ∷ []
sends_twice-sched = refl

-- side by side, without a seed
side_by_side-sched : sched (program side_by_side) None 20000 ≡
    put a c (Op (codes "p")) (at 0 0) (val 1) ∷ take_op a c (codes "p") (at 0 0) x ∷
    put b c (Op (codes "q")) (at 0 1) (val 2) ∷ take_op b c (codes "q") (at 0 1) y ∷ []
side_by_side-sched = refl

-- what doesn't fit is nil, and a guard that isn't true is false:
-- `a1@a = 9223372036854775807 + 1; a2@a = 1 / 0; a3@a = "a" < 1; if u@a { x@a = 1 } else { x@a = 2 }`
abbrev values : Term
values = Seq (Set unmarked (codes "a1") (role a) (Bin oper.Add (Const (int 9223372036854775807)) (Const (int 1))))
    (Seq (Set unmarked (codes "a2") (role a) (Bin oper.Div (Const (int 1)) (Const (int 0))))
    (Seq (Set unmarked (codes "a3") (role a) (Bin oper.Lt (Const (value.Text (codes "a"))) (Const (int 1))))
    (If unmarked (role a) (Var (codes "u")) (Set unmarked x (role a) (Const (int 1))) (Set unmarked x (role a) (Const (int 2))))))

values-sched : sched (program values) None 20000 ≡
    entry.Set (at 0 0) (role a) (codes "a1") value.Nil ∷ entry.Set (at 0 1) (role a) (codes "a2") value.Nil ∷
    entry.Set (at 0 2) (role a) (codes "a3") value.Nil ∷ entry.Pick (at 0 3) (role a) false ∷ entry.Set (at 0 5) (role a) x (int 2) ∷ []
values-sched = refl

-- inputs: `w@a = input(); x@a = input(); y@a = input(); z@a = input()` with `a: 7, "t", true`
abbrev reads : List ℕ → Term
reads name = Input unmarked name (role a)

abbrev inputs_of : PlainBundle
inputs_of = record (program (Seq (reads (codes "w")) (Seq (reads x) (Seq (reads y) (reads (codes "z")))))) {
  inputs = (role a, int 7 ∷ value.Text (codes "t") ∷ value.Bool true ∷ []) ∷ [];
}

inputs-sched : sched inputs_of None 20000 ≡
    entry.Input (at 0 0) (role a) (codes "w") (int 7) ∷ entry.Input (at 0 1) (role a) x (value.Text (codes "t")) ∷
    entry.Input (at 0 2) (role a) y (value.Bool true) ∷ entry.Input (at 0 3) (role a) (codes "z") value.Nil ∷ []
inputs-sched = refl

-- a choice whose guard is true: `if true @a { o: a(1) -> b(x) }`
abbrev picks : Term
picks = If unmarked (role a) (Const (value.Bool true)) (Com unmarked o (role a) (Const (int 1)) (role b) x) Skip

picks-sched : sched (program picks) None 20000 ≡
    entry.Pick (at 0 0) (role a) true ∷ put a b Choice (at 0 0) (note.Flag true) ∷ put a b (Op o) (at 0 1) (val 1) ∷
    take_aux a b Choice (at 0 0) ∷ take_op a b o (at 0 1) x ∷ []
picks-sched = refl

-- a loop that makes no turn: `while n @a { o: a(1) -> b(x) }`
abbrev no_turn : Term
no_turn = While unmarked (role a) (Var (codes "n")) (Com unmarked o (role a) (Const (int 1)) (role b) x)

no_turn-sched : sched (program no_turn) None 20000 ≡
    entry.Pick (at 0 0) (role a) false ∷ put a b Go (at 0 0) (note.Flag false) ∷ take_aux a b Go (at 0 0) ∷ []
no_turn-sched = refl

-- a scope that keeps its body: `scope @a { o: a(1) -> b(x) }`
abbrev keeps : Term
keeps = Scope unmarked (role a) (Com unmarked o (role a) (Const (int 1)) (role b) x) [] [] 0

abbrev keeps_run : List Entry
keeps_run =
    entry.Scope (at 0 0) (role a) chosen.Keep ∷ put a b Begin (at 0 0) note.Keep ∷ put a b (Op o) (at 0 1) (val 1) ∷ take_aux a b Begin (at 0 0) ∷
    take_op a b o (at 0 1) x ∷ put b a End (at 0 0) note.Done ∷ take_aux b a End (at 0 0) ∷ put a b Out (at 0 0) note.Done ∷ take_aux a b Out (at 0 0) ∷ []

keeps-sched : sched (program keeps) None 20000 ≡ keeps_run
keeps-sched = refl

keeps-played : played_to_end (program keeps) (visible keeps_run) ≡ Some true
keeps-played = refl

-- A rule whose body is a scope that the rule fits: the sixteenth update is the last.
abbrev nested : Term
nested = Scope unmarked (role a) Skip [] ((codes "k", int 1) ∷ []) 0

-- so many updates from this one on
abbrev updates_from : ℕ → ℕ → List Entry
updates_from n zero = entry.Scope (at n 0) (role a) chosen.Keep ∷ []
updates_from n (suc count) = entry.Scope (at n 0) (role a) (chosen.Rule (codes "r") (suc n)) ∷ updates_from (suc n) count

nested-sched : sched (program_with 1 nested (rule_of (codes "r") 0 (Bin oper.Eq (Prop (codes "k")) (Const (int 1))) nested ∷ []) 1 [] []) None 20000
    ≡ updates_from 0 16
nested-sched = refl

-- A script: a drop of a name that no rule has, and a rule that takes the place of one of its name; or that one is dropped before.
abbrev sets : ℕ → Term
sets v = Set unmarked x (role a) (Const (int v))

abbrev scope_of : Term
scope_of = Scope unmarked (role a) (sets 0) [] ((codes "k", int 1) ∷ []) 0

abbrev always : List ℕ → ℕ → PlainRule
always name v = rule_of name 0 (Const (value.Bool true)) (sets v)

abbrev scripted : List Timed → PlainBundle
scripted script = program_with 1 (Seq scope_of scope_of) (always (codes "p") 1 ∷ always (codes "q") 2 ∷ always (codes "p") 3 ∷ []) 2 [] script

abbrev begins_by : List ℕ → ℕ → ℕ → Entry
begins_by name i n = entry.Scope (at 0 i) (role a) (chosen.Rule name n)

abbrev sets_x : ℕ → ℕ → Entry
sets_x n v = entry.Set (at n 0) (role a) x (int v)

abbrev drops_and_adds : List Timed
drops_and_adds = record { after = 0; change = change.Drop (codes "zz") } ∷ record { after = 2; change = change.Add 2 } ∷ []

in_place-sched : sched (scripted drops_and_adds) None 20000 ≡
    entry.Drop (codes "zz") ∷ begins_by (codes "p") 0 1 ∷ entry.Add (codes "p") ∷ sets_x 1 1 ∷ begins_by (codes "p") 2 2 ∷ sets_x 2 3 ∷ []
in_place-sched = refl

abbrev drops_before : List Timed
drops_before = record { after = 0; change = change.Drop (codes "zz") } ∷ record { after = 2; change = change.Drop (codes "p") } ∷
    record { after = 2; change = change.Add 2 } ∷ []

last-sched : sched (scripted drops_before) None 20000 ≡
    entry.Drop (codes "zz") ∷ begins_by (codes "p") 0 1 ∷ entry.Drop (codes "p") ∷ entry.Add (codes "p") ∷ sets_x 1 1 ∷
    begins_by (codes "q") 2 2 ∷ sets_x 2 2 ∷ []
last-sched = refl

-- a run that stops at its limit
stopped-length : length (sched trade_bundle None 5) ≡ 5
stopped-length = refl

stopped-goes_on : run_to_end trade_bundle (sched trade_bundle None 5) ≡ Some false
stopped-goes_on = refl

stopped-whole : run_to_end trade_bundle (sched trade_bundle None 41) ≡ Some true
stopped-whole = refl
