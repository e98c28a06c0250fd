-- Driven histories of small bundles, computed; and a trace that is played, isn't settled and has none.
use Rattle.std.proofs.Common.{◌≡◌, ℕ, List, [], ◌∷◌, true, false, Some, None, refl}
use Rattle.std.specs.Prelude.{codes, is_some}
use Rattle.dioc_terms.specs.declared.processes.Tag.TheVariants.{Op, Choice}
use Rattle.dioc_terms.specs.declared.entries.Note.TheVariants as note
use Rattle.dioc_terms.specs.declared.entries.Chosen.TheVariants as chosen
use Rattle.dioc_terms.specs.declared.entries.Entry.{Entry}
use Rattle.dioc_terms.specs.declared.entries.Entry.TheVariants as entry
use Rattle.dioc_terms.specs.Expressions.{Const, Var}
use Rattle.dioc_terms.specs.Terms.{Term, Skip, Com, Set, Seq, If, Scope}
use Rattle.global_steps.specs.Follow.{play}
use Rattle.net_laws.proofs.Examples.{program, role, at, unmarked, put, take_op, take_aux, int, val, hello, hello_run}
use Rattle.net_drive.specs.Driven.{driven}

abbrev a : List ℕ
a = codes "a"

abbrev b : List ℕ
b = codes "b"

abbrev x : List ℕ
x = codes "x"

-- what needs no auxiliary message is driven as it is, whole or a front of it
hello-driven : driven (program hello) hello_run ≡ Some hello_run
hello-driven = refl

-- another value isn't driven
other_value : driven (program hello) (put a b (Op (codes "hi")) (at 0 0) (val 2) ∷ []) ≡ None
other_value = refl

-- a choice: `if false @a { o: a(1) -> b(x) } else { o: b(2) -> a(x) }`
abbrev choice : Term
choice = If unmarked (role a) (Var (codes "g")) (Com unmarked (codes "o") (role a) (Const (int 1)) (role b) x) (Com unmarked (codes "o") (role b) (Const (int 2)) (role a) x)

abbrev choice_trace : List Entry
choice_trace = entry.Pick (at 0 0) (role a) false ∷ put b a (Op (codes "o")) (at 0 2) (val 2) ∷ take_op b a (codes "o") (at 0 2) x ∷ []

-- the follower can't send before it has heard
choice-driven : driven (program choice) choice_trace ≡ Some (
    entry.Pick (at 0 0) (role a) false ∷ put a b Choice (at 0 0) (note.Flag false) ∷ take_aux a b Choice (at 0 0) ∷ put b a (Op (codes "o")) (at 0 2) (val 2) ∷
    take_op b a (codes "o") (at 0 2) x ∷ [])
choice-driven = refl

-- nobody leaves a scope before all have come to its end: `p: a(1) -> b(x); scope @a { if g @a { q: a(1) -> b(x) } }; y@a = 1`
abbrev scope_last : Term
scope_last = Seq (Com unmarked (codes "p") (role a) (Const (int 1)) (role b) x)
    (Seq (Scope unmarked (role a) (If unmarked (role a) (Var (codes "g")) (Com unmarked (codes "q") (role a) (Const (int 1)) (role b) x) Skip) [] [] 0)
    (Set unmarked (codes "y") (role a) (Const (int 1))))

abbrev early : List Entry
early = put a b (Op (codes "p")) (at 0 0) (val 1) ∷ entry.Scope (at 0 1) (role a) chosen.Keep ∷ entry.Pick (at 0 2) (role a) false ∷
    entry.Set (at 0 4) (role a) (codes "y") (int 1) ∷ []

abbrev late : List Entry
late = put a b (Op (codes "p")) (at 0 0) (val 1) ∷ entry.Scope (at 0 1) (role a) chosen.Keep ∷ entry.Pick (at 0 2) (role a) false ∷
    take_op a b (codes "p") (at 0 0) x ∷ entry.Set (at 0 4) (role a) (codes "y") (int 1) ∷ []

early-played : is_some (play (program scope_last) early) ≡ true
early-played = refl

early-lost : driven (program scope_last) early ≡ None
early-lost = refl

late-driven : is_some (driven (program scope_last) late) ≡ true
late-driven = refl
