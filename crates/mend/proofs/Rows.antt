-- Worked rows: closing, opening, joining and mending, each as a theorem by computation.
use Rattle.std.proofs.Common.{◌≡◌, ℕ, [], ◌∷◌, Some, false, pos, refl}
use Rattle.std.specs.Prelude.{codes}
use Rattle.dioc_terms.specs.declared.names.Role.{Role}
use Rattle.dioc_terms.specs.declared.values.Value.TheVariants.{Nil, Int}
use Rattle.dioc_terms.specs.Expressions.{Expression, Const, Var}
use Rattle.dioc_terms.specs.Terms.{Term, Skip, Com, Set, Input, Seq, Par, If, While, Scope, index_at, cast_of}
use Rattle.mend.specs.Names.{begins_sq, sq_name, taken_name}
use Rattle.mend.specs.Mended.{message, closed, opened, mended}
use Rattle.mend.specs.Dropped.{dropped}

abbrev pub a : Role
a = record { 0 = codes "a" }

abbrev pub b : Role
b = record { 0 = codes "b" }

abbrev pub c : Role
c = record { 0 = codes "c" }

abbrev pub number : ℕ → Expression
number n = Const (Int (pos n))

-- an assignment of a role, at a place
abbrev at : ℕ → Role → Term
at n r = Set (index_at n) (codes "x") r (number 1)

-- an added message of a number, at a place
abbrev tells : ℕ → ℕ → Role → Role → Term
tells n m r s = Com (index_at n) (sq_name m) r (Const Nil) s (codes "sq_v")

-- `p: a(1) -> c(x); q: b(2) -> c(y)`: c lets b know
abbrev pub sends : ℕ → ℕ → Term
sends n m = Com (index_at n) (codes "q") b (number 2) c (codes "y")

abbrev pub first_row : Term
first_row = Seq (Com (index_at 0) (codes "p") a (number 1) c (codes "x")) (sends 1 2)

first_row-mended : mended (cast_of first_row) first_row
    ≡ Seq (Seq (Com (index_at 0) (codes "p") a (number 1) c (codes "x")) (tells 1 0 c b)) (sends 2 2)
first_row-mended = refl

first_row-dropped : dropped (mended (cast_of first_row) first_row) ≡ Seq (Com (index_at 0) (codes "p") a (number 1) c (codes "x")) (sends 2 2)
first_row-dropped = refl

-- a scope, a message and a scope: the first scope's leader lets the sender know, and the rest is linked
abbrev second_row : Term
second_row = Seq (Scope (index_at 0) a (at 1 a) [] [] 0)
    (Seq (Com (index_at 2) (codes "o") c (number 1) a (codes "x")) (Scope (index_at 3) c (at 4 c) [] [] 0))

second_row-mended : mended (cast_of second_row) second_row
    ≡ Seq (Seq (Scope (index_at 0) a (at 1 a) [] [] 0) (tells 2 0 a c))
    (Seq (Com (index_at 3) (codes "o") c (number 1) a (codes "x")) (Scope (index_at 4) c (at 5 c) [] [] 0))
second_row-mended = refl

-- a choice with an empty branch before two parts side by side: the first role of the cast among those that begin them is told, and
-- asks the other
abbrev third_row : Term
third_row = Seq (If (index_at 0) a (Var (codes "x")) (at 1 a) Skip) (Par (at 2 c) (at 3 b))

third_row-mended : mended (a ∷ b ∷ c ∷ []) third_row
    ≡ Seq (If (index_at 0) a (Var (codes "x")) (Seq (at 1 a) (tells 2 0 a b)) Skip) (Par (Seq (tells 3 1 b c) (at 4 c)) (at 5 b))
third_row-mended = refl

-- a choice with two empty branches is closed as a whole
bare_choice-closed : closed b (If (index_at 0) a (number 1) Skip Skip) ≡ Seq (If (index_at 0) a (number 1) Skip Skip) (message a b)
bare_choice-closed = refl

-- the receiver tells, and the sender is asked
com-closed : closed c (Com (index_at 0) (codes "p") a (number 1) b (codes "x")) ≡ Seq (Com (index_at 0) (codes "p") a (number 1) b (codes "x")) (message b c)
com-closed = refl

com-opened : opened b (Com (index_at 0) (codes "p") a (number 1) b (codes "x")) ≡ Seq (message b a) (Com (index_at 0) (codes "p") a (number 1) b (codes "x"))
com-opened = refl

-- the last part that isn't empty is closed, the first one opened
sequence-closed : closed b (Seq (at 0 a) Skip) ≡ Seq (Seq (at 0 a) (message a b)) Skip
sequence-closed = refl

sequence-opened : opened b (Seq Skip (Input (index_at 0) (codes "x") a)) ≡ Seq Skip (Seq (message b a) (Input (index_at 0) (codes "x") a))
sequence-opened = refl

-- a loop whose leader begins it and in which the role takes part
loop-closed : closed b (While (index_at 0) a (number 1) (at 1 b)) ≡ While (index_at 0) a (number 1) (at 1 b)
loop-closed = refl

loop-opened : opened b (While (index_at 0) a (number 1) (at 1 b)) ≡ Seq (message b a) (While (index_at 0) a (number 1) (at 1 b))
loop-opened = refl

-- names that are taken: the first in the text, also in an expression
taken : taken_name (Seq (at 0 a) (Com (index_at 1) (codes "sq_1") a (Var (codes "sq_2")) b (codes "x"))) ≡ Some (codes "sq_1")
taken = refl

taken_in_guard : taken_name (If (index_at 0) a (Var (codes "sq_2")) (Input (index_at 1) (codes "sq_1") a) Skip) ≡ Some (codes "sq_2")
taken_in_guard = refl

free : begins_sq (codes "sq") ≡ false
free = refl
