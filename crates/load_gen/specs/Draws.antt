-- The numbers that are drawn, and which kind of block each gives.
use Rattle.std.specs.Prelude.{ℕ, zero, suc, ◌+◌, ◌*◌, ◌/◌, ◌%◌, ◌^◌, ◌==◌, List, [], ◌∷◌, if◌then◌else◌}
use Rattle.load_gen.specs.declared.draws.Kind.{Kind}
use Rattle.load_gen.specs.declared.draws.Kind.TheVariants.{Message, Choice, Loop, Scope}

-- the number that is drawn after x, of 64 bits
abbrev pub drawn : ℕ → ℕ
drawn x = (x * 6364136223846793005 + 1442695040888963407) % 2 ^ 64

-- the kind that a drawn number gives, by its upper 31 bits
abbrev pub kind_of : ℕ → Kind
kind_of x = by_rest ((x / 2 ^ 33) % 4)
  where
    by_rest : ℕ → Kind
    by_rest rest =
        if rest == 0 then Message else if rest == 1 then Choice else if rest == 2 then Loop else
        Scope

-- the kinds of so many blocks, where x was drawn last
abbrev pub kinds : ℕ → ℕ → List Kind
kinds zero x = []
kinds (suc count) x = kind_of (drawn x) ∷ kinds count (drawn x)
