-- The first unwanted token of a text is that of every text which begins with the same tokens.
use Rattle.std.proofs.Common.{◌≡◌, ℕ, zero, suc, ◌<◌, List, [], ◌∷◌, ◌++◌, Option, Some, None, option_map, length, take, refl, ap, ◌∙◌, arith}
use Rattle.aioc_tokens.specs.Lexemes.{Lexeme, Name, Long, Number, Text, Reserved, Symbol}
use Rattle.wanted_tokens.specs.Looks.{look}
use Rattle.wanted_tokens.specs.Wanted.{Reading, reading_behind, next_stop, stop}

-- what is seen of a list is its first lexeme alone
look_first : (first : Lexeme) (others more : List Lexeme) → look (first ∷ others) ≡ look (first ∷ more)
look_first (Name name) others more = refl
look_first Long others more = refl
look_first (Number digits) others more = refl
look_first (Text value) others more = refl
look_first (Reserved word) others more = refl
look_first (Symbol punctuator) others more = refl

behind_zero : (later : Option ℕ) → option_map suc later ≡ Some 0 → ⊥
behind_zero None is = cc
behind_zero (Some n) is = absurd cc

behind_suc : (later : Option ℕ) (place : ℕ) → option_map suc later ≡ Some (suc place) → later ≡ Some place
behind_suc None place is = absurd cc
behind_suc (Some n) place is = cc

stops_here : (b : Option Reading) (more others : List Lexeme) → next_stop b (stop more) ≡ Some 0 → next_stop b (stop others) ≡ Some 0
stops_here None more others is = refl
stops_here (Some reading) more others is = absurd (behind_zero (stop more reading) is)

stops_later : (b : Option Reading) (more others : List Lexeme) (place : ℕ) → ((r : Reading) → stop more r ≡ Some place → stop others r ≡ Some place) → next_stop b (stop more) ≡ Some (suc place) → next_stop b (stop others) ≡ Some (suc place)
stops_later None more others place later is = absurd cc
stops_later (Some reading) more others place later is = ap (option_map suc) (later reading (behind_suc (stop more reading) place is))

-- the place is the same, whatever follows the token
pub same_stop : (text others : List Lexeme) (place : ℕ) (r : Reading) → place < length text → stop text r ≡ Some place → stop (take (suc place) text ++ others) r ≡ Some place
same_stop [] others place r within is = absurd (omega arith)
same_stop (first ∷ more) others zero r within is =
    ap (λ seen. next_stop (reading_behind r.second r.wanted seen) (stop others)) (look_first first others more) ∙ stops_here (reading_behind r.second r.wanted (look (first ∷ more))) more others is
same_stop (first ∷ more) others (suc place) r within is =
    ap (λ seen. next_stop (reading_behind r.second r.wanted seen) (stop (take (suc place) more ++ others))) (look_first first (take (suc place) more ++ others) more)
    ∙ stops_later (reading_behind r.second r.wanted (look (first ∷ more))) more (take (suc place) more ++ others) place (λ r is. same_stop more others place r (omega arith) is) is
