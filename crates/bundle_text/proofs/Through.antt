-- Texts in which each token is wanted, and at whose end none is.
use Rattle.std.proofs.Common.{◌≡◌, Bool, ◌&&◌, List, [], ◌∷◌, ◌++◌, Some, None, option_map, if◌then◌else◌, suc, ap, ◌∙◌}
use Rattle.aioc_tokens.specs.Lexemes.{Lexeme}
use Rattle.wanted_tokens.specs.declared.goals.Goal.{Goal}
use Rattle.wanted_tokens.specs.Looks.{look}
use Rattle.wanted_tokens.specs.Takings.{Takes, Passes}
use Rattle.wanted_tokens.specs.Wanted.{taking, version_behind, reading_behind, answer, next_stop, is_passed, may_end, stop}

-- the text from here on goes through, where these goals are wanted
abbrev pub Through : Bool → List Goal → List Lexeme → Type 0
Through second wanted from = stop from (record { second = second; wanted = wanted }) ≡ None

-- the first goal takes the first token
pub takes : (second : Bool) (goal : Goal) (rest goals : List Goal) (first : Lexeme) (others : List Lexeme) → taking second goal (look (first ∷ others)) ≡ Takes goals
    → Through (version_behind second goal) (goals ++ rest) others → Through second (goal ∷ rest) (first ∷ others)
takes second goal rest goals first others is through =
    ap (λ effect. next_stop (answer effect (version_behind second goal) rest (reading_behind second rest (look (first ∷ others)))) (stop others)) is
    ∙ ap (option_map suc) through

-- it passes the first token on, or the end
pub passes : (second : Bool) (goal : Goal) (rest : List Goal) (from : List Lexeme) → taking second goal (look from) ≡ Passes → Through second rest from → Through second (goal ∷ rest) from
passes second goal rest [] is through =
    ap (λ effect. if is_passed effect && may_end second rest then None else Some 0) is ∙ through
passes second goal rest (first ∷ others) is through =
    ap (λ effect. next_stop (answer effect (version_behind second goal) rest (reading_behind second rest (look (first ∷ others)))) (stop others)) is ∙ through

-- a goal that makes of a token what another one makes of it
pub same_effect : (second : Bool) (goal other : Goal) (rest : List Goal) (from : List Lexeme) → taking second goal (look from) ≡ taking second other (look from)
    → version_behind second goal ≡ version_behind second other → Through second (other ∷ rest) from → Through second (goal ∷ rest) from
same_effect second goal other rest [] is same through =
    ap (λ effect. if is_passed effect && may_end second rest then None else Some 0) is ∙ through
same_effect second goal other rest (first ∷ others) is same through =
    ap (λ effect. next_stop (answer effect (version_behind second goal) rest (reading_behind second rest (look (first ∷ others)))) (stop others)) is
    ∙ ap (λ version. next_stop (answer (taking second other (look (first ∷ others))) version rest (reading_behind second rest (look (first ∷ others)))) (stop others)) same ∙ through
