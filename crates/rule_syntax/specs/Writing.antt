-- How rules are written.
use Rattle.std.specs.Prelude.{zero, List, ◌∷◌, codes, ℤ, pos}
use Rattle.dioc_terms.specs.Plain.{PlainRule}
use Rattle.aioc_tokens.specs.declared.words.Word.TheVariants as word
use Rattle.aioc_tokens.specs.Lexemes.{Lexeme, Name, Reserved}
use Rattle.expr_syntax.specs.Writing.{written_integer}
use Rattle.expr_syntax.specs.Writing.{written as written_expression}
use Rattle.dioc_syntax.specs.Writing.{written as written_choreography}
use Rattle.rule_syntax.specs.Grammar.{opening, doing, closing}

-- the lexemes of a priority, none of the priority 0, and those that follow
abbrev pub written_priority : ℤ → List Lexeme → List Lexeme
written_priority (pos zero) others = others
written_priority n others = Name (codes "priority") ∷ written_integer n others

-- the lexemes of a rule, and those that follow
abbrev pub written : PlainRule → List Lexeme → List Lexeme
written rule others =
    Reserved word.Rule ∷ Name rule.name ∷ written_priority rule.priority
    (opening (written_expression rule.cond (doing (written_choreography rule.body
    (closing others)))))
