-- Any number of items, one after another.
use Rattle.std.specs.Prelude.{List, [], ◌∷◌}
use Rattle.aioc_tokens.specs.Lexemes.{Lexeme}

-- From one list up to a rest of it stand these items, each of which a relation reads:
--   { item }
pub data Many {A : Type 0} (Reads : List Lexeme → A → List Lexeme → Type 0) :
    List Lexeme → List A → List Lexeme → Type 0 where
  no_more : {to : List Lexeme} → Many Reads to [] to
  one_more : {from middle to : List Lexeme} {first : A} {rest : List A}
      → Reads from first middle
      → Many Reads middle rest to
      → Many Reads from (first ∷ rest) to
