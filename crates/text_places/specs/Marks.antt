-- The tokens at which something begins, and the number of each in the order of a text.
use Rattle.std.specs.Prelude.{◌≡◌, ℕ, zero, suc, ◌+◌, ◌-◌, ◌<◌, ◌≤◌, Bool, true, false, ◌&&◌, List, ◌∷◌, length, drop, codes, if◌then◌else◌}
use Rattle.std.specs.Str.{bytes_eq}
use Rattle.aioc_tokens.specs.declared.words.Sort.{Sort}
use Rattle.aioc_tokens.specs.declared.words.Sort.TheVariants as sorts
use Rattle.aioc_tokens.specs.declared.words.Word.TheVariants as word
use Rattle.aioc_tokens.specs.declared.words.Punctuator.TheVariants as punctuator
use Rattle.aioc_tokens.specs.Lexemes.{Lexeme, Name, sort_of}
use Rattle.text_places.specs.declared.marks.Mark.{Mark}
use Rattle.text_places.specs.declared.marks.Mark.TheVariants as mark

-- the list begins with this name
abbrev pub is_named : List ℕ → List Lexeme → Bool
is_named name (Name found ∷ others) = bytes_eq found name
is_named name _ = false

-- the sort of the lexeme at a place
abbrev pub sort_at : List Lexeme → ℕ → Sort
sort_at text at = sort_of (drop at text)

-- behind `name "@"`: an assignment or an input
abbrev pub is_assigned : Sort → Sort → Bool
is_assigned sorts.Name (sorts.Symbol punctuator.Equal) = true
is_assigned _ _ = false

-- behind the name at the front of a step
abbrev pub goes_on : Sort → Sort → Sort → Bool
goes_on (sorts.Symbol punctuator.Colon) _ _ = true
goes_on (sorts.Symbol punctuator.At) second third = is_assigned second third
goes_on _ _ _ = false

abbrev pub is_step : List Lexeme → ℕ → Bool
is_step text at = goes_on (sort_at text (at + 1)) (sort_at text (at + 2)) (sort_at text (at + 3))

-- a construct with an index begins there, by the first tokens of its production:
--   "if"   "while"   "scope"   name ":"   name "@" name "="
abbrev pub begins_construct : Sort → Bool → Bool
begins_construct (sorts.Reserved word.If) step = true
begins_construct (sorts.Reserved word.While) step = true
begins_construct (sorts.Reserved word.Scope) step = true
begins_construct sorts.Name step = step
begins_construct _ step = false

abbrev pub is_construct : List Lexeme → ℕ → Bool
is_construct text at = begins_construct (sort_at text at) (is_step text at)

-- a rule of a section of rules:
--   ( "{" | "}" ) "rule"
abbrev pub is_rule : Sort → Sort → Bool
is_rule (sorts.Symbol punctuator.LeftBrace) (sorts.Reserved word.Rule) = true
is_rule (sorts.Symbol punctuator.RightBrace) (sorts.Reserved word.Rule) = true
is_rule _ _ = false

-- a role that a choreography names:
--   ( "@" | ":" | "->" | "," ) role   "{" role ( "," | "}" )
abbrev pub is_list : Sort → Bool
is_list (sorts.Symbol punctuator.Comma) = true
is_list (sorts.Symbol punctuator.RightBrace) = true
is_list _ = false

abbrev pub is_before_role : Sort → Sort → Bool
is_before_role (sorts.Symbol punctuator.At) behind = true
is_before_role (sorts.Symbol punctuator.Colon) behind = true
is_before_role (sorts.Symbol punctuator.Arrow) behind = true
is_before_role (sorts.Symbol punctuator.Comma) behind = true
is_before_role (sorts.Symbol punctuator.LeftBrace) behind = is_list behind
is_before_role _ behind = false

abbrev pub is_role : List ℕ → List Lexeme → ℕ → Bool
is_role role text at =
    is_named role (drop (at + 1) text)
    && is_before_role (sort_at text at) (sort_at text (at + 2))

-- the inputs of a role, and not what it sends:
--   role ":" value
abbrev pub is_given : Sort → Sort → Bool
is_given (sorts.Symbol punctuator.Colon) sorts.Name = false
is_given (sorts.Symbol punctuator.Colon) _ = true
is_given _ _ = false

-- a mark, with the bytes of its role
pub data PlainMark : Type 0 where
  Choreography : PlainMark
  Rule : PlainMark
  Added : PlainMark
  Change : PlainMark
  Construct : PlainMark
  Role : List ℕ → PlainMark
  Input : List ℕ → PlainMark

abbrev pub mark_of : Mark → PlainMark
mark_of mark.Choreography = Choreography
mark_of mark.Rule = Rule
mark_of mark.Added = Added
mark_of mark.Change = Change
mark_of mark.Construct = Construct
mark_of (mark.Role role) = Role role.now
mark_of (mark.Input role) = Input role.now

abbrev pub is_aioc : Sort → Bool
is_aioc (sorts.Reserved word.Aioc) = true
is_aioc _ = false

abbrev pub is_rule_word : Sort → Bool
is_rule_word (sorts.Reserved word.Rule) = true
is_rule_word _ = false

abbrev pub is_number : Sort → Bool
is_number sorts.Number = true
is_number _ = false

-- the mark is at a place of a text
abbrev pub is_marked : PlainMark → List Lexeme → ℕ → Bool
is_marked Choreography text at = is_aioc (sort_at text at)
is_marked Rule text at = is_rule (sort_at text at) (sort_at text (at + 1))
is_marked Added text at =
    is_named (codes "add") (drop at text) && is_rule_word (sort_at text (at + 1))
is_marked Change text at =
    is_named (codes "after") (drop at text) && is_number (sort_at text (at + 1))
is_marked Construct text at = is_construct text at
is_marked (Role role) text at = is_role role text at
is_marked (Input role) text at =
    is_named role (drop at text) && is_given (sort_at text (at + 1)) (sort_at text (at + 2))

-- of so many places from a place on, how many pass a test
abbrev pub passing : (ℕ → Bool) → ℕ → ℕ → ℕ
passing test from zero = 0
passing test from (suc count) = passing test from count + (if test (from + count) then 1 else 0)

-- the mark is at the place, and so many places from the other one on have it before
pub record IsNth (sought : PlainMark) (text : List Lexeme) (from number place : ℕ) : Type 0 where
  pub after : from ≤ place
  pub within : place < length text
  pub marked : is_marked sought text place ≡ true
  pub earlier : passing (is_marked sought text) from (place - from) ≡ number
