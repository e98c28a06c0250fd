-- The lexemes of a line that is written, and those that follow.
use Rattle.std.specs.Prelude.{ℕ, List, [], ◌∷◌, Option, Some, None, codes, decimal}
use Rattle.dioc_terms.specs.declared.names.Index.{Index}
use Rattle.dioc_terms.specs.declared.names.Role.{Role}
use Rattle.dioc_terms.specs.declared.values.Value.{Value}
use Rattle.dioc_terms.specs.declared.processes.Tag.{Tag}
use Rattle.dioc_terms.specs.declared.processes.Tag.TheVariants as tag
use Rattle.dioc_terms.specs.declared.processes.Key.{Key}
use Rattle.dioc_terms.specs.declared.entries.Note.{Note}
use Rattle.dioc_terms.specs.declared.entries.Note.TheVariants as note
use Rattle.dioc_terms.specs.declared.entries.Chosen.{Chosen}
use Rattle.dioc_terms.specs.declared.entries.Chosen.TheVariants as chosen
use Rattle.dioc_terms.specs.declared.entries.Entry.{Entry}
use Rattle.dioc_terms.specs.declared.entries.Entry.TheVariants as entry
use Rattle.dioc_terms.specs.declared.bundles.Last.{Last}
use Rattle.dioc_terms.specs.declared.bundles.Last.TheVariants as last
use Rattle.aioc_tokens.specs.declared.words.Word.TheVariants as word
use Rattle.aioc_tokens.specs.declared.words.Punctuator.TheVariants as punctuator
use Rattle.aioc_tokens.specs.Lexemes.{Lexeme, Name, Number, Reserved, Symbol}
use Rattle.expr_syntax.specs.Writing.{written_truth, written_value}
use Rattle.trace_syntax.specs.Words.{tag_word}

abbrev pub written_index : Index → List Lexeme → List Lexeme
written_index i others = Symbol punctuator.Hash ∷ Number (decimal i.epoch) ∷ Symbol punctuator.Dot ∷
    Number (decimal i.place) ∷ others

abbrev pub written_tag : Tag → List Lexeme → List Lexeme
written_tag (tag.Op name) others = Name name ∷ others
written_tag aux others = Symbol punctuator.Bang ∷ Name (tag_word aux) ∷ others

abbrev pub written_key : Key → List Lexeme → List Lexeme
written_key k others = Name k.from.0 ∷ Symbol punctuator.Arrow ∷ Name k.to.0 ∷
    written_tag k.tag (written_index k.index others)

abbrev pub written_note : Note → List Lexeme → List Lexeme
written_note (note.Val v) others = written_value v others
written_note (note.Flag b) others = written_truth b ∷ others
written_note note.Keep others = Name (codes "keep") ∷ others
written_note (note.Part n) others = Name (codes "part") ∷ Number (decimal n) ∷ others
written_note note.Done others = Name (codes "done") ∷ others

abbrev pub written_variable : Option (List ℕ) → List Lexeme → List Lexeme
written_variable None others = others
written_variable (Some name) others = Name name ∷ others

abbrev pub written_choice : Chosen → List Lexeme → List Lexeme
written_choice chosen.Keep others = Name (codes "keep") ∷ others
written_choice (chosen.Rule name n) others = Reserved word.Rule ∷ Name name ∷ Name (codes "as") ∷
    Number (decimal n) ∷ others

-- `x@a #0.3 = 5`
abbrev pub written_setting : Index → Role → List ℕ → Value → List Lexeme → List Lexeme
written_setting i r x v others = Name x ∷ Symbol punctuator.At ∷ Name r.0 ∷
    written_index i (Symbol punctuator.Equal ∷ written_value v others)

abbrev pub written_line : Entry → List Lexeme → List Lexeme
written_line (entry.Put k n) others = Name (codes "put") ∷ written_key k (Symbol punctuator.Equal ∷
    written_note n others)
written_line (entry.Take k x) others = Name (codes "take") ∷
    written_key k (written_variable x others)
written_line (entry.Set i r x v) others = Name (codes "set") ∷ written_setting i r x v others
written_line (entry.Input i r x v) others = Reserved word.Input ∷ written_setting i r x v others
written_line (entry.Pick i r b) others = Name (codes "pick") ∷ Name r.0 ∷
    written_index i (written_truth b ∷ others)
written_line (entry.Scope i r c) others = Reserved word.Scope ∷ Name r.0 ∷
    written_index i (written_choice c others)
written_line (entry.Add name) others = Name (codes "add") ∷ Name name ∷ others
written_line (entry.Drop name) others = Name (codes "drop") ∷ Name name ∷ others
written_line (entry.Env key v) others = Name (codes "env") ∷ Name key ∷ Symbol punctuator.Equal ∷
    written_value v others

abbrev pub written_last : Last → List Lexeme → List Lexeme
written_last (last.Ended n) others = Name (codes "ended") ∷ Number (decimal n) ∷ others
written_last (last.Stopped n) others = Name (codes "stopped") ∷ Number (decimal n) ∷ others

abbrev pub written_lines : List Entry → List Lexeme → List Lexeme
written_lines [] others = others
written_lines (first ∷ rest) others = written_line first (written_lines rest others)
