-- The text of a run: a line for each entry that is shown, and a last line, as they are or as JSON.
use Rattle.std.specs.Prelude.{ℕ, List, [], ◌∷◌, ◌++◌, Bool, flat_map, if◌then◌else◌}
use Rattle.dioc_terms.specs.declared.entries.Entry.{Entry}
use Rattle.dioc_terms.specs.declared.bundles.Last.{Last}
use Rattle.dioc_terms.specs.Messages.{visible}
use Rattle.trace_text.specs.Lines.{line, last_line, line_end}
use Rattle.trace_text.specs.Json.{json_line, json_last_line}

-- the entries that are shown: all of them, or the visible ones alone
abbrev pub shown_entries : Bool → List Entry → List Entry
shown_entries aux entries = if aux then entries else visible entries

abbrev pub entry_line : Bool → Entry → List ℕ
entry_line json e = if json then json_line e else line e

abbrev pub end_line : Bool → Last → List ℕ
end_line json last = if json then json_last_line last else last_line last

-- each line of the entries with its end
abbrev pub lines : Bool → List Entry → List ℕ
lines json entries = flat_map (λ e. entry_line json e ++ line_end ∷ []) entries

abbrev pub run_text : Bool → Bool → List Entry → Last → List ℕ
run_text aux json entries last =
    lines json (shown_entries aux entries) ++ end_line json last ++ line_end ∷ []
