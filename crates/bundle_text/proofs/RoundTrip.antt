-- Each section of a formed bundle stands where it is written, and its text reads as its lexemes.
use Rattle.std.proofs.Common.{◌≡◌, ℕ, ◌+◌, ◌≤◌, Bool, true, false, ◌&&◌, nat_lt, List, [], ◌∷◌, ◌++◌, length, drop, Option, Some, None, codes, decimal, pos, refl, ap, sym, ◌∙◌, subst, arith, append_assoc, length-append, drop-drop, drop_at, add-zero, ◌==◌, if◌then◌else◌}
use Rattle.std.specs.List.{list_all, flat_map, AllByRecursion}
use borrow.Author.Tests.{le-leb}
use Rattle.dioc_terms.specs.declared.names.Role.{Role}
use Rattle.dioc_terms.specs.declared.values.Value.{Value}
use Rattle.dioc_terms.specs.declared.values.Value.TheVariants as value
use Rattle.dioc_terms.specs.declared.entries.Entry.{Entry}
use Rattle.dioc_terms.specs.declared.bundles.Last.{Last}
use Rattle.dioc_terms.specs.declared.bundles.Trace.{Trace}
use Rattle.limits.specs.Limits.{largest}
use Rattle.dioc_terms.specs.Names as names
use Rattle.dioc_terms.specs.Plain.{PlainRule}
use Rattle.dioc_terms.specs.Bundles.{is_identifier, is_constant, is_formed_role, is_formed_binding, is_formed_inputs, is_formed_entry, is_formed_last}
use Rattle.aioc_tokens.specs.declared.words.Word.TheVariants as word
use Rattle.aioc_tokens.specs.declared.words.Punctuator.TheVariants as punctuator
use Rattle.aioc_tokens.specs.Lexemes.{Lexeme, Name, Number, Reserved, Symbol, HasSpelling}
use Rattle.aioc_tokens.specs.Spelling.{spelled}
use Rattle.aioc_tokens.proofs.Written.{IsRead, space_read, spelled_read, space_ends}
use Rattle.expr_syntax.specs.Writing.{written_value}
use Rattle.dioc_syntax.proofs.RoundTrip.{both_true, decimal_number, value_stands, value_spelled, written_spellings}
use Rattle.dioc_syntax.proofs.RoundTrip.{written_reads as choreography_reads}
use Rattle.rule_syntax.specs.Grammar.{PlainChange, Add, Drop, Env, IsRule, IsChange, adds as adds_rule, drops, sets}
use Rattle.rule_syntax.specs.Writing.{written as written_rule}
use Rattle.rule_syntax.proofs.RoundTrip.{rule_stands, rule_spellings, name_spelled}
use Rattle.trace_syntax.specs.Grammar.{AreEntries, no_entry, IsTrace, goes_on, is_over}
use Rattle.trace_syntax.specs.Grammar.{one_more as entry_more}
use Rattle.trace_text.specs.Written.{written_lines, written_last}
use Rattle.trace_text.proofs.Standing.{Stands, behind, one, gap, line_stands, last_stands}
use Rattle.trace_text.proofs.LinesAgain.{line_again, last_again}
use Rattle.bundle_text.specs.Many.{Many, no_more, one_more}
use Rattle.bundle_text.specs.Grammar.{inside_limit, IsBound, IsNextValue, AreValues, IsInput, PlainTimed, IsTimed, Section, Aioc, Rules, Environment, Inputs, Script, Traced, opened_by, closed_before, IsSection, aioc, rules, environment, inputs, script, trace}
use Rattle.bundle_text.specs.Writing.{written_all, written_bound, written_next_value, written_values, written_input, written_change, written_timed, written_end, written_section, text_line, entry_text, end_text, section_text, version_text}
use Rattle.bundle_text.proofs.FormedParts.{IsRuleOf, IsFormedChange, IsFormedTimed, IsFormedTrace, IsFormedSection}
use Rattle.bundle_text.proofs.Continued.{GoesOn, choreography_on, rule_on, bound_on, input_on, timed_on, all_on}

-- items that each stand where they are written stand one after another
pub many_written : {A : Type 0} {Reads : List Lexeme → A → List Lexeme → Type 0} (write : A → List Lexeme → List Lexeme) (Fits : A → Type 0) → ((item : A) (others : List Lexeme) → Fits item → Reads (write item others) item others)
    → (items : List A) (others : List Lexeme) → AllByRecursion Fits items → Many Reads (written_all write items others) items others
many_written write Fits stands [] others fits = no_more
many_written write Fits stands (first ∷ rest) others fits = one_more (stands first (written_all write rest others) fits.0) (many_written write Fits stands rest others fits.1)

-- and each lexeme of them has a spelling
many_spelled : {A : Type 0} (write : A → List Lexeme → List Lexeme) (Fits : A → Type 0) → ((item : A) (others : List Lexeme) → Fits item → AllByRecursion HasSpelling others → AllByRecursion HasSpelling (write item others))
    → (items : List A) (others : List Lexeme) → AllByRecursion Fits items → AllByRecursion HasSpelling others → AllByRecursion HasSpelling (written_all write items others)
many_spelled write Fits spells [] others fits behind = behind
many_spelled write Fits spells (first ∷ rest) others fits behind = spells first (written_all write rest others) fits.0 (many_spelled write Fits spells rest others fits.1 behind)

pub from_test : {A : Type 0} (test : A → Bool) (items : List A) → list_all test items ≡ true → AllByRecursion (λ item. test item ≡ true) items
from_test test [] all = tt
from_test test (first ∷ rest) all = let both = both_true (test first) (list_all test rest) all in (both.0, from_test test rest both.1)

-- bindings
bound_stands : (bound : List ℕ × Value) (others : List Lexeme) → is_formed_binding bound ≡ true → IsBound (written_bound bound others) bound others
bound_stands bound others is = record {
  behind = Symbol punctuator.Semicolon ∷ others;
  binding = record {
    given = written_value bound.1 (Symbol punctuator.Semicolon ∷ others);
    begins = refl;
    value = value_stands bound.1 (Symbol punctuator.Semicolon ∷ others) (both_true (is_identifier bound.0) (is_constant bound.1) is).1;
  };
  ends = refl;
}

bound_spelled : (bound : List ℕ × Value) (others : List Lexeme) → is_formed_binding bound ≡ true → AllByRecursion HasSpelling others → AllByRecursion HasSpelling (written_bound bound others)
bound_spelled bound others is behind =
    let both = both_true (is_identifier bound.0) (is_constant bound.1) is in
    (name_spelled bound.0 both.0, (tt, value_spelled bound.1 (Symbol punctuator.Semicolon ∷ others) both.1 (tt, behind)))

-- inputs
next_value_stands : (value : Value) (others : List Lexeme) → is_constant value ≡ true → IsNextValue (written_next_value value others) value others
next_value_stands value others is = record { given = written_value value others; begins = refl; reads = value_stands value others is }

next_value_spelled : (value : Value) (others : List Lexeme) → is_constant value ≡ true → AllByRecursion HasSpelling others → AllByRecursion HasSpelling (written_next_value value others)
next_value_spelled value others is behind = (tt, value_spelled value others is behind)

values_stand : (values : List Value) (others : List Lexeme) → nat_lt 0 (length values) ≡ true → list_all is_constant values ≡ true → AreValues (written_values values others) values others
values_stand [] others some is = absurd cc
values_stand (first ∷ rest) others some is =
    let both = both_true (is_constant first) (list_all is_constant rest) is in
    record {
      first = first;
      more = written_all written_next_value rest others;
      reads = value_stands first (written_all written_next_value rest others) both.0;
      rest = rest;
      others = many_written written_next_value (λ value. is_constant value ≡ true) next_value_stands rest others (from_test is_constant rest both.1);
      are = refl;
    }

values_spelled : (values : List Value) (others : List Lexeme) → list_all is_constant values ≡ true → AllByRecursion HasSpelling others → AllByRecursion HasSpelling (written_values values others)
values_spelled [] others is behind = behind
values_spelled (first ∷ rest) others is behind =
    let both = both_true (is_constant first) (list_all is_constant rest) is in
    value_spelled first (written_all written_next_value rest others) both.0
    (many_spelled written_next_value (λ value. is_constant value ≡ true) next_value_spelled rest others (from_test is_constant rest both.1) behind)

record InputParts (input : Role × List Value) : Type 0 where
  name : is_identifier input.0.0 ≡ true
  some : nat_lt 0 (length input.1) ≡ true
  constants : list_all is_constant input.1 ≡ true

input_parts : (input : Role × List Value) → is_formed_inputs input ≡ true → InputParts input
input_parts input is =
    let outer = both_true (is_formed_role input.0 && nat_lt 0 (length input.1)) (list_all is_constant input.1) is in
    let inner = both_true (is_formed_role input.0) (nat_lt 0 (length input.1)) outer.0 in
    record { name = inner.0; some = inner.1; constants = outer.1 }

input_stands : (input : Role × List Value) (others : List Lexeme) → is_formed_inputs input ≡ true → IsInput (written_input input others) input others
input_stands input others is =
    let parts = input_parts input is in
    record {
      given = written_values input.1 (Symbol punctuator.Semicolon ∷ others);
      begins = refl;
      behind = Symbol punctuator.Semicolon ∷ others;
      values = values_stand input.1 (Symbol punctuator.Semicolon ∷ others) parts.some parts.constants;
      ends = refl;
    }

input_spelled : (input : Role × List Value) (others : List Lexeme) → is_formed_inputs input ≡ true → AllByRecursion HasSpelling others → AllByRecursion HasSpelling (written_input input others)
input_spelled input others is behind =
    let parts = input_parts input is in (name_spelled input.0.0 parts.name, (tt, values_spelled input.1 (Symbol punctuator.Semicolon ∷ others) parts.constants (tt, behind)))

-- changes of a script
rule_written : (version : ℕ) (rule : PlainRule) (others : List Lexeme) → IsRuleOf version rule → IsRule version inside_limit (written_rule rule others) rule others
rule_written version rule others is = rule_stands version rule inside_limit others is.formed is.fits (omega arith)

rule_spelled : (version : ℕ) (rule : PlainRule) (others : List Lexeme) → IsRuleOf version rule → AllByRecursion HasSpelling others → AllByRecursion HasSpelling (written_rule rule others)
rule_spelled version rule others is behind = rule_spellings rule others is.formed behind

change_stands : (version : ℕ) (change : PlainChange) (others : List Lexeme) → IsFormedChange version change → IsChange version inside_limit (written_change change others) change others
change_stands version (Add rule) others formed = adds_rule refl (rule_written version rule others formed)
change_stands version (Drop name) others formed = drops refl
change_stands version (Env key value) others formed =
    sets refl (record { given = written_value value others; begins = refl; value = value_stands value others (both_true (is_identifier key) (is_constant value) formed).1 })

timed_stands : (version : ℕ) (timed : PlainTimed) (others : List Lexeme) → IsFormedTimed version timed → IsTimed version (written_timed timed others) timed others
timed_stands version timed others formed =
    let small = formed.after in
    record {
      digits = decimal timed.after;
      given = written_change timed.change others;
      begins = refl;
      after = decimal_number largest timed.after (omega arith) small;
      change = change_stands version timed.change others formed.change;
    }

-- the words of a bundle are no reserved words
after_free : is_identifier (codes "after") ≡ true
unfolding names.is_reserved names.reserved_words
after_free = refl

add_free : is_identifier (codes "add") ≡ true
unfolding names.is_reserved names.reserved_words
add_free = refl

drop_free : is_identifier (codes "drop") ≡ true
unfolding names.is_reserved names.reserved_words
drop_free = refl

env_free : is_identifier (codes "env") ≡ true
unfolding names.is_reserved names.reserved_words
env_free = refl

rules_free : is_identifier (codes "rules") ≡ true
unfolding names.is_reserved names.reserved_words
rules_free = refl

inputs_free : is_identifier (codes "inputs") ≡ true
unfolding names.is_reserved names.reserved_words
inputs_free = refl

script_free : is_identifier (codes "script") ≡ true
unfolding names.is_reserved names.reserved_words
script_free = refl

trace_free : is_identifier (codes "trace") ≡ true
unfolding names.is_reserved names.reserved_words
trace_free = refl

version_free : is_identifier (codes "version") ≡ true
unfolding names.is_reserved names.reserved_words
version_free = refl

pub number_spelled : (n : ℕ) → n ≤ largest → HasSpelling (Number (decimal n))
number_spelled n small = (value_spelled (value.Int (pos n)) [] (le-leb n largest small) tt).0

change_spelled : (version : ℕ) (change : PlainChange) (others : List Lexeme) → IsFormedChange version change → AllByRecursion HasSpelling others → AllByRecursion HasSpelling (written_change change others)
change_spelled version (Add rule) others formed behind = (name_spelled (codes "add") add_free, rule_spelled version rule others formed behind)
change_spelled version (Drop name) others formed behind = (name_spelled (codes "drop") drop_free, (name_spelled name formed, behind))
change_spelled version (Env key value) others formed behind =
    let both = both_true (is_identifier key) (is_constant value) formed in
    (name_spelled (codes "env") env_free, (name_spelled key both.0, (tt, value_spelled value others both.1 behind)))

timed_spelled : (version : ℕ) (timed : PlainTimed) (others : List Lexeme) → IsFormedTimed version timed → AllByRecursion HasSpelling others → AllByRecursion HasSpelling (written_timed timed others)
timed_spelled version timed others formed behind = (name_spelled (codes "after") after_free, (number_spelled timed.after formed.after, change_spelled version timed.change others formed.change behind))

-- the lines of a trace
entries_stand : (entries : List Entry) (others : List Lexeme) → list_all is_formed_entry entries ≡ true → AreEntries (written_lines entries others) entries others
entries_stand [] others all = no_entry
entries_stand (first ∷ rest) others all =
    let both = both_true (is_formed_entry first) (list_all is_formed_entry rest) all in entry_more (line_again first (written_lines rest others) both.0) (entries_stand rest others both.1)

trace_stands : (entries : List Entry) (end : Option Last) (others : List Lexeme) → list_all is_formed_entry entries ≡ true → is_formed_last end ≡ true → IsTrace (written_lines entries (written_end end others)) entries end others
trace_stands entries None others all last = goes_on (entries_stand entries others all)
trace_stands entries (Some end) others all last = is_over (entries_stand entries (written_last end others) all) (last_again end others last)

-- a section stands where it is written
pub section_stands : (version : ℕ) (section : Section) (others : List Lexeme) → IsFormedSection version section → IsSection version (written_section section others) section others
section_stands version (Aioc whole) others formed = aioc refl (choreography_reads version whole inside_limit (closed_before others) formed.0 formed.1 (omega arith) refl).reads refl
section_stands version (Rules items) others formed = rules refl (many_written written_rule (IsRuleOf version) (rule_written version) items (closed_before others) formed) refl
section_stands version (Environment items) others formed = environment refl (many_written written_bound (λ bound. is_formed_binding bound ≡ true) bound_stands items (closed_before others) formed) refl
section_stands version (Inputs items) others formed = inputs refl (many_written written_input (λ input. is_formed_inputs input ≡ true) input_stands items (closed_before others) formed) refl
section_stands version (Script items) others formed = script refl (many_written written_timed (IsFormedTimed version) (timed_stands version) items (closed_before others) formed) refl
section_stands version (Traced found) others formed = trace refl (trace_stands found.entries found.last (closed_before others) formed.0 formed.1) refl

-- A section's text reads as its lexemes.
abbrev pub Shows : Section → Type 0
Shows section = (others : List ℕ) → Stands (section_text section) (written_section section) others

line_shows : (found : List Lexeme) (writes : List Lexeme → List Lexeme) → found ≡ writes [] → GoesOn writes → AllByRecursion HasSpelling found → (others : List ℕ) → Stands (text_line found) writes others
line_shows found writes is goes spells others = record {
  reads = λ whole at more rest read.
      let count = length (spelled found) in
      let joined = append_assoc (spelled found) (10 ∷ []) others in
      let left : drop (at + count) whole ≡ 10 ∷ others = sym (drop-drop count at whole) ∙ ap (drop count) (rest ∙ joined) ∙ drop_at (spelled found) (10 ∷ others) count refl in
      let place : at + length (text_line found) ≡ at + count + 1 = omega (arith, length-append (spelled found) (10 ∷ [])) in
      let ends = space_read whole (at + count) 10 others more refl left (subst (λ place. IsRead whole place others more) place read) in
      subst (λ text. IsRead whole at text (writes more)) (sym joined)
      (subst (IsRead whole at (spelled found ++ 10 ∷ others)) (ap (λ list. list ++ more) is ∙ sym (goes [] more)) (spelled_read whole at found (10 ∷ others) more spells refl (rest ∙ joined) ends));
}

nothing_stands : {others : List ℕ} → Stands [] (λ found. found) others
nothing_stands {others} = record { reads = λ whole at found rest read. subst (λ place. IsRead whole place others found) (add-zero at) read }

line_end_stands : {others : List ℕ} → Stands (10 ∷ []) (λ found. found) others
line_end_stands {others} = record { reads = λ whole at found rest read. space_read whole at 10 others found refl rest read }

lines_stand : (entries : List Entry) (others : List ℕ) → list_all is_formed_entry entries ≡ true → Stands (flat_map entry_text entries) (written_lines entries) others
lines_stand [] others all = nothing_stands
lines_stand (first ∷ rest) others all =
    let both = both_true (is_formed_entry first) (list_all is_formed_entry rest) all in
    behind (lines_stand rest others both.1) (behind line_end_stands (line_stands first both.0 refl))

end_stands : (end : Option Last) (others : List ℕ) → is_formed_last end ≡ true → Stands (end_text end) (written_end end) others
end_stands None others formed = nothing_stands
end_stands (Some end) others formed = behind line_end_stands (last_stands end formed refl)

trace_shows : (found : Trace) → IsFormedTrace found → Shows (Traced found)
trace_shows found formed others =
    let closing = behind line_end_stands (one (Symbol punctuator.RightBrace) tt (space_ends (Symbol punctuator.RightBrace) (10 ∷ others) refl)) in
    let tail = behind closing (end_stands found.last ((codes "}" ++ 10 ∷ []) ++ others) formed.1) in
    let all = behind tail (lines_stand found.entries ((end_text found.last ++ (codes "}" ++ 10 ∷ [])) ++ others) formed.0) in
    let rest = (flat_map entry_text found.entries ++ (end_text found.last ++ (codes "}" ++ 10 ∷ []))) ++ others in
    behind (behind (behind (behind all line_end_stands) (one (Symbol punctuator.LeftBrace) tt (space_ends (Symbol punctuator.LeftBrace) (10 ∷ rest) refl))) gap)
    (one (Name (codes "trace")) (name_spelled (codes "trace") trace_free) (space_ends (Name (codes "trace")) (32 ∷ 123 ∷ 10 ∷ rest) refl))

items_spelled : {A : Type 0} (name : List ℕ) (write : A → List Lexeme → List Lexeme) (Fits : A → Type 0) → is_identifier name ≡ true
    → ((item : A) (others : List Lexeme) → Fits item → AllByRecursion HasSpelling others → AllByRecursion HasSpelling (write item others)) → (items : List A) → AllByRecursion Fits items
    → AllByRecursion HasSpelling (opened_by name (written_all write items (closed_before [])))
items_spelled name write Fits free spells items fits = (name_spelled name free, (tt, many_spelled write Fits spells items (closed_before []) fits (tt, tt)))

items_show : {A : Type 0} (name : List ℕ) (write : A → List Lexeme → List Lexeme) (items : List A) → ((item : A) → GoesOn (write item)) → AllByRecursion HasSpelling (opened_by name (written_all write items (closed_before [])))
    → (others : List ℕ) → Stands (text_line (opened_by name (written_all write items (closed_before [])))) (λ found. opened_by name (written_all write items (closed_before found))) others
items_show name write items goes spells =
    line_shows (opened_by name (written_all write items (closed_before []))) (λ found. opened_by name (written_all write items (closed_before found))) refl
    (λ others more. ap (opened_by name) (all_on write goes items (closed_before others) more)) spells

pub section_shows : (version : ℕ) (section : Section) → IsFormedSection version section → Shows section
section_shows version (Aioc whole) formed =
    line_shows (written_section (Aioc whole) []) (written_section (Aioc whole)) refl (λ others more. ap (λ list. Reserved word.Aioc ∷ Symbol punctuator.LeftBrace ∷ list) (choreography_on whole (closed_before others) more))
    (tt, (tt, written_spellings whole (closed_before []) formed.0.parts (tt, tt)))
section_shows version (Rules items) formed = items_show (codes "rules") written_rule items rule_on (items_spelled (codes "rules") written_rule (IsRuleOf version) rules_free (rule_spelled version) items formed)
section_shows version (Environment items) formed =
    items_show (codes "env") written_bound items bound_on (items_spelled (codes "env") written_bound (λ bound. is_formed_binding bound ≡ true) env_free bound_spelled items formed)
section_shows version (Inputs items) formed =
    items_show (codes "inputs") written_input items input_on (items_spelled (codes "inputs") written_input (λ input. is_formed_inputs input ≡ true) inputs_free input_spelled items formed)
section_shows version (Script items) formed =
    items_show (codes "script") written_timed items timed_on (items_spelled (codes "script") written_timed (IsFormedTimed version) script_free (timed_spelled version) items formed)
section_shows version (Traced found) formed = trace_shows found formed

pub sections_show : (version : ℕ) (sections : List Section) (others : List ℕ) → AllByRecursion (IsFormedSection version) sections → Stands (flat_map section_text sections) (written_all written_section sections) others
sections_show version [] others formed = nothing_stands
sections_show version (first ∷ rest) others formed = behind (sections_show version rest others formed.1) (section_shows version first formed.0 (flat_map section_text rest ++ others))

-- the version
abbrev pub written_version : ℕ → List Lexeme → List Lexeme
written_version version others = if version == 2 then Name (codes "version") ∷ Number (codes "2") ∷ others else others

two_spelled : HasSpelling (Number (codes "2"))
two_spelled = (omega arith, refl)

pub version_shows : (version : ℕ) (others : List ℕ) → Stands (version_text version) (written_version version) others
version_shows version others = by_test (version == 2)
  where
    line : List Lexeme
    line = Name (codes "version") ∷ Number (codes "2") ∷ []

    by_test : (test : Bool) → Stands (if test then text_line line else []) (λ found. if test then Name (codes "version") ∷ Number (codes "2") ∷ found else found) others
    by_test true = line_shows line (λ found. Name (codes "version") ∷ Number (codes "2") ∷ found) refl (λ others more. refl) (name_spelled (codes "version") version_free, (two_spelled, tt)) others
    by_test false = nothing_stands
