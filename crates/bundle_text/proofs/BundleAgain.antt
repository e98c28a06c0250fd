-- What is written of a formed bundle reads as that bundle.
use Rattle.std.proofs.Common.{◌≡◌, ℕ, ◌+◌, ◌-◌, ◌≤◌, ◌⊎◌, inl, inr, true, List, [], ◌∷◌, ◌++◌, length, map, take, drop, Option, Some, None, pos, refl, ap, sym, ◌∙◌, subst, arith, append-nil, take-append-drop, nat_le, drop_of_length-le}
use Rattle.std.specs.Prelude.{slice_get}
use Rattle.std.specs.Ordering.{int_eq}
use Rattle.std.specs.List.{list_all, flat_map, AllByRecursion}
use Rattle.std.proofs.lemmas.List.{length-take-le}
use Rattle.std.proofs.lemmas.List.Elements.{recursion_from_All, All-from_recursion}
use Rattle.std.proofs.lemmas.Bool.Decides.{Decides-int_eq}
use Rattle.std.proofs.lemmas.Option.{slice_get_within, get_or_from_slice_get}
use borrow.Author.Tests.{leb-true}
use Rattle.dioc_terms.specs.declared.entries.Entry.{Entry}
use Rattle.dioc_terms.specs.declared.bundles.Change.{Change}
use Rattle.dioc_terms.specs.declared.bundles.Change.TheVariants as change
use Rattle.dioc_terms.specs.declared.bundles.Timed.{Timed}
use Rattle.dioc_terms.specs.declared.bundles.Last.{Last}
use Rattle.dioc_terms.specs.declared.bundles.Trace.{Trace}
use Rattle.limits.specs.Limits.{largest, most_bytes}
use Rattle.dioc_terms.specs.Plain.{PlainRule, PlainBundle}
use Rattle.dioc_terms.specs.Bundles.{is_formed_binding, is_formed_inputs, is_formed_timed, is_formed_change, has_no_priority, names_no_roles, IsOfVersion, IsFormed, IsFormedRule}
use Rattle.aioc_tokens.specs.Lexemes.{Lexeme}
use Rattle.aioc_tokens.proofs.Written.{IsRead, nothing_read, whole_read}
use Rattle.dioc_syntax.specs.Laws.{FitsVersion as BodyFits}
use Rattle.dioc_syntax.proofs.RoundTrip.{both_true}
use Rattle.rule_syntax.specs.Grammar.{PlainChange}
use Rattle.rule_syntax.specs.Laws.{FitsVersion}
use Rattle.trace_text.proofs.Standing.{behind}
use Rattle.bundle_text.specs.Grammar.{Section, Aioc, Rules, Environment, Inputs, Script, Joined, with_first, joined_sections, added_rules, numbered, IsOnly, IsMadeOf, HasVersion, first_version, second_version, ReadsAs, Spells}
use Rattle.bundle_text.specs.Writing.{written_all, written_section, section_text, added_by, changes_of, timed_of, script_of, some, script_section, traced, sections_of, bundle_text}
use Rattle.bundle_text.proofs.FormedParts.{IsRuleOf, IsFormedTimed, IsFormedTrace, IsFormedSection, all_both, all_first, all_mapped}
use Rattle.bundle_text.proofs.RoundTrip.{many_written, from_test, section_stands, sections_show, written_version, version_shows}
use Rattle.bundle_text.proofs.ScriptAgain.{script_again}

-- the parts of a formed bundle fit its version
rule_fits : {version : ℕ} (rule : PlainRule) → (version ≡ 2) ⊎ (has_no_priority rule ≡ true) → FitsVersion version rule
rule_fits rule (inl two) = inl two
rule_fits rule (inr none) =
    let both = both_true (int_eq rule.priority (pos 0)) (names_no_roles rule.body) none in
    inr ((Decides-int_eq rule.priority (pos 0)).0 both.0, both.1)

each_fits : {version : ℕ} (rules : List PlainRule) → (version ≡ 2) ⊎ (list_all has_no_priority rules ≡ true) → AllByRecursion IsFormedRule rules → AllByRecursion (IsRuleOf version) rules
each_fits rules (inl two) formed = all_mapped IsFormedRule (IsRuleOf _) (λ rule is. record { formed = is; fits = inl two }) rules formed
each_fits [] (inr none) formed = tt
each_fits (first ∷ rest) (inr none) formed =
    let both = both_true (has_no_priority first) (list_all has_no_priority rest) none in
    (record { formed = formed.0; fits = rule_fits first (inr both.0) }, each_fits rest (inr both.1) formed.1)

rules_fit : {version : ℕ} (b : PlainBundle) → IsOfVersion version b → (version ≡ 2) ⊎ (list_all has_no_priority b.rules ≡ true)
rules_fit b (inl one) = inr one.2
rules_fit b (inr two) = inl two

choreo_fits : {version : ℕ} (b : PlainBundle) → IsOfVersion version b → BodyFits version b.choreo
choreo_fits b (inl one) = inr one.1
choreo_fits b (inr two) = inl two

pub rules_of_version : (b : PlainBundle) → IsFormed b → AllByRecursion (IsRuleOf b.version) b.rules
rules_of_version b formed = each_fits b.rules (rules_fit b formed.version) (recursion_from_All IsFormedRule b.rules formed.rules)

-- the script as it is written
one_timed : (version : ℕ) (rules : List PlainRule) (after : ℕ) (found : Change) → after ≤ largest → is_formed_change found ≡ true → AllByRecursion (IsRuleOf version) rules
    → AllByRecursion (IsFormedTimed version) (map (λ (one : PlainChange). record { after = after; change = one }) (changes_of rules found))
one_timed version rules after (change.Add n) small formed all = by_rule (slice_get rules n) refl
  where
    by_rule : (found : Option PlainRule) → slice_get rules n ≡ found → AllByRecursion (IsFormedTimed version) (map (λ (one : PlainChange). record { after = after; change = one }) (added_by found))
    by_rule None is = tt
    by_rule (Some rule) is =
        let every = All-from_recursion (IsRuleOf version) rules all in
        (record { after = small; change = subst (IsRuleOf version) (get_or_from_slice_get rules n rule rule is) (every n rule (slice_get_within rules n rule is)) }, tt)
one_timed version rules after (change.Drop name) small formed all = (record { after = small; change = formed }, tt)
one_timed version rules after (change.Env key value) small formed all = (record { after = small; change = formed }, tt)

script_timed : (version : ℕ) (rules : List PlainRule) (script : List Timed) → list_all is_formed_timed script ≡ true → AllByRecursion (IsRuleOf version) rules → AllByRecursion (IsFormedTimed version) (script_of rules script)
script_timed version rules [] formed all = tt
script_timed version rules (first ∷ rest) formed all =
    let both = both_true (is_formed_timed first) (list_all is_formed_timed rest) formed in
    let one = both_true (nat_le first.after largest) (is_formed_change first.change) both.0 in
    all_both (IsFormedTimed version) (timed_of rules first) (script_of rules rest) (one_timed version rules first.after first.change (leb-true first.after largest one.0) one.1 all) (script_timed version rules rest both.1 all)

-- the sections that are written are formed
some_formed : {A : Type 0} (version : ℕ) (make : List A → Section) (items : List A) → IsFormedSection version (make items) → AllByRecursion (IsFormedSection version) (some make items)
some_formed version make [] one = tt
some_formed version make (first ∷ rest) one = (one, tt)

script_section_formed : (version : ℕ) (rules : List PlainRule) (script : List Timed) → AllByRecursion (IsFormedTimed version) (script_of rules script) → AllByRecursion (IsFormedSection version) (script_section rules script)
script_section_formed version rules [] one = tt
script_section_formed version rules (first ∷ rest) one = (one, tt)

traced_formed : (version : ℕ) (entries : List Entry) (end : Option Last) → IsFormedTrace (record { entries = entries; last = end }) → AllByRecursion (IsFormedSection version) (traced entries end)
traced_formed version [] None one = tt
traced_formed version [] (Some end) one = (one, tt)
traced_formed version (first ∷ rest) end one = (one, tt)

pub sections_formed : (b : PlainBundle) → IsFormed b → AllByRecursion (IsFormedSection b.version) (sections_of b)
sections_formed b formed =
    let version = b.version in
    let P = IsFormedSection b.version in
    let all = rules_of_version b formed in
    let opening = all_first (IsRuleOf b.version) (take b.opening b.rules) (drop b.opening b.rules) (subst (AllByRecursion (IsRuleOf b.version)) (sym (take-append-drop b.opening b.rules)) all) in (
      (formed.choreo, choreo_fits b formed.version),
      all_both P (some Rules (take b.opening b.rules)) _ (some_formed b.version Rules (take b.opening b.rules) opening)
          (all_both P (some Environment b.env) _ (some_formed b.version Environment b.env (from_test is_formed_binding b.env formed.env))
          (all_both P (some Inputs b.inputs) _ (some_formed b.version Inputs b.inputs (from_test is_formed_inputs b.inputs formed.inputs))
          (all_both P (script_section b.rules b.script) _ (script_section_formed b.version b.rules b.script (script_timed b.version b.rules b.script formed.script all))
          (traced_formed b.version b.trace.entries b.trace.last (formed.trace, formed.last))))),
    )

-- what they have, joined
some_joined : {A : Type 0} (make : List A → Section) (items : List A) (others : List Section) → ((found : Joined) → with_first (make []) found ≡ found) → joined_sections (some make items ++ others) ≡ with_first (make items) (joined_sections others)
some_joined make [] others nothing = sym (nothing (joined_sections others))
some_joined make (first ∷ rest) others nothing = refl

script_joined : (rules : List PlainRule) (script : List Timed) (others : List Section) → joined_sections (script_section rules script ++ others) ≡ with_first (Script (script_of rules script)) (joined_sections others)
script_joined rules [] others = refl
script_joined rules (first ∷ rest) others = refl

-- a trace section has a trace alone
record TraceAlone (found : Joined) (trace : Trace) : Type 0 where
  choreos : found.choreos ≡ []
  rules : found.rules ≡ []
  env : found.env ≡ []
  inputs : found.inputs ≡ []
  script : found.script ≡ []
  only : IsOnly found.traces trace

traced_alone : (entries : List Entry) (end : Option Last) → TraceAlone (joined_sections (traced entries end)) (record { entries = entries; last = end })
traced_alone [] None = record { choreos = refl; rules = refl; env = refl; inputs = refl; script = refl; only = refl }
traced_alone [] (Some end) = record { choreos = refl; rules = refl; env = refl; inputs = refl; script = refl; only = refl }
traced_alone (first ∷ rest) end = record { choreos = refl; rules = refl; env = refl; inputs = refl; script = refl; only = refl }

all_joined : (b : PlainBundle) → joined_sections (sections_of b)
    ≡ with_first (Aioc b.choreo) (with_first (Rules (take b.opening b.rules)) (with_first (Environment b.env) (with_first (Inputs b.inputs) (with_first (Script (script_of b.rules b.script)) (joined_sections (traced b.trace.entries b.trace.last))))))
all_joined b =
    let last = traced b.trace.entries b.trace.last in
    let script = script_section b.rules b.script ++ last in
    let inputs = some Inputs b.inputs ++ script in
    let env = some Environment b.env ++ inputs in
    ap (with_first (Aioc b.choreo))
    (some_joined Rules (take b.opening b.rules) env (λ found. refl)
    ∙ ap (with_first (Rules (take b.opening b.rules)))
    (some_joined Environment b.env inputs (λ found. refl)
    ∙ ap (with_first (Environment b.env))
    (some_joined Inputs b.inputs script (λ found. refl)
    ∙ ap (with_first (Inputs b.inputs)) (script_joined b.rules b.script last))))

pub made_again : (b : PlainBundle) → IsFormed b → IsMadeOf (joined_sections (sections_of b)) b
made_again b formed =
    let last = joined_sections (traced b.trace.entries b.trace.last) in
    let alone = traced_alone b.trace.entries b.trace.last in
    let front = take b.opening b.rules in
    let changes = script_of b.rules b.script in
    let rules : front ++ last.rules ≡ front = ap (λ list. front ++ list) alone.rules ∙ append-nil front in
    let script : changes ++ last.script ≡ changes = ap (λ list. changes ++ list) alone.script ∙ append-nil changes in
    let count : length front ≡ b.opening = length-take-le b.opening b.rules formed.opening in
    let opening = formed.opening in
    let again = script_again b.rules b.opening (length b.rules - b.opening) b.script formed.added (omega arith) in
    subst (λ found. IsMadeOf found b) (sym (all_joined b)) (record {
      choreo = ap (λ list. b.choreo ∷ list) alone.choreos;
      cast = formed.cast;
      rules = sym (ap (λ list. list ++ added_rules (changes ++ last.script)) rules ∙ ap (λ list. front ++ added_rules list) script ∙ ap (λ list. front ++ list) again.added ∙ take-append-drop b.opening b.rules);
      opening = sym (ap length rules ∙ count);
      env = sym (ap (λ list. b.env ++ list) alone.env ∙ append-nil b.env);
      inputs = sym (ap (λ list. b.inputs ++ list) alone.inputs ∙ append-nil b.inputs);
      script = sym (ap (λ list. numbered (length list) (changes ++ last.script)) rules ∙ ap (numbered (length front)) script ∙ ap (λ n. numbered n changes) count ∙ again.numbers);
      trace = alone.only;
    })

-- the version stands before the sections
version_again : {version : ℕ} (b : PlainBundle) (others : List Lexeme) → IsOfVersion version b → HasVersion (written_version version others) version others
version_again {version} b others (inl one) = subst (λ n. HasVersion (written_version n others) n others) (sym one.0) first_version
version_again {version} b others (inr two) = subst (λ n. HasVersion (written_version n others) n others) (sym two) (second_version refl refl)

pub written_reads : (b : PlainBundle) → IsFormed b → ReadsAs (bundle_text b) b
written_reads b formed =
    let text = bundle_text b in
    let sections = sections_of b in
    let fit = sections_formed b formed in
    let inside = written_all written_section sections [] in
    let shown = behind (sections_show b.version sections [] fit) (version_shows b.version (flat_map section_text sections ++ [])) in
    let at_end : drop (0 + length text) text ≡ [] = drop_of_length-le text (omega arith) in
    let read = shown.reads text 0 [] (sym (append-nil text)) (nothing_read text (0 + length text) at_end) in
    record {
      found = written_version b.version inside;
      lexemes = whole_read text (written_version b.version inside) (subst (λ end. IsRead text 0 end (written_version b.version inside)) (append-nil text) read);
      bundle = record {
        inside = inside;
        version = version_again b inside formed.version;
        sections = sections;
        stand = many_written written_section (IsFormedSection b.version) (section_stands b.version) sections [] fit;
        made = made_again b formed;
      };
    }

pub written_spelled : (b : PlainBundle) → IsFormed b → length (bundle_text b) ≤ most_bytes → Spells (bundle_text b) b
written_spelled b formed small = record { small = small; reads = written_reads b formed }
