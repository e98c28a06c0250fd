-- What stands at a place, by what the looks of the readers show.
use Rattle.std.proofs.Common.{◌≡◌, ◌≢◌, ℕ, ◌+◌, ◌<◌, ◌≤◌, List, [], ◌∷◌, ◌++◌, length, drop, Option, Some, None, Bool, true, false, cond, nat_le, codes, refl, ap, sym, ◌∙◌, subst, arith, append-nil, drop-drop}
use Rattle.std.specs.Str.Parse.{digits_value}
use Rattle.dioc_terms.specs.declared.names.Role.{Role}
use Rattle.dioc_terms.specs.declared.values.Value.{Value}
use Rattle.dioc_terms.specs.declared.choreographies.Choreo.{Choreo}
use Rattle.dioc_terms.specs.declared.bundles.Trace.{Trace}
use Rattle.limits.specs.Limits.{most_depth}
use Rattle.dioc_terms.specs.Terms.{Term, term}
use Rattle.dioc_terms.specs.Plain.{PlainRule}
use Rattle.aioc_tokens.specs.declared.words.Word.TheVariants as word
use Rattle.aioc_tokens.specs.declared.words.Punctuator.TheVariants as punctuator
use Rattle.aioc_tokens.specs.declared.words.Sort.{Sort}
use Rattle.aioc_tokens.specs.declared.words.Sort.TheVariants as sorts
use Rattle.aioc_tokens.specs.Lexemes.{Lexeme, Name, Number, Reserved, Symbol, sort_of, Begins}
use Rattle.aioc_tokens.specs.Fronts.{NoFront}
use Rattle.expr_syntax.specs.Constants.{constant, greatest, number, number_up_to, ConstantAt}
use Rattle.expr_syntax.proofs.ConstantFacts.{read_number}
use Rattle.dioc_syntax.specs.Choreographies.{Choreography, IsShallow, IsChoreography}
use Rattle.dioc_syntax.specs.Readers.{Finds}
use Rattle.dioc_syntax.specs.declared.found.FoundChoreo.{FoundChoreo}
use Rattle.dioc_syntax.proofs.Compare.{constant_same}
use Rattle.dioc_syntax.proofs.Fronts as choreography
use Rattle.dioc_syntax.proofs.HeadSorts.{further, follows, symbol_here, reserved_here, within_here}
use Rattle.rule_syntax.specs.Grammar.{IsRule, IsBinding, IsChange, PlainChange}
use Rattle.rule_syntax.specs.Readers.{StandsAt}
use Rattle.rule_syntax.proofs.Unique.{only_longest, bindings_same}
use Rattle.trace_syntax.specs.Grammar.{IsTrace, IsClosedTrace, IsBadLine}
use Rattle.trace_syntax.proofs.TraceLaws.{trace_or_bad_line}
use Rattle.bundle_text.specs.Many.{Many, no_more, one_more}
use Rattle.bundle_text.specs.Grammar.{inside_limit, IsBound, IsNextValue, AreValues, IsInput, PlainTimed, IsTimed, Section, Aioc, Rules, Environment, Inputs, Script, Traced, opened_by, closed_before, IsSection, aioc, rules, environment, inputs, script, trace, Joined, HasVersion, first_version, second_version}
use Rattle.bundle_text.specs.Readers.{FindsValues, ValuesAt, TakesItems, TakesSection, with_last, FindsVersion, ChoreographyTaken, TraceTaken, NoTrace}
use Rattle.bundle_text.specs.Stops.{EndsInChoreography, missing, unclosed, aioc_before, BeginsSection, begins_aioc, begins_rules, begins_environment, begins_inputs, begins_script, begins_trace, EndsInSection, no_word, second_choreography, in_choreography, in_rules, in_environment, in_inputs, in_script, second_trace, in_trace}
use Rattle.bundle_text.proofs.Missing.{NoItems, IsSecond, NoSection, NoChoreography}
use Rattle.bundle_text.proofs.Repeated.{many_last, Behind, many_behind, ended, no_items}
use Rattle.bundle_text.proofs.Unique.{rules_each, rule_never, bounds_each, bound_never, values_each, no_value, inputs_each, input_never, timed_each, timed_never, letter, version_apart}

module _ (text : List Lexeme) (at : ℕ) where
  -- a binding with its `;`
  pub bound_found : (bound : List ℕ × Value) (next : ℕ) → StandsAt IsBinding text at bound next → sort_of (drop next text) ≡ sorts.Symbol punctuator.Semicolon → StandsAt IsBound text at bound (next + 1)
  bound_found bound next found ends =
      let reads : IsBound (drop at text) bound (drop (next + 1) text) = record { behind = drop next text; binding = found.front.reads; ends = symbol_here text punctuator.Semicolon next (next + 1) refl ends } in
      let inside = within_here text punctuator.Semicolon next ends in
      let after = found.after in
      record { front = only_longest reads (λ other end is. (bounds_each _ _ _ _ bound other refl reads is).1); after = omega arith; within = omega arith }

  pub bound_missing : NoFront (IsBinding (drop at text)) → NoFront (IsBound (drop at text))
  bound_missing none bound to is = none bound is.behind is.binding

  pub bound_open : (bound : List ℕ × Value) (next : ℕ) → StandsAt IsBinding text at bound next → sort_of (drop next text) ≢ sorts.Symbol punctuator.Semicolon → NoFront (IsBound (drop at text))
  bound_open bound next found unlike other to is = unlike (ap sort_of ((bindings_same refl found.front.reads is.binding).1 ∙ is.ends))

  -- values with a `,` between two
  pub record ValuesSoFar (values : List Value) (next : ℕ) : Type 0 where
    pub reads : AreValues (drop at text) values (drop next text)
    pub after : at < next
    pub within : next ≤ length text

  pub first_value : (value : Value) (next : ℕ) → ConstantAt text at (Some (value, next)) → ValuesSoFar (value ∷ []) next
  first_value value next found = record {
    reads = record { first = value; more = drop next text; reads = found.0; rest = []; others = no_more; are = refl };
    after = found.1.0;
    within = found.1.1;
  }

  pub next_value : (values : List Value) (value : Value) (next behind : ℕ) → ValuesSoFar values next → sort_of (drop next text) ≡ sorts.Symbol punctuator.Comma → ConstantAt text (next + 1) (Some (value, behind)) → ValuesSoFar (values ++ value ∷ []) behind
  next_value values value next behind so_far comma found =
      let before = so_far.after in
      let after = found.1.0 in
      let reads = so_far.reads in
      record {
        reads = record {
          first = reads.first;
          more = reads.more;
          reads = reads.reads;
          rest = reads.rest ++ value ∷ [];
          others = many_last reads.others (record { given = drop (next + 1) text; begins = symbol_here text punctuator.Comma next (next + 1) refl comma; reads = found.0 });
          are = ap (λ list. list ++ value ∷ []) reads.are;
        };
        after = omega arith;
        within = found.1.1;
      }

  -- values that a `;` follows go on behind those so far
  values_behind : (values other : List Value) (next : ℕ) (to : List Lexeme) → ValuesSoFar values next → (is : AreValues (drop at text) other (Symbol punctuator.Semicolon ∷ to)) → Behind IsNextValue values other (drop next text) (Symbol punctuator.Semicolon ∷ to)
  values_behind values other next to so_far is =
      let reads = so_far.reads in
      let first = constant_same {given = drop at text} refl reads.reads is.reads in
      let more = many_behind values_each (no_value refl) first.1 reads.others is.others in
      let same = sym first.0 in
      record { rest = more.rest; are = is.are ∙ (λ j. same j ∷ more.are j) ∙ ap (λ list. list ++ more.rest) (sym reads.are); stand = more.stand }

  pub all_values : (values : List Value) (next : ℕ) → ValuesSoFar values next → sort_of (drop next text) ≢ sorts.Symbol punctuator.Comma → FindsValues text at values next
  all_values values next so_far none = record {
    reads = so_far.reads;
    only = λ other to is. let more = values_behind values other next to so_far is in by_rest other to more.rest more.are more.stand;
    after = so_far.after;
    within = so_far.within;
  }
    where
      by_rest : (other : List Value) (to : List Lexeme) (rest : List Value) → other ≡ values ++ rest → Many IsNextValue (drop next text) rest (Symbol punctuator.Semicolon ∷ to) → (other ≡ values) × (Symbol punctuator.Semicolon ∷ to ≡ drop next text)
      by_rest other to [] are stand = (are ∙ append-nil values, sym (ended stand refl))
      by_rest other to (first ∷ rest) are (one_more r s) = absurd (none (ap sort_of r.begins))

  pub no_next_value : (values : List Value) (next : ℕ) → ValuesSoFar values next → sort_of (drop next text) ≡ sorts.Symbol punctuator.Comma → ConstantAt text (next + 1) None → ValuesAt text at None
  no_next_value values next so_far comma none other to is = let more = values_behind values other next to so_far is in by_rest more.rest more.stand
    where
      by_rest : (rest : List Value) → Many IsNextValue (drop next text) rest (Symbol punctuator.Semicolon ∷ to) → ⊥
      by_rest [] stand = let same = sym comma ∙ ap sort_of (ended stand refl) in cc
      by_rest (first ∷ rest) (one_more {middle = middle} r s) =
          let given : drop (next + 1) text ≡ r.given = ap (drop 1) (sym (symbol_here text punctuator.Comma next (next + 1) refl comma) ∙ r.begins) in
          let found = r.reads in
          let nothing : ◌≡◌ {A = Option (Value × List Lexeme)} (Some (first, middle)) None = sym (ap constant given ∙ found) ∙ none.0 in
          cc

  pub no_first_value : ConstantAt text at None → ValuesAt text at None
  no_first_value none other to is =
      let found = is.reads in
      let nothing : ◌≡◌ {A = Option (Value × List Lexeme)} (Some (is.first, is.more)) None = sym found ∙ none.0 in
      cc

  -- the inputs of a role
  abbrev input_sorts : List Sort
  input_sorts = sorts.Name ∷ sorts.Symbol punctuator.Colon ∷ []

  pub input_missing : (Begins input_sorts (drop at text) → ⊥) → NoFront (IsInput (drop at text))
  input_missing none input to is = none (ap sort_of is.begins, (ap (λ l. sort_of (drop 1 l)) is.begins, tt))

  input_given : (input : Role × List Value) (to : List Lexeme) → Begins input_sorts (drop at text) → (is : IsInput (drop at text) input to) → AreValues (drop (at + 2) text) input.1 (Symbol punctuator.Semicolon ∷ to)
  input_given input to starts is =
      let rest : is.given ≡ drop (at + 2) text = ap (drop 2) (sym is.begins) ∙ further2 in
      subst (λ l. AreValues l input.1 (Symbol punctuator.Semicolon ∷ to)) rest (subst (AreValues is.given input.1) is.ends is.values)
    where
      further2 : drop 2 (drop at text) ≡ drop (at + 2) text
      further2 = drop-drop 2 at text

  pub input_valueless : Begins input_sorts (drop at text) → ValuesAt text (at + 2) None → NoFront (IsInput (drop at text))
  input_valueless starts none input to is = none input.1 to (input_given input to starts is)

  pub input_open : (values : List Value) (next : ℕ) → Begins input_sorts (drop at text) → FindsValues text (at + 2) values next → sort_of (drop next text) ≢ sorts.Symbol punctuator.Semicolon → NoFront (IsInput (drop at text))
  input_open values next starts found unlike input to is = unlike (sym (ap sort_of (found.only input.1 to (input_given input to starts is)).1))

  pub input_found : (name : List ℕ) (values : List Value) (next : ℕ) → Begins input_sorts (drop at text) → FindsValues text (at + 2) values next → sort_of (drop next text) ≡ sorts.Symbol punctuator.Semicolon
      → drop at text ≡ Name name ∷ drop (at + 1) text → StandsAt IsInput text at (record { 0 = name }, values) (next + 1)
  input_found name values next starts found ends named =
      let colon = (follows text sorts.Name (sorts.Symbol punctuator.Colon ∷ []) at (at + 1) refl starts).1.0 in
      let reads : IsInput (drop at text) (record { 0 = name }, values) (drop (next + 1) text) = record {
        given = drop (at + 2) text;
        begins = named ∙ ap (λ l. Name name ∷ l) (symbol_here text punctuator.Colon (at + 1) (at + 2) (omega arith) colon);
        behind = drop next text;
        values = found.reads;
        ends = symbol_here text punctuator.Semicolon next (next + 1) refl ends;
      } in
      let inside = within_here text punctuator.Semicolon next ends in
      let after = found.after in
      record { front = only_longest reads (λ other end is. (inputs_each _ _ _ _ _ other refl reads is).1); after = omega arith; within = omega arith }

  -- a change of a script
  module _ (version : ℕ) where
    pub untimed : (drop at text ≡ Name (codes "after") ∷ drop (at + 1) text → ⊥) → NoFront (IsTimed version (drop at text))
    untimed none timed to is = none (is.begins ∙ ap (λ l. Name (codes "after") ∷ l) (sym (ap (drop 1) is.begins) ∙ further text at (at + 1) refl))

    module _ (named : drop at text ≡ Name (codes "after") ∷ drop (at + 1) text) where
      rest_of : {digits : List ℕ} {given : List Lexeme} → drop at text ≡ Name (codes "after") ∷ Number digits ∷ given → (drop (at + 1) text ≡ Number digits ∷ given) × (given ≡ drop (at + 2) text)
      rest_of begins =
          let rest = ap (drop 1) (sym named ∙ begins) in
          (rest, sym (ap (drop 1) rest) ∙ further text (at + 1) (at + 2) (omega arith))

      pub unnumbered : None ≡ number greatest (drop (at + 1) text) → NoFront (IsTimed version (drop at text))
      unnumbered none timed to is = let found = is.after in let same = none ∙ ap (number greatest) (rest_of is.begins).0 in cc

      pub unchanged : NoFront (IsChange version inside_limit (drop (at + 2) text)) → NoFront (IsTimed version (drop at text))
      unchanged none timed to is = none timed.change to (subst (λ l. IsChange version inside_limit l timed.change to) (rest_of is.begins).1 is.change)

      pub timed_found : (after : ℕ) (change : PlainChange) (next : ℕ) → Some after ≡ number greatest (drop (at + 1) text) → StandsAt (IsChange version inside_limit) text (at + 2) change next
          → StandsAt (IsTimed version) text at (record { after = after; change = change }) next
      timed_found after change next found changes =
          let read = read_number greatest after (drop (at + 1) text) found in
          let reads : IsTimed version (drop at text) (record { after = after; change = change }) (drop next text) = record {
            digits = read.digits;
            given = drop (at + 2) text;
            begins = named ∙ ap (λ l. Name (codes "after") ∷ l) (read.first ∙ ap (λ l. Number read.digits ∷ l) (further text (at + 1) (at + 2) (omega arith)));
            after = sym read.value;
            change = changes.front.reads;
          } in
          let far = changes.after in
          record { front = only_longest reads (λ other end is. (timed_each _ _ _ _ _ other refl reads is).1); after = omega arith; within = changes.within }

  -- a choreography up to a `}`
  module _ (version : ℕ) where
    pub choreography_none : {place : ℕ} → EndsInChoreography version text at place → NoChoreography version (drop at text)
    choreography_none (missing here none) whole to is = none whole (closed_before to) is
    choreography_none (unclosed front no_close) whole to is = no_close (ap sort_of (choreography.settled front is refl).1)

    abbrev TermFound : FoundChoreo → Type 0
    TermFound found = Finds (IsShallow version Choreography inside_limit most_depth 0) 1 most_depth 0 text at found

    pub choreography_open : {found : FoundChoreo} → TermFound found → sort_of (drop found.at text) ≢ sorts.Symbol punctuator.RightBrace → EndsInChoreography version text at found.at
    choreography_open read unlike = unclosed read.front unlike

    pub choreography_found : {found : FoundChoreo} → TermFound found → sort_of (drop found.at text) ≡ sorts.Symbol punctuator.RightBrace → ChoreographyTaken version text at found.choreo.value (found.at + 1)
    choreography_found {found} read closes =
        let inside = within_here text punctuator.RightBrace found.at closes in
        let after = read.after in
        record { behind = drop found.at text; stands = read.front.reads; closes = symbol_here text punctuator.RightBrace found.at (found.at + 1) refl closes; after = omega arith; within = omega arith }

    -- the sections
    abbrev aioc_sorts : List Sort
    aioc_sorts = sorts.Reserved word.Aioc ∷ sorts.Symbol punctuator.LeftBrace ∷ []

    pub aioc_begins : Begins aioc_sorts (drop at text) → drop at text ≡ Reserved word.Aioc ∷ Symbol punctuator.LeftBrace ∷ drop (at + 2) text
    aioc_begins starts =
        let both = follows text (sorts.Reserved word.Aioc) (sorts.Symbol punctuator.LeftBrace ∷ []) at (at + 1) refl starts in
        reserved_here text word.Aioc at (at + 1) refl both.0 ∙ ap (λ l. Reserved word.Aioc ∷ l) (symbol_here text punctuator.LeftBrace (at + 1) (at + 2) (omega arith) both.1.0)

    -- where `aioc {` stands, the section is a choreography
    aioc_only : {from to : List Lexeme} {section : Section} → from ≡ drop at text → drop at text ≡ aioc_before (drop (at + 2) text) → IsSection version from section to → (P : Section → Type 0)
        → ((whole : Term) → IsChoreography version inside_limit (drop (at + 2) text) whole (closed_before to) → P (Aioc whole)) → P section
    aioc_only {to = to} froms starts (aioc {whole = whole} begins is closes) P go =
        go whole (subst (λ l. IsChoreography version inside_limit l whole (closed_before to)) (ap (drop 2) (sym begins ∙ froms ∙ starts)) (subst (IsChoreography version inside_limit _ whole) closes is))
    aioc_only froms starts (rules begins stand closes) P go = let s = ap sort_of (sym begins ∙ froms ∙ starts) in absurd cc
    aioc_only froms starts (environment begins stand closes) P go = let s = ap sort_of (sym begins ∙ froms ∙ starts) in absurd cc
    aioc_only froms starts (inputs begins stand closes) P go = let s = ap sort_of (sym begins ∙ froms ∙ starts) in absurd cc
    aioc_only froms starts (script begins stand closes) P go = let s = ap sort_of (sym begins ∙ froms ∙ starts) in absurd cc
    aioc_only froms starts (trace begins stand closes) P go = let s = ap sort_of (sym begins ∙ froms ∙ starts) in absurd cc

    pub second_untaken : (found : Joined) → drop at text ≡ aioc_before (drop (at + 2) text) → 0 < length found.choreos → NoSection version (drop at text) found
    second_untaken found starts some section to is = aioc_only refl starts is (IsSecond found) (λ whole is2. some)

    pub choreography_untaken : (found : Joined) → drop at text ≡ aioc_before (drop (at + 2) text) → NoChoreography version (drop (at + 2) text) → NoSection version (drop at text) found
    choreography_untaken found starts none section to is = aioc_only refl starts is (IsSecond found) (λ whole is2. absurd (none whole to is2))

    pub choreography_taken : (old new : Joined) (choreo : Choreo) (next : ℕ) → Begins aioc_sorts (drop at text) → ChoreographyTaken version text (at + 2) choreo next → new ≡ with_last old (Aioc (term choreo))
        → TakesSection version text at old new next
    choreography_taken old new choreo next starts taken joins =
        let after = taken.after in
        record { section = Aioc (term choreo); stands = aioc (aioc_begins starts) taken.stands taken.closes; joins = joins; after = omega arith; within = taken.within }

    -- every section has a bracket
    pub unopened : sort_of (drop (at + 1) text) ≢ sorts.Symbol punctuator.LeftBrace → BeginsSection (drop at text) → ⊥
    unopened unlike begins = go refl begins
      where
        second : {first : Lexeme} {from inside : List Lexeme} → from ≡ drop at text → from ≡ first ∷ Symbol punctuator.LeftBrace ∷ inside → ⊥
        second froms begins = unlike (ap sort_of (sym (further text at (at + 1) refl)) ∙ ap (λ l. sort_of (drop 1 l)) (sym froms ∙ begins))

        go : {from : List Lexeme} → from ≡ drop at text → BeginsSection from → ⊥
        go froms (begins_aioc begins) = second froms begins
        go froms (begins_rules begins) = second froms begins
        go froms (begins_environment begins) = second froms begins
        go froms (begins_inputs begins) = second froms begins
        go froms (begins_script begins) = second froms begins
        go froms (begins_trace begins) = second froms begins

    pub opened_here : (name : List ℕ) → drop at text ≡ Name name ∷ drop (at + 1) text → sort_of (drop (at + 1) text) ≡ sorts.Symbol punctuator.LeftBrace → drop at text ≡ opened_by name (drop (at + 2) text)
    opened_here name named opens = named ∙ ap (λ l. Name name ∷ l) (symbol_here text punctuator.LeftBrace (at + 1) (at + 2) (omega arith) opens)

    -- `rules`
    pub rules_taken : (old new : Joined) (new_items : List PlainRule) (next : ℕ) → drop at text ≡ Name (codes "rules") ∷ drop (at + 1) text → sort_of (drop (at + 1) text) ≡ sorts.Symbol punctuator.LeftBrace
        → TakesItems (IsRule version inside_limit) text (at + 2) old.rules new_items next → new ≡ record old { rules = new_items } → TakesSection version text at old new next
    rules_taken old new new_items next named opens taken joins =
        let after = taken.after in
        record {
          section = Rules taken.items;
          stands = rules (opened_here (codes "rules") named opens) taken.stand refl;
          joins = joins ∙ ap (λ list. record old { rules = list }) taken.joins;
          after = omega arith;
          within = taken.within;
        }

    pub rules_untaken : (found : Joined) → drop at text ≡ opened_by (codes "rules") (drop (at + 2) text) → NoItems (IsRule version inside_limit) (drop (at + 2) text)
        → NoSection version (drop at text) found
    rules_untaken found begun none section to is = go refl is
      where
        go : {from to : List Lexeme} {section : Section} → from ≡ drop at text → IsSection version from section to → IsSecond found section
        go froms (aioc begins stand closes) = absurd (let apart : ◌≡◌ {A = ℕ} 0 114 = sym (ap letter begins) ∙ ap letter froms ∙ ap letter begun in omega arith)
        go froms (rules {to = to} {items = items} begins stand closes) =
            absurd (none items to (subst (λ l. Many (IsRule version inside_limit) l items (closed_before to)) (ap (drop 2) (sym begins ∙ froms ∙ begun)) (subst (Many (IsRule version inside_limit) _ items) closes stand)))
        go froms (environment begins stand closes) = absurd (let apart : ◌≡◌ {A = ℕ} 101 114 = sym (ap letter begins) ∙ ap letter froms ∙ ap letter begun in omega arith)
        go froms (inputs begins stand closes) = absurd (let apart : ◌≡◌ {A = ℕ} 105 114 = sym (ap letter begins) ∙ ap letter froms ∙ ap letter begun in omega arith)
        go froms (script begins stand closes) = absurd (let apart : ◌≡◌ {A = ℕ} 115 114 = sym (ap letter begins) ∙ ap letter froms ∙ ap letter begun in omega arith)
        go froms (trace begins stand closes) = absurd (let apart : ◌≡◌ {A = ℕ} 116 114 = sym (ap letter begins) ∙ ap letter froms ∙ ap letter begun in omega arith)

    -- `env`
    pub environment_taken : (old new : Joined) (new_items : List (List ℕ × Value)) (next : ℕ) → drop at text ≡ Name (codes "env") ∷ drop (at + 1) text → sort_of (drop (at + 1) text) ≡ sorts.Symbol punctuator.LeftBrace
        → TakesItems IsBound text (at + 2) old.env new_items next → new ≡ record old { env = new_items } → TakesSection version text at old new next
    environment_taken old new new_items next named opens taken joins =
        let after = taken.after in
        record {
          section = Environment taken.items;
          stands = environment (opened_here (codes "env") named opens) taken.stand refl;
          joins = joins ∙ ap (λ list. record old { env = list }) taken.joins;
          after = omega arith;
          within = taken.within;
        }

    pub environment_untaken : (found : Joined) → drop at text ≡ opened_by (codes "env") (drop (at + 2) text) → NoItems IsBound (drop (at + 2) text)
        → NoSection version (drop at text) found
    environment_untaken found begun none section to is = go refl is
      where
        go : {from to : List Lexeme} {section : Section} → from ≡ drop at text → IsSection version from section to → IsSecond found section
        go froms (aioc begins stand closes) = absurd (let apart : ◌≡◌ {A = ℕ} 0 101 = sym (ap letter begins) ∙ ap letter froms ∙ ap letter begun in omega arith)
        go froms (rules begins stand closes) = absurd (let apart : ◌≡◌ {A = ℕ} 114 101 = sym (ap letter begins) ∙ ap letter froms ∙ ap letter begun in omega arith)
        go froms (environment {to = to} {items = items} begins stand closes) =
            absurd (none items to (subst (λ l. Many IsBound l items (closed_before to)) (ap (drop 2) (sym begins ∙ froms ∙ begun)) (subst (Many IsBound _ items) closes stand)))
        go froms (inputs begins stand closes) = absurd (let apart : ◌≡◌ {A = ℕ} 105 101 = sym (ap letter begins) ∙ ap letter froms ∙ ap letter begun in omega arith)
        go froms (script begins stand closes) = absurd (let apart : ◌≡◌ {A = ℕ} 115 101 = sym (ap letter begins) ∙ ap letter froms ∙ ap letter begun in omega arith)
        go froms (trace begins stand closes) = absurd (let apart : ◌≡◌ {A = ℕ} 116 101 = sym (ap letter begins) ∙ ap letter froms ∙ ap letter begun in omega arith)

    -- `inputs`
    pub inputs_taken : (old new : Joined) (new_items : List (Role × List Value)) (next : ℕ) → drop at text ≡ Name (codes "inputs") ∷ drop (at + 1) text → sort_of (drop (at + 1) text) ≡ sorts.Symbol punctuator.LeftBrace
        → TakesItems IsInput text (at + 2) old.inputs new_items next → new ≡ record old { inputs = new_items } → TakesSection version text at old new next
    inputs_taken old new new_items next named opens taken joins =
        let after = taken.after in
        record {
          section = Inputs taken.items;
          stands = inputs (opened_here (codes "inputs") named opens) taken.stand refl;
          joins = joins ∙ ap (λ list. record old { inputs = list }) taken.joins;
          after = omega arith;
          within = taken.within;
        }

    pub inputs_untaken : (found : Joined) → drop at text ≡ opened_by (codes "inputs") (drop (at + 2) text) → NoItems IsInput (drop (at + 2) text)
        → NoSection version (drop at text) found
    inputs_untaken found begun none section to is = go refl is
      where
        go : {from to : List Lexeme} {section : Section} → from ≡ drop at text → IsSection version from section to → IsSecond found section
        go froms (aioc begins stand closes) = absurd (let apart : ◌≡◌ {A = ℕ} 0 105 = sym (ap letter begins) ∙ ap letter froms ∙ ap letter begun in omega arith)
        go froms (rules begins stand closes) = absurd (let apart : ◌≡◌ {A = ℕ} 114 105 = sym (ap letter begins) ∙ ap letter froms ∙ ap letter begun in omega arith)
        go froms (environment begins stand closes) = absurd (let apart : ◌≡◌ {A = ℕ} 101 105 = sym (ap letter begins) ∙ ap letter froms ∙ ap letter begun in omega arith)
        go froms (inputs {to = to} {items = items} begins stand closes) =
            absurd (none items to (subst (λ l. Many IsInput l items (closed_before to)) (ap (drop 2) (sym begins ∙ froms ∙ begun)) (subst (Many IsInput _ items) closes stand)))
        go froms (script begins stand closes) = absurd (let apart : ◌≡◌ {A = ℕ} 115 105 = sym (ap letter begins) ∙ ap letter froms ∙ ap letter begun in omega arith)
        go froms (trace begins stand closes) = absurd (let apart : ◌≡◌ {A = ℕ} 116 105 = sym (ap letter begins) ∙ ap letter froms ∙ ap letter begun in omega arith)

    -- `script`
    pub script_taken : (old new : Joined) (new_items : List PlainTimed) (next : ℕ) → drop at text ≡ Name (codes "script") ∷ drop (at + 1) text → sort_of (drop (at + 1) text) ≡ sorts.Symbol punctuator.LeftBrace
        → TakesItems (IsTimed version) text (at + 2) old.script new_items next → new ≡ record old { script = new_items } → TakesSection version text at old new next
    script_taken old new new_items next named opens taken joins =
        let after = taken.after in
        record {
          section = Script taken.items;
          stands = script (opened_here (codes "script") named opens) taken.stand refl;
          joins = joins ∙ ap (λ list. record old { script = list }) taken.joins;
          after = omega arith;
          within = taken.within;
        }

    pub script_untaken : (found : Joined) → drop at text ≡ opened_by (codes "script") (drop (at + 2) text) → NoItems (IsTimed version) (drop (at + 2) text)
        → NoSection version (drop at text) found
    script_untaken found begun none section to is = go refl is
      where
        go : {from to : List Lexeme} {section : Section} → from ≡ drop at text → IsSection version from section to → IsSecond found section
        go froms (aioc begins stand closes) = absurd (let apart : ◌≡◌ {A = ℕ} 0 115 = sym (ap letter begins) ∙ ap letter froms ∙ ap letter begun in omega arith)
        go froms (rules begins stand closes) = absurd (let apart : ◌≡◌ {A = ℕ} 114 115 = sym (ap letter begins) ∙ ap letter froms ∙ ap letter begun in omega arith)
        go froms (environment begins stand closes) = absurd (let apart : ◌≡◌ {A = ℕ} 101 115 = sym (ap letter begins) ∙ ap letter froms ∙ ap letter begun in omega arith)
        go froms (inputs begins stand closes) = absurd (let apart : ◌≡◌ {A = ℕ} 105 115 = sym (ap letter begins) ∙ ap letter froms ∙ ap letter begun in omega arith)
        go froms (script {to = to} {items = items} begins stand closes) =
            absurd (none items to (subst (λ l. Many (IsTimed version) l items (closed_before to)) (ap (drop 2) (sym begins ∙ froms ∙ begun)) (subst (Many (IsTimed version) _ items) closes stand)))
        go froms (trace begins stand closes) = absurd (let apart : ◌≡◌ {A = ℕ} 116 115 = sym (ap letter begins) ∙ ap letter froms ∙ ap letter begun in omega arith)

    -- `trace`
    pub lines_taken : (found : Trace) (next : ℕ) → IsClosedTrace (drop at text) found.entries found.last (drop next text) → at ≤ next → next < length text → TraceTaken text at found (next + 1)
    lines_taken found next is after inside = record { behind = drop next text; stands = is.lines; closes = symbol_here text punctuator.RightBrace next (next + 1) refl is.closes; after = omega arith; within = omega arith }

    pub lines_untaken : (number : ℕ) → IsBadLine (drop at text) number → NoTrace (drop at text)
    lines_untaken number bad found to is = trace_or_bad_line (drop at text) (closed_before to) found.entries found.last number (record { lines = is; closes = refl }) bad

    -- where `trace {` stands, the section is a trace
    trace_only : {from to : List Lexeme} {section : Section} → from ≡ drop at text → drop at text ≡ opened_by (codes "trace") (drop (at + 2) text) → IsSection version from section to → (P : Section → Type 0)
        → ((found : Trace) → IsTrace (drop (at + 2) text) found.entries found.last (closed_before to) → P (Traced found)) → P section
    trace_only {to = to} froms begun (trace {found = found} begins stand closes) P go =
        go found (subst (λ l. IsTrace l found.entries found.last (closed_before to)) (ap (drop 2) (sym begins ∙ froms ∙ begun)) (subst (IsTrace _ found.entries found.last) closes stand))
    trace_only froms begun (aioc begins stand closes) P go = absurd (let apart : ◌≡◌ {A = ℕ} 0 116 = sym (ap letter begins) ∙ ap letter froms ∙ ap letter begun in omega arith)
    trace_only froms begun (rules begins stand closes) P go = absurd (let apart : ◌≡◌ {A = ℕ} 114 116 = sym (ap letter begins) ∙ ap letter froms ∙ ap letter begun in omega arith)
    trace_only froms begun (environment begins stand closes) P go = absurd (let apart : ◌≡◌ {A = ℕ} 101 116 = sym (ap letter begins) ∙ ap letter froms ∙ ap letter begun in omega arith)
    trace_only froms begun (inputs begins stand closes) P go = absurd (let apart : ◌≡◌ {A = ℕ} 105 116 = sym (ap letter begins) ∙ ap letter froms ∙ ap letter begun in omega arith)
    trace_only froms begun (script begins stand closes) P go = absurd (let apart : ◌≡◌ {A = ℕ} 115 116 = sym (ap letter begins) ∙ ap letter froms ∙ ap letter begun in omega arith)

    pub second_trace_untaken : (found : Joined) → drop at text ≡ opened_by (codes "trace") (drop (at + 2) text) → 0 < length found.traces → NoSection version (drop at text) found
    second_trace_untaken found begun some section to is = trace_only refl begun is (IsSecond found) (λ other is2. some)

    pub trace_untaken : (found : Joined) → drop at text ≡ opened_by (codes "trace") (drop (at + 2) text) → NoTrace (drop (at + 2) text) → NoSection version (drop at text) found
    trace_untaken found begun none section to is = trace_only refl begun is (IsSecond found) (λ other is2. absurd (none other to is2))

    pub trace_taken : (old new : Joined) (found : Trace) (next : ℕ) → drop at text ≡ Name (codes "trace") ∷ drop (at + 1) text → sort_of (drop (at + 1) text) ≡ sorts.Symbol punctuator.LeftBrace → TraceTaken text (at + 2) found next
        → new ≡ with_last old (Traced found) → TakesSection version text at old new next
    trace_taken old new found next named opens taken joins =
        let after = taken.after in
        record { section = Traced found; stands = trace (opened_here (codes "trace") named opens) taken.stands taken.closes; joins = joins; after = omega arith; within = taken.within }

    pub no_word_here : (Begins aioc_sorts (drop at text) → ⊥) → (drop at text ≡ Name (codes "rules") ∷ drop (at + 1) text → ⊥) → (drop at text ≡ Name (codes "env") ∷ drop (at + 1) text → ⊥)
        → (drop at text ≡ Name (codes "inputs") ∷ drop (at + 1) text → ⊥) → (drop at text ≡ Name (codes "script") ∷ drop (at + 1) text → ⊥) → (drop at text ≡ Name (codes "trace") ∷ drop (at + 1) text → ⊥) → BeginsSection (drop at text) → ⊥
    no_word_here no_aioc no_rules no_env no_inputs no_script no_trace begins = go refl begins
      where
        named : {name : List ℕ} {from others : List Lexeme} → from ≡ drop at text → from ≡ Name name ∷ others → drop at text ≡ Name name ∷ drop (at + 1) text
        named {name} froms begins = sym froms ∙ begins ∙ ap (λ l. Name name ∷ l) (sym (ap (drop 1) begins) ∙ ap (drop 1) froms ∙ further text at (at + 1) refl)

        go : {from : List Lexeme} → from ≡ drop at text → BeginsSection from → ⊥
        go froms (begins_aioc begins) = no_aioc (ap sort_of (sym froms ∙ begins), (ap (λ l. sort_of (drop 1 l)) (sym froms ∙ begins), tt))
        go froms (begins_rules begins) = no_rules (named froms begins)
        go froms (begins_environment begins) = no_env (named froms begins)
        go froms (begins_inputs begins) = no_inputs (named froms begins)
        go froms (begins_script begins) = no_script (named froms begins)
        go froms (begins_trace begins) = no_trace (named froms begins)

-- where the reading of a section ends, none stands that may stand there
begins_one : {version : ℕ} {from to : List Lexeme} {section : Section} → IsSection version from section to → BeginsSection from
begins_one (aioc begins is closes) = begins_aioc begins
begins_one (rules begins stand closes) = begins_rules begins
begins_one (environment begins stand closes) = begins_environment begins
begins_one (inputs begins stand closes) = begins_inputs begins
begins_one (script begins stand closes) = begins_script begins
begins_one (trace begins stand closes) = begins_trace begins

pub section_none : (version : ℕ) (text : List Lexeme) (at : ℕ) (found : Joined) (place : ℕ) → EndsInSection version text at found place → NoSection version (drop at text) found
section_none version text at found place (no_word here none) = λ section to is. absurd (none (begins_one is))
section_none version text at found place (second_choreography here begun some) = second_untaken text at version found begun some
section_none version text at found place (in_choreography begun first ends) = choreography_untaken text at version found begun (choreography_none text (at + 2) version ends)
section_none version text at found place (in_rules begun ends) = rules_untaken text at version found begun (no_items rules_each rule_never ends)
section_none version text at found place (in_environment begun ends) = environment_untaken text at version found begun (no_items bounds_each bound_never ends)
section_none version text at found place (in_inputs begun ends) = inputs_untaken text at version found begun (no_items inputs_each input_never ends)
section_none version text at found place (in_script begun ends) = script_untaken text at version found begun (no_items timed_each timed_never ends)
section_none version text at found place (second_trace here begun some) = second_trace_untaken text at version found begun some
section_none version text at found place (in_trace here begun first none) = trace_untaken text at version found begun none

-- the version at the front of a text
module _ (text : List Lexeme) where
  version_only : {other : ℕ} {inside : List Lexeme} → ((rest : List Lexeme) → text ≡ Name (codes "version") ∷ rest → number 2 rest ≡ Some 2 → ⊥) → HasVersion text other inside → (other ≡ 1) × (inside ≡ text)
  version_only none first_version = (refl, refl)
  version_only none (second_version {to = to} {digits = digits} begins two) = absurd (none (Number digits ∷ to) begins (rw two refl))

  pub unversioned : (text ≡ Name (codes "version") ∷ drop 1 text → ⊥) → FindsVersion text 1 0
  unversioned none = record {
    reads = first_version;
    latest = λ other inside has. let same = (version_only (λ rest begins two. none (begins ∙ ap (λ l. Name (codes "version") ∷ l) (sym (ap (drop 1) begins)))) has).0 in omega arith;
    only = λ other inside to section has is. version_only (λ rest begins two. none (begins ∙ ap (λ l. Name (codes "version") ∷ l) (sym (ap (drop 1) begins)))) has;
    within = omega arith;
  }

  pub no_two : (number 2 (drop 1 text) ≡ Some 2 → ⊥) → FindsVersion text 1 0
  no_two none = record {
    reads = first_version;
    latest = λ other inside has. let same = (version_only (λ rest begins two. none (ap (number 2) (ap (drop 1) begins) ∙ two)) has).0 in omega arith;
    only = λ other inside to section has is. version_only (λ rest begins two. none (ap (number 2) (ap (drop 1) begins) ∙ two)) has;
    within = omega arith;
  }

  pub versioned : text ≡ Name (codes "version") ∷ drop 1 text → Some 2 ≡ number 2 (drop 1 text) → FindsVersion text 2 2
  versioned named found =
      let read = read_number 2 2 (drop 1 text) found in
      let begins : text ≡ Name (codes "version") ∷ Number read.digits ∷ drop 2 text = named ∙ ap (λ l. Name (codes "version") ∷ l) (read.first ∙ ap (λ l. Number read.digits ∷ l) (drop-drop 1 1 text)) in
      record {
        reads = second_version begins (two_of read.digits read.value);
        latest = λ other inside has. no_later has;
        only = λ other inside to section has is. only begins has is;
        within = omega (arith, ap length begins);
      }
    where
      two_of : (digits : List ℕ) → Some 2 ≡ number_up_to 2 digits → digits_value 10 digits ≡ 2
      two_of digits value = go (nat_le (digits_value 10 digits) 2) value
        where
          go : (fits : Bool) → Some 2 ≡ cond fits (Some (digits_value 10 digits)) None → digits_value 10 digits ≡ 2
          go true is = cc
          go false is = absurd cc

      no_later : {from inside : List Lexeme} {other : ℕ} → HasVersion from other inside → other ≤ 2
      no_later first_version = omega arith
      no_later (second_version begins2 two) = omega arith

      only : {digits : List ℕ} {other : ℕ} {inside to : List Lexeme} {section : Section} → text ≡ Name (codes "version") ∷ Number digits ∷ drop 2 text → HasVersion text other inside → IsSection other inside section to → (other ≡ 2) × (inside ≡ drop 2 text)
      only begins first_version is = absurd (version_apart begins is)
      only begins (second_version begins2 two) is = (refl, sym (ap (drop 2) begins2))
