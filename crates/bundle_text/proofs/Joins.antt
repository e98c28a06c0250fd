-- Sections that are joined one after another.
use Rattle.std.proofs.Common.{◌≡◌, ◌+◌, ◌≤◌, List, [], ◌∷◌, ◌++◌, length, refl, ap, sym, ◌∙◌, arith, append_assoc, append-nil}
use Rattle.dioc_terms.specs.declared.bundles.Trace.{Trace}
use Rattle.dioc_terms.specs.Terms.{Term}
use Rattle.bundle_text.specs.Grammar.{Section, Aioc, Rules, Environment, Inputs, Script, Traced, Joined, with_first, nothing_joined, joined_sections, IsOnly}
use Rattle.bundle_text.specs.Readers.{with_last}
use Rattle.bundle_text.proofs.Missing.{IsSecond}

-- a section behind a section
first_of_last : (first last : Section) (found : Joined) → with_first first (with_last found last) ≡ with_last (with_first first found) last
first_of_last (Aioc whole) (Aioc other) found = refl
first_of_last (Rules items) (Rules others) found = ap (λ list. record found { rules = list }) (sym (append_assoc items found.rules others))
first_of_last (Environment items) (Environment others) found = ap (λ list. record found { env = list }) (sym (append_assoc items found.env others))
first_of_last (Inputs items) (Inputs others) found = ap (λ list. record found { inputs = list }) (sym (append_assoc items found.inputs others))
first_of_last (Script items) (Script others) found = ap (λ list. record found { script = list }) (sym (append_assoc items found.script others))
first_of_last (Aioc whole) (Rules others) found = refl
first_of_last (Aioc whole) (Environment others) found = refl
first_of_last (Aioc whole) (Inputs others) found = refl
first_of_last (Aioc whole) (Script others) found = refl
first_of_last (Rules items) (Aioc other) found = refl
first_of_last (Rules items) (Environment others) found = refl
first_of_last (Rules items) (Inputs others) found = refl
first_of_last (Rules items) (Script others) found = refl
first_of_last (Environment items) (Aioc other) found = refl
first_of_last (Environment items) (Rules others) found = refl
first_of_last (Environment items) (Inputs others) found = refl
first_of_last (Environment items) (Script others) found = refl
first_of_last (Inputs items) (Aioc other) found = refl
first_of_last (Inputs items) (Rules others) found = refl
first_of_last (Inputs items) (Environment others) found = refl
first_of_last (Inputs items) (Script others) found = refl
first_of_last (Script items) (Aioc other) found = refl
first_of_last (Script items) (Rules others) found = refl
first_of_last (Script items) (Environment others) found = refl
first_of_last (Script items) (Inputs others) found = refl
first_of_last (Traced one) (Traced other) found = refl
first_of_last (Aioc whole) (Traced other) found = refl
first_of_last (Traced one) (Aioc other) found = refl
first_of_last (Rules items) (Traced other) found = refl
first_of_last (Traced one) (Rules others) found = refl
first_of_last (Environment items) (Traced other) found = refl
first_of_last (Traced one) (Environment others) found = refl
first_of_last (Inputs items) (Traced other) found = refl
first_of_last (Traced one) (Inputs others) found = refl
first_of_last (Script items) (Traced other) found = refl
first_of_last (Traced one) (Script others) found = refl

alone : (section : Section) → joined_sections (section ∷ []) ≡ with_last nothing_joined section
alone (Aioc whole) = refl
alone (Rules items) = ap (λ list. record nothing_joined { rules = list }) (append-nil items)
alone (Environment items) = ap (λ list. record nothing_joined { env = list }) (append-nil items)
alone (Inputs items) = ap (λ list. record nothing_joined { inputs = list }) (append-nil items)
alone (Script items) = ap (λ list. record nothing_joined { script = list }) (append-nil items)
alone (Traced found) = refl

pub joined_last : (sections : List Section) (last : Section) → joined_sections (sections ++ last ∷ []) ≡ with_last (joined_sections sections) last
joined_last [] last = alone last
joined_last (first ∷ rest) last = ap (with_first first) (joined_last rest last) ∙ first_of_last first last (joined_sections rest)

-- a further choreography is one too many
second_choreos : (whole : Term) (sections rest : List Section) → length (joined_sections sections).choreos + 1 ≤ length (joined_sections (sections ++ Aioc whole ∷ rest)).choreos
second_choreos whole [] rest = omega arith
second_choreos whole (first ∷ others) rest = by_kind first (second_choreos whole others rest)
  where
    by_kind : (first : Section) → length (joined_sections others).choreos + 1 ≤ length (joined_sections (others ++ Aioc whole ∷ rest)).choreos → length (joined_sections (first ∷ others)).choreos + 1 ≤ length (joined_sections (first ∷ (others ++ Aioc whole ∷ rest))).choreos
    by_kind (Aioc other) more = omega arith
    by_kind (Rules items) more = more
    by_kind (Environment items) more = more
    by_kind (Inputs items) more = more
    by_kind (Script items) more = more
    by_kind (Traced found) more = more

-- and so is a further trace
second_traces : (found : Trace) (sections rest : List Section) → length (joined_sections sections).traces + 1 ≤ length (joined_sections (sections ++ Traced found ∷ rest)).traces
second_traces found [] rest = omega arith
second_traces found (first ∷ others) rest = by_kind first (second_traces found others rest)
  where
    by_kind : (first : Section) → length (joined_sections others).traces + 1 ≤ length (joined_sections (others ++ Traced found ∷ rest)).traces → length (joined_sections (first ∷ others)).traces + 1 ≤ length (joined_sections (first ∷ (others ++ Traced found ∷ rest))).traces
    by_kind (Traced other) more = omega arith
    by_kind (Aioc whole) more = more
    by_kind (Rules items) more = more
    by_kind (Environment items) more = more
    by_kind (Inputs items) more = more
    by_kind (Script items) more = more

only_few : (traces : List Trace) (found : Trace) → IsOnly traces found → length traces ≤ 1
only_few [] found is = omega arith
only_few (only ∷ []) found is = omega arith
only_few (first ∷ second ∷ rest) found is = absurd is

pub no_second : (section : Section) (sections rest : List Section) (choreo : Term) (found : Trace) → IsSecond (joined_sections sections) section → (joined_sections (sections ++ section ∷ rest)).choreos ≡ choreo ∷ [] → IsOnly (joined_sections (sections ++ section ∷ rest)).traces found → ⊥
no_second (Aioc whole) sections rest choreo found second one only = let more = second_choreos whole sections rest in omega (arith, ap length one)
no_second (Rules items) sections rest choreo found second one only = second
no_second (Environment items) sections rest choreo found second one only = second
no_second (Inputs items) sections rest choreo found second one only = second
no_second (Script items) sections rest choreo found second one only = second
no_second (Traced other) sections rest choreo found second one only =
    let more = second_traces other sections rest in
    let few = only_few (joined_sections (sections ++ Traced other ∷ rest)).traces found only in
    omega arith
