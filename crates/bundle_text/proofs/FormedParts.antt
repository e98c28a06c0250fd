-- Which parts of a bundle are formed: those that a text can spell and that fit the version.
use Rattle.std.proofs.Common.{◌≡◌, ℕ, ◌≤◌, Bool, true, ◌&&◌, List, [], ◌∷◌, ◌++◌, refl}
use Rattle.std.specs.List.{list_all, AllByRecursion}
use Rattle.dioc_terms.specs.declared.bundles.Trace.{Trace}
use Rattle.limits.specs.Limits.{largest}
use Rattle.dioc_terms.specs.Plain.{PlainRule}
use Rattle.dioc_terms.specs.Bundles.{is_identifier, is_formed_binding, is_formed_inputs, is_formed_entry, is_formed_last, IsFormedTerm, IsFormedRule}
use Rattle.dioc_syntax.specs.Laws.{FitsVersion as BodyFits}
use Rattle.rule_syntax.specs.Grammar.{PlainChange, Add, Drop, Env}
use Rattle.rule_syntax.specs.Laws.{FitsVersion}
use Rattle.bundle_text.specs.Grammar.{PlainTimed, Section, Aioc, Rules, Environment, Inputs, Script, Traced}

pub record IsRuleOf (version : ℕ) (rule : PlainRule) : Type 0 where
  pub formed : IsFormedRule rule
  pub fits : FitsVersion version rule

abbrev pub IsFormedChange : ℕ → PlainChange → Type 0
IsFormedChange version (Add rule) = IsRuleOf version rule
IsFormedChange version (Drop name) = is_identifier name ≡ true
IsFormedChange version (Env key value) = is_formed_binding (key, value) ≡ true

pub record IsFormedTimed (version : ℕ) (timed : PlainTimed) : Type 0 where
  pub after : timed.after ≤ largest
  pub change : IsFormedChange version timed.change

abbrev pub IsFormedTrace : Trace → Type 0
IsFormedTrace trace = (list_all is_formed_entry trace.entries ≡ true) × (is_formed_last trace.last ≡ true)

abbrev pub IsFormedSection : ℕ → Section → Type 0
IsFormedSection version (Aioc whole) = IsFormedTerm whole × BodyFits version whole
IsFormedSection version (Rules items) = AllByRecursion (IsRuleOf version) items
IsFormedSection version (Environment items) = AllByRecursion (λ bound. is_formed_binding bound ≡ true) items
IsFormedSection version (Inputs items) = AllByRecursion (λ input. is_formed_inputs input ≡ true) items
IsFormedSection version (Script items) = AllByRecursion (IsFormedTimed version) items
IsFormedSection version (Traced found) = IsFormedTrace found

-- of each item, and of each of others
pub all_both : {A : Type 0} (P : A → Type 0) (items others : List A) → AllByRecursion P items → AllByRecursion P others → AllByRecursion P (items ++ others)
all_both P [] others all more = more
all_both P (first ∷ rest) others all more = (all.0, all_both P rest others all.1 more)

pub all_first : {A : Type 0} (P : A → Type 0) (items others : List A) → AllByRecursion P (items ++ others) → AllByRecursion P items
all_first P [] others all = tt
all_first P (first ∷ rest) others all = (all.0, all_first P rest others all.1)

pub all_rest : {A : Type 0} (P : A → Type 0) (items others : List A) → AllByRecursion P (items ++ others) → AllByRecursion P others
all_rest P [] others all = all
all_rest P (first ∷ rest) others all = all_rest P rest others all.1

-- of each item something else follows
pub all_mapped : {A : Type 0} (P Q : A → Type 0) → ((item : A) → P item → Q item) → (items : List A) → AllByRecursion P items → AllByRecursion Q items
all_mapped P Q follows [] all = tt
all_mapped P Q follows (first ∷ rest) all = (follows first all.0, all_mapped P Q follows rest all.1)

-- a test that holds of each
pub to_test : {A : Type 0} (test : A → Bool) (items : List A) → AllByRecursion (λ item. test item ≡ true) items → list_all test items ≡ true
to_test test [] all = refl
to_test test (first ∷ rest) all = let one = all.0 in let more = to_test test rest all.1 in λ j. one j && more j
