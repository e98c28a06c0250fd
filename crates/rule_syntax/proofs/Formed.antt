-- What is read of a rule is formed.
use Rattle.std.proofs.Common.{◌≡◌, ℕ, zero, suc, ◌≤◌, ◌⊎◌, inl, inr, Bool, true, false, cond, nat_le, List, ◌∷◌, Some, None, ℤ, pos, negsuc, neg_ℤ, refl, ap, sym, ◌∙◌, subst, arith}
use Rattle.std.specs.Prelude.{int_le}
use Rattle.std.specs.List.{AllByRecursion}
use Rattle.std.specs.Str.Parse.{digits_value}
use borrow.Author.Tests.{leb-true, le-leb}
use Rattle.dioc_terms.specs.Plain.{PlainRule}
use Rattle.dioc_terms.specs.Bundles.{IsFormedRule, IsFormedTerm}
use Rattle.aioc_tokens.specs.Lexemes.{Lexeme, HasLexemes}
use Rattle.expr_syntax.specs.Constants.{number_up_to}
use Rattle.expr_syntax.proofs.ReadFormed.{CanBeWritten, identifier_valid, expression_formed, valid_from, all_valid, constant_valid}
use Rattle.dioc_syntax.specs.Laws.{FitsVersion as BodyFits}
use Rattle.dioc_syntax.proofs.Marks.{stands_marked}
use Rattle.dioc_syntax.proofs.FormedTerms.{stands_valid, stands_fits}
use Rattle.rule_syntax.specs.Grammar.{HasPriority, no_priority, priority, negative_priority, IsRule, IsBinding}
use Rattle.rule_syntax.specs.Laws.{FitsVersion, ReadIsFormed}

bounded : (most n : ℕ) (digits : List ℕ) → number_up_to most digits ≡ Some n → n ≤ most
bounded most n digits found = go (nat_le (digits_value 10 digits) most) refl found
  where
    go : (fits : Bool) → nat_le (digits_value 10 digits) most ≡ fits → cond fits (Some (digits_value 10 digits)) None ≡ Some n → n ≤ most
    go true is found = let same : digits_value 10 digits ≡ n = cc in let small = leb-true (digits_value 10 digits) most is in omega arith
    go false is found = absurd cc

-- what is read of a priority
record IsPriority (version : ℕ) (z : ℤ) (to : List Lexeme) : Type 0 where
  least : int_le (negsuc 999999) z ≡ true
  most : int_le z (pos 1000000) ≡ true
  fits : (version ≡ 2) ⊎ (z ≡ pos 0)
  rest : AllByRecursion CanBeWritten to

negative_bounds : (n : ℕ) → n ≤ 1000000 → (int_le (negsuc 999999) (neg_ℤ (pos n)) ≡ true) × (int_le (neg_ℤ (pos n)) (pos 1000000) ≡ true)
negative_bounds zero small = (refl, refl)
negative_bounds (suc n) small = (le-leb n 999999 (omega arith), refl)

priority_valid : {version : ℕ} {from to : List Lexeme} {z : ℤ} → HasPriority version from z to → AllByRecursion CanBeWritten from → IsPriority version z to
priority_valid no_priority valid = record { least = refl; most = refl; fits = inr refl; rest = valid }
priority_valid (priority {digits = digits} {n = n} two begins small) valid = record {
  least = refl;
  most = le-leb n 1000000 (bounded 1000000 n digits small);
  fits = inl two;
  rest = (subst (AllByRecursion CanBeWritten) begins valid).1.1;
}
priority_valid (negative_priority {digits = digits} {n = n} two begins small) valid =
    let bounds = negative_bounds n (bounded 1000000 n digits small) in
    record { least = bounds.0; most = bounds.1; fits = inl two; rest = (subst (AllByRecursion CanBeWritten) begins valid).1.1.1 }

fits_both : {version : ℕ} (rule : PlainRule) → (version ≡ 2) ⊎ (rule.priority ≡ pos 0) → BodyFits version rule.body → FitsVersion version rule
fits_both rule (inl two) body = inl two
fits_both rule (inr none) (inl two) = inl two
fits_both rule (inr none) (inr body) = inr (none, body)

-- a rule, and what is left behind it
pub rule_valid : {version room : ℕ} {from to : List Lexeme} {rule : PlainRule} → IsRule version room from rule to → AllByRecursion CanBeWritten from
    → IsFormedRule rule × FitsVersion version rule × AllByRecursion CanBeWritten to
rule_valid {rule = rule} is valid =
    let head = subst (AllByRecursion CanBeWritten) is.begins valid in
    let ranks = priority_valid is.priority head.1.1 in
    let opened = subst (AllByRecursion CanBeWritten) is.opens ranks.rest in
    let condition = expression_formed opened.1.1.1 is.cond in
    let tested = subst (AllByRecursion CanBeWritten) is.does condition.1 in
    let body = stands_valid is.body.stands tested.1.1.1 in
    let closed = subst (AllByRecursion CanBeWritten) is.closes body.1 in (
      record {
        name = identifier_valid rule.name (head.1.0 (λ e. cc));
        least = ranks.least;
        most = ranks.most;
        condition = condition.0;
        body = record { indices = stands_marked is.body.stands; parts = body.0; depth = is.body.shallow };
      },
      fits_both rule ranks.fits (stands_fits is.body.stands),
      closed.1.1,
    )

pub read_formed : ReadIsFormed
read_formed bytes found at version room rule to has is = let all = rule_valid is (valid_from at found (all_valid bytes found has)) in (all.0, all.1)
