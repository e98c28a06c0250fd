-- Small bundles with the first reason not to mend them, computed.
use Rattle.std.proofs.Common.{◌≡◌, ℕ, List, [], ◌∷◌, true, Some, None, refl, pos}
use Rattle.std.specs.Fmt.{digits}
use Rattle.std.specs.Prelude.{codes}
use Rattle.dioc_terms.specs.declared.names.Role.{Role}
use Rattle.dioc_terms.specs.declared.names.Index.{Index}
use Rattle.dioc_terms.specs.declared.values.Value.TheVariants as value
use Rattle.dioc_terms.specs.Expressions.{Expression, Const, Var}
use Rattle.dioc_terms.specs.Plain.{PlainRule, PlainBundle}
use Rattle.dioc_terms.specs.Terms.{Term, Com, Set, Seq, cast_of, indexed}
use Rattle.rule_checks.specs.declared.refusals.Refusal.TheVariants.{UnknownRole, SelfMessage}
use Rattle.rule_checks.specs.declared.refusals.Where.TheVariants as place
use Rattle.mend.specs.declared.refusals.MendRefusal.TheVariants.{Refused, NameTaken, TooDeep}
use Rattle.mend.specs.Refusals.{mend_refusal}
use Rattle.mend.specs.Texts.{mend_refusal_text}

abbrev role : List ℕ → Role
role name = record { 0 = name }

abbrev at : ℕ → Index
at place = record { epoch = 0; place = place }

-- `OP: FROM(1) -> TO(x)`; the text gives the indices
abbrev sends : List ℕ → List ℕ → List ℕ → Term
sends op from to = Com (at 0) op (role from) (Const (value.Int (pos 1))) (role to) (codes "x")

-- `X@ROLE = 1`
abbrev sets : List ℕ → List ℕ → Term
sets x r = Set (at 0) x (role r) (Const (value.Int (pos 1)))

abbrev rule : Expression → Term → PlainRule
rule cond body = record { name = codes "r"; priority = pos 0; cond = cond; body = indexed body }

abbrev bundle : Term → List PlainRule → PlainBundle
bundle I rules = record {
  version = 1;
  cast = cast_of I;
  choreo = indexed I;
  rules = rules;
  opening = 1;
  env = [];
  inputs = [];
  script = [];
  trace = record { entries = []; last = None };
}

-- `p: a(1) -> c(x); q: b(1) -> c(x)` isn't linked, and so can be mended; a body like it too
abbrev two : Term
two = Seq (sends (codes "p") (codes "a") (codes "c")) (sends (codes "q") (codes "b") (codes "c"))

mended-program : mend_refusal (bundle two []) ≡ None
mended-program = refl

mended-rule : mend_refusal (bundle two (rule (Const (value.Bool true)) two ∷ [])) ≡ None
mended-rule = refl

-- `sq_1@a = 1`
name_taken : mend_refusal (bundle (sets (codes "sq_1") (codes "a")) []) ≡ Some (NameTaken place.Program (codes "sq_1"))
name_taken = refl

-- a message of a role to itself comes before names, and the names of the program before the rules
message_first : mend_refusal (bundle (sends (codes "sq_o") (codes "a") (codes "a")) []) ≡ Some (Refused (SelfMessage place.Program (at 0)))
message_first = refl

program_first : mend_refusal (bundle (sets (codes "sq_1") (codes "a")) (rule (Const (value.Bool true)) (sets (codes "x") (codes "z")) ∷ []))
    ≡ Some (NameTaken place.Program (codes "sq_1"))
program_first = refl

-- of a rule the unknown role comes first, then the condition, then the body
role_first : mend_refusal (bundle two (rule (Var (codes "sq_c")) (sets (codes "sq_d") (codes "z")) ∷ []))
    ≡ Some (Refused (UnknownRole (place.Rule 0) (role (codes "z"))))
role_first = refl

condition_first : mend_refusal (bundle two (rule (Var (codes "sq_c")) (sets (codes "sq_d") (codes "a")) ∷ [])) ≡ Some (NameTaken (place.Rule 0) (codes "sq_c"))
condition_first = refl

body_taken : mend_refusal (bundle two (rule (Var (codes "x")) (sets (codes "sq_d") (codes "a")) ∷ [])) ≡ Some (NameTaken (place.Rule 0) (codes "sq_d"))
body_taken = refl

-- the texts
text-program : mend_refusal_text (NameTaken place.Program (codes "sq_1")) ≡ codes "name taken sq_1"
text-program = refl

text-rule : mend_refusal_text (NameTaken (place.Rule 2) (codes "sq_1")) ≡ codes "rule 2: name taken sq_1"
unfolding digits
text-rule = refl

text-deep : mend_refusal_text TooDeep ≡ codes "too deep"
text-deep = refl
