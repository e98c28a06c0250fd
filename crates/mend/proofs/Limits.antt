-- What the size of a mended text says of its tests.
use Rattle.std.proofs.Common.{◌≡◌, ◌≤◌, ◌<◌, ℕ, List, Option, Some, None, refl, sym, subst}
use Rattle.std.specs.Prelude.{IfSome, MatchOption}
use Rattle.std.proofs.lemmas.Bool.{le-ltb, lt-ltb}
use Rattle.dioc_terms.specs.declared.names.Role.{Role}
use Rattle.dioc_terms.specs.declared.choreographies.Choreo.{Choreo}
use Rattle.dioc_terms.specs.Terms.{Term, term, nodes}
use Rattle.limits.specs.Limits.{most_nodes, most_body_nodes}
use Rattle.mend.specs.Calls.{IsMendedFrom}
use Rattle.mend.specs.Mended.{mended}
use Rattle.rule_checks.specs.declared.refusals.Refusal.TheVariants.{TooMany, BodyTooBig}
use Rattle.rule_checks.specs.declared.refusals.Which.TheVariants.{Nodes}
use Rattle.rule_checks.specs.Refusals.{body_too_big}
use Rattle.mend.specs.declared.refusals.MendRefusal.TheVariants.{Refused}
use Rattle.mend.specs.Refusals.{first_mend_refusal, too_deep, mended_size_tests}
use Rattle.mend.proofs.Tests.{only_one}

-- few nodes leave the depth to be looked at
pub sizes_within : (I : Term) → nodes I ≤ most_nodes → first_mend_refusal (mended_size_tests I) ≡ too_deep I
sizes_within I h = rw (le-ltb most_nodes (nodes I) h) (only_one (too_deep I))

pub sizes_past : (I : Term) → most_nodes < nodes I → first_mend_refusal (mended_size_tests I) ≡ Some (Refused (TooMany Nodes))
sizes_past I h = rw (lt-ltb most_nodes (nodes I) h) refl

pub body_past : (n : ℕ) (I : Term) → most_body_nodes < nodes I → body_too_big n I ≡ Some (BodyTooBig n)
body_past n I h = rw (lt-ltb most_body_nodes (nodes I) h) refl

-- what `mend_within` answers, said of the answer itself
pub within : (cast : List Role) (I : Term) (most : ℕ) (made : Option Choreo) → MatchOption made (most < nodes (mended cast I)) (λ _. nodes (mended cast I) ≤ most)
    → IfSome made (λ c. IsMendedFrom cast I (term c))
    → MatchOption made (most < nodes (mended cast I)) (λ c. (term c ≡ mended cast I) × (nodes (term c) ≤ most))
within cast I most None few is = few
within cast I most (Some c) few is = (is.mended, subst (λ T. nodes T ≤ most) (sym is.mended) few)
