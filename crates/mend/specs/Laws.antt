-- What holds of mended choreographies, and of mended bundles.
use Rattle.std.specs.Prelude.{◌≡◌, ◌↔◌, [], List, true, None, IsSome}
use Rattle.std.specs.List.{list_all}
use Rattle.dioc_terms.specs.declared.names.Role.{Role}
use Rattle.dioc_terms.specs.declared.entries.Entry.{Entry}
use Rattle.dioc_terms.specs.Bundles.{IsFormed}
use Rattle.dioc_terms.specs.Equality.{role_eq}
use Rattle.dioc_terms.specs.Plain.{PlainBundle}
use Rattle.dioc_terms.specs.Terms.{Term, is_in, self_messages, indexed}
use Rattle.connectedness.specs.Connected.{starters, in_each_group, connected}
use Rattle.connectedness.specs.Laws.{HasRoles}
use Rattle.global_steps.specs.Follow.{play}
use Rattle.rule_checks.specs.Refusals.{IsAccepted}
use Rattle.mend.specs.Names.{taken_name}
use Rattle.mend.specs.Mended.{closed, opened, mended}
use Rattle.mend.specs.Dropped.{dropped}
use Rattle.mend.specs.Traces.{mended_bundle, at_once, trace_before}
use Rattle.mend.specs.Refusals.{mend_refusal}

-- a mended term is connected, and has the same roles; none of them sends to itself unless one did
pub record MendedConnected : Type 0 where
  pub links : (cast : List Role) (I : Term) → HasRoles cast I → connected (mended cast I) ≡ true
  pub same_roles : (cast : List Role) (I : Term) (q : Role) → is_in q (mended cast I) ≡ is_in q I
  pub no_self_message : (cast : List Role) (I : Term) → self_messages I ≡ []
      → self_messages (mended cast I) ≡ []

-- closing leaves a term alone exactly where each of its endings has the role, and opening exactly
-- where nobody else begins it
pub record StaysAsItIs : Type 0 where
  pub closing : (k : Role) (I : Term) → (closed k I ≡ I) ↔ (in_each_group I k ≡ true)
  pub opening : (k : Role) (I : Term)
      → (opened k I ≡ I) ↔ (list_all (role_eq k) (starters I) ≡ true)

-- a text that names nothing that begins with `sq_` comes back where what was added is dropped, and
-- what is left gets the indices of a text
abbrev pub DropsToInput : Type 0
DropsToInput = (cast : List Role) (I : Term) → I ≡ indexed I → taken_name I ≡ None
    → indexed (dropped (mended cast I)) ≡ I

-- a mended bundle is accepted, where the bundle has no refusal
abbrev pub MendedAccepted : Type 0
MendedAccepted =
    (b : PlainBundle) → IsFormed b → mend_refusal b ≡ None → IsAccepted (mended_bundle b)

-- where the bundle has no refusal, it plays what the mended bundle plays, with its changes at once,
-- without the entries of added messages and with each index carried back
abbrev pub MendedPlaysWithout : Type 0
MendedPlaysWithout =
    (b : PlainBundle) (es : List Entry) → IsFormed b → mend_refusal b ≡ None
    → IsSome (play (mended_bundle b) es)
    → IsSome (play (at_once b) (trace_before b (mended_bundle b) es))
