-- What a choreography gives a role to do has a text, and an accepted bundle has few nodes and few roles.
use Rattle.std.proofs.Common.{◌≡◌, ◌≤◌, ℕ, List, ◌∷◌, length, Bool, true, false, cond, ◌&&◌, Option, Some, None, refl}
use Rattle.std.specs.Prelude.{if◌then◌else◌, nat_lt}
use Rattle.std.proofs.lemmas.Bool.{ltb-false}
use Rattle.dioc_terms.specs.declared.names.Role.{Role}
use Rattle.dioc_terms.specs.Equality.{role_eq}
use Rattle.limits.specs.Limits.{most_nodes, most_roles}
use Rattle.dioc_terms.specs.Plain.{PlainBundle}
use Rattle.dioc_terms.specs.Processes as process
use Rattle.dioc_terms.specs.Processes.{Process}
use Rattle.dioc_terms.specs.Terms as term
use Rattle.dioc_terms.specs.Terms.{Term, is_in, nodes, others, head_of}
use Rattle.projection.specs.Projection.{projected}
use Rattle.rule_checks.specs.declared.refusals.Refusal.{Refusal}
use Rattle.rule_checks.specs.declared.refusals.Refusal.TheVariants.{TooMany}
use Rattle.rule_checks.specs.declared.refusals.Which.{Which}
use Rattle.rule_checks.specs.declared.refusals.Which.TheVariants.{Nodes, Roles}
use Rattle.rule_checks.specs.Refusals.{IsAccepted, first_refusal, too_many}
use Rattle.trace_text.specs.Process.{has_text}

both : (a b : Bool) → a ≡ true → b ≡ true → (a && b) ≡ true
both a b is also = λ j. is j && also j

either : (test : Bool) (P Q : Process) → has_text P ≡ true → has_text Q ≡ true → has_text (if test then P else Q) ≡ true
either true P Q is also = is
either false P Q is also = also

-- no message that is still to be sent or taken stands in a projection
pub projected_has_text : (cast : List Role) (I : Term) (r : Role) → has_text (projected cast I r) ≡ true
projected_has_text cast term.Skip r = refl
projected_has_text cast (term.Com i o a e b x) r =
    either (role_eq r a) (process.Send i o b e) (if role_eq r b then process.Recv i o a x else process.Skip) refl
    (either (role_eq r b) (process.Recv i o a x) process.Skip refl refl)
projected_has_text cast (term.Set i x q e) r = either (role_eq r q) (process.Assign i x e) process.Skip refl refl
projected_has_text cast (term.Input i x q) r = either (role_eq r q) (process.Read i x) process.Skip refl refl
projected_has_text cast (term.Seq I J) r = both (has_text (projected cast I r)) (has_text (projected cast J r)) (projected_has_text cast I r) (projected_has_text cast J r)
projected_has_text cast (term.Par I J) r = both (has_text (projected cast I r)) (has_text (projected cast J r)) (projected_has_text cast I r) (projected_has_text cast J r)
projected_has_text cast (term.If i q g I J) r =
    let P = projected cast I r in
    let Q = projected cast J r in
    let parts : (has_text P && has_text Q) ≡ true = both (has_text P) (has_text Q) (projected_has_text cast I r) (projected_has_text cast J r) in
    either (role_eq r q) (process.IfLead i g (others cast q (term.If i q g I J)) P Q)
    (if is_in r (term.If i q g I J) then process.IfFollow i q P Q else process.Skip) parts
    (either (is_in r (term.If i q g I J)) (process.IfFollow i q P Q) process.Skip parts refl)
projected_has_text cast (term.While i q g I) r =
    let P = projected cast I r in
    let part = projected_has_text cast I r in
    either (role_eq r q) (process.WhileLead i g (others cast q (term.While i q g I)) P)
    (if is_in r (term.While i q g I) then process.WhileFollow i q P else process.Skip) part
    (either (is_in r (term.While i q g I)) (process.WhileFollow i q P) process.Skip part refl)
projected_has_text cast (term.Scope i q I extra props level) r =
    let P = projected cast I r in
    let whole = term.Scope i q I extra props level in
    let inside = if is_in r I then P else process.Skip in
    let part = projected_has_text cast I r in
    either (role_eq r q) (process.ScopeLead (head_of cast i q I extra props level) (others cast q whole) P)
    (if is_in r whole then process.ScopeFollow i q inside else process.Skip) part
    (either (is_in r whole) (process.ScopeFollow i q inside) process.Skip (either (is_in r I) P process.Skip part refl) refl)

first_none : (first : Option Refusal) (rest : List (Option Refusal)) → first_refusal (first ∷ rest) ≡ None → (first ≡ None) × (first_refusal rest ≡ None)
first_none None rest h = (refl, h)
first_none (Some why) rest h = absurd cc

few : (which : Which) (most count : ℕ) (test : Bool) → nat_lt most count ≡ test → cond test (Some (TooMany which)) None ≡ None → count ≤ most
few which most count true is h = absurd cc
few which most count false is h = ltb-false most count is

-- an accepted bundle has few nodes and few roles
module _ (b : PlainBundle) (accepted : IsAccepted b) where
  pub few_nodes : nodes b.choreo ≤ most_nodes
  few_nodes = few Nodes most_nodes (nodes b.choreo) (nat_lt most_nodes (nodes b.choreo)) refl (first_none (too_many Nodes most_nodes (nodes b.choreo)) _ accepted.no_refusal).0

  pub few_roles : length b.cast ≤ most_roles
  few_roles = few Roles most_roles (length b.cast) (nat_lt most_roles (length b.cast)) refl
      (first_none (too_many Roles most_roles (length b.cast)) _ (first_none (too_many Nodes most_nodes (nodes b.choreo)) _ accepted.no_refusal).1).0
