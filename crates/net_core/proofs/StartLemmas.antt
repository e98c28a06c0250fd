-- What a net is started with stands for the network before its first step.
use Rattle.std.proofs.Common.{◌≡◌, ◌<◌, ◌-◌, ℕ, List, [], ◌∷◌, length, map, true, refl, sym, ap, ◌∙◌, subst, arith}
use Rattle.std.specs.List.{AllByRecursion}
use Rattle.std.specs.Map.{lookup}
use Rattle.dioc_terms.specs.declared.bundles.Change.{Change}
use Rattle.dioc_terms.specs.declared.bundles.Rule.{Rule}
use Rattle.dioc_terms.specs.declared.bundles.Timed.{Timed}
use Rattle.dioc_terms.specs.declared.names.Role.{Role}
use Rattle.dioc_terms.specs.Bundles.{IsFormed, adds}
use Rattle.dioc_terms.specs.Equality.{key_eq, member}
use Rattle.dioc_terms.specs.Messages.{visible}
use Rattle.dioc_terms.specs.Plain.{PlainRule, PlainBundle, plain_rule}
use Rattle.dioc_terms.specs.Rules.{opening_book}
use Rattle.dioc_terms.specs.TermLaws.{CastsAreRoles}
use Rattle.dioc_terms.specs.Terms.{is_in}
use Rattle.marked_laws.specs.Laws.{IsSound}
use Rattle.network_steps.specs.Network.{network_run, network_start}
use Rattle.role_mailbox.specs.Pending.{messages}
use Rattle.rule_book.proofs.OrderLemmas.{numbers_from-below}
use Rattle.rule_book.specs.KeptBooks.{book_of, coming, IsBookOf}
use Rattle.net_core.specs.Standing.{Body, ScriptedChange, Parts, HoldsRun, body_of, due_of, local_in}

-- the changes are those of the script
changes_of : (rules : List PlainRule) (script : List Timed) → map (λ (due : ScriptedChange). due.change) (map (due_of rules) script) ≡ map (λ (timed : Timed). timed.change) script
changes_of rules [] = refl
changes_of rules (timed ∷ rest) = ap (λ (l : List Change). timed.change ∷ l) (changes_of rules rest)

-- the bodies of rules without their places in memory
pub bodies_of : (rules : List Rule) → map (λ rule. body_of (plain_rule rule)) rules ≡ map body_of (map plain_rule rules)
bodies_of [] = refl
bodies_of (rule ∷ rest) = ap (λ (l : List Body). body_of (plain_rule rule) ∷ l) (bodies_of rest)

pub stands_started : (b : PlainBundle) (limit : ℕ) (parts : Parts) → IsSound b → parts.cast ≡ b.cast → parts.locals ≡ map (local_in (network_start b)) b.cast → messages parts.mail ≡ []
    → book_of parts.book ≡ opening_book b.rules b.opening b.env → IsBookOf b.rules parts.book → coming parts.book ≡ map (λ (timed : Timed). timed.change) b.script
    → parts.bodies ≡ map body_of b.rules → parts.coming ≡ map (due_of b.rules) b.script → parts.updates ≡ 0 → parts.history ≡ [] → HoldsRun b limit parts
stands_started b limit parts sound cast locals mail book of next bodies script updates history = record {
  sound = sound;
  network = network_start b;
  runs = ap (network_run b) history;
  within = omega (arith, ap length history);
  cast = cast;
  locals = locals;
  pending = λ k. ap (lookup (key_eq k)) mail;
  book = book;
  of = of;
  next = next ∙ sym (changes_of b.rules b.script) ∙ ap (map (λ (due : ScriptedChange). due.change)) (sym script);
  bodies = bodies;
  coming = script;
  updates = updates;
  visible = ap (λ h. length (visible h)) (sym history);
}

-- the roles of the choreography are of the cast
pub roles_of_cast : CastsAreRoles → (b : PlainBundle) → IsFormed b → (q : Role) → is_in q b.choreo ≡ true → member q b.cast ≡ true
roles_of_cast casts b formed q in_it = ap (member q) formed.cast ∙ casts.same q b.choreo ∙ in_it

-- the script adds rules of the bundle
pub adds_rules : (b : PlainBundle) → IsFormed b → AllByRecursion (λ m. m < length b.rules) (adds b.script)
adds_rules b formed = subst (AllByRecursion (λ m. m < length b.rules)) (sym formed.added)
    (numbers_from-below (length b.rules) b.opening (length b.rules - b.opening) (omega (arith, formed.opening)))
