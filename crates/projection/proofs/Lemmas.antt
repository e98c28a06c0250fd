-- Who has something to do in a projection.
use Rattle.std.proofs.Common.{◌≡◌, Bool, true, false, ◌&&◌, ◌||◌, not, if◌then◌else◌, refl, sym, ap, ap₂, ◌∙◌}
use Rattle.std.proofs.lemmas.Bool.{or_left}
use Rattle.dioc_terms.specs.Equality.{role_eq, member}
use Rattle.dioc_terms.specs.Processes.{Process, Skip}
use Rattle.dioc_terms.specs.Terms as term
use Rattle.dioc_terms.specs.Terms.{Term, is_in}
use Rattle.process_steps.specs.Steps.{ended}
use Rattle.projection.specs.Laws.{OutsidersHaveEnded}

-- a process that is one of two that haven't ended, or none
one_of : (s t : Bool) (P Q : Process) → ended P ≡ false → ended Q ≡ false → ended (if s then P else if t then Q else Skip) ≡ not (s || t)
one_of true t P Q h k = h
one_of false true P Q h k = k
one_of false false P Q h k = refl

one : (s : Bool) (P : Process) → ended P ≡ false → ended (if s then P else Skip) ≡ not s
one true P h = h
one false P h = refl

-- the leader, or else a role of the whole
leads_or_follows : (s t : Bool) (P Q : Process) → (s ≡ true → t ≡ true) → ended P ≡ false → ended Q ≡ false
    → ended (if s then P else if t then Q else Skip) ≡ not t
leads_or_follows true t P Q is h k = h ∙ sym (ap not (is refl))
leads_or_follows false true P Q is h k = k
leads_or_follows false false P Q is h k = refl

neither : (s t : Bool) → (not s && not t) ≡ not (s || t)
neither true t = refl
neither false t = refl

pub outsiders-have_ended : OutsidersHaveEnded
outsiders-have_ended cast term.Skip q = refl
outsiders-have_ended cast (term.Com i o a e b x) q = one_of (role_eq q a) (role_eq q b) _ _ refl refl
outsiders-have_ended cast (term.Set i x r e) q = one (role_eq q r) _ refl
outsiders-have_ended cast (term.Input i x r) q = one (role_eq q r) _ refl
outsiders-have_ended cast (term.Seq I J) q =
    ap₂ (λ s t. s && t) (outsiders-have_ended cast I q) (outsiders-have_ended cast J q) ∙ neither (is_in q I) (is_in q J)
outsiders-have_ended cast (term.Par I J) q =
    ap₂ (λ s t. s && t) (outsiders-have_ended cast I q) (outsiders-have_ended cast J q) ∙ neither (is_in q I) (is_in q J)
outsiders-have_ended cast (term.If i r g I J) q = leads_or_follows (role_eq q r) (is_in q (term.If i r g I J)) _ _
    (λ h. or_left (role_eq q r || is_in q I) (is_in q J) (or_left (role_eq q r) (is_in q I) h)) refl refl
outsiders-have_ended cast (term.While i r g I) q = leads_or_follows (role_eq q r) (is_in q (term.While i r g I)) _ _
    (λ h. or_left (role_eq q r) (is_in q I) h) refl refl
outsiders-have_ended cast (term.Scope i r I extra props level) q = leads_or_follows (role_eq q r) (is_in q (term.Scope i r I extra props level)) _ _
    (λ h. or_left (role_eq q r || is_in q I) (member q extra) (or_left (role_eq q r) (is_in q I) h)) refl refl
