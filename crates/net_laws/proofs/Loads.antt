-- In a reachable network each pending message carries what its tag stands for.
use Rattle.std.proofs.Common.{◌≡◌, ◌⊎◌, List, true, Option, Some, None, refl, sym, ap, ◌∙◌, subst, inl, inr, ⊎_elim}
use Rattle.dioc_terms.specs.declared.names.Role.{Role}
use Rattle.dioc_terms.specs.declared.processes.Key.{Key}
use Rattle.dioc_terms.specs.declared.processes.Tag.TheVariants.{Op, Begin}
use Rattle.dioc_terms.specs.Equality.{key_eq}
use Rattle.dioc_terms.specs.Processes.{Load, Val}
use Rattle.process_steps.specs.Laws.{load_fits}
use Rattle.process_steps.specs.Steps.{key}
use Rattle.marked_laws.proofs.Constructs.{Phase, Told, Sent, Kind, Branch, Turning, Stopping, Scoped, Releasing, tag, told, letter, peer, opened, own_mail, Begins}
use Rattle.marked_laws.proofs.Equality.{key_same}
use Rattle.marked_laws.proofs.Mark.{Mark, Still, Flying, Over, First, Second, Both, Held, Spent, mail, first_of_two, Fine}
use Rattle.marked_laws.proofs.Shapes.{none_some, if_some}

-- what a leader tells fits its tag
told_fits : (cast : List Role) (k : Kind) (q : Role) → Begins cast k → load_fits (tag k) (told k q) ≡ true
told_fits cast (Branch i r g I J b) q begins = refl
told_fits cast (Turning i r g I) q begins = refl
told_fits cast (Stopping i r g I) q begins = refl
told_fits cast (Scoped i r I extra props level begin B) q begins =
    ⊎_elim (λ keeps. ap (load_fits Begin) (keeps.1 q)) (λ part. ap (load_fits Begin) (part.1 q)) begins
told_fits cast (Releasing i r I extra props level) q begins = refl

abbrev MessageFits : Option (Key × Load) → Type 0
MessageFits None = Unit {0}
MessageFits (Some message) = load_fits (message.0).tag message.1 ≡ true

letter_fits : (cast : List Role) (k : Kind) (q : Role) (phase : Phase) → Begins cast k → MessageFits (letter k q phase)
letter_fits cast k q Told begins = told_fits cast k q begins
letter_fits cast (Turning i r g I) q Sent begins = refl
letter_fits cast (Scoped i r I extra props level begin B) q Sent begins = refl
letter_fits cast k q phase begins = tt

opened_fits : (o : Option (Key × Load)) (j : Key) (l : Load) → MessageFits o → opened o j ≡ Some l → load_fits j.tag l ≡ true
opened_fits None j l fits h = absurd (none_some h)
opened_fits (Some message) j l fits h =
    let parts = if_some (key_eq j message.0) message.1 h in
    subst (λ (k : Key). load_fits k.tag l ≡ true) (sym (key_same j message.0 parts.0)) (ap (load_fits (message.0).tag) parts.1 ∙ fits)

first_cases : (x y : Option Load) (l : Load) → first_of_two x y ≡ Some l → (x ≡ Some l) ⊎ (y ≡ Some l)
first_cases None y l h = inr h
first_cases (Some m) y l h = inl h

-- the pending message of a mark fits the tag of its key
pub mail_of_tag : (cast : List Role) (M : Mark) → Fine cast M → (j : Key) (l : Load) → mail M j ≡ Some l → load_fits j.tag l ≡ true
mail_of_tag cast (Still I) fine j l h = absurd (none_some h)
mail_of_tag cast (Flying i o a e b x v) fine j l h =
    let parts = if_some (key_eq j (key a b i (Op o))) (Val v) h in
    subst (λ (k : Key). load_fits k.tag l ≡ true) (sym (key_same j (key a b i (Op o)) parts.0)) (ap (load_fits (Op o)) parts.1)
mail_of_tag cast (Over I) fine j l h = absurd (none_some h)
mail_of_tag cast (First M J) fine j l h = mail_of_tag cast M fine.0 j l h
mail_of_tag cast (Second M N) fine j l h =
    ⊎_elim (λ k. mail_of_tag cast M fine.0 j l k) (λ k. mail_of_tag cast N fine.1 j l k) (first_cases (mail M j) (mail N j) l h)
mail_of_tag cast (Both M N) fine j l h =
    ⊎_elim (λ k. mail_of_tag cast M fine.0 j l k) (λ k. mail_of_tag cast N fine.1 j l k) (first_cases (mail M j) (mail N j) l h)
mail_of_tag cast (Held k phases M) fine j l h = ⊎_elim
    (λ own. opened_fits (letter k (peer k j) (phases (peer k j))) j l (letter_fits cast k (peer k j) (phases (peer k j)) fine.1.begins) own)
    (λ later. mail_of_tag cast M fine.0 j l later)
    (first_cases (own_mail k phases j) (mail M j) l h)
mail_of_tag cast (Spent G) fine j l h = absurd (none_some h)
