-- A place where no other process runs offers one act at most.
use Rattle.std.proofs.Common.{◌≡◌, [], ◌∷◌, Bool, true, false, ◌||◌, refl, ap, sym, ◌∙◌}
use Rattle.dioc_terms.specs.declared.names.Role.{Role}
use Rattle.dioc_terms.specs.declared.entries.Act.{Act}
use Rattle.dioc_terms.specs.declared.entries.Act.TheVariants as act
use Rattle.dioc_terms.specs.declared.processes.Tag.TheVariants as tag
use Rattle.dioc_terms.specs.Equality.{act_eq}
use Rattle.dioc_terms.specs.EqualityLemmas.{act_eq-decides}
use Rattle.dioc_terms.specs.Processes.{Process, Skip, Send, Recv, Assign, Read, Seq, Par, IfLead, IfFollow, WhileLead, WhileFollow, ScopeLead, ScopeFollow, Tell, Gather, Nothing, More}
use Rattle.dpoc_process.specs.Acting.{is_single}
use Rattle.flat_role.specs.Leaves.{front, is_became, is_leaf}
use Rattle.flat_role.proofs.LeafActs.{front_single, leaf_offers}
use Rattle.process_steps.specs.Steps.{is_offered, key, offers}
use Rattle.role_statuses.specs.Marks.{Mark}
use Rattle.role_statuses.specs.Kept.{marked}
use Rattle.role_statuses.specs.Statuses.{Finished, leaves}

either_true : (t : Bool) → (t || false) ≡ true → t ≡ true
either_true true h = refl
either_true false h = h

just_one : (a b : Act) → is_offered a (b ∷ []) ≡ true → b ∷ [] ≡ a ∷ []
just_one a b h = ap (λ x. x ∷ []) (sym ((act_eq-decides a b).0 (either_true (act_eq a b) h)))

offers_just : (me : Role) (a : Act) (P : Process) → is_single P ≡ true → is_offered a (offers me P) ≡ true → offers me P ≡ a ∷ []
offers_just me a (Seq P Q) one h = cc
offers_just me a (Par P Q) one h = cc
offers_just me a Skip one h = cc
offers_just me a (Tell Nothing) one h = cc
offers_just me a (Gather []) one h = cc
offers_just me a (Send i o b e) one h = just_one a (act.Put (key me b i (tag.Op o))) h
offers_just me a (Recv i o b x) one h = just_one a (act.Take (key b me i (tag.Op o))) h
offers_just me a (Assign i x e) one h = just_one a (act.Set i) h
offers_just me a (Read i x) one h = just_one a (act.Input i) h
offers_just me a (IfLead i g others P Q) one h = just_one a (act.Pick i) h
offers_just me a (IfFollow i leader P Q) one h = just_one a (act.Take (key leader me i tag.Choice)) h
offers_just me a (WhileLead i g others P) one h = just_one a (act.Pick i) h
offers_just me a (WhileFollow i leader P) one h = just_one a (act.Take (key leader me i tag.Go)) h
offers_just me a (ScopeLead head others P) one h = just_one a (act.Scope head.index) h
offers_just me a (ScopeFollow i leader P) one h = just_one a (act.Take (key leader me i tag.Begin)) h
offers_just me a (Tell (More k l ms)) one h = just_one a (act.Put k) h
offers_just me a (Gather (k ∷ ks)) one h = just_one a (act.Take k) h

pub leaf_offers_just : (me : Role) (a : Act) (m : Mark) (P : Process) → is_leaf m P ≡ true → is_became m ≡ false
    → is_offered a (offers me (front me m P)) ≡ true → leaves me (marked m Finished Finished) P ≡ a ∷ []
leaf_offers_just me a m P leaf own offered =
    leaf_offers me m P leaf ∙ offers_just me a (front me m P) (front_single me m P leaf own) offered
