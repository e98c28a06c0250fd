-- What a place that can act offers and does is what the process in front of it offers and does.
use Rattle.std.proofs.Common.{◌≡◌, true, false, Some, None, refl}
use Rattle.std.proofs.lemmas.Bool.{cond-true}
use Rattle.dioc_terms.specs.declared.names.Role.{Role}
use Rattle.dioc_terms.specs.declared.entries.Act.{Act}
use Rattle.dioc_terms.specs.Processes.{Process, Seq, Par, IfLead, WhileLead, WhileFollow, ScopeFollow}
use Rattle.dpoc_process.specs.Acting.{acting, is_single}
use Rattle.flat_role.specs.Leaves.{front, is_became, is_leaf}
use Rattle.process_steps.specs.Steps.{is_offered, offers}
use Rattle.role_statuses.specs.Kept.{marked}
use Rattle.role_statuses.specs.Marks.{Mark}
use Rattle.role_statuses.specs.Marks as mark
use Rattle.role_statuses.specs.Statuses.{Finished, leaves, read}

module _ (me : Role) where
  -- it offers what that offers
  pub leaf_offers : (m : Mark) (P : Process) → is_leaf m P ≡ true
      → leaves me (marked m Finished Finished) P ≡ offers me (front me m P)
  leaf_offers mark.First P h = cc
  leaf_offers mark.Second P h = cc
  leaf_offers (mark.Both l r) P h = cc
  leaf_offers (mark.Branch b) P h = cc
  leaf_offers mark.Body P h = cc
  leaf_offers (mark.Telling b k l ms) (IfLead i g others P Q) h = refl
  leaf_offers (mark.Gathering k ks) (WhileLead i g others P) h = refl
  leaf_offers mark.Ending (WhileFollow i leader P) h = refl
  leaf_offers (mark.Left k l ms) (WhileLead i g others P) h = refl
  leaf_offers (mark.Waiting k ks) (ScopeFollow i leader P) h = refl
  leaf_offers m P h = refl

  -- the part of the construct there that does an act is the one in front
  pub leaf_acting : (a : Act) (m : Mark) (P : Process) → is_leaf m P ≡ true
      → acting me a (read me (marked m Finished Finished) P) ≡ acting me a (front me m P)
  leaf_acting a mark.First P h = cc
  leaf_acting a mark.Second P h = cc
  leaf_acting a (mark.Both l r) P h = cc
  leaf_acting a (mark.Branch b) P h = cc
  leaf_acting a mark.Body P h = cc
  leaf_acting a (mark.Telling b k l ms) (IfLead i g others P Q) h = refl
  leaf_acting a (mark.Gathering k ks) (WhileLead i g others P) h = refl
  leaf_acting a mark.Ending (WhileFollow i leader P) h = refl
  leaf_acting a (mark.Left k l ms) (WhileLead i g others P) h = refl
  leaf_acting a (mark.Waiting k ks) (ScopeFollow i leader P) h = refl
  leaf_acting a m P h = refl

-- unless another process runs in its place, it is neither a sequence nor a parallel
pub front_single : (me : Role) (m : Mark) (P : Process) → is_leaf m P ≡ true
    → is_became m ≡ false → is_single (front me m P) ≡ true
front_single me mark.Untouched P h own = h
front_single me mark.First P h own = cc
front_single me mark.Second P h own = cc
front_single me (mark.Both l r) P h own = cc
front_single me (mark.Branch b) P h own = cc
front_single me mark.Body P h own = cc
front_single me (mark.Became R) P h own = cc
front_single me (mark.Telling b k l ms) (IfLead i g others P Q) h own = refl
front_single me (mark.Gathering k ks) (WhileLead i g others P) h own = refl
front_single me mark.Ending (WhileFollow i leader P) h own = refl
front_single me (mark.Left k l ms) (WhileLead i g others P) h own = refl
front_single me (mark.Waiting k ks) (ScopeFollow i leader P) h own = refl
front_single me m P h own = refl

-- so it does the act itself
pub single_acts : (me : Role) (a : Act) (P : Process) → is_single P ≡ true
    → is_offered a (offers me P) ≡ true → acting me a P ≡ Some P
single_acts me a (Seq P Q) one offered = cc
single_acts me a (Par P Q) one offered = cc
single_acts me a P one offered = cond-true (is_offered a (offers me P)) (Some P) None offered

pub front_acts : (me : Role) (a : Act) (m : Mark) (P : Process) → is_leaf m P ≡ true
    → is_became m ≡ false → is_offered a (offers me (front me m P)) ≡ true
    → acting me a (front me m P) ≡ Some (front me m P)
front_acts me a m P leaf own offered =
    single_acts me a (front me m P) (front_single me m P leaf own) offered
