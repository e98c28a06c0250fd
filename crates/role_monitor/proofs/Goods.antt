-- A process is good by a list of updates: each scope in it has the level that its epoch has in the list, and each part of an update that
-- it is to send is that of the list. Projections are good, and a step keeps a process good.
use Rattle.std.proofs.Common.{◌≡◌, ℕ, zero, suc, ◌+◌, List, [], ◌∷◌, map, Bool, Option, Some, None, if◌then◌else◌, slice_get, refl, sym, ap, ◌∙◌, subst, ⊎_elim}
use Rattle.std.specs.Option.{option_or}
use Rattle.std.specs.Prelude.{option_map}
use Rattle.std.proofs.lemmas.Bool.{cases_Bool, cond-true, cond-false, cond_both}
use Rattle.dioc_terms.specs.declared.names.Role.{Role}
use Rattle.dioc_terms.specs.declared.names.Index.{Index}
use Rattle.dioc_terms.specs.declared.processes.Key.{Key}
use Rattle.dioc_terms.specs.declared.processes.Tag.{Tag}
use Rattle.dioc_terms.specs.declared.processes.Tag.TheVariants.{Choice, Go, Turn, Begin, End, Out}
use Rattle.dioc_terms.specs.declared.processes.ScopeHead.{ScopeHead}
use Rattle.dioc_terms.specs.declared.entries.Act.{Act}
use Rattle.dioc_terms.specs.Equality.{role_eq}
use Rattle.dioc_terms.specs.Plain.{PlainRule, Setting}
use Rattle.dioc_terms.specs.Processes.{Process, Skip, Send, Recv, Assign, Read, Seq, Par, IfLead, IfFollow, WhileLead, WhileFollow, ScopeLead, ScopeFollow, Tell, Gather, Letters, Nothing, More, Load, Val, Flag, Keep, Part, Done}
use Rattle.dioc_terms.specs.Terms as term
use Rattle.dioc_terms.specs.Terms.{Term, constructs, is_in, others, head_of, indexed_from, stamped}
use Rattle.dpoc_process.specs.Acting.{acting}
use Rattle.marked_laws.proofs.Shapes.{none_some, some_same, if_some}
use Rattle.process_steps.specs.Steps.{Deed, Puts, ended, after, key, letters_to, telling, gathering, tell, gather, send_one, if_leads, while_leads, while_follows, scope_leads, scope_follows, offers, is_offered}
use Rattle.projection.specs.Projection.{projected}
use Rattle.role_monitor.specs.Monitoring.{update_numbered, epoch_level, rule_part, update_part}
use Rattle.role_monitor.specs.declared.updates.Update.{Update}
use Rattle.role_monitor.proofs.Listings.{Extends, level_still, part_still, then_some, map_some}

-- each scope of a term has the level of its epoch
abbrev pub Levels : List Update → Term → Type 0
Levels us (term.Seq I J) = Levels us I × Levels us J
Levels us (term.Par I J) = Levels us I × Levels us J
Levels us (term.If i r g I J) = Levels us I × Levels us J
Levels us (term.While i r g I) = Levels us I
Levels us (term.Scope i r I extra props level) = (epoch_level us i.epoch ≡ Some level) × Levels us I
Levels us _ = Unit {0}

pub stamped_levels : (us : List Update) (I : Term) (n level : ℕ) → epoch_level us n ≡ Some level → Levels us (stamped I n level)
stamped_levels us term.Skip n level h = tt
stamped_levels us (term.Com i o a e b x) n level h = tt
stamped_levels us (term.Set i x r e) n level h = tt
stamped_levels us (term.Input i x r) n level h = tt
stamped_levels us (term.Seq I J) n level h = (stamped_levels us I n level h, stamped_levels us J n level h)
stamped_levels us (term.Par I J) n level h = (stamped_levels us I n level h, stamped_levels us J n level h)
stamped_levels us (term.If i r g I J) n level h = (stamped_levels us I n level h, stamped_levels us J n level h)
stamped_levels us (term.While i r g I) n level h = stamped_levels us I n level h
stamped_levels us (term.Scope i r I extra props l) n level h = (h, stamped_levels us I n level h)

pub indexed_levels : (us : List Update) (k : ℕ) (I : Term) → Levels us (indexed_from k I)
indexed_levels us k term.Skip = tt
indexed_levels us k (term.Com i o a e b x) = tt
indexed_levels us k (term.Set i x r e) = tt
indexed_levels us k (term.Input i x r) = tt
indexed_levels us k (term.Seq I J) = (indexed_levels us k I, indexed_levels us (k + constructs I) J)
indexed_levels us k (term.Par I J) = (indexed_levels us k I, indexed_levels us (k + constructs I) J)
indexed_levels us k (term.If i r g I J) = (indexed_levels us (suc k) I, indexed_levels us (suc k + constructs I) J)
indexed_levels us k (term.While i r g I) = indexed_levels us (suc k) I
indexed_levels us k (term.Scope i r I extra props l) = (refl, indexed_levels us (suc k) I)

module _ (b : Setting) (us : List Update) where
  -- a message that carries a part carries that of the list
  abbrev pub Genuine : Key → Load → Type 0
  Genuine k (Part n R) = update_part b k.to us n ≡ Some R
  Genuine k _ = Unit {0}

  abbrev pub GoodLetters : Letters → Type 0
  GoodLetters Nothing = Unit {0}
  GoodLetters (More k l ms) = Genuine k l × GoodLetters ms

  abbrev pub Good : Process → Type 0
  Good (Seq P Q) = Good P × Good Q
  Good (Par P Q) = Good P × Good Q
  Good (IfLead i g qs P Q) = Good P × Good Q
  Good (IfFollow i r P Q) = Good P × Good Q
  Good (WhileLead i g qs P) = Good P
  Good (WhileFollow i r P) = Good P
  Good (ScopeLead head qs P) = (epoch_level us head.index.epoch ≡ Some head.level) × Good P
  Good (ScopeFollow i r P) = Good P
  Good (Tell ms) = GoodLetters ms
  Good _ = Unit {0}

  -- what a deed puts is genuine
  abbrev pub GoodDeed : Deed → Type 0
  GoodDeed (Puts k l) = Genuine k l
  GoodDeed _ = Unit {0}

  pub projected_good : (r : Role) (I : Term) → Levels us I → Good (projected b.cast I r)
  projected_good r term.Skip h = tt
  projected_good r (term.Com i o a e c x) h =
      cond_both (role_eq r a) (Send i o c e) (if role_eq r c then Recv i o a x else Skip) Good (λ yes. tt) (λ no. cond_both (role_eq r c) (Recv i o a x) Skip Good (λ yes. tt) (λ no. tt))
  projected_good r (term.Set i x q e) h = cond_both (role_eq r q) (Assign i x e) Skip Good (λ yes. tt) (λ no. tt)
  projected_good r (term.Input i x q) h = cond_both (role_eq r q) (Read i x) Skip Good (λ yes. tt) (λ no. tt)
  projected_good r (term.Seq I J) h = (projected_good r I h.0, projected_good r J h.1)
  projected_good r (term.Par I J) h = (projected_good r I h.0, projected_good r J h.1)
  projected_good r (term.If i q g I J) h =
      let whole = term.If i q g I J in
      let both : Good (projected b.cast I r) × Good (projected b.cast J r) = (projected_good r I h.0, projected_good r J h.1) in
      let follows = IfFollow i q (projected b.cast I r) (projected b.cast J r) in
      cond_both (role_eq r q) (IfLead i g (others b.cast q whole) (projected b.cast I r) (projected b.cast J r)) (if is_in r whole then follows else Skip) Good (λ yes. both)
      (λ no. cond_both (is_in r whole) follows Skip Good (λ yes. both) (λ no. tt))
  projected_good r (term.While i q g I) h =
      let whole = term.While i q g I in
      let follows = WhileFollow i q (projected b.cast I r) in
      cond_both (role_eq r q) (WhileLead i g (others b.cast q whole) (projected b.cast I r)) (if is_in r whole then follows else Skip) Good (λ yes. projected_good r I h)
      (λ no. cond_both (is_in r whole) follows Skip Good (λ yes. projected_good r I h) (λ no. tt))
  projected_good r (term.Scope i q I extra props level) h =
      let whole = term.Scope i q I extra props level in
      let inside = if is_in r I then projected b.cast I r else Skip in
      cond_both (role_eq r q) (ScopeLead (head_of b.cast i q I extra props level) (others b.cast q whole) (projected b.cast I r))
      (if is_in r whole then ScopeFollow i q inside else Skip) Good (λ yes. (h.0, projected_good r I h.1))
      (λ no. cond_both (is_in r whole) (ScopeFollow i q inside) Skip Good
      (λ yes. cond_both (is_in r I) (projected b.cast I r) Skip Good (λ named. projected_good r I h.1) (λ other. tt)) (λ no. tt))

  -- a part of an update of the list is good
  pub part_good : (q : Role) (n : ℕ) (R : Process) → update_part b q us n ≡ Some R → Good R
  part_good q zero R h = absurd (none_some h)
  part_good q (suc n) R h =
      let found = then_some (λ u. rule_part b q u (suc n)) (update_numbered (suc n) us) R h in
      let rule = map_some (λ (rule : PlainRule). projected b.cast (stamped rule.body (suc n) (found.0).level) q) (slice_get b.rules (found.0).rule) R found.2 in
      subst Good (some_same rule.2)
      (projected_good q (stamped (rule.0).body (suc n) (found.0).level)
      (stamped_levels us (rule.0).body (suc n) (found.0).level (ap (option_map (λ (u : Update). u.level)) found.1)))

  pub after_good : (P Q : Process) → Good P → Good Q → Good (after P Q)
  after_good P Q p q = cond_both (ended P) Q (Seq P Q) Good (λ yes. q) (λ no. (p, q))

  pub letters_good : (from : Role) (qs : List Role) (i : Index) (t : Tag) (carries : Role → Load) → ((q : Role) → Genuine (key from q i t) (carries q)) → GoodLetters (letters_to from qs i t carries)
  letters_good from [] i t carries h = tt
  letters_good from (q ∷ qs) i t carries h = (h q, letters_good from qs i t carries h)

  pub telling_good : (ms : Letters) → GoodLetters ms → Good (telling ms)
  telling_good Nothing h = tt
  telling_good (More k l ms) h = h

  pub gathering_good : (ks : List Key) → Good (gathering ks)
  gathering_good [] = tt
  gathering_good (k ∷ ks) = tt

  pub tell_good : (from : Role) (qs : List Role) (i : Index) (t : Tag) (carries : Role → Load) → ((q : Role) → Genuine (key from q i t) (carries q)) → Good (tell from qs i t carries)
  tell_good from qs i t carries h = telling_good (letters_to from qs i t carries) (letters_good from qs i t carries h)

  pub gather_good : (to : Role) (qs : List Role) (i : Index) (t : Tag) → Good (gather to qs i t)
  gather_good to qs i t = gathering_good (map (λ q. key q to i t) qs)

  pub branch_good : (t : Bool) (P Q : Process) → Good P → Good Q → Good (if t then P else Q)
  branch_good t P Q p q = cond_both t P Q Good (λ yes. p) (λ no. q)

  pub if_leads_good : (me : Role) (i : Index) (qs : List Role) (t : Bool) (P Q : Process) → Good P → Good Q → Good (if_leads me i qs t P Q)
  if_leads_good me i qs t P Q p q =
      after_good (tell me qs i Choice (λ q. Flag t)) (if t then P else Q) (tell_good me qs i Choice (λ q. Flag t) (λ q. tt)) (branch_good t P Q p q)

  pub while_leads_good : (me : Role) (i : Index) (qs : List Role) (t : Bool) (P W : Process) → Good P → Good W → Good (while_leads me i qs t P W)
  while_leads_good me i qs t P W p w =
      let told = tell_good me qs i Go (λ q. Flag t) (λ q. tt) in
      branch_good t (after (tell me qs i Go (λ q. Flag t)) (after P (after (gather me qs i Turn) W))) (tell me qs i Go (λ q. Flag t))
      (after_good (tell me qs i Go (λ q. Flag t)) (after P (after (gather me qs i Turn) W)) told
      (after_good P (after (gather me qs i Turn) W) p (after_good (gather me qs i Turn) W (gather_good me qs i Turn) w)))
      told

  pub while_follows_good : (leader me : Role) (i : Index) (P W : Process) → Good P → Good W → Good (while_follows leader me i P W)
  while_follows_good leader me i P W p w = after_good P (Seq (send_one (key me leader i Turn) Done) W) p ((tt, tt), w)

  pub scope_leads_good : (me : Role) (qs : List Role) (i : Index) (carries : Role → Load) (P : Process) → ((q : Role) → Genuine (key me q i Begin) (carries q)) → Good P
      → Good (scope_leads me qs i carries P)
  scope_leads_good me qs i carries P told p =
      after_good (tell me qs i Begin carries) (after P (after (gather me qs i End) (tell me qs i Out (λ q. Done)))) (tell_good me qs i Begin carries told)
      (after_good P (after (gather me qs i End) (tell me qs i Out (λ q. Done))) p
      (after_good (gather me qs i End) (tell me qs i Out (λ q. Done)) (gather_good me qs i End) (tell_good me qs i Out (λ q. Done) (λ q. tt))))

  pub scope_follows_good : (leader me : Role) (i : Index) (P : Process) → Good P → Good (scope_follows leader me i P)
  scope_follows_good leader me i P p = after_good P (Seq (send_one (key me leader i End) Done) (Gather (key leader me i Out ∷ []))) p ((tt, tt), tt)

  -- the scope that an act begins has the level of its epoch
  pub head_good : (me : Role) (a : Act) (P : Process) (head : ScopeHead) (qs : List Role) (B : Process) → Good P → acting me a P ≡ Some (ScopeLead head qs B)
      → epoch_level us head.index.epoch ≡ Some head.level
  head_good me a (Seq P Q) head qs B good h = ⊎_elim
      (λ yes. head_good me a Q head qs B good.1 (sym (cond-true (ended P) (acting me a Q) (acting me a P) yes) ∙ h))
      (λ no. head_good me a P head qs B good.0 (sym (cond-false (ended P) (acting me a Q) (acting me a P) no) ∙ h))
      (cases_Bool (ended P))
  head_good me a (Par P Q) head qs B good h = either (acting me a P) (acting me a Q) (head_good me a P head qs B good.0) (head_good me a Q head qs B good.1) h
    where
      either : (o p : Option Process) → (o ≡ Some (ScopeLead head qs B) → epoch_level us head.index.epoch ≡ Some head.level)
          → (p ≡ Some (ScopeLead head qs B) → epoch_level us head.index.epoch ≡ Some head.level)
          → option_or o p ≡ Some (ScopeLead head qs B) → epoch_level us head.index.epoch ≡ Some head.level
      either None p left right h = right h
      either (Some R) p left right h = left h
  head_good me a P head qs B good h = single (if_some (is_offered a (offers me P)) P h).1 good
    where
      single : {R : Process} → ScopeLead head qs B ≡ R → Good R → epoch_level us head.index.epoch ≡ Some head.level
      single same good = (subst Good (sym same) good).0

-- what is good stays so by a list that extends the first
module _ (b : Setting) (us vs : List Update) (extends : Extends us vs) where
  pub genuine_still : (k : Key) (l : Load) → Genuine b us k l → Genuine b vs k l
  genuine_still k (Val v) h = tt
  genuine_still k (Flag t) h = tt
  genuine_still k Keep h = tt
  genuine_still k (Part n R) h = part_still b k.to us vs extends n R h
  genuine_still k Done h = tt

  letters_still : (ms : Letters) → GoodLetters b us ms → GoodLetters b vs ms
  letters_still Nothing h = tt
  letters_still (More k l ms) h = (genuine_still k l h.0, letters_still ms h.1)

  pub good_still : (P : Process) → Good b us P → Good b vs P
  good_still (Seq P Q) h = (good_still P h.0, good_still Q h.1)
  good_still (Par P Q) h = (good_still P h.0, good_still Q h.1)
  good_still (IfLead i g qs P Q) h = (good_still P h.0, good_still Q h.1)
  good_still (IfFollow i r P Q) h = (good_still P h.0, good_still Q h.1)
  good_still (WhileLead i g qs P) h = good_still P h
  good_still (WhileFollow i r P) h = good_still P h
  good_still (ScopeLead head qs P) h = (level_still us vs extends head.index.epoch head.level h.0, good_still P h.1)
  good_still (ScopeFollow i r P) h = good_still P h
  good_still (Tell ms) h = letters_still ms h
  good_still _ h = tt
