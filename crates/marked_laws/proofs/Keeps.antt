-- What a step of a mark keeps: where it came from, its indices, the processes of the other roles, and that its running term has ended
-- or is light; and how it changes the mail.
use Rattle.std.proofs.Common.{◌≡◌, ◌⊎◌, ℕ, suc, List, Bool, true, false, if◌then◌else◌, refl, ap, inl, inr, ⊎_elim}
use Rattle.std.proofs.lemmas.Bool.{and_parts, and_from}
use Rattle.dioc_terms.specs.declared.names.Role.{Role}
use Rattle.dioc_terms.specs.declared.names.Index.{Index}
use Rattle.dioc_terms.specs.declared.processes.ScopeHead.{ScopeHead}
use Rattle.dioc_terms.specs.Stores.{Store}
use Rattle.dioc_terms.specs.Terms as term
use Rattle.dioc_terms.specs.Terms.{Term, is_in, others, distinct_roles, stamped, at_epoch}
use Rattle.dioc_terms.specs.Values.{eval, is_true}
use Rattle.process_steps.specs.Steps.{Deed, Puts, Takes, Sets, Inputs, Picks, Chooses, entry_of}
use Rattle.global_steps.specs.Running as running
use Rattle.global_steps.specs.Running.{Running, started, light}
use Rattle.global_steps.specs.Follow.{BookChoice, updates_after}
use Rattle.marked_laws.proofs.Constructs.{Kind, Branch, Turning, Stopping, Scoped, Releasing, index, whole, runs}
use Rattle.marked_laws.proofs.Mark.{Mark, origin, run, At}
use Rattle.marked_laws.proofs.MarkSteps.{Steps, sends, lands, sets, reads, seq_opens, par_opens, seq_first, seq_begins, seq_lags, seq_goes, par_left, par_right, picks, turns, stops, again, leaves, tells, hears, works, arrives, gathers, keeps, replaces, frees, New}
use Rattle.marked_laws.proofs.Proper.{Within}

-- the index at which something is done
abbrev pub deed_index : Deed → Index
deed_index (Puts k l) = k.index
deed_index (Takes k x l) = k.index
deed_index (Sets i r x v) = i
deed_index (Inputs i r x v) = i
deed_index (Picks i r b) = i
deed_index (Chooses i r c) = i

-- a stamped body has no index but those of its update
pub stamped_new : (B : Term) (m level : ℕ) (n : Index) → Within n (stamped B m level) → n.epoch ≡ m
stamped_new term.Skip m level n h = absurd h
stamped_new (term.Com i o a e b x) m level n h = ap (λ (j : Index). j.epoch) h
stamped_new (term.Set i x r e) m level n h = ap (λ (j : Index). j.epoch) h
stamped_new (term.Input i x r) m level n h = ap (λ (j : Index). j.epoch) h
stamped_new (term.Seq I J) m level n h = ⊎_elim (λ k. stamped_new I m level n k) (λ k. stamped_new J m level n k) h
stamped_new (term.Par I J) m level n h = ⊎_elim (λ k. stamped_new I m level n k) (λ k. stamped_new J m level n k) h
stamped_new (term.If i r g I J) m level n h = ⊎_elim (λ k. ap (λ (j : Index). j.epoch) k)
    (λ k. ⊎_elim (λ l. stamped_new I m level n l) (λ l. stamped_new J m level n l) k) h
stamped_new (term.While i r g I) m level n h = ⊎_elim (λ k. ap (λ (j : Index). j.epoch) k) (λ k. stamped_new I m level n k) h
stamped_new (term.Scope i r I extra props _) m level n h = ⊎_elim (λ k. ap (λ (j : Index). j.epoch) k) (λ k. stamped_new I m level n k) h

-- the index of a construct is in it
pub index_in : (k : Kind) → Within (index k) (whole k)
index_in (Branch i r g I J b) = inl refl
index_in (Turning i r g I) = inl refl
index_in (Stopping i r g I) = inl refl
index_in (Scoped i r I extra props level begin B) = inl refl
index_in (Releasing i r I extra props level) = inl refl

module _ (cast : List Role) (stores : Role → Store) (choices : ScopeHead → BookChoice) (updates : ℕ) where
  -- the text stays that from which the mark came
  pub origin_step : {M N : Mark} {d : Deed} → Steps cast stores choices updates M d N → origin N ≡ origin M
  origin_step sends = refl
  origin_step lands = refl
  origin_step sets = refl
  origin_step reads = refl
  origin_step (seq_opens s) = origin_step s
  origin_step (par_opens s) = origin_step s
  origin_step (seq_first {J = J} s) = ap (λ I. term.Seq I J) (origin_step s)
  origin_step (seq_begins {M = M} e s) = ap (term.Seq (origin M)) (origin_step s)
  origin_step (seq_lags {K = K} s) = ap (λ I. term.Seq I (origin K)) (origin_step s)
  origin_step (seq_goes {M = M} e s) = ap (term.Seq (origin M)) (origin_step s)
  origin_step (par_left {K = K} s) = ap (λ I. term.Par I (origin K)) (origin_step s)
  origin_step (par_right {M = M} s) = ap (term.Par (origin M)) (origin_step s)
  origin_step picks = refl
  origin_step (turns e) = refl
  origin_step (stops e) = refl
  origin_step (again e c) = refl
  origin_step (leaves e c) = refl
  origin_step (tells e) = refl
  origin_step (hears e) = refl
  origin_step (works e s) = refl
  origin_step (arrives k e f) = refl
  origin_step (gathers k e f) = refl
  origin_step (keeps e) = refl
  origin_step (replaces e) = refl
  origin_step (frees e f) = refl

  -- what is done is done at an index of the mark
  pub deed_at : {M N : Mark} {d : Deed} → Steps cast stores choices updates M d N → At (deed_index d) M
  deed_at sends = refl
  deed_at lands = refl
  deed_at sets = refl
  deed_at reads = refl
  deed_at (seq_opens s) = deed_at s
  deed_at (par_opens s) = deed_at s
  deed_at (seq_first s) = inl (deed_at s)
  deed_at (seq_begins e s) = inr (deed_at s)
  deed_at (seq_lags s) = inl (deed_at s)
  deed_at (seq_goes e s) = inr (deed_at s)
  deed_at (par_left s) = inl (deed_at s)
  deed_at (par_right s) = inr (deed_at s)
  deed_at picks = inl refl
  deed_at (turns e) = inl refl
  deed_at (stops e) = inl refl
  deed_at (again e c) = inl (inl refl)
  deed_at (leaves e c) = inl (inl refl)
  deed_at (tells {k = k} e) = inl (index_in k)
  deed_at (hears {k = k} e) = inl (index_in k)
  deed_at (works e s) = inr (deed_at s)
  deed_at (arrives {k = k} b e f) = inl (index_in k)
  deed_at (gathers {k = k} b e f) = inl (index_in k)
  deed_at (keeps e) = inl refl
  deed_at (replaces e) = inl refl
  deed_at (frees e f) = inl (inl refl)

  -- the indices after a step are those before it, but for those of an update, and that is counted
  pub new_step : {M N : Mark} {d : Deed} → Steps cast stores choices updates M d N → (n : Index) → At n N
      → At n M ⊎ (New updates n × (updates_after (entry_of d) updates ≡ suc updates))
  new_step sends n h = inl h
  new_step lands n h = absurd h
  new_step sets n h = absurd h
  new_step reads n h = absurd h
  new_step (seq_opens s) n h = new_step s n h
  new_step (par_opens s) n h = new_step s n h
  new_step (seq_first s) n h = ⊎_elim (λ k. ⊎_elim (λ l. inl (inl l)) (λ l. inr l) (new_step s n k)) (λ k. inl (inr k)) h
  new_step (seq_begins e s) n h = ⊎_elim (λ k. inl (inl k)) (λ k. ⊎_elim (λ l. inl (inr l)) (λ l. inr l) (new_step s n k)) h
  new_step (seq_lags s) n h = ⊎_elim (λ k. ⊎_elim (λ l. inl (inl l)) (λ l. inr l) (new_step s n k)) (λ k. inl (inr k)) h
  new_step (seq_goes e s) n h = ⊎_elim (λ k. inl (inl k)) (λ k. ⊎_elim (λ l. inl (inr l)) (λ l. inr l) (new_step s n k)) h
  new_step (par_left s) n h = ⊎_elim (λ k. ⊎_elim (λ l. inl (inl l)) (λ l. inr l) (new_step s n k)) (λ k. inl (inr k)) h
  new_step (par_right s) n h = ⊎_elim (λ k. inl (inl k)) (λ k. ⊎_elim (λ l. inl (inr l)) (λ l. inr l) (new_step s n k)) h
  new_step (picks {r = r} {g = g} {I = I} {J = J}) n h =
      ⊎_elim (λ k. inl k) (λ k. inl (inr (of_branch (is_true (eval g (stores r))) k))) h
    where
      of_branch : (b : Bool) → Within n (if b then I else J) → Within n I ⊎ Within n J
      of_branch true k = inl k
      of_branch false k = inr k
  new_step (turns e) n h = ⊎_elim (λ k. inl k) (λ k. inl (inr k)) h
  new_step (stops e) n h = ⊎_elim (λ k. inl k) (λ k. absurd k) h
  new_step (again e c) n h = ⊎_elim (λ k. inl (inl k)) (λ k. inl (inl (inr k))) h
  new_step (leaves e c) n h = ⊎_elim (λ k. inl (inl k)) (λ k. absurd k) h
  new_step (tells e) n h = inl h
  new_step (hears e) n h = inl h
  new_step (works e s) n h = ⊎_elim (λ k. inl (inl k)) (λ k. ⊎_elim (λ l. inl (inr l)) (λ l. inr l) (new_step s n k)) h
  new_step (arrives b e f) n h = inl h
  new_step (gathers b e f) n h = inl h
  new_step (keeps e) n h = ⊎_elim (λ k. inl k) (λ k. inl (inr k)) h
  new_step (replaces {level = level} {B = B} e) n h = ⊎_elim (λ k. inl k) (λ k. inr (stamped_new B (suc updates) (suc level) n k, refl)) h
  new_step (frees e f) n h = ⊎_elim (λ k. inl (inl k)) (λ k. absurd k) h

  pub at_step : {M N : Mark} {d : Deed} → Steps cast stores choices updates M d N → (n : Index) → At n N → At n M ⊎ New updates n
  at_step s n h = ⊎_elim (λ k. inl k) (λ k. inr k.0) (new_step s n h)

  runs_over : (k : Kind) (G H : Running) → (running.ended G ≡ true → running.ended H ≡ true) → running.ended (runs k G) ≡ true
      → running.ended (runs k H) ≡ true
  runs_over (Branch i r g I J b) G H f h = f h
  runs_over (Turning i r g I) G H f h = cc
  runs_over (Stopping i r g I) G H f h = refl
  runs_over (Scoped i r I extra props level begin B) G H f h = f h
  runs_over (Releasing i r I extra props level) G H f h = f h

  -- what has ended stays so
  pub over_step : {M N : Mark} {d : Deed} → Steps cast stores choices updates M d N → running.ended (run M) ≡ true → running.ended (run N) ≡ true
  over_step sends h = cc
  over_step lands h = cc
  over_step sets h = cc
  over_step reads h = cc
  over_step (seq_opens s) h = over_step s h
  over_step (par_opens s) h = over_step s h
  over_step (seq_first s) h = let parts = and_parts _ _ h in and_from _ _ (over_step s parts.0) parts.1
  over_step (seq_begins e s) h = let parts = and_parts _ _ h in and_from _ _ parts.0 (over_step s parts.1)
  over_step (seq_lags s) h = let parts = and_parts _ _ h in and_from _ _ (over_step s parts.0) parts.1
  over_step (seq_goes e s) h = let parts = and_parts _ _ h in and_from _ _ parts.0 (over_step s parts.1)
  over_step (par_left s) h = let parts = and_parts _ _ h in and_from _ _ (over_step s parts.0) parts.1
  over_step (par_right s) h = let parts = and_parts _ _ h in and_from _ _ parts.0 (over_step s parts.1)
  over_step picks h = cc
  over_step (turns e) h = cc
  over_step (stops e) h = cc
  over_step (again e c) h = cc
  over_step (leaves e c) h = cc
  over_step (tells e) h = h
  over_step (hears e) h = h
  over_step (works {k = k} {M = M} {N = N} b s) h = runs_over k (run M) (run N) (λ x. over_step s x) h
  over_step (arrives b e f) h = h
  over_step (gathers b e f) h = h
  over_step (keeps e) h = cc
  over_step (replaces e) h = cc
  over_step (frees c e) h = h

  runs_light : (k : Kind) (G H : Running) → (running.ended G ≡ true → running.ended H ≡ true) → (light G ≡ true → light H ≡ true)
      → light (runs k G) ≡ true → light (runs k H) ≡ true
  runs_light (Branch i r g I J b) G H f f' h = f' h
  runs_light (Turning i r g I) G H f f' h = cc
  runs_light (Stopping i r g I) G H f f' h = refl
  runs_light (Scoped i r I extra props level begin B) G H f f' h = f h
  runs_light (Releasing i r I extra props level) G H f f' h = f h

  -- where nothing was left but messages in flight, nothing else is
  pub light_step : {M N : Mark} {d : Deed} → Steps cast stores choices updates M d N → light (run M) ≡ true → light (run N) ≡ true
  light_step sends h = cc
  light_step lands h = refl
  light_step sets h = cc
  light_step reads h = cc
  light_step (seq_opens s) h = light_step s h
  light_step (par_opens s) h = light_step s h
  light_step (seq_first s) h = let parts = and_parts _ _ h in and_from _ _ (light_step s parts.0) parts.1
  light_step (seq_begins e s) h = let parts = and_parts _ _ h in and_from _ _ parts.0 (light_step s parts.1)
  light_step (seq_lags s) h = let parts = and_parts _ _ h in and_from _ _ (light_step s parts.0) parts.1
  light_step (seq_goes e s) h = let parts = and_parts _ _ h in and_from _ _ parts.0 (light_step s parts.1)
  light_step (par_left s) h = let parts = and_parts _ _ h in and_from _ _ (light_step s parts.0) parts.1
  light_step (par_right s) h = let parts = and_parts _ _ h in and_from _ _ parts.0 (light_step s parts.1)
  light_step picks h = cc
  light_step (turns e) h = cc
  light_step (stops e) h = cc
  light_step (again e c) h = cc
  light_step (leaves e c) h = cc
  light_step (tells e) h = h
  light_step (hears e) h = h
  light_step (works {k = k} {M = M} {N = N} b s) h = runs_light k (run M) (run N) (λ x. over_step s x) (λ x. light_step s x) h
  light_step (arrives b e f) h = h
  light_step (gathers b e f) h = h
  light_step (keeps e) h = cc
  light_step (replaces e) h = cc
  light_step (frees c e) h = h
