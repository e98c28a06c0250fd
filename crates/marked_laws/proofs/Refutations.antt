-- Why each premise of the laws stands there: without it a bundle and a run of its network, computed, show that the law is false. Such a
-- bundle has each other premise.
use Rattle.std.proofs.Common.{◌≡◌, List, [], ◌∷◌, ◌++◌, map, All, true, false, Option, Some, None, is_some, refl, subst, inl, ⊎_elim, arith}
use Rattle.std.specs.Prelude.{codes, option_map}
use Rattle.std.specs.List.{list_all}
use Rattle.std.proofs.lemmas.Bool.{both_ways, or_cases}
use Rattle.std.proofs.lemmas.List.Elements.{All-nil, All-cons}
use Rattle.dioc_terms.specs.declared.names.Role.{Role}
use Rattle.dioc_terms.specs.declared.processes.Tag.TheVariants.{Op, Choice, Begin}
use Rattle.dioc_terms.specs.declared.processes.ScopeHead.{ScopeHead}
use Rattle.dioc_terms.specs.declared.entries.Act.{Act}
use Rattle.dioc_terms.specs.declared.entries.Act.TheVariants as act
use Rattle.dioc_terms.specs.declared.entries.Note.TheVariants as note
use Rattle.dioc_terms.specs.declared.entries.Chosen.TheVariants as chosen
use Rattle.dioc_terms.specs.declared.entries.Entry.{Entry}
use Rattle.dioc_terms.specs.declared.entries.Entry.TheVariants as entry
use Rattle.dioc_terms.specs.Plain.{PlainRule, PlainBundle}
use Rattle.dioc_terms.specs.Bundles.{IsFormed, IsFormedRule}
use Rattle.dioc_terms.specs.Equality.{role_eq, member}
use Rattle.dioc_terms.specs.Expressions.{Const, Var}
use Rattle.dioc_terms.specs.Messages.{visible}
use Rattle.dioc_terms.specs.Attempts.{Attempt, Stuck, Does}
use Rattle.dioc_terms.specs.Names.{is_reserved, reserved_words}
use Rattle.dioc_terms.specs.Processes.{Process}
use Rattle.dioc_terms.specs.Stores.{Store, fresh_store}
use Rattle.dioc_terms.specs.Terms.{Term, Skip, Com, Set, Seq, Par, If, Scope, mentions, self_messages, indexed, stamped}
use Rattle.connectedness.specs.Connected.{connected}
use Rattle.projection.specs.Projection.{projected}
use Rattle.process_steps.specs.Steps.{Deed, Given, Alone, FromBook, key, ended, offers, is_offered, step}
use Rattle.global_steps.specs.Running as running
use Rattle.global_steps.specs.Running.{Running, started, is_due}
use Rattle.global_steps.specs.Follow.{BookChoice, TakesRule, Effect, plays, play}
use Rattle.global_steps.specs.Settled.{IsSettled}
use Rattle.marked_laws.specs.Laws.{IsSoundTerm, IsSoundRule, Explains, HasStep, distinct_keys}
use Rattle.network_steps.specs.Network.{Network, network_run, network_ended, decision}
use Rattle.marked_laws.proofs.Equality.{role_same}
use Rattle.marked_laws.proofs.Examples.{bundle_of, program, rule_of, run_to_end, a, b, c, x, y, o, q, at, unmarked, int, val, put, take_op, take_aux, relay, direct}

none_is_some : {A : Type 0} {v : A} → None ≡ Some v → ⊥
none_is_some h = cc

abbrev some_is : {A : Type 0} (m : Option A) → is_some m ≡ true → (v : A) × (m ≡ Some v)
some_is (Some v) h = (v, refl)
some_is None h = absurd (both_ways false refl h)

-- A choreography that isn't connected: `o: a(1) -> c(x); q: b(2) -> c(y)`. The second interaction may come first in the network.
abbrev apart : Term
apart = Seq (Com unmarked o a (Const (int 1)) c x) (Com unmarked q b (Const (int 2)) c y)

pub record SoundButConnected (bundle : PlainBundle) : Type 0 where
  pub formed : IsFormed bundle
  pub no_self_message : self_messages bundle.choreo ≡ []
  pub rules : All (IsSoundRule bundle.cast) bundle.rules

apart-formed : IsFormed (program apart [] 0 [])
unfolding is_reserved reserved_words
apart-formed = record {
  version = inl (refl, refl, refl);
  cast = refl;
  choreo = record { indices = refl; parts = refl; depth = omega arith };
  rules = All-nil _;
  opening = omega arith;
  added = refl;
  env = refl;
  inputs = refl;
  script = refl;
  trace = refl;
  last = refl;
}

apart-sound : SoundButConnected (program apart [] 0 [])
apart-sound = record { formed = apart-formed; no_self_message = refl; rules = All-nil _ }

abbrev apart_run : List Entry
apart_run = put b c (Op q) (at 0 1) (val 2) ∷ []

pub needs_connected : ((bundle : PlainBundle) (H : List Entry) (N : Network) → SoundButConnected bundle → network_run bundle H ≡ Some N
    → Explains bundle (visible H) N) → ⊥
needs_connected law =
    let ran = some_is (network_run (program apart [] 0 []) apart_run) refl in
    let explained : Explains (program apart [] 0 []) (visible apart_run) ran.0 = law (program apart [] 0 []) apart_run ran.0 apart-sound ran.1 in
    none_is_some explained.plays

-- The same of the body of a rule, in a scope that keeps the order.
pub record SoundButRules (bundle : PlainBundle) : Type 0 where
  pub formed : IsFormed bundle
  pub choreo : IsSoundTerm bundle.choreo
  pub no_self_message : All (λ (rule : PlainRule). self_messages rule.body ≡ []) bundle.rules
  pub in_cast : All (λ (rule : PlainRule). list_all (λ r. member r bundle.cast) (mentions rule.body) ≡ true) bundle.rules

abbrev apart_rule : PlainBundle
apart_rule = program relay (rule_of (codes "apart") apart ∷ []) 1 []

apart_rule-sound : SoundButRules apart_rule
unfolding is_reserved reserved_words
apart_rule-sound = record {
  formed = record {
    version = inl (refl, refl, refl);
    cast = refl;
    choreo = record { indices = refl; parts = refl; depth = omega arith };
    rules = All-cons IsFormedRule (rule_of (codes "apart") apart) [] (record {
      name = refl;
      least = refl;
      most = refl;
      condition = refl;
      body = record { indices = refl; parts = refl; depth = omega arith };
    }) (All-nil _);
    opening = omega arith;
    added = refl;
    env = refl;
    inputs = refl;
    script = refl;
    trace = refl;
    last = refl;
  };
  choreo = record { connected = refl; no_self_message = refl };
  no_self_message = All-cons (λ rule. self_messages rule.body ≡ []) (rule_of (codes "apart") apart) [] refl (All-nil _);
  in_cast = All-cons (λ rule. list_all (λ r. member r apart_rule.cast) (mentions rule.body) ≡ true) (rule_of (codes "apart") apart) [] refl (All-nil _);
}

abbrev apart_rule_run : List Entry
apart_rule_run = entry.Scope (at 0 0) a (chosen.Rule (codes "apart") 1) ∷ put a b Begin (at 0 0) (note.Part 1) ∷ take_aux a b Begin (at 0 0) ∷
    put b c (Op q) (at 1 1) (val 2) ∷ []

pub needs_connected_rules : ((bundle : PlainBundle) (H : List Entry) (N : Network) → SoundButRules bundle → network_run bundle H ≡ Some N
    → Explains bundle (visible H) N) → ⊥
needs_connected_rules law =
    let ran = some_is (network_run apart_rule apart_rule_run) refl in
    let explained : Explains apart_rule (visible apart_rule_run) ran.0 = law apart_rule apart_rule_run ran.0 apart_rule-sound ran.1 in
    none_is_some explained.plays

-- A message of a role to itself: `o: a(1) -> a(x)`. It is put, and nobody takes it.
abbrev to_itself : Term
to_itself = Com unmarked o a (Const (int 1)) a x

pub record SoundButSelf (bundle : PlainBundle) : Type 0 where
  pub formed : IsFormed bundle
  pub connected : connected bundle.choreo ≡ true
  pub rules : All (IsSoundRule bundle.cast) bundle.rules

to_itself-sound : SoundButSelf (program to_itself [] 0 [])
unfolding is_reserved reserved_words
to_itself-sound = record {
  formed = record {
    version = inl (refl, refl, refl);
    cast = refl;
    choreo = record { indices = refl; parts = refl; depth = omega arith };
    rules = All-nil _;
    opening = omega arith;
    added = refl;
    env = refl;
    inputs = refl;
    script = refl;
    trace = refl;
    last = refl;
  };
  connected = refl;
  rules = All-nil _;
}

abbrev to_itself_run : List Entry
to_itself_run = put a a (Op o) (at 0 0) (val 1) ∷ []

abbrev to_itself_end : Network
to_itself_end = (some_is (network_run (program to_itself [] 0 []) to_itself_run) refl).0

-- then a message is left over
pub needs_others-left : ((bundle : PlainBundle) (H : List Entry) (N : Network) → SoundButSelf bundle → network_run bundle H ≡ Some N
    → list_all (λ r. ended (N.processes r)) bundle.cast ≡ true → N.pending ≡ []) → ⊥
needs_others-left law = left_over (law (program to_itself [] 0 []) to_itself_run to_itself_end to_itself-sound refl refl)
  where
    left_over : {A : Type 0} {m : A} {ms : List A} → m ∷ ms ≡ [] → ⊥
    left_over h = cc

-- and the network stops before its end
pub needs_others-progress : ((bundle : PlainBundle) (H : List Entry) (N : Network) → SoundButSelf bundle → network_run bundle H ≡ Some N
    → network_ended bundle.cast N ≡ false → HasStep bundle N) → ⊥
needs_others-progress law =
    let has : HasStep (program to_itself [] 0 []) to_itself_end =
    law (program to_itself [] 0 []) to_itself_run to_itself_end to_itself-sound refl refl in
    stopped has.role has.act (only_role has.role has.in_cast) has.offered
  where
    only_role : (r : Role) → member r (a ∷ []) ≡ true → r ≡ a
    only_role r h = ⊎_elim (λ is. role_same r a is) (λ none. absurd (both_ways false refl none)) (or_cases (role_eq r a) false h)

    stopped : (r : Role) (done : Act) → r ≡ a → is_offered done (offers r (to_itself_end.processes r)) ≡ true → ⊥
    stopped r done is h = both_ways false refl (subst (λ s. is_offered done (offers s (to_itself_end.processes s)) ≡ true) is h)

-- Indices that aren't those of the text: beside a scope that an update replaces by `o: a(2) -> b(y)` stands `o: a(1) -> b(x)`, whose index is
-- one of that update. Then two messages have one key, and each may be taken for the other.
abbrev stale : Term
stale = Par (Scope (at 0 1) a (Com (at 0 2) o a (Const (int 3)) b y) [] [] 0) (Com (at 1 0) o a (Const (int 1)) b x)

abbrev again : PlainRule
again = rule_of (codes "again") (Com unmarked o a (Const (int 2)) b y)

abbrev stale_bundle : PlainBundle
stale_bundle = bundle_of stale (again ∷ []) 1 []

pub record SoundButFormed (bundle : PlainBundle) : Type 0 where
  pub choreo : IsSoundTerm bundle.choreo
  pub rules : All (IsSoundRule bundle.cast) bundle.rules

stale-sound : SoundButFormed stale_bundle
stale-sound = record {
  choreo = record { connected = refl; no_self_message = refl };
  rules = All-cons (IsSoundRule stale_bundle.cast) again []
      (record { body = record { connected = refl; no_self_message = refl }; in_cast = refl }) (All-nil _);
}

abbrev stale_begins : List Entry
stale_begins = entry.Scope (at 0 1) a (chosen.Rule (codes "again") 1) ∷ put a b Begin (at 0 1) (note.Part 1) ∷ put a b (Op o) (at 1 0) (val 2) ∷ []

-- both messages are pending
abbrev both_put : List Entry
both_put = stale_begins ++ (put a b (Op o) (at 1 0) (val 1) ∷ [])

abbrev both_end : Network
both_end = (some_is (network_run stale_bundle both_put) refl).0

pub needs_marks-keys : ((bundle : PlainBundle) (H : List Entry) (N : Network) → SoundButFormed bundle → network_run bundle H ≡ Some N
    → distinct_keys (map (λ message. message.0) N.pending) ≡ true) → ⊥
needs_marks-keys law = both_ways false refl (law stale_bundle both_put both_end stale-sound refl)

-- the update's message is taken for the other one
abbrev wrong_take : List Entry
wrong_take = stale_begins ++ (take_op a b o (at 1 0) x ∷ [])

pub needs_marks-simulation : ((bundle : PlainBundle) (H : List Entry) (N : Network) → SoundButFormed bundle → network_run bundle H ≡ Some N
    → Explains bundle (visible H) N) → ⊥
needs_marks-simulation law =
    let ran = some_is (network_run stale_bundle wrong_take) refl in
    let explained : Explains stale_bundle (visible wrong_take) ran.0 = law stale_bundle wrong_take ran.0 stale-sound ran.1 in
    none_is_some explained.plays

-- A body whose indices have two epochs loses by its stamp what told them apart.
two_epochs : stamped (Par (Set (at 0 0) x a (Const (int 1))) (Set (at 1 0) y b (Const (int 2)))) 3 1
    ≡ Par (Set (at 3 0) x a (Const (int 1))) (Set (at 3 0) y b (Const (int 2)))
two_epochs = refl

-- A rule whose body has a role that the scope lacks: `scope @a { y@a = 1 }` and the body `o: a(2) -> b(x)`. The book doesn't choose it.
abbrev alone : Term
alone = Scope unmarked a (Set unmarked y a (Const (int 1))) [] [] 0

-- the program names the other role elsewhere
abbrev foreign : PlainBundle
foreign = program (Seq (Com unmarked q b (Const (int 1)) a x) alone) (rule_of (codes "wide") direct ∷ []) 1 []

abbrev foreign_begins : List Entry
foreign_begins = put b a (Op q) (at 0 0) (val 1) ∷ take_op b a q (at 0 0) x ∷ []

foreign-refused : network_run foreign (foreign_begins ++ (entry.Scope (at 0 1) a (chosen.Rule (codes "wide") 1) ∷ [])) ≡ None
foreign-refused = refl

foreign-kept : run_to_end foreign (foreign_begins ++ (entry.Scope (at 0 1) a chosen.Keep ∷ entry.Set (at 0 2) a y (int 1) ∷ [])) ≡ Some true
foreign-kept = refl

-- If the book did choose it: the leader puts its message and has ended, the other role has nothing to do, and the choreography waits for it.
abbrev next_process : Attempt Deed Process → (Process → Option Process) → Option Process
next_process Stuck rest = None
next_process (Does deed P) rest = rest P

-- what is left of a process after acts
abbrev left_after : Role → Store → Process → List (Act × Given) → Option Process
left_after me s P [] = Some P
left_after me s P (done ∷ dones) = next_process (step me s P done.0 done.1) (λ Q. left_after me s Q dones)

abbrev next_running : Attempt Effect Running → (Running → Option Running) → Option Running
next_running Stuck rest = None
next_running (Does effect G) rest = rest G

-- a book that chooses the rule for every scope
abbrev reckless : ScopeHead → BookChoice
reckless head = TakesRule (codes "wide") direct

-- what is left of a running term after entries, with that book and no update so far
abbrev running_after : Running → List Entry → Option Running
running_after G [] = Some G
running_after G (e ∷ es) = next_running (plays (a ∷ b ∷ []) (λ r. fresh_store []) reckless 0 G e) (λ H. running_after H es)

reckless-leader : option_map ended (left_after a (fresh_store []) (projected (a ∷ b ∷ []) (indexed alone) a)
    ((act.Scope (at 0 0), FromBook (λ head. decision (a ∷ b ∷ []) 0 head (reckless head))) ∷ (act.Put (key a b (at 1 0) (Op o)), Alone) ∷ [])) ≡ Some true
reckless-leader = refl

reckless-other : ended (projected (a ∷ b ∷ []) (indexed alone) b) ≡ true
reckless-other = refl

abbrev reckless_end : Option Running
reckless_end = running_after (started (indexed alone))
    (entry.Scope (at 0 0) a (chosen.Rule (codes "wide") 1) ∷ put a b (Op o) (at 1 0) (val 2) ∷ [])

reckless-goes_on : option_map running.ended reckless_end ≡ Some false
reckless-goes_on = refl

reckless-waits : option_map (is_due b) reckless_end ≡ Some true
reckless-waits = refl

-- To be played isn't to be settled: `o: a(1) -> b(x); scope @a { if g@a { q: a(1) -> b(x) } }; y@a = 1`, where g isn't set. The choreography
-- plays the setting of y before b took its message; but b is of the scope and hasn't come to its end.
abbrev hasty : Term
hasty = Seq (Com unmarked o a (Const (int 1)) b x)
    (Seq (Scope unmarked a (If unmarked a (Var (codes "g")) (Com unmarked q a (Const (int 1)) b x) Skip) [] [] 0) (Set unmarked y a (Const (int 1))))

abbrev hasty_visible : List Entry
hasty_visible = put a b (Op o) (at 0 0) (val 1) ∷ entry.Scope (at 0 1) a chosen.Keep ∷ entry.Pick (at 0 2) a false ∷ entry.Set (at 0 4) a y (int 1) ∷ []

hasty-played : is_some (play (program hasty [] 0 []) hasty_visible) ≡ true
hasty-played = refl

pub hasty-unsettled : IsSettled (program hasty [] 0 []) hasty_visible → ⊥
hasty-unsettled settled = both_ways true (settled.1.1.1.0.1.0.0 refl b refl) refl

-- the network lets nobody out so early
hasty-network : network_run (program hasty [] 0 []) (put a b (Op o) (at 0 0) (val 1) ∷ entry.Scope (at 0 1) a chosen.Keep ∷
    put a b Begin (at 0 1) note.Keep ∷ entry.Pick (at 0 2) a false ∷ put a b Choice (at 0 2) (note.Flag false) ∷ entry.Set (at 0 4) a y (int 1) ∷ []) ≡ None
hasty-network = refl
