-- Which entry a running choreography plays, and what it becomes.
use Rattle.std.specs.Prelude.{ℕ, suc, List, [], ◌∷◌, ◌++◌, Bool, false, ◌&&◌, not, nat_le, Option, Some, None, if◌then◌else◌, slice_get, option_map, option_and_then}
use Rattle.std.specs.Option.{option_map_or}
use Rattle.dioc_terms.specs.declared.names.Role.{Role}
use Rattle.dioc_terms.specs.declared.names.Index.{Index}
use Rattle.dioc_terms.specs.declared.values.Value.{Value}
use Rattle.dioc_terms.specs.declared.processes.Key.{Key}
use Rattle.dioc_terms.specs.declared.processes.Tag.TheVariants.{Op}
use Rattle.dioc_terms.specs.declared.processes.ScopeHead.{ScopeHead}
use Rattle.dioc_terms.specs.declared.entries.Note.TheVariants as note
use Rattle.dioc_terms.specs.declared.entries.Chosen.TheVariants as chosen
use Rattle.dioc_terms.specs.declared.entries.Entry.{Entry}
use Rattle.dioc_terms.specs.declared.entries.Entry.TheVariants as entry
use Rattle.dioc_terms.specs.declared.bundles.Change.{Change}
use Rattle.dioc_terms.specs.declared.bundles.Change.TheVariants as change
use Rattle.dioc_terms.specs.declared.bundles.Timed.{Timed}
use Rattle.dioc_terms.specs.Equality.{role_eq, entry_eq}
use Rattle.dioc_terms.specs.Expressions.{Expression}
use Rattle.dioc_terms.specs.Messages.{is_aux, doer}
use Rattle.dioc_terms.specs.Attempts.{Attempt, Stuck, Does, under, orelse, when}
use Rattle.dioc_terms.specs.Plain.{PlainRule, PlainBundle, Setting, setting}
use Rattle.dioc_terms.specs.Rules.{Book, apply, choose, opening_book}
use Rattle.dioc_terms.specs.Stores.{Store, fresh_store, set_variable, next_input, drop_input}
use Rattle.dioc_terms.specs.Terms as term
use Rattle.dioc_terms.specs.Terms.{Term, is_in, stamped, head_of}
use Rattle.dioc_terms.specs.Values.{eval, is_true}
use Rattle.global_steps.specs.Running.{Running, Skip, Com, Set, Input, Seq, Par, If, While, Scope, Fly, Bar, Again, started, ended, light, is_due}

-- what a step does to the store of the entry's role
pub data Effect : Type 0 where
  Leaves : Effect
  Assigns : List ℕ → Value → Effect
  -- the next input goes into the variable
  Reads : List ℕ → Value → Effect

abbrev pub affected : Effect → Store → Store
affected Leaves s = s
affected (Assigns x v) s = set_variable x v s
affected (Reads x v) s = set_variable x v (drop_input s)

-- what the book decides of a scope: it keeps its body, or a rule of that name and with that body
-- replaces it
pub data BookChoice : Type 0 where
  KeepsBody : BookChoice
  TakesRule : List ℕ → Term → BookChoice

-- the answer of the book, given the store of the scope's leader
abbrev pub book_choice : List PlainRule → Book → ScopeHead → Store → BookChoice
book_choice rules book head s = of_choice (choose rules book head s)
  where
    of_rule : Option PlainRule → BookChoice
    of_rule None = KeepsBody
    of_rule (Some rule) = TakesRule rule.name rule.body

    of_choice : Option ℕ → BookChoice
    of_choice None = KeepsBody
    of_choice (Some m) = of_rule (slice_get rules m)

abbrev pub operation : Role → Role → Index → List ℕ → Key
operation a b i o = record { from = a; to = b; index = i; tag = Op o }

-- whether the entry is the role's
abbrev pub is_doer_due : Entry → Running → Bool
is_doer_due e G = due_in (doer e)
  where
    due_in : Option Role → Bool
    due_in None = false
    due_in (Some q) = is_due q G

-- the cast, the stores, the answers of the book, and the number of updates so far
module _ (cast : List Role) (stores : Role → Store) (choices : ScopeHead → BookChoice) (updates : ℕ)
  where
    -- a pick of a loop: a turn with a fresh body, or the end
    abbrev pub while_plays : Index → Role → Expression → Term → Entry → Attempt Effect Running
    while_plays i r g I e =
        when (entry_eq e (entry.Pick i r (is_true (eval g (stores r)))))
        (Does Leaves (if is_true (eval g (stores r)) then Again i r g I (started I) else Skip))

    -- a chosen scope: of its own body, or of a rule's body as the next update, one level higher
    abbrev pub scope_plays : Index → Role → Term → (Role → Bool) → ℕ → BookChoice → Entry
        → Attempt Effect Running
    scope_plays i r I roles level KeepsBody e =
        when (entry_eq e (entry.Scope i r chosen.Keep)) (Does Leaves (Bar roles (started I)))
    scope_plays i r I roles level (TakesRule name body) e =
        when (entry_eq e (entry.Scope i r (chosen.Rule name (suc updates))))
        (Does Leaves (Bar roles (started (stamped body (suc updates) (suc level)))))

    -- The running term after an entry of a role, where the entry is played: all its fields must be
    -- those that the case gives.
    abbrev pub plays : Running → Entry → Attempt Effect Running
    plays Skip e = Stuck
    -- the message begins to fly, with the value of its expression
    plays (Com i o a x b y) e =
        when (entry_eq e (entry.Put (operation a b i o) (note.Val (eval x (stores a)))))
        (Does Leaves (Fly i o a b y (eval x (stores a))))
    -- it lands in the receiver's variable
    plays (Fly i o a b y v) e =
        when (entry_eq e (entry.Take (operation a b i o) (Some y))) (Does (Assigns y v) Skip)
    plays (Set i x r y) e =
        when (entry_eq e (entry.Set i r x (eval y (stores r))))
        (Does (Assigns x (eval y (stores r))) Skip)
    plays (Input i x r) e =
        when (entry_eq e (entry.Input i r x (next_input (stores r))))
        (Does (Reads x (next_input (stores r))) Skip)
    plays (If i r g I J) e =
        when (entry_eq e (entry.Pick i r (is_true (eval g (stores r)))))
        (Does Leaves (started (if is_true (eval g (stores r)) then I else J)))
    plays (While i r g I) e = while_plays i r g I e
    -- inside the turn, or where it has ended the next pick of the loop
    plays (Again i r g I G) e =
        orelse (under (Again i r g I) (plays G e)) (when (ended G) (while_plays i r g I e))
    plays (Scope i r I extra props level) e =
        scope_plays i r I (λ q. is_in q (term.Scope i r I extra props level)) level
        (choices (head_of cast i r I extra props level)) e
    plays (Bar roles G) e = under (Bar roles) (plays G e)
    -- the left part, else the right one
    plays (Par G H) e = orelse (under (λ K. Par K H) (plays G e)) (under (Par G) (plays H e))
    -- the first part, else the second where the first has nothing left but messages in flight, none
    -- of them for the entry's role
    plays (Seq G H) e =
        orelse (under (λ K. Seq K H) (plays G e))
        (when (light G && not (is_doer_due e G)) (under (Seq G) (plays H e)))

-- the state of a play
pub record State : Type 0 where
  pub running : Running
  pub stores : Role → Store
  pub book : Book
  -- the numbers of updates, of changes, and of entries so far
  pub updates : ℕ
  pub changes : ℕ
  pub entries : ℕ

abbrev pub updated : {A : Type 0} → Role → A → (Role → A) → Role → A
updated r a f q = if role_eq q r then a else f q

-- the entry that a change of the script shows: of an add the rule's name
abbrev pub change_entry : List PlainRule → Change → Option Entry
change_entry rules (change.Add m) =
    option_map (λ (rule : PlainRule). entry.Add rule.name) (slice_get rules m)
change_entry rules (change.Drop name) = Some (entry.Drop name)
change_entry rules (change.Env key v) = Some (entry.Env key v)

-- whether the entry shows the change
abbrev pub shows : List PlainRule → Entry → Change → Bool
shows rules e c = is_that (change_entry rules c)
  where
    is_that : Option Entry → Bool
    is_that None = false
    is_that (Some d) = entry_eq e d

abbrev pub updates_after : Entry → ℕ → ℕ
updates_after (entry.Scope i r (chosen.Rule name n)) updates = suc updates
updates_after _ updates = updates

-- the next state after an entry of a role
abbrev pub follow_role : Setting → State → Role → Entry → Option State
follow_role b S r e =
    next (plays b.cast S.stores (λ head. book_choice b.rules S.book head (S.stores head.leader))
    S.updates S.running e)
  where
    next : Attempt Effect Running → Option State
    next Stuck = None
    next (Does effect G) =
        Some (record {
          running = G;
          stores = updated r (affected effect (S.stores r)) S.stores;
          book = S.book;
          updates = updates_after e S.updates;
          changes = S.changes;
          entries = suc S.entries;
        })

-- the next state after the script's next change, which may stand once its stated number of entries
-- is there
abbrev pub follow_change : Setting → State → Entry → Option State
follow_change b S e = by_script (slice_get b.script S.changes)
  where
    by_script : Option Timed → Option State
    by_script None = None
    by_script (Some timed) =
        if shows b.rules e timed.change && nat_le timed.after S.entries
        then Some (record {
          running = S.running;
          stores = S.stores;
          book = apply b.rules S.book timed.change;
          updates = S.updates;
          changes = suc S.changes;
          entries = suc S.entries;
        })
        else None

-- the next state after an entry, where the entry is played
abbrev pub follow : Setting → State → Entry → Option State
follow b S e = by_doer (doer e)
  where
    by_doer : Option Role → Option State
    by_doer None = follow_change b S e
    by_doer (Some r) = follow_role b S r e

-- the inputs of a role: all that is given for it, joined in their order
abbrev pub inputs_of : List (Role × List Value) → Role → List Value
inputs_of [] r = []
inputs_of (given ∷ rest) r =
    if role_eq given.0 r then given.1 ++ inputs_of rest r else inputs_of rest r

abbrev pub opening_store : PlainBundle → Role → Store
opening_store b r = fresh_store (inputs_of b.inputs r)

-- the start of a play
abbrev pub play_start : PlainBundle → State
play_start b = record {
  running = started b.choreo;
  stores = opening_store b;
  book = opening_book b.rules b.opening b.env;
  updates = 0;
  changes = 0;
  entries = 0;
}

-- the state after entries, where each is played after those before it
abbrev pub play_from : Setting → State → List Entry → Option State
play_from b S [] = Some S
play_from b S (e ∷ es) = option_and_then (λ next. play_from b next es) (follow b S e)

abbrev pub play : PlainBundle → List Entry → Option State
play b es = play_from (setting b) (play_start b) es

-- The number, from 1, of the first entry that isn't played. Auxiliary entries are passed over, and
-- counted. The number is of the next entry, from a state.
abbrev pub stray_from : Setting → State → ℕ → List Entry → Option ℕ
stray_from b S n [] = None
stray_from b S n (e ∷ es) =
    if is_aux e then stray_from b S (suc n) es else option_map_or
    (λ next. stray_from b next (suc n) es) (follow b S e) (Some n)

abbrev pub stray : PlainBundle → List Entry → Option ℕ
stray b es = stray_from (setting b) (play_start b) 1 es
