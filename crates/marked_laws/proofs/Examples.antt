-- Small bundles and runs of their networks, computed: an update that drops a role, a loop with a scope inside, two updates in one run,
-- and a change between the choice of a scope and its begin messages. Each run is ended, and so is the play of its visible part.
use Rattle.std.proofs.Common.{◌≡◌, ℕ, List, [], ◌∷◌, ◌++◌, Bool, true, false, Option, Some, None, refl, pos}
use Rattle.std.specs.Prelude.{codes, option_map, take}
use Rattle.dioc_terms.specs.declared.names.Role.{Role}
use Rattle.dioc_terms.specs.declared.names.Index.{Index}
use Rattle.dioc_terms.specs.declared.values.Value.{Value}
use Rattle.dioc_terms.specs.declared.values.Value.TheVariants as value
use Rattle.dioc_terms.specs.declared.expressions.Oper.TheVariants as oper
use Rattle.dioc_terms.specs.declared.processes.Tag.{Tag}
use Rattle.dioc_terms.specs.declared.processes.Tag.TheVariants.{Op, Go, Turn, Begin, End, Out}
use Rattle.dioc_terms.specs.declared.entries.Note.{Note}
use Rattle.dioc_terms.specs.declared.entries.Note.TheVariants as note
use Rattle.dioc_terms.specs.declared.entries.Chosen.TheVariants as chosen
use Rattle.dioc_terms.specs.declared.entries.Entry.{Entry}
use Rattle.dioc_terms.specs.declared.entries.Entry.TheVariants as entry
use Rattle.dioc_terms.specs.declared.bundles.Change.TheVariants as change
use Rattle.dioc_terms.specs.declared.bundles.Timed.{Timed}
use Rattle.dioc_terms.specs.Expressions.{Expression, Const, Var, Prop, Env, Not, Neg, Bin}
use Rattle.dioc_terms.specs.Messages.{visible}
use Rattle.dioc_terms.specs.Plain.{PlainRule, PlainBundle}
use Rattle.dioc_terms.specs.Stores.{variable}
use Rattle.dioc_terms.specs.Terms.{Term, Skip, Com, Set, Input, Seq, Par, If, While, Scope, cast_of, indexed}
use Rattle.global_steps.specs.Running as running
use Rattle.global_steps.specs.Follow.{State, play}
use Rattle.network_steps.specs.Network.{Network, network_run, network_ended}

-- a bundle of a choreography whose indices are as given, with rules, of which the first so many are opening, and a script
abbrev pub bundle_of : Term → List PlainRule → ℕ → List Timed → PlainBundle
bundle_of I rules opening script = record {
  version = 1;
  cast = cast_of I;
  choreo = I;
  rules = rules;
  opening = opening;
  env = [];
  inputs = [];
  script = script;
  trace = record { entries = []; last = None };
}

-- a bundle with the indices of its text
abbrev pub program : Term → List PlainRule → ℕ → List Timed → PlainBundle
program I = bundle_of (indexed I)

-- a rule that always holds
abbrev pub rule_of : List ℕ → Term → PlainRule
rule_of name body = record { name = name; priority = pos 0; cond = Const (value.Bool true); body = indexed body }

abbrev pub a : Role
a = record { 0 = codes "a" }

abbrev pub b : Role
b = record { 0 = codes "b" }

abbrev pub c : Role
c = record { 0 = codes "c" }

abbrev pub x : List ℕ
x = codes "x"

abbrev pub y : List ℕ
y = codes "y"

abbrev pub n : List ℕ
n = codes "n"

abbrev pub o : List ℕ
o = codes "o"

abbrev pub q : List ℕ
q = codes "q"

abbrev pub at : ℕ → ℕ → Index
at epoch place = record { epoch = epoch; place = place }

-- no index yet: the text gives it
abbrev pub unmarked : Index
unmarked = at 0 0

abbrev pub int : ℕ → Value
int k = value.Int (pos k)

abbrev pub val : ℕ → Note
val k = note.Val (int k)

abbrev pub put : Role → Role → Tag → Index → Note → Entry
put from to tag i sent = entry.Put (record { from = from; to = to; index = i; tag = tag }) sent

abbrev pub take_op : Role → Role → List ℕ → Index → List ℕ → Entry
take_op from to operation i kept = entry.Take (record { from = from; to = to; index = i; tag = Op operation }) (Some kept)

abbrev pub take_aux : Role → Role → Tag → Index → Entry
take_aux from to tag i = entry.Take (record { from = from; to = to; index = i; tag = tag }) None

-- whether the choreography plays these entries, and if so whether to its end
abbrev pub played_to_end : PlainBundle → List Entry → Option Bool
played_to_end bundle es = option_map (λ (S : State). running.ended S.running) (play bundle es)

-- whether the network runs these entries, and if so whether to its end
abbrev pub run_to_end : PlainBundle → List Entry → Option Bool
run_to_end bundle es = option_map (λ (N : Network). network_ended bundle.cast N) (network_run bundle es)

-- what a variable of a role is after a run, and after the play of its visible part
abbrev pub left_in : PlainBundle → List Entry → Role → List ℕ → Option Value × Option Value
left_in bundle es r name = (
  option_map (λ (N : Network). variable (N.stores r) name) (network_run bundle es),
  option_map (λ (S : State). variable (S.stores r) name) (play bundle (visible es)),
)

-- An update that drops a role: `scope @a { o: a(1) -> b(x); q: b(x) -> c(y) }`, and the rule's body is `o: a(2) -> b(x)`. The role that
-- is dropped is told so, tells its end and waits for the release like the others.
abbrev pub relay : Term
relay = Scope unmarked a (Seq (Com unmarked o a (Const (int 1)) b x) (Com unmarked q b (Var x) c y)) [] [] 0

abbrev pub direct : Term
direct = Com unmarked o a (Const (int 2)) b x

abbrev drops : PlainBundle
drops = program relay (rule_of (codes "short") direct ∷ []) 1 []

abbrev drops_begins : List Entry
drops_begins =
    entry.Scope (at 0 0) a (chosen.Rule (codes "short") 1) ∷ put a b Begin (at 0 0) (note.Part 1) ∷ put a c Begin (at 0 0) (note.Part 1) ∷
    put a b (Op o) (at 1 0) (val 2) ∷ take_aux a c Begin (at 0 0) ∷ put c a End (at 0 0) note.Done ∷ take_aux a b Begin (at 0 0) ∷
    take_op a b o (at 1 0) x ∷ put b a End (at 0 0) note.Done ∷ take_aux b a End (at 0 0) ∷ []

abbrev drops_run : List Entry
drops_run = drops_begins ++ (take_aux c a End (at 0 0) ∷ put a b Out (at 0 0) note.Done ∷ put a c Out (at 0 0) note.Done ∷
    take_aux a c Out (at 0 0) ∷ take_aux a b Out (at 0 0) ∷ [])

drops-runs : run_to_end drops drops_run ≡ Some true
drops-runs = refl

drops-played : played_to_end drops (visible drops_run) ≡ Some true
drops-played = refl

drops-left : left_in drops drops_run b x ≡ (Some (int 2), Some (int 2))
drops-left = refl

-- no release before the end of the dropped role, and none of its messages before it took its begin
drops-early_release : network_run drops (drops_begins ++ (put a b Out (at 0 0) note.Done ∷ [])) ≡ None
drops-early_release = refl

drops-early_end : network_run drops (take 4 drops_begins ++ (put c a End (at 0 0) note.Done ∷ [])) ≡ None
drops-early_end = refl

-- the dropped role has no part of the scope's own body
drops-foreign : network_run drops (take 8 drops_begins ++ (put b c (Op q) (at 0 2) (val 2) ∷ [])) ≡ None
drops-foreign = refl

-- A loop of two turns with a scope inside: `n@a = 0; while n < 2 @a { scope @a { o: a(n) -> b(x) }; n@a = n + 1 }`. With a rule in the book
-- each turn is an update of its own.
abbrev pub turns : Term
turns = Seq (Set unmarked n a (Const (int 0)))
    (While unmarked a (Bin oper.Lt (Var n) (Const (int 2)))
    (Seq (Scope unmarked a (Com unmarked o a (Var n) b x) [] [] 0) (Set unmarked n a (Bin oper.Add (Var n) (Const (int 1))))))

-- one turn: what the book chooses, what the begin carries, the index of the interaction, what it sends, and what becomes of the counter
abbrev turn_of : Entry → Note → Index → ℕ → ℕ → List Entry
turn_of choice begin i sent next =
    entry.Pick (at 0 1) a true ∷ put a b Go (at 0 1) (note.Flag true) ∷ choice ∷ put a b Begin (at 0 2) begin ∷ put a b (Op o) i (val sent) ∷
    take_aux a b Go (at 0 1) ∷ take_aux a b Begin (at 0 2) ∷ take_op a b o i x ∷ put b a End (at 0 2) note.Done ∷ take_aux b a End (at 0 2) ∷
    put a b Out (at 0 2) note.Done ∷ entry.Set (at 0 4) a n (int next) ∷ take_aux a b Out (at 0 2) ∷ put b a Turn (at 0 1) note.Done ∷
    take_aux b a Turn (at 0 1) ∷ []

abbrev leaves_loop : List Entry
leaves_loop = entry.Pick (at 0 1) a false ∷ put a b Go (at 0 1) (note.Flag false) ∷ take_aux a b Go (at 0 1) ∷ []

abbrev kept_turn : ℕ → ℕ → List Entry
kept_turn = turn_of (entry.Scope (at 0 2) a chosen.Keep) note.Keep (at 0 3)

abbrev kept_run : List Entry
kept_run = entry.Set (at 0 0) a n (int 0) ∷ (kept_turn 0 1 ++ (kept_turn 1 2 ++ leaves_loop))

kept-runs : run_to_end (program turns [] 0 []) kept_run ≡ Some true
kept-runs = refl

kept-played : played_to_end (program turns [] 0 []) (visible kept_run) ≡ Some true
kept-played = refl

kept-left : left_in (program turns [] 0 []) kept_run b x ≡ (Some (int 1), Some (int 1))
kept-left = refl

-- no second turn while the first one's end is on its way, nor while the other role is still to be let out of the scope
kept-early_turn : network_run (program turns [] 0 []) (entry.Set (at 0 0) a n (int 0) ∷ (take 14 (kept_turn 0 1) ++ (entry.Pick (at 0 1) a true ∷ []))) ≡ None
kept-early_turn = refl

kept-early_end : network_run (program turns [] 0 []) (entry.Set (at 0 0) a n (int 0) ∷ (take 12 (kept_turn 0 1) ++ (put b a Turn (at 0 1) note.Done ∷ []))) ≡ None
kept-early_end = refl

-- two updates in one run: each has its own number, so the messages of the two turns have different keys
abbrev updates_twice : PlainBundle
updates_twice = program turns (rule_of (codes "seven") (Com unmarked o a (Const (int 7)) b x) ∷ []) 1 []

abbrev updated_turn : ℕ → ℕ → List Entry
updated_turn update next = turn_of (entry.Scope (at 0 2) a (chosen.Rule (codes "seven") update)) (note.Part update) (at update 0) 7 next

abbrev updates_run : List Entry
updates_run = entry.Set (at 0 0) a n (int 0) ∷ (updated_turn 1 1 ++ (updated_turn 2 2 ++ leaves_loop))

updates-runs : run_to_end updates_twice updates_run ≡ Some true
updates-runs = refl

updates-played : played_to_end updates_twice (visible updates_run) ≡ Some true
updates-played = refl

updates-left : left_in updates_twice updates_run b x ≡ (Some (int 7), Some (int 7))
updates-left = refl

updates-counted : option_map (λ (N : Network). N.updates) (network_run updates_twice updates_run) ≡ Some 2
updates-counted = refl

-- an update has the next number, and no other
updates-same_number : network_run updates_twice (entry.Set (at 0 0) a n (int 0) ∷ (updated_turn 1 1 ++ take 3 (updated_turn 1 2))) ≡ None
updates-same_number = refl

-- A change between the choice of a scope and its begin messages: the rule is dropped, and the update goes on. The next turn keeps its body.
abbrev drops_rule : PlainBundle
drops_rule = program turns (rule_of (codes "seven") (Com unmarked o a (Const (int 7)) b x) ∷ []) 1
    (record { after = 3; change = change.Drop (codes "seven") } ∷ [])

abbrev changed_run : List Entry
changed_run = entry.Set (at 0 0) a n (int 0) ∷ (take 3 (updated_turn 1 1) ++ (entry.Drop (codes "seven") ∷
    (put a b Begin (at 0 2) (note.Part 1) ∷ put a b (Op o) (at 1 0) (val 7) ∷ take_aux a b Go (at 0 1) ∷ take_aux a b Begin (at 0 2) ∷
    take_op a b o (at 1 0) x ∷ put b a End (at 0 2) note.Done ∷ take_aux b a End (at 0 2) ∷ put a b Out (at 0 2) note.Done ∷
    entry.Set (at 0 4) a n (int 1) ∷ take_aux a b Out (at 0 2) ∷ put b a Turn (at 0 1) note.Done ∷ take_aux b a Turn (at 0 1) ∷
    (kept_turn 1 2 ++ leaves_loop))))

changed-runs : run_to_end drops_rule changed_run ≡ Some true
changed-runs = refl

changed-played : played_to_end drops_rule (visible changed_run) ≡ Some true
changed-played = refl

changed-left : left_in drops_rule changed_run b x ≡ (Some (int 1), Some (int 1))
changed-left = refl

-- the change may not stand before its stated number of visible entries, and the rule isn't chosen after it
changed-early : network_run drops_rule (entry.Set (at 0 0) a n (int 0) ∷ entry.Pick (at 0 1) a true ∷ entry.Drop (codes "seven") ∷ []) ≡ None
changed-early = refl

changed-gone : network_run drops_rule (take 17 changed_run ++ take 3 (updated_turn 2 2)) ≡ None
changed-gone = refl

changed-goes_on : option_map (λ (N : Network). N.updates) (network_run drops_rule (take 17 changed_run ++ take 3 (kept_turn 1 2))) ≡ Some 1
changed-goes_on = refl
