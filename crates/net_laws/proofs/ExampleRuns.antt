-- Runs of each construct, computed: a loop of two turns, a choice, a scope that keeps its body, updates in the middle of a run, named
-- roles and priorities; and entries that must be refused.
use Rattle.std.proofs.Common.{◌≡◌, ℕ, List, [], ◌∷◌, ◌++◌, Bool, true, false, Some, None, refl, pos, length}
use Rattle.std.specs.Prelude.{codes, take}
use Rattle.dioc_terms.specs.declared.values.Value.{Value}
use Rattle.dioc_terms.specs.declared.values.Value.TheVariants as value
use Rattle.dioc_terms.specs.declared.expressions.Oper.TheVariants as oper
use Rattle.dioc_terms.specs.declared.processes.Tag.TheVariants.{Op, Choice, Go, Turn, Begin, End, Out}
use Rattle.dioc_terms.specs.declared.entries.Note.TheVariants as note
use Rattle.dioc_terms.specs.declared.entries.Chosen.TheVariants as chosen
use Rattle.dioc_terms.specs.declared.entries.Entry.{Entry}
use Rattle.dioc_terms.specs.declared.entries.Entry.TheVariants as entry
use Rattle.dioc_terms.specs.declared.bundles.Change.TheVariants as change
use Rattle.dioc_terms.specs.declared.bundles.Timed.{Timed}
use Rattle.dioc_terms.specs.Expressions.{Expression, Const, Var, Prop, Env, Bin}
use Rattle.dioc_terms.specs.Messages.{visible}
use Rattle.dioc_terms.specs.Plain.{PlainRule, PlainBundle}
use Rattle.dioc_terms.specs.Terms.{Term, Skip, Com, Set, Seq, Par, If, While, Scope, indexed, cast_of}
use Rattle.global_steps.specs.Follow.{play, stray}
use Rattle.network_steps.specs.Network.{network_run}
use Rattle.rule_checks.specs.Refusals.{refusal}
use Rattle.network_steps.specs.Schedule.{sched}
use Rattle.net_laws.proofs.Examples.{program, role, at, unmarked, put, take_op, take_aux, int, val, played_to_end, run_to_end}

abbrev a : List ℕ
a = codes "a"

abbrev b : List ℕ
b = codes "b"

abbrev c : List ℕ
c = codes "c"

abbrev x : List ℕ
x = codes "x"

abbrev n : List ℕ
n = codes "n"

abbrev o : List ℕ
o = codes "o"

-- the loop of two turns: `n@a = 0; while n < 2 @a { o: a(n) -> b(x); n@a = n + 1 }`
abbrev two_turns : Term
two_turns = Seq (Set unmarked n (role a) (Const (int 0)))
    (While unmarked (role a) (Bin oper.Lt (Var n) (Const (int 2)))
    (Seq (Com unmarked o (role a) (Var n) (role b) x) (Set unmarked n (role a) (Bin oper.Add (Var n) (Const (int 1))))))

abbrev set_n : ℕ → ℕ → Entry
set_n i v = entry.Set (at 0 i) (role a) n (int v)

abbrev pick_a : ℕ → Bool → Entry
pick_a i flag = entry.Pick (at 0 i) (role a) flag

abbrev turn_of : ℕ → ℕ → List Entry
turn_of v w =
    pick_a 1 true ∷ put a b Go (at 0 1) (note.Flag true) ∷ put a b (Op o) (at 0 2) (val v) ∷ set_n 3 w ∷ take_aux a b Go (at 0 1) ∷
    take_op a b o (at 0 2) x ∷ put b a Turn (at 0 1) note.Done ∷ take_aux b a Turn (at 0 1) ∷ []

abbrev two_turns_run : List Entry
two_turns_run = set_n 0 0 ∷ (turn_of 0 1 ++ (turn_of 1 2 ++
    (pick_a 1 false ∷ put a b Go (at 0 1) (note.Flag false) ∷ take_aux a b Go (at 0 1) ∷ [])))

two_turns-sched : sched (program two_turns) None 20000 ≡ two_turns_run
two_turns-sched = refl

two_turns-played : played_to_end (program two_turns) (visible two_turns_run) ≡ Some true
two_turns-played = refl

-- a second turn's pick before all turns were gathered is undefined
early_pick-network : network_run (program two_turns) (set_n 0 0 ∷ take 7 (turn_of 0 1) ++ (pick_a 1 true ∷ [])) ≡ None
early_pick-network = refl

early_pick : stray (program two_turns) (set_n 0 0 ∷ pick_a 1 true ∷ put a b (Op o) (at 0 2) (val 0) ∷ pick_a 1 true ∷ []) ≡ Some 4
early_pick = refl

-- the choice whose guard isn't set: `if g@a { o: a(1) -> b(y) }; p: b(2) -> c(z)`
abbrev choice : Term
choice = Seq (If unmarked (role a) (Var (codes "g")) (Com unmarked o (role a) (Const (int 1)) (role b) (codes "y")) Skip)
    (Com unmarked (codes "p") (role b) (Const (int 2)) (role c) (codes "z"))

choice-sched : sched (program choice) None 20000 ≡
    pick_a 0 false ∷ put a b Choice (at 0 0) (note.Flag false) ∷ take_aux a b Choice (at 0 0) ∷ put b c (Op (codes "p")) (at 0 2) (val 2) ∷
    take_op b c (codes "p") (at 0 2) (codes "z") ∷ []
choice-sched = refl

choice-accepted : refusal (program choice) ≡ None
choice-accepted = refl

-- two interactions that share no waiting role; such a bundle is refused
abbrev unconnected : Term
unconnected = Seq (Com unmarked (codes "p") (role a) (Const (int 1)) (role c) x) (Com unmarked (codes "q") (role b) (Const (int 2)) (role c) (codes "y"))

-- a rule without priority
abbrev pub rule_of : List ℕ → ℕ → Expression → Term → PlainRule
rule_of name priority condition body =
    record { name = name; priority = pos priority; cond = condition; body = indexed body }

-- a program with rules, the first so many of them opening, an environment and a script
abbrev pub program_with : ℕ → Term → List PlainRule → ℕ → List (List ℕ × Value) → List Timed → PlainBundle
program_with version I rules opening env script = record {
  version = version;
  cast = cast_of I;
  choreo = indexed I;
  rules = rules;
  opening = opening;
  env = env;
  inputs = [];
  script = script;
  trace = record { entries = []; last = None };
}

-- buyer and seller
abbrev buyer : List ℕ
buyer = codes "buyer"

abbrev seller : List ℕ
seller = codes "seller"

abbrev price : List ℕ
price = codes "price"

abbrev offer_of : ℕ → Term
offer_of v = Seq (Set unmarked price (role seller) (Const (int v))) (Com unmarked (codes "quote") (role seller) (Var price) (role buyer) (codes "p"))

abbrev trade : Term
trade = Seq (Set unmarked n (role buyer) (Const (int 0)))
    (While unmarked (role buyer) (Bin oper.Lt (Var n) (Const (int 2)))
    (Seq (Com unmarked (codes "ask") (role buyer) (Var n) (role seller) (codes "item"))
    (Seq (Scope unmarked (role seller) (offer_of 100) [] ((codes "name", value.Text (codes "offer")) ∷ []) 0)
    (Set unmarked n (role buyer) (Bin oper.Add (Var n) (Const (int 1)))))))

abbrev cheap : PlainRule
cheap = rule_of (codes "cheap") 0
    (Bin oper.And (Bin oper.Eq (Prop (codes "name")) (Const (value.Text (codes "offer")))) (Bin oper.Eq (Env (codes "season")) (Const (value.Text (codes "sale")))))
    (offer_of 80)

abbrev pub trade_bundle : PlainBundle
trade_bundle = program_with 1 trade (cheap ∷ []) 0 ((codes "season", value.Text (codes "sale")) ∷ []) (record { after = 6; change = change.Add 0 } ∷ [])

abbrev trade_visible : List Entry
trade_visible =
    entry.Set (at 0 0) (role buyer) n (int 0) ∷ entry.Pick (at 0 1) (role buyer) true ∷
    put buyer seller (Op (codes "ask")) (at 0 2) (val 0) ∷ take_op buyer seller (codes "ask") (at 0 2) (codes "item") ∷
    entry.Scope (at 0 3) (role seller) chosen.Keep ∷ entry.Set (at 0 4) (role seller) price (int 100) ∷ entry.Add (codes "cheap") ∷
    put seller buyer (Op (codes "quote")) (at 0 5) (val 100) ∷ take_op seller buyer (codes "quote") (at 0 5) (codes "p") ∷
    entry.Set (at 0 6) (role buyer) n (int 1) ∷ entry.Pick (at 0 1) (role buyer) true ∷
    put buyer seller (Op (codes "ask")) (at 0 2) (val 1) ∷ take_op buyer seller (codes "ask") (at 0 2) (codes "item") ∷
    entry.Scope (at 0 3) (role seller) (chosen.Rule (codes "cheap") 1) ∷ entry.Set (at 1 0) (role seller) price (int 80) ∷
    put seller buyer (Op (codes "quote")) (at 1 1) (val 80) ∷ take_op seller buyer (codes "quote") (at 1 1) (codes "p") ∷
    entry.Set (at 0 6) (role buyer) n (int 2) ∷ entry.Pick (at 0 1) (role buyer) false ∷ []

trade-sched : visible (sched trade_bundle None 20000) ≡ trade_visible
trade-sched = refl

trade-length : length (sched trade_bundle None 20000) ≡ 41
trade-length = refl

trade-played : played_to_end trade_bundle trade_visible ≡ Some true
trade-played = refl

-- a rule that isn't in the book is no choice
trade-dear : stray trade_bundle (take 13 trade_visible ++ (entry.Scope (at 0 3) (role seller) (chosen.Rule (codes "dear") 1) ∷ [])) ≡ Some 14
trade-dear = refl

-- a rule whose body names a role that isn't of the scope isn't chosen
foreign-kept : visible (sched (program_with 1
    (Seq (Com unmarked o (role a) (Const (int 1)) (role b) x) (Scope unmarked (role b) (Set unmarked (codes "y") (role b) (Var x)) [] ((codes "k", int 1) ∷ []) 0))
    (rule_of (codes "r") 0 (Const (value.Bool true)) (Com unmarked o (role b) (Const (int 1)) (role a) (codes "z")) ∷ []) 1 [] []) None 20000) ≡
    put a b (Op o) (at 0 0) (val 1) ∷ take_op a b o (at 0 0) x ∷ entry.Scope (at 0 1) (role b) chosen.Keep ∷ entry.Set (at 0 2) (role b) (codes "y") (int 1) ∷ []
foreign-kept = refl

-- a scope may name a role that its body lacks, and a rule's body may then use it
named-role : sched (program_with 2
    (Seq (Com unmarked (codes "p") (role a) (Const (int 1)) (role c) (codes "y")) (Scope unmarked (role a) (Set unmarked x (role a) (Const (int 0))) (role c ∷ []) ((codes "k", int 1) ∷ []) 0))
    (rule_of (codes "r") 0 (Bin oper.Eq (Prop (codes "k")) (Const (int 1))) (Com unmarked o (role a) (Const (int 2)) (role c) x) ∷ []) 1 [] []) None 20000 ≡
    put a c (Op (codes "p")) (at 0 0) (val 1) ∷ entry.Scope (at 0 1) (role a) (chosen.Rule (codes "r") 1) ∷ put a c Begin (at 0 1) (note.Part 1) ∷
    put a c (Op o) (at 1 0) (val 2) ∷ take_op a c (codes "p") (at 0 0) (codes "y") ∷ take_aux a c Begin (at 0 1) ∷ take_op a c o (at 1 0) x ∷
    put c a End (at 0 1) note.Done ∷ take_aux c a End (at 0 1) ∷ put a c Out (at 0 1) note.Done ∷ take_aux a c Out (at 0 1) ∷ []
named-role = refl

-- the first of the rules with the greatest priority is chosen
greatest-priority : sched (program_with 2 (Scope unmarked (role a) (Set unmarked x (role a) (Const (int 0))) [] ((codes "k", int 1) ∷ []) 0)
    (rule_of (codes "p") 0 (Const (value.Bool true)) (Set unmarked x (role a) (Const (int 1))) ∷
    rule_of (codes "q") 5 (Const (value.Bool true)) (Set unmarked x (role a) (Const (int 2))) ∷
    rule_of (codes "s") 5 (Const (value.Bool true)) (Set unmarked x (role a) (Const (int 3))) ∷ []) 3 [] []) None 20000 ≡
    entry.Scope (at 0 0) (role a) (chosen.Rule (codes "q") 1) ∷ entry.Set (at 1 0) (role a) x (int 2) ∷ []
greatest-priority = refl

-- side by side, and by a seed
abbrev pub side_by_side : Term
side_by_side = Par (Com unmarked (codes "p") (role a) (Const (int 1)) (role c) x) (Com unmarked (codes "q") (role b) (Const (int 2)) (role c) (codes "y"))

seeded : sched (program side_by_side) (Some 1) 20000 ≡
    put a c (Op (codes "p")) (at 0 0) (val 1) ∷ put b c (Op (codes "q")) (at 0 1) (val 2) ∷ take_op a c (codes "p") (at 0 0) x ∷ take_op b c (codes "q") (at 0 1) (codes "y") ∷ []
seeded = refl

-- the unconnected sequence has a run of the network that the choreography doesn't play
unconnected-run : run_to_end (program unconnected) (put b c (Op (codes "q")) (at 0 1) (val 2) ∷ put a c (Op (codes "p")) (at 0 0) (val 1) ∷
    take_op a c (codes "p") (at 0 0) x ∷ take_op b c (codes "q") (at 0 1) (codes "y") ∷ []) ≡ Some true
unconnected-run = refl

unconnected-not_played : play (program unconnected) (put b c (Op (codes "q")) (at 0 1) (val 2) ∷ []) ≡ None
unconnected-not_played = refl
