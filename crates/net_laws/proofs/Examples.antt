-- Small bundles, for whose runs the definitions are computed.
use Rattle.std.proofs.Common.{◌≡◌, ℕ, List, [], ◌∷◌, Bool, true, Option, Some, None, refl, pos}
use Rattle.std.specs.Prelude.{codes, option_map}
use Rattle.dioc_terms.specs.declared.names.Role.{Role}
use Rattle.dioc_terms.specs.declared.names.Index.{Index}
use Rattle.dioc_terms.specs.declared.values.Value.{Value}
use Rattle.dioc_terms.specs.declared.values.Value.TheVariants as value
use Rattle.dioc_terms.specs.declared.processes.Tag.{Tag}
use Rattle.dioc_terms.specs.declared.processes.Tag.TheVariants.{Op}
use Rattle.dioc_terms.specs.declared.entries.Note.{Note}
use Rattle.dioc_terms.specs.declared.entries.Note.TheVariants as note
use Rattle.dioc_terms.specs.declared.entries.Entry.{Entry}
use Rattle.dioc_terms.specs.declared.entries.Entry.TheVariants as entry
use Rattle.dioc_terms.specs.Expressions.{Const}
use Rattle.dioc_terms.specs.Plain.{PlainBundle}
use Rattle.dioc_terms.specs.Terms.{Term, Com, cast_of, indexed}
use Rattle.global_steps.specs.Running as running
use Rattle.global_steps.specs.Follow.{State, play, stray}
use Rattle.network_steps.specs.Network.{Network, network_run, network_ended}
use Rattle.rule_checks.specs.Refusals.{refusal}
use Rattle.network_steps.specs.Schedule.{sched}

-- a bundle of a choreography alone, with the indices of its text
abbrev pub program : Term → PlainBundle
program I = record {
  version = 1;
  cast = cast_of I;
  choreo = indexed I;
  rules = [];
  opening = 0;
  env = [];
  inputs = [];
  script = [];
  trace = record { entries = []; last = None };
}

abbrev pub role : List ℕ → Role
role name = record { 0 = name }

abbrev pub at : ℕ → ℕ → Index
at epoch place = record { epoch = epoch; place = place }

abbrev pub put : List ℕ → List ℕ → Tag → Index → Note → Entry
put a b tag i n = entry.Put (record { from = role a; to = role b; index = i; tag = tag }) n

abbrev pub take_op : List ℕ → List ℕ → List ℕ → Index → List ℕ → Entry
take_op a b o i x = entry.Take (record { from = role a; to = role b; index = i; tag = Op o }) (Some x)

abbrev pub take_aux : List ℕ → List ℕ → Tag → Index → Entry
take_aux a b tag i = entry.Take (record { from = role a; to = role b; index = i; tag = tag }) None

abbrev pub int : ℕ → Value
int n = value.Int (pos n)

abbrev pub val : ℕ → Note
val n = note.Val (int n)

-- whether the choreography plays these entries to its end
abbrev pub played_to_end : PlainBundle → List Entry → Option Bool
played_to_end b es = option_map (λ (S : State). running.ended S.running) (play b es)

-- whether the network runs these entries to its end
abbrev pub run_to_end : PlainBundle → List Entry → Option Bool
run_to_end b es = option_map (λ (N : Network). network_ended b.cast N) (network_run b es)

-- no index yet: the text gives it
abbrev pub unmarked : Index
unmarked = at 0 0

-- one interaction: `hi: a(1) -> b(x)`
abbrev pub hello : Term
hello = Com unmarked (codes "hi") (role (codes "a")) (Const (int 1)) (role (codes "b")) (codes "x")

abbrev pub hello_run : List Entry
hello_run = put (codes "a") (codes "b") (Op (codes "hi")) (at 0 0) (val 1) ∷ take_op (codes "a") (codes "b") (codes "hi") (at 0 0) (codes "x") ∷ []

hello-sched : sched (program hello) None 20000 ≡ hello_run
hello-sched = refl

hello-played : played_to_end (program hello) hello_run ≡ Some true
hello-played = refl

hello-run : run_to_end (program hello) hello_run ≡ Some true
hello-run = refl

hello-accepted : refusal (program hello) ≡ None
hello-accepted = refl

-- a take before its put is undefined, and so is a put of another value
early_take : play (program hello) (take_op (codes "a") (codes "b") (codes "hi") (at 0 0) (codes "x") ∷ []) ≡ None
early_take = refl

wrong_value : stray (program hello) (put (codes "a") (codes "b") (Op (codes "hi")) (at 0 0) (val 2) ∷ []) ≡ Some 1
wrong_value = refl

early_take-network : network_run (program hello) (take_op (codes "a") (codes "b") (codes "hi") (at 0 0) (codes "x") ∷ []) ≡ None
early_take-network = refl
