-- The first entry that the network can't do: as a number that is counted, and by the entries before it.
use Rattle.std.proofs.Common.{◌≡◌, ◌≤◌, ◌+◌, ◌-◌, ℕ, suc, List, [], ◌∷◌, ◌++◌, length, take, Option, Some, None, IsSome, option_and_then, refl, sym, ap, ◌∙◌, subst, arith}
use Rattle.std.specs.Prelude.{is_some}
use Rattle.std.specs.Option.{option_map_or}
use Rattle.std.proofs.lemmas.List.{append-nil}
use Rattle.std.proofs.Math.Seq.{take-append-add}
use Rattle.dioc_terms.specs.declared.entries.Entry.{Entry}
use Rattle.dioc_terms.specs.Plain.{PlainBundle, Setting, setting}
use Rattle.network_steps.specs.Network.{Network, network_run, network_start, network_step, run_from}
use Rattle.marked_laws.proofs.Extension.{extensions}
use Rattle.marked_laws.proofs.Shapes.{none_some, some_same}
use Rattle.net_laws.proofs.MoveLemmas.{some_got}
use Rattle.net_drive.specs.ResumedLaws.{RunStraysAreExact}
use Rattle.net_drive.specs.Resumed.{IsFirstStray, run_stray, run_stray_from}

-- the count goes on from the network after a run
stray_after : (b : Setting) (N M : Network) (n : ℕ) (H es : List Entry) → run_from b N H ≡ Some M
    → run_stray_from b N n (H ++ es) ≡ run_stray_from b M (n + length H) es
stray_after b N M n [] es h = let same : n + 0 ≡ n = omega arith in λ j. run_stray_from b (some_same h j) (sym same j) es
stray_after b N M n (e ∷ H) es h = by_step (network_step b N e) refl h (λ L k. stray_after b L M (suc n) H es k)
  where
    by_step : (o : Option Network) → network_step b N e ≡ o → option_and_then (λ L. run_from b L H) o ≡ Some M
        → ((L : Network) → run_from b L H ≡ Some M → run_stray_from b L (suc n) (H ++ es) ≡ run_stray_from b M (suc n + length H) es)
        → run_stray_from b N n (e ∷ (H ++ es)) ≡ run_stray_from b M (n + length (e ∷ H)) es
    by_step None is k rest = absurd (none_some k)
    by_step (Some L) is k rest =
        let count : suc n + length H ≡ n + length (e ∷ H) = omega arith in
        ap (λ o. option_map_or (λ next. run_stray_from b next (suc n) (H ++ es)) o (Some n)) is
        ∙ rest L k ∙ ap (λ m. run_stray_from b M m es) count

-- an entry that can't be done is where the count ends
stray_here : (b : Setting) (N : Network) (n : ℕ) (e : Entry) (es : List Entry) → network_step b N e ≡ None → run_stray_from b N n (e ∷ es) ≡ Some n
stray_here b N n e es h = ap (λ o. option_map_or (λ next. run_stray_from b next (suc n) es) o (Some n)) h

-- after a run, a longer history is none exactly where the entry can't be done
no_more : (b : PlainBundle) (H : List Entry) (N : Network) (e : Entry) → network_run b H ≡ Some N
    → network_run b (H ++ e ∷ []) ≡ network_step (setting b) N e
no_more b H N e runs =
    extensions.run_one (setting b) (network_start b) H e ∙ ap (option_and_then (λ M. network_step (setting b) M e)) runs

pub some_is : {A : Type 0} (o : Option A) (x : A) → o ≡ Some x → IsSome o
some_is o x h = ap is_some h

-- after a run, an entry that the network can't do is the first stray
pub first_stray : (b : PlainBundle) (H : List Entry) (N : Network) (e : Entry) (later entries : List Entry) → network_run b H ≡ Some N
    → network_step (setting b) N e ≡ None → H ++ e ∷ later ≡ entries → IsFirstStray b entries (suc (length H))
first_stray b H N e later entries runs strays splits = record {
  before = H;
  entry = e;
  later = later;
  splits = sym splits;
  number = refl;
  runs = some_is (network_run b H) N runs;
  strays = no_more b H N e runs ∙ strays;
}

-- it has that number by the count too
pub first_counted : (b : PlainBundle) (entries : List Entry) (n : ℕ) → IsFirstStray b entries n → run_stray b entries ≡ Some n
first_counted b entries n first =
    let got = some_got (network_run b first.before) first.runs in
    let step : network_step (setting b) got.0 first.entry ≡ None = sym (no_more b first.before got.0 first.entry got.1) ∙ first.strays in
    let count : 1 + length first.before ≡ n = omega (arith, first.number) in
    ap (run_stray b) first.splits
    ∙ stray_after (setting b) (network_start b) got.0 1 first.before (first.entry ∷ first.later) got.1
    ∙ stray_here (setting b) got.0 (1 + length first.before) first.entry first.later step
    ∙ ap Some count

-- and also among the first entries only, where it is one of them
pub first_within : (b : PlainBundle) (entries : List Entry) (n limit : ℕ) → n ≤ limit → IsFirstStray b entries n → IsFirstStray b (take limit entries) n
first_within b entries n limit within first =
    let rest : ℕ = limit - suc (length first.before) in
    let all : limit ≡ length first.before + suc rest = omega (arith, first.number, within) in
    record {
      before = first.before;
      entry = first.entry;
      later = take rest first.later;
      splits = (λ j. take (all j) (first.splits j)) ∙ take-append-add first.before (first.entry ∷ first.later) (suc rest);
      number = first.number;
      runs = first.runs;
      strays = first.strays;
    }

-- ---- what the count says of a run

-- where no entry is counted, the entries are a run
whole_from : (b : Setting) (N : Network) (n : ℕ) (es : List Entry) → run_stray_from b N n es ≡ None → IsSome (run_from b N es)
whole_from b N n [] h = refl
whole_from b N n (e ∷ es) h = by_step (network_step b N e) h (λ L k. whole_from b L (suc n) es k)
  where
    by_step : (o : Option Network) → option_map_or (λ next. run_stray_from b next (suc n) es) o (Some n) ≡ None
        → ((L : Network) → run_stray_from b L (suc n) es ≡ None → IsSome (run_from b L es)) → IsSome (option_and_then (λ L. run_from b L es) o)
    by_step None k rest = absurd (none_some (sym k))
    by_step (Some L) k rest = rest L k

-- where one is counted, those before it are a run, and it can't be done after them
record Found (b : Setting) (N : Network) (n : ℕ) (es : List Entry) (m : ℕ) : Type 0 where
  before : List Entry
  entry : Entry
  later : List Entry
  splits : es ≡ before ++ entry ∷ later
  number : m ≡ n + length before
  network : Network
  runs : run_from b N before ≡ Some network
  strays : network_step b network entry ≡ None

found_later : (b : Setting) (N L : Network) (n m : ℕ) (e : Entry) (es : List Entry) → network_step b N e ≡ Some L → Found b L (suc n) es m → Found b N n (e ∷ es) m
found_later b N L n m e es step found = record {
  before = e ∷ found.before;
  entry = found.entry;
  later = found.later;
  splits = ap (λ xs. e ∷ xs) found.splits;
  number = omega (arith, found.number);
  network = found.network;
  runs = ap (option_and_then (λ M. run_from b M found.before)) step ∙ found.runs;
  strays = found.strays;
}

found_from : (b : Setting) (N : Network) (n : ℕ) (es : List Entry) (m : ℕ) → run_stray_from b N n es ≡ Some m → Found b N n es m
found_from b N n [] m h = absurd (none_some h)
found_from b N n (e ∷ es) m h = by_step (network_step b N e) refl h (λ L k. found_from b L (suc n) es m k)
  where
    by_step : (o : Option Network) → network_step b N e ≡ o → option_map_or (λ next. run_stray_from b next (suc n) es) o (Some n) ≡ Some m
        → ((L : Network) → run_stray_from b L (suc n) es ≡ Some m → Found b L (suc n) es m) → Found b N n (e ∷ es) m
    by_step None is k rest = record {
      before = [];
      entry = e;
      later = es;
      splits = refl;
      number = omega (arith, some_same k);
      network = N;
      runs = refl;
      strays = is;
    }
    by_step (Some L) is k rest = found_later b N L n m e es is (rest L k)

none_counted : (b : PlainBundle) (es : List Entry) → IsSome (network_run b es) → run_stray b es ≡ None
none_counted b es h =
    let got = some_got (network_run b es) h in
    ap (run_stray b) (sym (append-nil es)) ∙ stray_after (setting b) (network_start b) got.0 1 es [] got.1

first_found : (b : PlainBundle) (es : List Entry) (n : ℕ) → run_stray b es ≡ Some n → IsFirstStray b es n
first_found b es n h =
    let found = found_from (setting b) (network_start b) 1 es n h in
    let number : suc (length found.before) ≡ n = omega (arith, found.number) in
    subst (IsFirstStray b es) number
    (first_stray b found.before found.network found.entry found.later es found.runs found.strays (sym found.splits))

pub run_strays_are_exact : RunStraysAreExact
run_strays_are_exact = record {
  none = λ b es. (whole_from (setting b) (network_start b) 1 es, none_counted b es);
  some = λ b es n. (first_found b es n, first_counted b es n);
}
