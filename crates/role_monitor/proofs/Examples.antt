-- The monitor on small traces, computed.
use Rattle.std.proofs.Common.{◌≡◌, ℕ, List, [], ◌∷◌, ◌++◌, length, true, false, Option, Some, None, refl, take, drop}
use Rattle.std.specs.Prelude.{codes, option_map}
use Rattle.dioc_terms.specs.declared.names.Role.{Role}
use Rattle.dioc_terms.specs.declared.expressions.Oper.TheVariants as oper
use Rattle.dioc_terms.specs.declared.processes.Tag.TheVariants.{Op, Go, Turn, Begin}
use Rattle.dioc_terms.specs.declared.entries.Note.TheVariants as note
use Rattle.dioc_terms.specs.declared.entries.Chosen.TheVariants as chosen
use Rattle.dioc_terms.specs.declared.entries.Entry.{Entry}
use Rattle.dioc_terms.specs.declared.entries.Entry.TheVariants as entry
use Rattle.dioc_terms.specs.declared.bundles.Change.TheVariants as change
use Rattle.dioc_terms.specs.Expressions.{Const, Var, Bin}
use Rattle.dioc_terms.specs.Plain.{PlainBundle, setting}
use Rattle.dioc_terms.specs.Terms.{Com, Set, Seq, While}
use Rattle.marked_laws.proofs.Examples.{program, rule_of, a, b, c, x, n, o, at, unmarked, int, val, put, take_op, take_aux, relay, direct}
use Rattle.role_monitor.specs.Laws.{changes_stand}
use Rattle.role_monitor.specs.Monitoring.{MonitorState, mon_run, deviates, own_entries}
use Rattle.role_monitor.specs.declared.updates.Update.{Update}

-- `n@a = 0; while n < 2 @a { o: a(n) -> b(x); n@a = n + 1 }`
abbrev counting : PlainBundle
counting = program (Seq (Set unmarked n a (Const (int 0))) (While unmarked a (Bin oper.Lt (Var n) (Const (int 2)))
    (Seq (Com unmarked o a (Var n) b x) (Set unmarked n a (Bin oper.Add (Var n) (Const (int 1))))))) [] 0 []

abbrev turn : ℕ → ℕ → List Entry
turn sent next =
    entry.Pick (at 0 1) a true ∷ put a b Go (at 0 1) (note.Flag true) ∷ put a b (Op o) (at 0 2) (val sent) ∷ entry.Set (at 0 3) a n (int next) ∷
    take_aux a b Go (at 0 1) ∷ take_op a b o (at 0 2) x ∷ put b a Turn (at 0 1) note.Done ∷ take_aux b a Turn (at 0 1) ∷ []

abbrev counted : List Entry
counted = entry.Set (at 0 0) a n (int 0) ∷ (turn 0 1 ++ (turn 1 2 ++
    (entry.Pick (at 0 1) a false ∷ put a b Go (at 0 1) (note.Flag false) ∷ take_aux a b Go (at 0 1) ∷ [])))

counted-b : deviates counting b counted ≡ None
counted-b = refl

counted-a : deviates counting a counted ≡ None
counted-a = refl

counted-own : length (own_entries b counted) ≡ 7
counted-own = refl

-- the same without the end of b's first turn: b takes the next turn too early, and a takes what nobody sent
abbrev cut : List Entry
cut = take 7 counted ++ drop 8 counted

cut-b : deviates counting b cut ≡ Some 13
cut-b = refl

cut-a : deviates counting a cut ≡ Some 8
cut-a = refl

-- a role without entries keeps to its process
cut-c : deviates counting c cut ≡ None
cut-c = refl

-- another's value is believed, also one that its process doesn't give; one's own isn't
abbrev lied : List Entry
lied = entry.Set (at 0 0) a n (int 5) ∷ take 6 (turn 9 1)

lied-b : deviates counting b lied ≡ None
lied-b = refl

lied-a : deviates counting a lied ≡ Some 1
lied-a = refl

-- `scope @a { o: a(1) -> b(x); q: b(x) -> c(y) }`, which the rule's `o: a(2) -> b(x)` replaces
abbrev replaced : PlainBundle
replaced = program relay (rule_of (codes "short") direct ∷ []) 1 []

abbrev begins : List ℕ → ℕ → ℕ → List Entry
begins name k part =
    entry.Scope (at 0 0) a (chosen.Rule name k) ∷ put a b Begin (at 0 0) (note.Part part) ∷ take_aux a b Begin (at 0 0) ∷ []

-- which updates the monitor of a role has after a trace
abbrev updates_of : Role → List Entry → Option (List Update)
updates_of r es = option_map (λ (M : MonitorState). M.updates) (mon_run replaced r es)

abbrev update : ℕ → ℕ → ℕ → Update
update epoch rule level = record { epoch = epoch; rule = rule; level = level }

begins-own : updates_of a (take 1 (begins (codes "short") 1 1)) ≡ Some (update 1 0 1 ∷ [])
begins-own = refl

begins-heard : updates_of b (begins (codes "short") 1 1) ≡ Some (update 1 0 1 ∷ [])
begins-heard = refl

begins-taken : deviates replaced b (begins (codes "short") 1 1 ++ (put a b (Op o) (at 1 0) (val 2) ∷ take_op a b o (at 1 0) x ∷ [])) ≡ None
begins-taken = refl

-- a part of an update that wasn't heard of is no message
begins-unheard : deviates replaced b (begins (codes "short") 1 2) ≡ Some 3
begins-unheard = refl

-- the program's own text is no update, an unknown rule neither
begins-none : updates_of b (take 1 (begins (codes "short") 0 0)) ≡ Some []
begins-none = refl

begins-unknown : updates_of b (take 1 (begins (codes "long") 1 1)) ≡ Some []
begins-unknown = refl

-- another's number may be out of order; the first of a number counts, and the epoch must be known
begins-later : updates_of b (entry.Scope (at 0 0) a (chosen.Rule (codes "short") 7) ∷ entry.Scope (at 7 0) a (chosen.Rule (codes "short") 3)
    ∷ entry.Scope (at 0 0) a (chosen.Rule (codes "short") 3) ∷ entry.Scope (at 4 0) a (chosen.Rule (codes "short") 8) ∷ [])
    ≡ Some (update 7 0 1 ∷ update 3 0 2 ∷ [])
begins-later = refl

-- one's own has the next number, and the rule that the book chooses
begins-number : deviates replaced a (begins (codes "short") 2 2) ≡ Some 1
begins-number = refl

begins-kept : deviates replaced a (entry.Scope (at 0 0) a chosen.Keep ∷ []) ≡ Some 1
begins-kept = refl

-- a change that is the script's next is applied at once, another one changes nothing
abbrev dropping : PlainBundle
dropping = program relay (rule_of (codes "short") direct ∷ []) 1 (record { after = 3; change = change.Drop (codes "short") } ∷ [])

drop-own : deviates dropping a (entry.Drop (codes "short") ∷ entry.Scope (at 0 0) a chosen.Keep ∷ []) ≡ None
drop-own = refl

drop-other : deviates dropping a (entry.Drop (codes "long") ∷ entry.Scope (at 0 0) a chosen.Keep ∷ []) ≡ Some 2
drop-other = refl

-- it stands only after its number of visible entries
drop-early : changes_stand (setting dropping) 0 0 (entry.Drop (codes "short") ∷ []) ≡ false
drop-early = refl

-- a message whose key is there already stays as it was
twice-put : deviates counting b (take 2 (turn 0 1) ++ (put a b Go (at 0 1) (note.Flag false) ∷ take_aux a b Go (at 0 1) ∷ put a b (Op o) (at 0 2) (val 0) ∷ take_op a b o (at 0 2) x ∷ [])) ≡ None
twice-put = refl
