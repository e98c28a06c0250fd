-- What the entries of others leave alone, and what an own entry makes of a role.
use Rattle.std.proofs.Common.{◌≡◌, List, [], ◌∷◌, ◌++◌, length, Bool, true, false, ◌==◌, filter, Option, Some, None, refl, sym, ap, ap₂, ◌∙◌, subst, ⊎_elim, eq-eqb, append-nil}
use Rattle.std.specs.Prelude.{option_and_then}
use Rattle.std.specs.Option.{option_map_or}
use Rattle.std.proofs.lemmas.Bool.{cond-true, cond-false, cases_Bool}
use Rattle.std.proofs.lemmas.List.Elements.{filter-append}
use Rattle.dioc_terms.specs.declared.names.Role.{Role}
use Rattle.dioc_terms.specs.declared.entries.Act.{Act}
use Rattle.dioc_terms.specs.declared.entries.Entry.{Entry}
use Rattle.dioc_terms.specs.Equality.{role_eq, entry_eq}
use Rattle.dioc_terms.specs.Messages.{doer}
use Rattle.dioc_terms.specs.Attempts.{Does}
use Rattle.dioc_terms.specs.Plain.{PlainBundle, Setting, setting}
use Rattle.dioc_terms.specs.Processes.{Process}
use Rattle.dioc_terms.specs.Stores.{Store}
use Rattle.process_steps.specs.Steps.{entry_of, store_after, step}
use Rattle.network_steps.specs.Network.{Network, NextNetwork, given_at, act_step, change_step, network_after, network_step, run_from, network_run}
use Rattle.marked_laws.proofs.Equality.{role_same, role_itself, entry_itself}
use Rattle.marked_laws.proofs.Extension.{extensions}
use Rattle.marked_laws.proofs.Networks.{RoleStep, ChangeStep, network_cases, after_deed, deed_outcome, act_outcome}
use Rattle.marked_laws.proofs.Shapes.{none_some, some_same}
use Rattle.stage.specs.Owners.{cast_place, owner_in}
use Rattle.stage.specs.Roles.{RoleStandsAt}
use Rattle.stage.specs.Laws.{OthersLeaveAlone, DeedsMove}
use Rattle.turn_lock.proofs.Lists.{append_cancel}

-- no entry is the role's
abbrev pub IsOthers : Role → List Entry → Type 0
IsOthers q [] = Unit {0}
IsOthers q (e ∷ es) = (doer e ≡ Some q → ⊥) × IsOthers q es

pub apart : (q r : Role) → (q ≡ r → ⊥) → role_eq q r ≡ false
apart q r ne = ⊎_elim (λ yes. absurd (ne (role_same q r yes))) (λ no. no) (cases_Bool (role_eq q r))

-- the network of a step, and of what comes after it
parts : {A B : Type 0} (o : Option A) (f : A → Option B) (b : B) → option_and_then f o ≡ Some b → (a : A) × (o ≡ Some a) × (f a ≡ Some b)
parts None f b h = absurd (none_some h)
parts (Some a) f b h = (a, refl, h)

pub other_step : (b : Setting) (N N' : Network) (e : Entry) (q : Role) → network_step b N e ≡ Some N' → (doer e ≡ Some q → ⊥)
    → (N'.processes q ≡ N.processes q) × (N'.stores q ≡ N.stores q)
other_step b N N' e q h other = ⊎_elim by_role by_change (network_cases b N e N' h)
  where
    by_role : RoleStep b N e N' → (N'.processes q ≡ N.processes q) × (N'.stores q ≡ N.stores q)
    by_role s =
        let no = apart q s.role (λ same. other (s.does ∙ ap (λ (r : Role). Some r) (sym same))) in (
          ap (λ (M : Network). M.processes q) s.gives ∙ cond-false (role_eq q s.role) s.next (N.processes q) no,
          ap (λ (M : Network). M.stores q) s.gives ∙ cond-false (role_eq q s.role) (store_after s.deed (N.stores s.role)) (N.stores q) no,
        )

    by_change : ChangeStep b N e N' → (N'.processes q ≡ N.processes q) × (N'.stores q ≡ N.stores q)
    by_change s = (ap (λ (M : Network). M.processes q) s.gives, ap (λ (M : Network). M.stores q) s.gives)

pub other_run : (b : Setting) (q : Role) (es : List Entry) (N N' : Network) → run_from b N es ≡ Some N' → IsOthers q es
    → (N'.processes q ≡ N.processes q) × (N'.stores q ≡ N.stores q)
other_run b q [] N N' h others = (ap (λ (M : Network). M.processes q) (sym (some_same h)), ap (λ (M : Network). M.stores q) (sym (some_same h)))
other_run b q (e ∷ es) N N' h others =
    let next = parts (network_step b N e) (λ M. run_from b M es) N' h in
    let first = other_step b N next.0 e q next.1 others.0 in
    let rest = other_run b q es next.0 N' next.2 others.1 in
    (rest.0 ∙ first.0, rest.1 ∙ first.1)

-- where only others went on, the role stands where it stood
pub stands_still : (b : PlainBundle) (H rest : List Entry) (q : Role) (P : Process) (s : Store) (N' : Network) → network_run b (H ++ rest) ≡ Some N' → IsOthers q rest
    → RoleStandsAt b H q P s → RoleStandsAt b (H ++ rest) q P s
stands_still b H rest q P s N' h others at =
    let two = parts (network_run b H) (λ M. run_from (setting b) M rest) N' (sym (extensions.run (setting b) _ H rest) ∙ h) in
    let same = other_run (setting b) q rest two.0 N' two.2 others in
    let here : two.0 ≡ at.network = some_same (sym two.1 ∙ at.runs) in
    record {
      network = N';
      runs = h;
      process = same.0 ∙ (ap (λ (M : Network). M.processes q) here ∙ at.process);
      store = same.1 ∙ (ap (λ (M : Network). M.stores q) here ∙ at.store);
    }

-- where no entry has the number of the role, none is the role's
pub are_others : (cast : List Role) (q : Role) (es : List Entry) → filter (λ e. owner_in cast e == cast_place cast q) es ≡ [] → IsOthers q es
are_others cast q [] h = tt
are_others cast q (e ∷ es) h = ⊎_elim mine (λ no. (theirs no, are_others cast q es (sym (cond-false here (e ∷ left) left no) ∙ h))) (cases_Bool here)
  where
    here : Bool
    here = owner_in cast e == cast_place cast q

    left : List Entry
    left = filter (λ x. owner_in cast x == cast_place cast q) es

    mine : here ≡ true → IsOthers q (e ∷ es)
    mine same = absurd (let some : e ∷ left ≡ [] = sym (cond-true here (e ∷ left) left same) ∙ h in cc)

    theirs : here ≡ false → doer e ≡ Some q → ⊥
    theirs other own =
        let same : here ≡ true = eq-eqb (owner_in cast e) (cast_place cast q) (ap (λ (who : Option Role). option_map_or (cast_place cast) who (length cast)) own) in
        let never : true ≡ false = sym same ∙ other in cc

pub others_leave_alone : OthersLeaveAlone
others_leave_alone b seen H mine N q P s begins own met runs at =
    let owner = owner_in b.cast in
    let n = cast_place b.cast q in
    let rest = begins.0 in
    let all : filter (λ e. owner e == n) seen ++ filter (λ e. owner e == n) rest ≡ filter (λ e. owner e == n) seen ++ [] =
    sym (filter-append (λ e. owner e == n) seen rest) ∙ (sym (ap (filter (λ e. owner e == n)) begins.1) ∙ (own ∙ (sym met ∙ sym (append-nil (filter (λ e. owner e == n) seen))))) in
    let none : filter (λ e. owner e == n) rest ≡ [] = append_cancel (filter (λ e. owner e == n) seen) (filter (λ e. owner e == n) rest) [] all in
    subst (λ l. RoleStandsAt b l q P s) (sym begins.1)
    (stands_still b seen rest q P s N (ap (network_run b) (sym begins.1) ∙ runs) (are_others b.cast q rest none) at)

-- the network after an entry, by who did it
abbrev step_by : Setting → Network → Entry → Option Role → Option Act → Option Network
step_by b N e (Some r) (Some a) = network_after e (act_step b N r a)
step_by b N e _ _ = network_after e (change_step b N)

after_own : (outcome : NextNetwork) (o : Option NextNetwork) → o ≡ Some outcome → network_after outcome.entry o ≡ Some outcome.network
after_own outcome o h = ap (network_after outcome.entry) h ∙ cond-true (entry_eq outcome.entry outcome.entry) (Some outcome.network) None (entry_itself outcome.entry)

pub deeds_move : DeedsMove
deeds_move b H N q P s a d Q runs at does who acts =
    let here : at.network ≡ N = some_same (sym at.runs ∙ runs) in
    let process : N.processes q ≡ P = ap (λ (M : Network). M.processes q) (sym here) ∙ at.process in
    let store : N.stores q ≡ s = ap (λ (M : Network). M.stores q) (sym here) ∙ at.store in
    let did : step q (N.stores q) (N.processes q) a (given_at (setting b) N q a) ≡ Does d Q = (λ i. step q (store i) (process i) a (given_at (setting b) N q a)) ∙ does in
    let outcome : NextNetwork = record { entry = entry_of d; network = after_deed N q d Q } in
    let steps : act_step (setting b) N q a ≡ Some outcome = act_outcome (setting b) N q a ∙ ap (deed_outcome N q) did in
    let next : network_step (setting b) N (entry_of d) ≡ Some (after_deed N q d Q) = ap₂ (step_by (setting b) N (entry_of d)) who acts ∙ after_own outcome (act_step (setting b) N q a) steps in
    record {
      network = after_deed N q d Q;
      runs = extensions.run_one (setting b) _ H (entry_of d) ∙ (ap (option_and_then (λ M. network_step (setting b) M (entry_of d))) runs ∙ next);
      process = cond-true (role_eq q q) Q (N.processes q) (role_itself q);
      store = cond-true (role_eq q q) (store_after d (N.stores q)) (N.stores q) (role_itself q) ∙ ap (store_after d) store;
    }
