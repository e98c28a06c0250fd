-- A process that steps offers what it did before, but in place of the act what comes in its place.
use Rattle.std.proofs.Common.{◌≡◌, List, [], ◌∷◌, ◌++◌, Bool, true, false, refl, sym, ap, ap₂, ◌∙◌, subst, ⊎_elim}
use Rattle.std.specs.Prelude.{◌||◌, if◌then◌else◌}
use Rattle.std.proofs.lemmas.Bool.{and_parts, cases_Bool, cond-false, cond-true}
use Rattle.std.proofs.lemmas.List.{append-nil, append_assoc}
use Rattle.std.proofs.lemmas.List.Folds.{list_any-append}
use Rattle.dioc_terms.specs.declared.entries.Act.{Act}
use Rattle.dioc_terms.specs.declared.entries.Act.TheVariants as act
use Rattle.dioc_terms.specs.declared.names.Role.{Role}
use Rattle.dioc_terms.specs.declared.processes.Tag.TheVariants.{Begin, Choice, Go, Op}
use Rattle.dioc_terms.specs.Attempts.{Attempt, Does, under, when}
use Rattle.dioc_terms.specs.Equality.{act_eq}
use Rattle.dioc_terms.specs.Processes.{Assign, Gather, IfFollow, IfLead, More, Nothing, Par, Process, Read, Recv, ScopeFollow, ScopeLead, Send, Seq, Skip, Tell, WhileFollow, WhileLead}
use Rattle.dioc_terms.specs.Stores.{Store}
use Rattle.marked_laws.proofs.Equality.{act_same}
use Rattle.marked_laws.proofs.Moves.{stuck_does, under_does, when_does}
use Rattle.process_steps.specs.Steps.{Deed, Given, after, ended, is_offered, key, offers, step}
use Rattle.schedule.specs.Agendas.{MakesWay}

none_left : (x : Act) (xs : List Act) → (x ∷ xs) ≡ [] → ⊥
none_left x xs h = cc

nothing_in : (xs ys : List Act) → xs ++ ys ≡ [] → (xs ≡ []) × (ys ≡ [])
nothing_in [] ys h = (refl, h)
nothing_in (x ∷ xs) ys h = absurd (none_left x (xs ++ ys) h)

module _ (me : Role) where
  -- what has ended offers nothing
  ended_empty : (P : Process) → ended P ≡ true → offers me P ≡ []
  ended_empty (Seq P Q) h =
      let parts = and_parts (ended P) (ended Q) h in
      cond-true (ended P) (offers me Q) (offers me P) parts.0 ∙ ended_empty Q parts.1
  ended_empty (Par P Q) h =
      let parts = and_parts (ended P) (ended Q) h in
      ap₂ (λ (xs : List Act) ys. xs ++ ys) (ended_empty P parts.0) (ended_empty Q parts.1)
  ended_empty Skip h = refl
  ended_empty (Tell Nothing) h = refl
  ended_empty (Gather []) h = refl
  ended_empty P h = cc

  offers_after : (P Q : Process) → offers me (after P Q) ≡ (if ended P then offers me Q else offers me P)
  offers_after P Q = by_test (ended P) refl
    where
      by_test : (t : Bool) → ended P ≡ t → offers me (if t then Q else Seq P Q) ≡ (if t then offers me Q else offers me P)
      by_test true is = refl
      by_test false is = cond-false (ended P) (offers me Q) (offers me P) is

  module _ (s : Store) (a : Act) (given : Given) where
    -- of a process that offers one act
    one : (b : Act) (m : Attempt Deed Process) (d : Deed) (Q : Process) → when (act_eq a b) m ≡ Does d Q → MakesWay a (b ∷ []) (offers me Q)
    one b m d Q h = record {
      front = [];
      back = [];
      news = offers me Q;
      was = ap (λ c. c ∷ []) (sym (act_same a b (when_does (act_eq a b) m h).0));
      first = refl;
      now = sym (append-nil (offers me Q));
    }

    -- with other acts behind it, and before it
    ahead : (old new others : List Act) → MakesWay a old new → MakesWay a (old ++ others) (new ++ others)
    ahead old new others way = record {
      front = way.front;
      back = way.back ++ others;
      news = way.news;
      was = ap (λ l. l ++ others) way.was ∙ append_assoc way.front (a ∷ way.back) others;
      first = way.first;
      now = ap (λ l. l ++ others) way.now ∙ append_assoc way.front (way.news ++ way.back) others
          ∙ ap (λ l. way.front ++ l) (append_assoc way.news way.back others);
    }

    behind : (old new others : List Act) → is_offered a others ≡ false → MakesWay a old new → MakesWay a (others ++ old) (others ++ new)
    behind old new others none way = record {
      front = others ++ way.front;
      back = way.back;
      news = way.news;
      was = ap (λ l. others ++ l) way.was ∙ sym (append_assoc others way.front (a ∷ way.back));
      first = list_any-append (act_eq a) others way.front ∙ ap₂ (λ x y. x || y) none way.first;
      now = ap (λ l. others ++ l) way.now ∙ sym (append_assoc others way.front (way.news ++ way.back));
    }

    -- where the first of two has ended, its act made way for what the second offers
    first_of : (P Q : Process) (old : List Act) → MakesWay a old (offers me P) → MakesWay a old (if ended P then offers me Q else offers me P)
    first_of P Q old way = by_end (ended P) refl
      where
        by_end : (t : Bool) → ended P ≡ t → MakesWay a old (if t then offers me Q else offers me P)
        by_end false is = way
        by_end true is =
            let nothing = nothing_in way.front (way.news ++ way.back) (sym way.now ∙ ended_empty P is) in
            let none_behind = nothing_in way.news way.back nothing.1 in
            record {
              front = [];
              back = [];
              news = offers me Q;
              was = way.was ∙ ap₂ (λ (xs : List Act) ys. xs ++ a ∷ ys) nothing.0 none_behind.1;
              first = refl;
              now = sym (append-nil (offers me Q));
            }

    -- what a process offers after a step
    pub makes_way : (P : Process) (d : Deed) (R : Process) → step me s P a given ≡ Does d R → MakesWay a (offers me P) (offers me R)
    makes_way Skip d R h = absurd (stuck_does h)
    makes_way (Send i o b e) d R h = one (act.Put (key me b i (Op o))) _ d R h
    makes_way (Recv i o from x) d R h = one (act.Take (key from me i (Op o))) _ d R h
    makes_way (Assign i x e) d R h = one (act.Set i) _ d R h
    makes_way (Read i x) d R h = one (act.Input i) _ d R h
    makes_way (Seq P Q) d R h = ⊎_elim
        (λ yes. subst (λ l. MakesWay a l (offers me R)) (sym (cond-true (ended P) (offers me Q) (offers me P) yes))
        (makes_way Q d R (sym (cond-true (ended P) (step me s Q a given) (under (λ p. after p Q) (step me s P a given)) yes) ∙ h)))
        (λ no.
        let part = under_does (λ p. after p Q) (step me s P a given) (sym (cond-false (ended P) (step me s Q a given) (under (λ p. after p Q) (step me s P a given)) no) ∙ h) in
        subst (λ l. MakesWay a l (offers me R)) (sym (cond-false (ended P) (offers me Q) (offers me P) no))
        (subst (λ l. MakesWay a (offers me P) l) (sym (offers_after part.0 Q) ∙ ap (offers me) part.2)
        (first_of part.0 Q (offers me P) (makes_way P d part.0 part.1))))
        (cases_Bool (ended P))
    makes_way (Par P Q) d R h = ⊎_elim
        (λ left.
        let part = under_does (λ p. Par p Q) (step me s P a given)
        (sym (cond-true (is_offered a (offers me P)) (under (λ p. Par p Q) (step me s P a given)) (under (Par P) (step me s Q a given)) left) ∙ h) in
        subst (λ (S : Process). MakesWay a (offers me P ++ offers me Q) (offers me S)) part.2
        (ahead (offers me P) (offers me part.0) (offers me Q) (makes_way P d part.0 part.1)))
        (λ right.
        let part = under_does (Par P) (step me s Q a given)
        (sym (cond-false (is_offered a (offers me P)) (under (λ p. Par p Q) (step me s P a given)) (under (Par P) (step me s Q a given)) right) ∙ h) in
        subst (λ (S : Process). MakesWay a (offers me P ++ offers me Q) (offers me S)) part.2
        (behind (offers me Q) (offers me part.0) (offers me P) right (makes_way Q d part.0 part.1)))
        (cases_Bool (is_offered a (offers me P)))
    makes_way (IfLead i g others P Q) d R h = one (act.Pick i) _ d R h
    makes_way (IfFollow i leader P Q) d R h = one (act.Take (key leader me i Choice)) _ d R h
    makes_way (WhileLead i g others P) d R h = one (act.Pick i) _ d R h
    makes_way (WhileFollow i leader P) d R h = one (act.Take (key leader me i Go)) _ d R h
    makes_way (ScopeLead head others P) d R h = one (act.Scope head.index) _ d R h
    makes_way (ScopeFollow i leader P) d R h = one (act.Take (key leader me i Begin)) _ d R h
    makes_way (Tell Nothing) d R h = absurd (stuck_does h)
    makes_way (Tell (More k l ms)) d R h = one (act.Put k) _ d R h
    makes_way (Gather []) d R h = absurd (stuck_does h)
    makes_way (Gather (k ∷ ks)) d R h = one (act.Take k) _ d R h
