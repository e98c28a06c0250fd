-- The steps of a mark: what a role does, and the mark after it. The steps of the network are exactly these.
use Rattle.std.proofs.Common.{◌≡◌, ℕ, suc, List, ◌∷◌, true, false, if◌then◌else◌, Option, Some, None}
use Rattle.dioc_terms.specs.declared.names.Role.{Role}
use Rattle.dioc_terms.specs.declared.names.Index.{Index}
use Rattle.dioc_terms.specs.declared.values.Value.{Value}
use Rattle.dioc_terms.specs.declared.processes.Key.{Key}
use Rattle.dioc_terms.specs.declared.processes.Tag.{Tag}
use Rattle.dioc_terms.specs.declared.processes.Tag.TheVariants.{Op, Out}
use Rattle.dioc_terms.specs.declared.processes.ScopeHead.{ScopeHead}
use Rattle.dioc_terms.specs.declared.entries.Chosen.TheVariants as chosen
use Rattle.dioc_terms.specs.declared.entries.Act.{Act}
use Rattle.dioc_terms.specs.declared.entries.Act.TheVariants as act
use Rattle.dioc_terms.specs.Equality.{member}
use Rattle.dioc_terms.specs.Expressions.{Expression}
use Rattle.dioc_terms.specs.Processes.{Load, Val, Keep, Part, Done}
use Rattle.dioc_terms.specs.Stores.{Store, next_input}
use Rattle.dioc_terms.specs.Terms.{Term, Skip, Com, Set, Input, Seq, Par, If, While, Scope, is_in, others, head_of, stamped}
use Rattle.dioc_terms.specs.Values.{eval, is_true}
use Rattle.projection.specs.Projection.{projected}
use Rattle.process_steps.specs.Steps.{Deed, Puts, Takes, Sets, Inputs, Picks, Chooses, Given, Alone, Got, FromBook, Decision, key, ended}
use Rattle.global_steps.specs.Follow.{BookChoice, KeepsBody, TakesRule, updated}
use Rattle.marked_laws.proofs.Constructs.{Phases, Kind, Branch, Turning, Stopping, Scoped, Releasing, Told, Inside, Sent, Gone, all_wait, told, telling_key, backing_key, Backs, Busy, untold, ungone}
use Rattle.marked_laws.proofs.Mark.{Mark, Still, Flying, Over, First, Second, Both, Held, Spent, run, mail, At, place, Closed}
use Rattle.marked_laws.proofs.Proper.{Proper}

-- the role that did it
abbrev pub doer_of : Deed → Role
doer_of (Puts k l) = k.from
doer_of (Takes k x l) = k.to
doer_of (Sets i r x v) = r
doer_of (Inputs i r x v) = r
doer_of (Picks i r b) = r
doer_of (Chooses i r c) = r

-- what holds of the bodies that the book answers: each is proper once it is stamped, and its roles are among the scope's
pub record SoundAnswers (cast : List Role) (choices : ScopeHead → BookChoice) (updates : ℕ) : Type 0 where
  pub proper : (head : ScopeHead) (name : List ℕ) (B : Term) → choices head ≡ TakesRule name B → Proper cast (stamped B (suc updates) (suc head.level))
  pub inner : (head : ScopeHead) (name : List ℕ) (B : Term) → choices head ≡ TakesRule name B → (q : Role)
      → is_in q (stamped B (suc updates) (suc head.level)) ≡ true → member q head.roles ≡ true

-- what comes to an act from outside, by the pending message of each key and by what is decided of each scope
abbrev pub given_by : (Key → Option Load) → (ScopeHead → Decision) → Act → Given
given_by mails decide (act.Take k) = message (mails k)
  where
    message : Option Load → Given
    message None = Alone
    message (Some l) = Got l
given_by mails decide (act.Scope i) = FromBook decide
given_by mails decide _ = Alone

-- the pending messages whose index is of the mark are the mark's
abbrev pub Agrees : (Key → Option Load) → Mark → Type 0
Agrees mails M = (j : Key) → At j.index M → mails j ≡ mail M j

-- an index of the next update
abbrev pub New : ℕ → Index → Type 0
New updates n = n.epoch ≡ suc updates

-- no index of the mark is of the next update
abbrev pub Old : ℕ → Mark → Type 0
Old updates M = (n : Index) → At n M → New updates n → ⊥

module _ (cast : List Role) (stores : Role → Store) (choices : ScopeHead → BookChoice) (updates : ℕ) where
  pub data Steps : Mark → Deed → Mark → Type 0 where
    sends : {i : Index} {o : List ℕ} {a : Role} {e : Expression} {b : Role} {x : List ℕ}
        → Steps (Still (Com i o a e b x)) (Puts (key a b i (Op o)) (Val (eval e (stores a)))) (Flying i o a e b x (eval e (stores a)))
    lands : {i : Index} {o : List ℕ} {a : Role} {e : Expression} {b : Role} {x : List ℕ} {v : Value}
        → Steps (Flying i o a e b x v) (Takes (key a b i (Op o)) (Some x) (Val v)) (Over (Com i o a e b x))
    sets : {i : Index} {x : List ℕ} {r : Role} {e : Expression} → Steps (Still (Set i x r e)) (Sets i r x (eval e (stores r))) (Over (Set i x r e))
    reads : {i : Index} {x : List ℕ} {r : Role} → Steps (Still (Input i x r)) (Inputs i r x (next_input (stores r))) (Over (Input i x r))
    seq_opens : {I J : Term} {d : Deed} {N : Mark} → Steps (First (Still I) J) d N → Steps (Still (Seq I J)) d N
    par_opens : {I J : Term} {d : Deed} {N : Mark} → Steps (Both (Still I) (Still J)) d N → Steps (Still (Par I J)) d N
    seq_first : {M N : Mark} {J : Term} {d : Deed} → Steps M d N → Steps (First M J) d (First N J)
    seq_begins : {M N : Mark} {J : Term} {d : Deed} → ended (place cast M (doer_of d)) ≡ true → Steps (Still J) d N → Steps (First M J) d (Second M N)
    -- the first part goes on after the second was begun
    seq_lags : {M N K : Mark} {d : Deed} → Steps M d N → Steps (Second M K) d (Second N K)
    seq_goes : {M N K : Mark} {d : Deed} → ended (place cast M (doer_of d)) ≡ true → Steps N d K → Steps (Second M N) d (Second M K)
    par_left : {M N K : Mark} {d : Deed} → Steps M d N → Steps (Both M K) d (Both N K)
    par_right : {M N K : Mark} {d : Deed} → Steps N d K → Steps (Both M N) d (Both M K)
    picks : {i : Index} {r : Role} {g : Expression} {I J : Term}
        → Steps (Still (If i r g I J)) (Picks i r (is_true (eval g (stores r))))
        (Held (Branch i r g I J (is_true (eval g (stores r)))) all_wait (Still (if is_true (eval g (stores r)) then I else J)))
    turns : {i : Index} {r : Role} {g : Expression} {I : Term} → is_true (eval g (stores r)) ≡ true
        → Steps (Still (While i r g I)) (Picks i r true) (Held (Turning i r g I) all_wait (Still I))
    stops : {i : Index} {r : Role} {g : Expression} {I : Term} → is_true (eval g (stores r)) ≡ false
        → Steps (Still (While i r g I)) (Picks i r false) (Held (Stopping i r g I) all_wait (Still Skip))
    -- the next turn of a loop
    again : {i : Index} {r : Role} {g : Expression} {I : Term} {phases : Phases} {M : Mark} → is_true (eval g (stores r)) ≡ true
        → Closed cast (Turning i r g I) phases M
        → Steps (Held (Turning i r g I) phases M) (Picks i r true) (Held (Turning i r g I) all_wait (Still I))
    -- the end of a loop after a turn
    leaves : {i : Index} {r : Role} {g : Expression} {I : Term} {phases : Phases} {M : Mark} → is_true (eval g (stores r)) ≡ false
        → Closed cast (Turning i r g I) phases M
        → Steps (Held (Turning i r g I) phases M) (Picks i r false) (Held (Stopping i r g I) all_wait (Still Skip))
    -- the leader tells the next role
    tells : {k : Kind} {phases : Phases} {M : Mark} {q : Role} {qs : List Role} → untold cast k phases ≡ q ∷ qs
        → Steps (Held k phases M) (Puts (telling_key k q) (told k q)) (Held k (updated q Told phases) M)
    -- a role takes what it was told
    hears : {k : Kind} {phases : Phases} {M : Mark} {q : Role} → phases q ≡ Told
        → Steps (Held k phases M) (Takes (telling_key k q) None (told k q)) (Held k (updated q Inside phases) M)
    works : {k : Kind} {phases : Phases} {M N : Mark} {d : Deed} → Busy cast k phases (doer_of d) → Steps M d N
        → Steps (Held k phases M) d (Held k phases N)
    -- a role tells the leader that it is through
    arrives : {k : Kind} {t : Tag} {phases : Phases} {M : Mark} {q : Role} → Backs k t → phases q ≡ Inside → ended (place cast M q) ≡ true
        → Steps (Held k phases M) (Puts (backing_key k t q) Done) (Held k (updated q Sent phases) M)
    -- the leader takes that
    gathers : {k : Kind} {t : Tag} {phases : Phases} {M : Mark} {q : Role} {qs : List Role} → Backs k t → ungone cast k phases ≡ q ∷ qs → phases q ≡ Sent
        → Steps (Held k phases M) (Takes (backing_key k t q) None Done) (Held k (updated q Gone phases) M)
    keeps : {i : Index} {r : Role} {I : Term} {extra : List Role} {props : List (List ℕ × Value)} {level : ℕ}
        → choices (head_of cast i r I extra props level) ≡ KeepsBody
        → Steps (Still (Scope i r I extra props level)) (Chooses i r chosen.Keep)
        (Held (Scoped i r I extra props level (λ q. Keep) I) all_wait (Still I))
    replaces : {i : Index} {r : Role} {I : Term} {extra : List Role} {props : List (List ℕ × Value)} {level : ℕ} {name : List ℕ} {B : Term}
        → choices (head_of cast i r I extra props level) ≡ TakesRule name B
        → Steps (Still (Scope i r I extra props level)) (Chooses i r (chosen.Rule name (suc updates)))
        (Held (Scoped i r I extra props level (λ q. Part (suc updates) (projected cast (stamped B (suc updates) (suc level)) q))
        (stamped B (suc updates) (suc level))) all_wait (Still (stamped B (suc updates) (suc level))))
    -- the leader lets the first role out of a scope
    frees : {i : Index} {r : Role} {I : Term} {extra : List Role} {props : List (List ℕ × Value)} {level : ℕ} {begin : Role → Load} {B : Term}
        {phases : Phases} {M : Mark} {q : Role} {qs : List Role} → Closed cast (Scoped i r I extra props level begin B) phases M
        → others cast r (Scope i r I extra props level) ≡ q ∷ qs
        → Steps (Held (Scoped i r I extra props level begin B) phases M) (Puts (key r q i Out) Done)
        (Held (Releasing i r I extra props level) (updated q Told all_wait) (Spent (run M)))
