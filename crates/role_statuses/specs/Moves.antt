-- What a step makes of a status.
use Rattle.std.specs.Prelude.{List, [], ◌∷◌, Bool, true, false, if◌then◌else◌, None}
use Rattle.dioc_terms.specs.declared.names.Role.{Role}
use Rattle.dioc_terms.specs.declared.names.Index.{Index}
use Rattle.dioc_terms.specs.declared.processes.Key.{Key}
use Rattle.dioc_terms.specs.declared.processes.Tag.TheVariants.{Op, Choice, Go, Turn, Begin, End, Out}
use Rattle.dioc_terms.specs.declared.processes.ScopeHead.{ScopeHead}
use Rattle.dioc_terms.specs.declared.entries.Act.{Act}
use Rattle.dioc_terms.specs.declared.entries.Act.TheVariants as act
use Rattle.dioc_terms.specs.declared.entries.Chosen.TheVariants as chosen
use Rattle.dioc_terms.specs.Equality.{act_eq}
use Rattle.dioc_terms.specs.Attempts.{Attempt, Stuck, Does, under, when}
use Rattle.dioc_terms.specs.Processes.{Process, Skip, Send, Recv, Assign, Read, Seq, Par, IfLead, IfFollow, WhileLead, WhileFollow, ScopeLead, ScopeFollow, Tell, Gather, Letters, Nothing, More, Load, Val, Flag, Keep, Part, Done}
use Rattle.dioc_terms.specs.Stores.{Store, next_input}
use Rattle.dioc_terms.specs.Values.{eval, is_true}
use Rattle.process_steps.specs.Steps.{Deed, Puts, Takes, Sets, Inputs, Picks, Chooses, Decision, Keeps, Replaces, Given, Got, FromBook, ended, key, letters_to, offers, is_offered, take_value, scope_follows, scope_leads, step, telling}
use Rattle.role_statuses.specs.Statuses.{Status, Untouched, Finished, First, Second, Both, Telling, Branch, Body, Gathering, Ending, Left, Waiting, Became, keys_of, leaves, read}

-- Where a part ends, what is next.

-- a sequence whose first part is there: the second where the first has ended
abbrev pub behind : Role → Process → Status → Status
behind me P x = if ended (read me x P) then Second Untouched else First x

-- a loop or a scope whose body is there: what is next where the body has ended
abbrev pub bodied : Role → Status → Process → Status → Status
bodied me next P x = if ended (read me x P) then next else Body x

abbrev pub telling_then : Status → Bool → Letters → Status
telling_then next b Nothing = next
telling_then next b (More k l ms) = Telling b k l ms

abbrev pub gathering_then : Status → List Key → Status
gathering_then next [] = next
gathering_then next (k ∷ ks) = Gathering k ks

-- the last messages
abbrev pub leaving : Letters → Status
leaving Nothing = Finished
leaving (More k l ms) = Left k l ms

abbrev pub waiting : List Key → Status
waiting [] = Finished
waiting (k ∷ ks) = Waiting k ks

-- a loop that the role leads begins again once the ends are gathered
abbrev pub next_turn : Role → List Role → Index → Status
next_turn me others i = gathering_then Untouched (keys_of me others i Turn)

-- the last of a scope that the role leads
abbrev pub release : Role → List Role → Index → Status
release me others i = leaving (letters_to me others i Out (λ q. Done))

-- the end of a scope that the role leads
abbrev pub scope_end : Role → List Role → Index → Status
scope_end me others i = gathering_then (release me others i) (keys_of me others i End)

-- a turn of a loop: the body, where there is any
abbrev pub turn : Role → Index → List Role → Process → Status
turn me i others P = bodied me (next_turn me others i) P Untouched

-- what a loop becomes by its leader's pick
abbrev pub picked_turn : Role → Index → List Role → Bool → Process → Status
picked_turn me i others true P =
    telling_then (turn me i others P) true (letters_to me others i Go (λ q. Flag true))
picked_turn me i others false P = leaving (letters_to me others i Go (λ q. Flag false))

-- a scope that the role leads, which has this still to be told first
abbrev pub scope_begun : Role → List Role → Index → Process → Letters → Status
scope_begun me others i P ms =
    telling_then (bodied me (scope_end me others i) P Untouched) true ms

-- What each kind of act does.

abbrev pub put_one : {A : Type 0} → Key → Load → A → Act → Attempt Deed A
put_one k l x a = when (act_eq a (act.Put k)) (Does (Puts k l) x)

abbrev pub took_any : {A : Type 0} → Key → A → Given → Attempt Deed A
took_any k x (Got l) = Does (Takes k None l) x
took_any k x given = Stuck

abbrev pub take_one : {A : Type 0} → Key → A → Act → Given → Attempt Deed A
take_one k x a given = when (act_eq a (act.Take k)) (took_any k x given)

abbrev pub flagged : Key → (Bool → Status) → Given → Attempt Deed Status
flagged k f (Got (Flag b)) = Does (Takes k None (Flag b)) (f b)
flagged k f given = Stuck

abbrev pub began : Role → Role → Index → Process → Given → Attempt Deed Status
began leader me i P (Got Keep) =
    Does (Takes (key leader me i Begin) None Keep) (bodied me Ending P Untouched)
began leader me i P (Got (Part n R)) =
    Does (Takes (key leader me i Begin) None (Part n R)) (Became (scope_follows leader me i R))
began leader me i P given = Stuck

abbrev pub decided : Role → Index → List Role → Process → Decision → Attempt Deed Status
decided me i others P Keeps =
    Does (Chooses i me chosen.Keep)
    (scope_begun me others i P (letters_to me others i Begin (λ q. Keep)))
decided me i others P (Replaces name n part) =
    Does (Chooses i me (chosen.Rule name n))
    (Became (scope_leads me others i (λ q. Part n (part q)) (part me)))

abbrev pub chose : Role → ScopeHead → List Role → Process → Given → Attempt Deed Status
chose me head others P (FromBook decide) = decided me head.index others P (decide head)
chose me head others P given = Stuck

-- the first act of a static process
abbrev pub start : Role → Store → Process → Act → Given → Attempt Deed Status
start me s Skip a given = Stuck
start me s (Send i o b e) a given = put_one (key me b i (Op o)) (Val (eval e s)) Finished a
start me s (Recv i o from x) a given =
    when (act_eq a (act.Take (key from me i (Op o))))
    (under (λ R. Finished) (take_value (key from me i (Op o)) x given))
start me s (Assign i x e) a given =
    when (act_eq a (act.Set i)) (Does (Sets i me x (eval e s)) Finished)
start me s (Read i x) a given =
    when (act_eq a (act.Input i)) (Does (Inputs i me x (next_input s)) Finished)
start me s (Seq P Q) a given =
    if ended P then under Second (start me s Q a given)
    else under (behind me P) (start me s P a given)
start me s (Par P Q) a given =
    if is_offered a (offers me P) then under (λ x. Both x Untouched) (start me s P a given)
    else under (Both Untouched) (start me s Q a given)
start me s (IfLead i g others P Q) a given =
    when (act_eq a (act.Pick i))
    (Does (Picks i me (is_true (eval g s)))
    (telling_then (Branch (is_true (eval g s)) Untouched) (is_true (eval g s))
    (letters_to me others i Choice (λ q. Flag (is_true (eval g s))))))
start me s (IfFollow i leader P Q) a given =
    when (act_eq a (act.Take (key leader me i Choice)))
    (flagged (key leader me i Choice) (λ b. Branch b Untouched) given)
start me s (WhileLead i g others P) a given =
    when (act_eq a (act.Pick i))
    (Does (Picks i me (is_true (eval g s))) (picked_turn me i others (is_true (eval g s)) P))
start me s (WhileFollow i leader P) a given =
    when (act_eq a (act.Take (key leader me i Go)))
    (flagged (key leader me i Go) (λ b. if b then bodied me Ending P Untouched else Finished) given)
start me s (ScopeLead head others P) a given =
    when (act_eq a (act.Scope head.index)) (chose me head others P given)
start me s (ScopeFollow i leader P) a given =
    when (act_eq a (act.Take (key leader me i Begin))) (began leader me i P given)
start me s (Tell Nothing) a given = Stuck
start me s (Tell (More k l ms)) a given = put_one k l (Became (telling ms)) a
start me s (Gather []) a given = Stuck
start me s (Gather (k ∷ ks)) a given = take_one k (waiting ks) a given

-- the act that stands behind the body of a loop that the role leads, in case the body has ended
abbrev pub act_behind_turn : Role → Store → Index → List Key → Process → Act → Given
    → Attempt Deed Status
act_behind_turn me s i [] again a given = start me s again a given
act_behind_turn me s i (k ∷ ks) again a given = take_one k (gathering_then Untouched ks) a given

abbrev pub act_of_release : Letters → Act → Attempt Deed Status
act_of_release Nothing a = Stuck
act_of_release (More k l ms) a = put_one k l (leaving ms) a

abbrev pub act_behind_scope : List Key → Letters → Act → Given → Attempt Deed Status
act_behind_scope [] ms a given = act_of_release ms a
act_behind_scope (k ∷ ks) ms a given = take_one k (gathering_then (leaving ms) ks) a given

-- what an act does, and the status after it
abbrev pub move : Role → Store → Status → Process → Act → Given → Attempt Deed Status
move me s Untouched P a given = start me s P a given
move me s (Became R) P a given = under Became (step me s R a given)
move me s (First x) (Seq P Q) a given =
    if ended (read me x P) then under Second (start me s Q a given) else under (behind me P)
    (move me s x P a given)
move me s (Second x) (Seq P Q) a given = under Second (move me s x Q a given)
move me s (Both x y) (Par P Q) a given =
    if is_offered a (leaves me x P) then under (λ z. Both z y) (move me s x P a given)
    else under (Both x) (move me s y Q a given)
move me s (Telling b k l ms) (IfLead i g others P Q) a given =
    put_one k l (telling_then (Branch b Untouched) b ms) a
move me s (Branch b x) (IfLead i g others P Q) a given =
    under (Branch b) (move me s x (if b then P else Q) a given)
move me s (Branch b x) (IfFollow i leader P Q) a given =
    under (Branch b) (move me s x (if b then P else Q) a given)
move me s (Telling b k l ms) (WhileLead i g others P) a given =
    put_one k l (telling_then (turn me i others P) b ms) a
move me s (Body x) (WhileLead i g others P) a given =
    if ended (read me x P) then act_behind_turn me s i (keys_of me others i Turn)
    (WhileLead i g others P) a given else under (bodied me (next_turn me others i) P)
    (move me s x P a given)
move me s (Gathering k ks) (WhileLead i g others P) a given =
    take_one k (gathering_then Untouched ks) a given
move me s (Left k l ms) (WhileLead i g others P) a given = put_one k l (leaving ms) a
move me s (Body x) (WhileFollow i leader P) a given =
    if ended (read me x P) then put_one (key me leader i Turn) Done Untouched a
    else under (bodied me Ending P) (move me s x P a given)
move me s Ending (WhileFollow i leader P) a given =
    put_one (key me leader i Turn) Done Untouched a
move me s (Telling b k l ms) (ScopeLead head others P) a given =
    put_one k l (scope_begun me others head.index P ms) a
move me s (Body x) (ScopeLead head others P) a given =
    if ended (read me x P) then act_behind_scope (keys_of me others head.index End)
    (letters_to me others head.index Out (λ q. Done)) a given
    else under (bodied me (scope_end me others head.index) P) (move me s x P a given)
move me s (Gathering k ks) (ScopeLead head others P) a given =
    take_one k (gathering_then (release me others head.index) ks) a given
move me s (Left k l ms) (ScopeLead head others P) a given = put_one k l (leaving ms) a
move me s (Body x) (ScopeFollow i leader P) a given =
    if ended (read me x P)
    then put_one (key me leader i End) Done (Waiting (key leader me i Out) []) a
    else under (bodied me Ending P) (move me s x P a given)
move me s Ending (ScopeFollow i leader P) a given =
    put_one (key me leader i End) Done (Waiting (key leader me i Out) []) a
move me s (Waiting k ks) (ScopeFollow i leader P) a given = take_one k (waiting ks) a given
move me s (Waiting k ks) (Gather ls) a given = take_one k (waiting ks) a given
move me s x P a given = Stuck
