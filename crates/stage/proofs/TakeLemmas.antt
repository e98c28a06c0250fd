-- What a take takes is the message that came.
use Rattle.std.proofs.Common.{◌≡◌, ℕ, List, [], ◌∷◌, Bool, true, false, Option, refl, subst}
use Rattle.std.specs.Prelude.{if◌then◌else◌}
use Rattle.dioc_terms.specs.declared.entries.Act.{Act}
use Rattle.dioc_terms.specs.declared.entries.Act.TheVariants as act
use Rattle.dioc_terms.specs.declared.entries.Entry.TheVariants as entry
use Rattle.dioc_terms.specs.declared.names.Role.{Role}
use Rattle.dioc_terms.specs.declared.processes.Key.{Key}
use Rattle.dioc_terms.specs.declared.processes.Tag.TheVariants.{Op, Choice, Go, Begin}
use Rattle.dioc_terms.specs.Equality.{act_eq}
use Rattle.dioc_terms.specs.Values.{eval, is_true}
use Rattle.dioc_terms.specs.Attempts.{Attempt, Stuck, Does, under, when}
use Rattle.dioc_terms.specs.Processes.{Process, Skip, Send, Recv, Assign, Read, Seq, Par, IfLead, IfFollow, WhileLead, WhileFollow, ScopeLead, ScopeFollow, Tell, Gather, Nothing, More, Load, Val, Flag, Keep, Part, Done}
use Rattle.dioc_terms.specs.Stores.{Store, next_input}
use Rattle.process_steps.specs.Steps.{Deed, Puts, Takes, Sets, Inputs, Picks, Chooses, Got, entry_of, step, ended, offers, is_offered, after, take_value, take_flag, take_begin, take_any, key, if_leads, while_leads, while_follows, telling, gathering}

-- a take that is done is of this message
abbrev Carries : Load → Attempt Deed Process → Type 0
Carries l Stuck = Unit {0}
Carries l (Does (Takes k x m) P) = m ≡ l
Carries l (Does _ P) = Unit {0}

carries_when : (l : Load) (t : Bool) (m : Attempt Deed Process) → Carries l m → Carries l (when t m)
carries_when l true m h = h
carries_when l false m h = tt

carries_under : (l : Load) (f : Process → Process) (m : Attempt Deed Process) → Carries l m → Carries l (under f m)
carries_under l f Stuck h = tt
carries_under l f (Does (Puts k n) P) h = tt
carries_under l f (Does (Takes k x n) P) h = h
carries_under l f (Does (Sets i r x v) P) h = tt
carries_under l f (Does (Inputs i r x v) P) h = tt
carries_under l f (Does (Picks i r t) P) h = tt
carries_under l f (Does (Chooses i r c) P) h = tt

carries_if : (l : Load) (t : Bool) (m n : Attempt Deed Process) → Carries l m → Carries l n → Carries l (if t then m else n)
carries_if l true m n h g = h
carries_if l false m n h g = g

carries_value : (l : Load) (k : Key) (x : List ℕ) → Carries l (take_value k x (Got l))
carries_value (Val v) k x = refl
carries_value (Flag t) k x = tt
carries_value Keep k x = tt
carries_value (Part n P) k x = tt
carries_value Done k x = tt

carries_flag : (l : Load) (k : Key) (P Q : Process) → Carries l (take_flag k P Q (Got l))
carries_flag (Val v) k P Q = tt
carries_flag (Flag t) k P Q = refl
carries_flag Keep k P Q = tt
carries_flag (Part n R) k P Q = tt
carries_flag Done k P Q = tt

module _ (me : Role) (s : Store) (a : Act) (l : Load) where
  carries : (P : Process) → Carries l (step me s P a (Got l))
  carries Skip = tt
  carries (Send i o b e) = carries_when l (act_eq a (act.Put (key me b i (Op o)))) (Does (Puts (key me b i (Op o)) (Val (eval e s))) Skip) tt
  carries (Recv i o from x) = carries_when l (act_eq a (act.Take (key from me i (Op o)))) (take_value (key from me i (Op o)) x (Got l)) (carries_value l (key from me i (Op o)) x)
  carries (Assign i x e) = carries_when l (act_eq a (act.Set i)) (Does (Sets i me x (eval e s)) Skip) tt
  carries (Read i x) = carries_when l (act_eq a (act.Input i)) (Does (Inputs i me x (next_input s)) Skip) tt
  carries (Seq P Q) = carries_if l (ended P) (step me s Q a (Got l)) (under (λ p. after p Q) (step me s P a (Got l)))
      (carries Q) (carries_under l (λ p. after p Q) (step me s P a (Got l)) (carries P))
  carries (Par P Q) = carries_if l (is_offered a (offers me P)) (under (λ p. Par p Q) (step me s P a (Got l))) (under (Par P) (step me s Q a (Got l)))
      (carries_under l (λ p. Par p Q) (step me s P a (Got l)) (carries P)) (carries_under l (Par P) (step me s Q a (Got l)) (carries Q))
  carries (IfLead i g others P Q) = carries_when l (act_eq a (act.Pick i))
      (Does (Picks i me (is_true (eval g s))) (if_leads me i others (is_true (eval g s)) P Q)) tt
  carries (IfFollow i leader P Q) = carries_when l (act_eq a (act.Take (key leader me i Choice)))
      (take_flag (key leader me i Choice) P Q (Got l)) (carries_flag l (key leader me i Choice) P Q)
  carries (WhileLead i g others P) = carries_when l (act_eq a (act.Pick i))
      (Does (Picks i me (is_true (eval g s))) (while_leads me i others (is_true (eval g s)) P (WhileLead i g others P))) tt
  carries (WhileFollow i leader P) = carries_when l (act_eq a (act.Take (key leader me i Go)))
      (take_flag (key leader me i Go) (while_follows leader me i P (WhileFollow i leader P)) Skip (Got l))
      (carries_flag l (key leader me i Go) (while_follows leader me i P (WhileFollow i leader P)) Skip)
  carries (ScopeLead head others P) = carries_when l (act_eq a (act.Scope head.index)) Stuck tt
  carries (ScopeFollow i leader P) = carries_when l (act_eq a (act.Take (key leader me i Begin))) (take_begin leader me i P (Got l)) (carries_begin l)
    where
      carries_begin : (l : Load) → Carries l (take_begin leader me i P (Got l))
      carries_begin (Val v) = tt
      carries_begin (Flag t) = tt
      carries_begin Keep = refl
      carries_begin (Part n R) = refl
      carries_begin Done = tt
  carries (Tell Nothing) = tt
  carries (Tell (More k m ms)) = carries_when l (act_eq a (act.Put k)) (Does (Puts k m) (telling ms)) tt
  carries (Gather []) = tt
  carries (Gather (k ∷ ks)) = carries_when l (act_eq a (act.Take k)) (take_any k (gathering ks) (Got l)) refl

  -- the take that the entry shows is of the message that came
  pub take_is : (P Q : Process) (d : Deed) (k : Key) (x : Option (List ℕ)) → step me s P a (Got l) ≡ Does d Q → entry_of d ≡ entry.Take k x → d ≡ Takes k x l
  take_is P Q d k x does shows = of_deed d (subst (Carries l) does (carries P)) shows
    where
      of_deed : (d : Deed) → Carries l (Does d Q) → entry_of d ≡ entry.Take k x → d ≡ Takes k x l
      of_deed (Takes j y m) same h = takes_same same h
        where
          takes_same : m ≡ l → entry.Take j y ≡ entry.Take k x → Takes j y m ≡ Takes k x l
          takes_same same h = cc
      of_deed (Puts j m) same h = cc
      of_deed (Sets i r y v) same h = cc
      of_deed (Inputs i r y v) same h = cc
      of_deed (Picks i r t) same h = cc
      of_deed (Chooses i r c) same h = cc
