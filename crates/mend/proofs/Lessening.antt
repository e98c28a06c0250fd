-- A mended text beside the input, and what is left of each in the middle of a play: the added messages come and go on one side alone.
use Rattle.std.proofs.Common.{◌≡◌, ℕ, List, Bool, true, false, None, refl}
use Rattle.std.proofs.lemmas.Bool.{and_parts, and_from, or_parts, or_from, both_ways}
use Rattle.dioc_terms.specs.declared.names.Role.{Role}
use Rattle.dioc_terms.specs.declared.names.Index.{Index}
use Rattle.dioc_terms.specs.declared.values.Value.{Value}
use Rattle.dioc_terms.specs.Expressions.{Expression}
use Rattle.dioc_terms.specs.Terms as term
use Rattle.dioc_terms.specs.Terms.{Term, is_in}
use Rattle.global_steps.specs.Running.{Running, Skip, Com, Set, Input, Seq, Par, If, While, Scope, Fly, Bar, Again, started, ended, light, is_due}
use Rattle.mend.specs.Names.{begins_sq, taken_variable}

-- an added message in a text, and several of them
pub data AddedTerm : Term → Type 0 where
  added_seq : (A B : Term) → AddedTerm A → AddedTerm B → AddedTerm (term.Seq A B)
  added_com : (i : Index) (o : List ℕ) (a : Role) (e : Expression) (b : Role) (x : List ℕ) → begins_sq o ≡ true → begins_sq x ≡ true
      → AddedTerm (term.Com i o a e b x)

-- a mended text beside the input's, with what its indices are in the input
pub data Mends (f : Index → Index) : Term → Term → Type 0 where
  m_skip : Mends f term.Skip term.Skip
  m_com : (i j : Index) (o : List ℕ) (a : Role) (e : Expression) (b : Role) (x : List ℕ) → f i ≡ j → begins_sq o ≡ false → taken_variable e ≡ None
      → Mends f (term.Com i o a e b x) (term.Com j o a e b x)
  m_set : (i j : Index) (x : List ℕ) (r : Role) (e : Expression) → f i ≡ j → taken_variable e ≡ None → Mends f (term.Set i x r e) (term.Set j x r e)
  m_input : (i j : Index) (x : List ℕ) (r : Role) → f i ≡ j → Mends f (term.Input i x r) (term.Input j x r)
  m_seq : (I J K L : Term) → Mends f I K → Mends f J L → Mends f (term.Seq I J) (term.Seq K L)
  m_par : (I J K L : Term) → Mends f I K → Mends f J L → Mends f (term.Par I J) (term.Par K L)
  m_if : (i j : Index) (r : Role) (g : Expression) (I J K L : Term) → f i ≡ j → taken_variable g ≡ None → Mends f I K → Mends f J L
      → Mends f (term.If i r g I J) (term.If j r g K L)
  m_while : (i j : Index) (r : Role) (g : Expression) (I K : Term) → f i ≡ j → taken_variable g ≡ None → Mends f I K
      → Mends f (term.While i r g I) (term.While j r g K)
  m_scope : (i j : Index) (r : Role) (I K : Term) (extra : List Role) (props : List (List ℕ × Value)) (level : ℕ) → f i ≡ j
      → ((q : Role) → is_in q I ≡ is_in q K) → Mends f I K → Mends f (term.Scope i r I extra props level) (term.Scope j r K extra props level)
  m_before : (A J K : Term) → AddedTerm A → Mends f J K → Mends f (term.Seq A J) K
  m_behind : (I A K : Term) → Mends f I K → AddedTerm A → Mends f (term.Seq I A) K

-- what is left of them
pub data AddedRun : Running → Type 0 where
  run_seq : (A B : Running) → AddedRun A → AddedRun B → AddedRun (Seq A B)
  waits : (i : Index) (o : List ℕ) (a : Role) (e : Expression) (b : Role) (x : List ℕ) → begins_sq o ≡ true → begins_sq x ≡ true → AddedRun (Com i o a e b x)
  flies : (i : Index) (o : List ℕ) (a b : Role) (x : List ℕ) (v : Value) → begins_sq o ≡ true → begins_sq x ≡ true → AddedRun (Fly i o a b x v)
  is_over : AddedRun Skip

-- what is left of a mended text beside what is left of the input's
pub data Less (f : Index → Index) : Running → Running → Type 0 where
  l_skip : Less f Skip Skip
  l_com : (i j : Index) (o : List ℕ) (a : Role) (e : Expression) (b : Role) (x : List ℕ) → f i ≡ j → begins_sq o ≡ false → taken_variable e ≡ None
      → Less f (Com i o a e b x) (Com j o a e b x)
  l_fly : (i j : Index) (o : List ℕ) (a b : Role) (x : List ℕ) (v : Value) → f i ≡ j → begins_sq o ≡ false → Less f (Fly i o a b x v) (Fly j o a b x v)
  l_set : (i j : Index) (x : List ℕ) (r : Role) (e : Expression) → f i ≡ j → taken_variable e ≡ None → Less f (Set i x r e) (Set j x r e)
  l_input : (i j : Index) (x : List ℕ) (r : Role) → f i ≡ j → Less f (Input i x r) (Input j x r)
  l_seq : (G H K L : Running) → Less f G K → Less f H L → Less f (Seq G H) (Seq K L)
  l_par : (G H K L : Running) → Less f G K → Less f H L → Less f (Par G H) (Par K L)
  l_if : (i j : Index) (r : Role) (g : Expression) (I J K L : Term) → f i ≡ j → taken_variable g ≡ None → Mends f I K → Mends f J L
      → Less f (If i r g I J) (If j r g K L)
  l_while : (i j : Index) (r : Role) (g : Expression) (I K : Term) → f i ≡ j → taken_variable g ≡ None → Mends f I K → Less f (While i r g I) (While j r g K)
  l_again : (i j : Index) (r : Role) (g : Expression) (I K : Term) (G H : Running) → f i ≡ j → taken_variable g ≡ None → Mends f I K → Less f G H
      → Less f (Again i r g I G) (Again j r g K H)
  l_scope : (i j : Index) (r : Role) (I K : Term) (extra : List Role) (props : List (List ℕ × Value)) (level : ℕ) → f i ≡ j
      → ((q : Role) → is_in q I ≡ is_in q K) → Mends f I K → Less f (Scope i r I extra props level) (Scope j r K extra props level)
  l_bar : (roles others : Role → Bool) (G H : Running) → Less f G H → Less f (Bar roles G) (Bar others H)
  l_before : (A H K : Running) → AddedRun A → Less f H K → Less f (Seq A H) K
  l_behind : (G A K : Running) → Less f G K → AddedRun A → Less f (Seq G A) K

-- both texts begin
added_starts : (A : Term) → AddedTerm A → AddedRun (started A)
added_starts C (added_seq A B a b) = run_seq (started A) (started B) (added_starts A a) (added_starts B b)
added_starts A (added_com i o a e b x os xs) = waits i o a e b x os xs

module _ {f : Index → Index} where
  pub starts : (I K : Term) → Mends f I K → Less f (started I) (started K)
  starts I K m_skip = l_skip
  starts I K (m_com i j o a e b x at os free) = l_com i j o a e b x at os free
  starts I K (m_set i j x r e at free) = l_set i j x r e at free
  starts I K (m_input i j x r at) = l_input i j x r at
  starts I K (m_seq A B C D h k) = l_seq (started A) (started B) (started C) (started D) (starts A C h) (starts B D k)
  starts I K (m_par A B C D h k) = l_par (started A) (started B) (started C) (started D) (starts A C h) (starts B D k)
  starts I K (m_if i j r g A B C D at free h k) = l_if i j r g A B C D at free h k
  starts I K (m_while i j r g A C at free h) = l_while i j r g A C at free h
  starts I K (m_scope i j r A C extra props level at roles h) = l_scope i j r A C extra props level at roles h
  starts I K (m_before A B C a h) = l_before (started A) (started B) (started C) (added_starts A a) (starts B C h)
  starts I K (m_behind B A C h a) = l_behind (started B) (started A) (started C) (starts B C h) (added_starts A a)

  -- the input has nothing left where the mended text has, and nobody is due in it who isn't due there
  pub less_ended : (G K : Running) → Less f G K → ended G ≡ true → ended K ≡ true
  less_ended G K (l_seq A B C D h k) e = let parts = and_parts (ended A) (ended B) e in and_from _ _ (less_ended A C h parts.0) (less_ended B D k parts.1)
  less_ended G K (l_par A B C D h k) e = let parts = and_parts (ended A) (ended B) e in and_from _ _ (less_ended A C h parts.0) (less_ended B D k parts.1)
  less_ended G K (l_bar roles others A C h) e = less_ended A C h e
  less_ended G K (l_before A B C a h) e = less_ended B C h (and_parts (ended A) (ended B) e).1
  less_ended G K (l_behind B A C h a) e = less_ended B C h (and_parts (ended B) (ended A) e).0
  less_ended G K l_skip e = refl
  less_ended G K (l_com i j o a x b y at os free) e = absurd (both_ways false refl e)
  less_ended G K (l_fly i j o a b x v at os) e = absurd (both_ways false refl e)
  less_ended G K (l_set i j x r y at free) e = absurd (both_ways false refl e)
  less_ended G K (l_input i j x r at) e = absurd (both_ways false refl e)
  less_ended G K (l_if i j r g A B C D at free h k) e = absurd (both_ways false refl e)
  less_ended G K (l_while i j r g A C at free h) e = absurd (both_ways false refl e)
  less_ended G K (l_again i j r g A C B D at free h k) e = absurd (both_ways false refl e)
  less_ended G K (l_scope i j r A C extra props level at roles h) e = absurd (both_ways false refl e)

  pub less_light : (G K : Running) → Less f G K → light G ≡ true → light K ≡ true
  less_light G K (l_seq A B C D h k) e = let parts = and_parts (light A) (light B) e in and_from _ _ (less_light A C h parts.0) (less_light B D k parts.1)
  less_light G K (l_par A B C D h k) e = let parts = and_parts (light A) (light B) e in and_from _ _ (less_light A C h parts.0) (less_light B D k parts.1)
  less_light G K (l_bar roles others A C h) e = less_ended A C h e
  less_light G K (l_before A B C a h) e = less_light B C h (and_parts (light A) (light B) e).1
  less_light G K (l_behind B A C h a) e = less_light B C h (and_parts (light B) (light A) e).0
  less_light G K l_skip e = refl
  less_light G K (l_com i j o a x b y at os free) e = absurd (both_ways false refl e)
  less_light G K (l_fly i j o a b x v at os) e = refl
  less_light G K (l_set i j x r y at free) e = absurd (both_ways false refl e)
  less_light G K (l_input i j x r at) e = absurd (both_ways false refl e)
  less_light G K (l_if i j r g A B C D at free h k) e = absurd (both_ways false refl e)
  less_light G K (l_while i j r g A C at free h) e = absurd (both_ways false refl e)
  less_light G K (l_again i j r g A C B D at free h k) e = absurd (both_ways false refl e)
  less_light G K (l_scope i j r A C extra props level at roles h) e = absurd (both_ways false refl e)

  pub less_due : (q : Role) (G K : Running) → Less f G K → is_due q G ≡ false → is_due q K ≡ false
  less_due q G K (l_seq A B C D h k) e = let parts = or_parts (is_due q A) (is_due q B) e in or_from _ _ (less_due q A C h parts.0) (less_due q B D k parts.1)
  less_due q G K (l_par A B C D h k) e = let parts = or_parts (is_due q A) (is_due q B) e in or_from _ _ (less_due q A C h parts.0) (less_due q B D k parts.1)
  less_due q G K (l_bar roles others A C h) e = less_due q A C h e
  less_due q G K (l_again i j r g A C B D at free h k) e = less_due q B D k e
  less_due q G K (l_before A B C a h) e = less_due q B C h (or_parts (is_due q A) (is_due q B) e).1
  less_due q G K (l_behind B A C h a) e = less_due q B C h (or_parts (is_due q B) (is_due q A) e).0
  less_due q G K l_skip e = refl
  less_due q G K (l_com i j o a x b y at os free) e = refl
  less_due q G K (l_fly i j o a b x v at os) e = e
  less_due q G K (l_set i j x r y at free) e = refl
  less_due q G K (l_input i j x r at) e = refl
  less_due q G K (l_if i j r g A B C D at free h k) e = refl
  less_due q G K (l_while i j r g A C at free h) e = refl
  less_due q G K (l_scope i j r A C extra props level at roles h) e = refl
