-- Terms without their marks: what is asked of them is the same, and a text's marks come back.
use Rattle.std.proofs.Common.{◌≡◌, ℕ, suc, ◌+◌, List, [], ◌∷◌, ◌++◌, Bool, true, false, ◌&&◌, if◌then◌else◌, map, refl, sym, ap, ap₂, ◌∙◌}
use Rattle.std.specs.List.{list_all}
use Rattle.std.proofs.lemmas.List.{map-append}
use Rattle.dioc_terms.specs.declared.names.Role.{Role}
use Rattle.dioc_terms.specs.declared.names.Index.{Index}
use Rattle.dioc_terms.specs.Equality.{role_eq, member}
use Rattle.dioc_terms.specs.Terms.{Term, Skip, Com, Set, Input, Seq, Par, If, While, Scope, empty, mentions, is_in, self_messages, constructs, index_at, indexed_from}
use Rattle.dioc_terms.specs.TermLaws.{MentionsAreRoles}
use Rattle.connectedness.specs.Connected.{starters, groups, connected}
use Rattle.mend.specs.Mended.{added_messages, with_numbers}

-- the term without indices and levels, with each operation changed
abbrev pub erased : (List ℕ → List ℕ) → Term → Term
erased f Skip = Skip
erased f (Com i o a e b x) = Com (index_at 0) (f o) a e b x
erased f (Set i x r e) = Set (index_at 0) x r e
erased f (Input i x r) = Input (index_at 0) x r
erased f (Seq I J) = Seq (erased f I) (erased f J)
erased f (Par I J) = Par (erased f I) (erased f J)
erased f (If i r g I J) = If (index_at 0) r g (erased f I) (erased f J)
erased f (While i r g I) = While (index_at 0) r g (erased f I)
erased f (Scope i r I extra props level) = Scope (index_at 0) r (erased f I) extra props 0

-- The marks of a text, and the numbers of added messages, are erased
pub erased-indexed : (f : List ℕ → List ℕ) (n : ℕ) (I : Term) → erased f (indexed_from n I) ≡ erased f I
erased-indexed f n Skip = refl
erased-indexed f n (Com i o a e b x) = refl
erased-indexed f n (Set i x r e) = refl
erased-indexed f n (Input i x r) = refl
erased-indexed f n (Seq I J) = ap₂ (λ s t. Seq s t) (erased-indexed f n I) (erased-indexed f (n + constructs I) J)
erased-indexed f n (Par I J) = ap₂ (λ s t. Par s t) (erased-indexed f n I) (erased-indexed f (n + constructs I) J)
erased-indexed f n (If i r g I J) = ap₂ (λ s t. If (index_at 0) r g s t) (erased-indexed f (suc n) I) (erased-indexed f (suc n + constructs I) J)
erased-indexed f n (While i r g I) = ap (λ s. While (index_at 0) r g s) (erased-indexed f (suc n) I)
erased-indexed f n (Scope i r I extra props level) = ap (λ s. Scope (index_at 0) r s extra props 0) (erased-indexed f (suc n) I)

abbrev pub nameless : List ℕ → List ℕ
nameless o = []

pub erased-numbered : (n : ℕ) (I : Term) → erased nameless (with_numbers n I) ≡ erased nameless I
erased-numbered n Skip = refl
erased-numbered n (Com i o a e b x) = refl
erased-numbered n (Set i x r e) = refl
erased-numbered n (Input i x r) = refl
erased-numbered n (Seq I J) = ap₂ (λ s t. Seq s t) (erased-numbered n I) (erased-numbered (n + added_messages I) J)
erased-numbered n (Par I J) = ap₂ (λ s t. Par s t) (erased-numbered n I) (erased-numbered (n + added_messages I) J)
erased-numbered n (If i r g I J) = ap₂ (λ s t. If (index_at 0) r g s t) (erased-numbered n I) (erased-numbered (n + added_messages I) J)
erased-numbered n (While i r g I) = ap (λ s. While (index_at 0) r g s) (erased-numbered n I)
erased-numbered n (Scope i r I extra props level) = ap (λ s. Scope (index_at 0) r s extra props 0) (erased-numbered n I)

-- a text's marks do not look at the marks before
pub constructs-erased : (f : List ℕ → List ℕ) (I : Term) → constructs (erased f I) ≡ constructs I
constructs-erased f Skip = refl
constructs-erased f (Com i o a e b x) = refl
constructs-erased f (Set i x r e) = refl
constructs-erased f (Input i x r) = refl
constructs-erased f (Seq I J) = ap₂ (λ s t. s + t) (constructs-erased f I) (constructs-erased f J)
constructs-erased f (Par I J) = ap₂ (λ s t. s + t) (constructs-erased f I) (constructs-erased f J)
constructs-erased f (If i r g I J) = ap₂ (λ s t. suc (s + t)) (constructs-erased f I) (constructs-erased f J)
constructs-erased f (While i r g I) = ap suc (constructs-erased f I)
constructs-erased f (Scope i r I extra props level) = ap suc (constructs-erased f I)

abbrev pub same_name : List ℕ → List ℕ
same_name o = o

pub indexed-erased : (n : ℕ) (I : Term) → indexed_from n (erased same_name I) ≡ indexed_from n I
indexed-erased n Skip = refl
indexed-erased n (Com i o a e b x) = refl
indexed-erased n (Set i x r e) = refl
indexed-erased n (Input i x r) = refl
indexed-erased n (Seq I J) =
    ap₂ (λ s t. Seq s t) (indexed-erased n I)
    (ap (λ m. indexed_from (n + m) (erased same_name J)) (constructs-erased same_name I) ∙ indexed-erased (n + constructs I) J)
indexed-erased n (Par I J) =
    ap₂ (λ s t. Par s t) (indexed-erased n I)
    (ap (λ m. indexed_from (n + m) (erased same_name J)) (constructs-erased same_name I) ∙ indexed-erased (n + constructs I) J)
indexed-erased n (If i r g I J) =
    ap₂ (λ s t. If (index_at n) r g s t) (indexed-erased (suc n) I)
    (ap (λ m. indexed_from (suc n + m) (erased same_name J)) (constructs-erased same_name I) ∙ indexed-erased (suc n + constructs I) J)
indexed-erased n (While i r g I) = ap (λ s. While (index_at n) r g s) (indexed-erased (suc n) I)
indexed-erased n (Scope i r I extra props level) = ap (λ s. Scope (index_at n) r s extra props 0) (indexed-erased (suc n) I)

-- What is asked of a term
pub empty-erased : (f : List ℕ → List ℕ) (I : Term) → empty (erased f I) ≡ empty I
empty-erased f Skip = refl
empty-erased f (Com i o a e b x) = refl
empty-erased f (Set i x r e) = refl
empty-erased f (Input i x r) = refl
empty-erased f (Seq I J) = ap₂ (λ s t. s && t) (empty-erased f I) (empty-erased f J)
empty-erased f (Par I J) = ap₂ (λ s t. s && t) (empty-erased f I) (empty-erased f J)
empty-erased f (If i r g I J) = refl
empty-erased f (While i r g I) = refl
empty-erased f (Scope i r I extra props level) = refl

mentions-erased : (f : List ℕ → List ℕ) (I : Term) → mentions (erased f I) ≡ mentions I
mentions-erased f Skip = refl
mentions-erased f (Com i o a e b x) = refl
mentions-erased f (Set i x r e) = refl
mentions-erased f (Input i x r) = refl
mentions-erased f (Seq I J) = ap₂ (λ s t. s ++ t) (mentions-erased f I) (mentions-erased f J)
mentions-erased f (Par I J) = ap₂ (λ s t. s ++ t) (mentions-erased f I) (mentions-erased f J)
mentions-erased f (If i r g I J) = ap₂ (λ s t. r ∷ (s ++ t)) (mentions-erased f I) (mentions-erased f J)
mentions-erased f (While i r g I) = ap (λ s. r ∷ s) (mentions-erased f I)
mentions-erased f (Scope i r I extra props level) = ap (λ s. r ∷ (s ++ extra)) (mentions-erased f I)

pub is_in-erased : MentionsAreRoles → (f : List ℕ → List ℕ) (q : Role) (I : Term) → is_in q (erased f I) ≡ is_in q I
is_in-erased mentioned f q I = mentioned q (erased f I) ∙ ap (member q) (mentions-erased f I) ∙ sym (mentioned q I)

starters-erased : (f : List ℕ → List ℕ) (I : Term) → starters (erased f I) ≡ starters I
starters-erased f Skip = refl
starters-erased f (Com i o a e b x) = refl
starters-erased f (Set i x r e) = refl
starters-erased f (Input i x r) = refl
starters-erased f (Seq I J) = λ k. if empty-erased f I k then starters-erased f J k else starters-erased f I k
starters-erased f (Par I J) = ap₂ (λ s t. s ++ t) (starters-erased f I) (starters-erased f J)
starters-erased f (If i r g I J) = refl
starters-erased f (While i r g I) = refl
starters-erased f (Scope i r I extra props level) = refl

groups-erased : (f : List ℕ → List ℕ) (I : Term) → groups (erased f I) ≡ groups I
groups-erased f Skip = refl
groups-erased f (Com i o a e b x) = refl
groups-erased f (Set i x r e) = refl
groups-erased f (Input i x r) = refl
groups-erased f (Seq I J) = λ k. if empty-erased f J k then groups-erased f I k else groups-erased f J k
groups-erased f (Par I J) = ap₂ (λ s t. s ++ t) (groups-erased f I) (groups-erased f J)
groups-erased f (If i r g I J) = λ k.
    (if empty-erased f I k then mentions-erased f (If i r g I J) k ∷ [] else groups-erased f I k)
    ++ (if empty-erased f J k then mentions-erased f (If i r g I J) k ∷ [] else groups-erased f J k)
groups-erased f (While i r g I) = ap (λ rs. rs ∷ []) (mentions-erased f (While i r g I))
groups-erased f (Scope i r I extra props level) = ap (λ rs. rs ∷ []) (mentions-erased f (Scope i r I extra props level))

pub connected-erased : (f : List ℕ → List ℕ) (I : Term) → connected (erased f I) ≡ connected I
connected-erased f Skip = refl
connected-erased f (Com i o a e b x) = refl
connected-erased f (Set i x r e) = refl
connected-erased f (Input i x r) = refl
connected-erased f (Seq I J) = λ k.
    list_all (λ q. list_all (member q) (groups-erased f I k)) (starters-erased f J k) && connected-erased f I k && connected-erased f J k
connected-erased f (Par I J) = ap₂ (λ s t. s && t) (connected-erased f I) (connected-erased f J)
connected-erased f (If i r g I J) = ap₂ (λ s t. s && t) (connected-erased f I) (connected-erased f J)
connected-erased f (While i r g I) = connected-erased f I
connected-erased f (Scope i r I extra props level) = connected-erased f I

-- each index of a list lost
abbrev pub faceless : List Index → List Index
faceless is = map (λ i. index_at 0) is

faceless_append : (is js : List Index) → faceless (is ++ js) ≡ faceless is ++ faceless js
faceless_append is js = map-append (λ i. index_at 0) is js

pub self_messages-erased : (f : List ℕ → List ℕ) (I : Term) → self_messages (erased f I) ≡ faceless (self_messages I)
self_messages-erased f Skip = refl
self_messages-erased f (Com i o a e b x) = one_or_none (role_eq a b)
  where
    one_or_none : (t : Bool) → (if t then index_at 0 ∷ [] else []) ≡ faceless (if t then i ∷ [] else [])
    one_or_none true = refl
    one_or_none false = refl
self_messages-erased f (Set i x r e) = refl
self_messages-erased f (Input i x r) = refl
self_messages-erased f (Seq I J) =
    ap₂ (λ s t. s ++ t) (self_messages-erased f I) (self_messages-erased f J) ∙ sym (faceless_append (self_messages I) (self_messages J))
self_messages-erased f (Par I J) =
    ap₂ (λ s t. s ++ t) (self_messages-erased f I) (self_messages-erased f J) ∙ sym (faceless_append (self_messages I) (self_messages J))
self_messages-erased f (If i r g I J) =
    ap₂ (λ s t. s ++ t) (self_messages-erased f I) (self_messages-erased f J) ∙ sym (faceless_append (self_messages I) (self_messages J))
self_messages-erased f (While i r g I) = self_messages-erased f I
self_messages-erased f (Scope i r I extra props level) = self_messages-erased f I

pub none_faceless : (is : List Index) → faceless is ≡ [] → is ≡ []
none_faceless [] h = refl
none_faceless (i ∷ is) h = cc

-- marks that a text gives are given again
pub indexed_twice : (n : ℕ) (I : Term) → indexed_from n (indexed_from n I) ≡ indexed_from n I
indexed_twice n I = sym (indexed-erased n (indexed_from n I)) ∙ ap (indexed_from n) (erased-indexed same_name n I) ∙ indexed-erased n I
