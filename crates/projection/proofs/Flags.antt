-- What raised flags say, and which roles they pick.
use Rattle.std.proofs.Common.{◌≡◌, Bool, true, false, ◌&&◌, ◌||◌, not, List, [], ◌∷◌, cond, filter, map, refl, sym, ap, ap₂, ◌∙◌}
use Rattle.std.proofs.Math.Bool.{or_assoc, or-false}
use Rattle.dioc_terms.specs.declared.names.Role.{Role}
use Rattle.dioc_terms.specs.Equality.{role_eq, member}
use Rattle.dioc_terms.specs.Leaves.{is_leaf_term}
use Rattle.dioc_terms.specs.Terms as term
use Rattle.dioc_terms.specs.Terms.{Term, is_in, others, roles_in}
use Rattle.projection.specs.Named.{flagged, named_in, names_inside, names_itself, raised}

-- one test after another
two_raised : (f g : Role → Bool) (cast : List Role) (bs : List Bool) → raised (map g cast) (raised (map f cast) bs) ≡ raised (map (λ q. f q || g q) cast) bs
two_raised f g [] [] = refl
two_raised f g [] (b ∷ bs) = refl
two_raised f g (q ∷ qs) [] = refl
two_raised f g (q ∷ qs) (b ∷ bs) = ap₂ (λ (x : Bool) (xs : List Bool). x ∷ xs) (or_assoc b (f q) (g q)) (two_raised f g qs bs)

raised_test : (f g : Role → Bool) (cast : List Role) → raised (map g cast) (map f cast) ≡ map (λ q. f q || g q) cast
raised_test f g [] = refl
raised_test f g (q ∷ qs) = ap (λ xs. (f q || g q) ∷ xs) (raised_test f g qs)

same_tests : (f g : Role → Bool) (cast : List Role) → ((q : Role) → f q ≡ g q) → map f cast ≡ map g cast
same_tests f g [] same = refl
same_tests f g (q ∷ qs) same = ap₂ (λ (x : Bool) (xs : List Bool). x ∷ xs) (same q) (same_tests f g qs same)

last_first : (a b c : Bool) → ((a || b) || c) ≡ ((a || c) || b)
last_first true b c = refl
last_first false true true = refl
last_first false true false = refl
last_first false false true = refl
last_first false false false = refl

-- a part names a role itself, or one inside does
itself_or_inside : (q : Role) (I : Term) → (names_itself q I || names_inside q I) ≡ is_in q I
itself_or_inside q term.Skip = refl
itself_or_inside q (term.Com i o a e b x) = or-false (role_eq q a || role_eq q b)
itself_or_inside q (term.Set i x r e) = or-false (role_eq q r)
itself_or_inside q (term.Input i x r) = or-false (role_eq q r)
itself_or_inside q (term.Seq I J) = refl
itself_or_inside q (term.Par I J) = refl
itself_or_inside q (term.If i r g I J) = sym (or_assoc (role_eq q r) (is_in q I) (is_in q J))
itself_or_inside q (term.While i r g I) = refl
itself_or_inside q (term.Scope i r I extra props level) = last_first (role_eq q r) (member q extra) (is_in q I)

pub whole_named : (cast : List Role) (I : Term) (bs : List Bool) → raised (map (λ q. names_inside q I) cast) (raised (map (λ q. names_itself q I) cast) bs) ≡ raised (named_in cast I) bs
whole_named cast I bs =
    two_raised (λ q. names_itself q I) (λ q. names_inside q I) cast bs
    ∙ ap (λ ms. raised ms bs) (same_tests (λ q. names_itself q I || names_inside q I) (λ q. is_in q I) cast (λ q. itself_or_inside q I))

pub leaf_itself : (I : Term) (q : Role) → is_leaf_term I ≡ true → names_itself q I ≡ is_in q I
leaf_itself term.Skip q leaf = refl
leaf_itself (term.Com i o a e b x) q leaf = refl
leaf_itself (term.Set i x r e) q leaf = refl
leaf_itself (term.Input i x r) q leaf = refl
leaf_itself (term.Seq I J) q leaf = cc
leaf_itself (term.Par I J) q leaf = cc
leaf_itself (term.If i r g I J) q leaf = cc
leaf_itself (term.While i r g I) q leaf = cc
leaf_itself (term.Scope i r I extra props level) q leaf = cc

pub leaf_named : (cast : List Role) (I : Term) (bs : List Bool) → is_leaf_term I ≡ true → raised (map (λ q. names_itself q I) cast) bs ≡ raised (named_in cast I) bs
leaf_named cast I bs leaf = ap (λ ms. raised ms bs) (same_tests (λ q. names_itself q I) (λ q. is_in q I) cast (λ q. leaf_itself I q leaf))

-- two parts, one after the other
pub both_named : (cast : List Role) (I J : Term) (bs : List Bool) → raised (named_in cast J) (raised (named_in cast I) bs) ≡ raised (map (λ q. is_in q I || is_in q J) cast) bs
both_named cast I J bs = two_raised (λ q. is_in q I) (λ q. is_in q J) cast bs

-- the flags of what stands inside, over those of the construct itself
pub choice_named : (cast : List Role) (r : Role) (I J : Term)
    → raised (named_in cast J) (raised (named_in cast I) (map (λ q. role_eq q r) cast)) ≡ map (λ q. role_eq q r || is_in q I || is_in q J) cast
choice_named cast r I J =
    ap (raised (named_in cast J)) (raised_test (λ q. role_eq q r) (λ q. is_in q I) cast) ∙ raised_test (λ q. role_eq q r || is_in q I) (λ q. is_in q J) cast

pub loop_named : (cast : List Role) (r : Role) (I : Term) → raised (named_in cast I) (map (λ q. role_eq q r) cast) ≡ map (λ q. role_eq q r || is_in q I) cast
loop_named cast r I = raised_test (λ q. role_eq q r) (λ q. is_in q I) cast

pub scope_named : (cast : List Role) (r : Role) (I : Term) (extra : List Role)
    → raised (named_in cast I) (map (λ q. role_eq q r || member q extra) cast) ≡ map (λ q. role_eq q r || is_in q I || member q extra) cast
scope_named cast r I extra =
    raised_test (λ q. role_eq q r || member q extra) (λ q. is_in q I) cast
    ∙ same_tests (λ q. (role_eq q r || member q extra) || is_in q I) (λ q. (role_eq q r || is_in q I) || member q extra) cast (λ q. last_first (role_eq q r) (member q extra) (is_in q I))

-- the roles that the flags of a part pick
test_flagged : (f : Role → Bool) (cast : List Role) → flagged cast (map f cast) ≡ filter f cast
test_flagged f [] = refl
test_flagged f (q ∷ qs) = ap (λ rs. cond (f q) (q ∷ rs) rs) (test_flagged f qs)

pub roles_flagged : (cast : List Role) (I : Term) → flagged cast (named_in cast I) ≡ roles_in cast I
roles_flagged cast I = test_flagged (λ q. is_in q I) cast

two_filters : (f p : Role → Bool) (rs : List Role) → filter p (filter f rs) ≡ filter (λ q. f q && p q) rs
two_filters f p [] = refl
two_filters f p (r ∷ rs) = go (f r) (two_filters f p rs)
  where
    go : (b : Bool) → filter p (filter f rs) ≡ filter (λ q. f q && p q) rs
        → filter p (cond b (r ∷ filter f rs) (filter f rs)) ≡ cond (b && p r) (r ∷ filter (λ q. f q && p q) rs) (filter (λ q. f q && p q) rs)
    go true h = ap (λ l. cond (p r) (r ∷ l) l) h
    go false h = h

pub others_flagged : (cast : List Role) (I : Term) (leader : Role) → filter (λ q. not (role_eq q leader)) (flagged cast (named_in cast I)) ≡ others cast leader I
others_flagged cast I leader = ap (filter (λ q. not (role_eq q leader))) (roles_flagged cast I) ∙ two_filters (λ q. is_in q I) (λ q. not (role_eq q leader)) cast
