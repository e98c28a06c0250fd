-- What one part of a made choreography needs: it begins with one role and ends with another, it is
-- formed and connected, and all its roles are of the cast.
use Rattle.std.proofs.Common.{◌≡◌, ℕ, List, [], ◌∷◌, Bool, true, false, ◌&&◌, refl, ◌∙◌}
use Rattle.std.specs.List.{list_all}
use Rattle.std.proofs.lemmas.Bool.{and_from, and_left}
use Rattle.std.proofs.lemmas.List.Folds.{list_all-append}
use Rattle.dioc_terms.specs.declared.names.Role.{Role}
use Rattle.dioc_terms.specs.declared.names.Index.{Index}
use Rattle.dioc_terms.specs.declared.values.Value.{Value}
use Rattle.dioc_terms.specs.Bundles.{has_formed_parts, is_formed_binding, is_formed_role, is_formed_step, is_identifier, names_no_roles}
use Rattle.dioc_terms.specs.Equality.{member, role_eq}
use Rattle.dioc_terms.specs.Expressions.{Expression}
use Rattle.dioc_terms.specs.Terms.{Term, Com, Set, Seq, If, While, Scope, empty, mentions, self_messages}
use Rattle.connectedness.specs.Connected.{starters, groups, in_each_group, linked, connected}

pub record Whole (cast : List Role) (I : Term) (first last : Role) : Type 0 where
  pub full : empty I ≡ false
  pub begins : starters I ≡ first ∷ []
  pub ends : in_each_group I last ≡ true
  pub linked : connected I ≡ true
  pub apart : self_messages I ≡ []
  pub formed : has_formed_parts I ≡ true
  pub plain : names_no_roles I ≡ true
  pub known : list_all (λ q. member q cast) (mentions I) ≡ true

-- two parts, where the role with which the first ends begins the second
pub seq_whole : (cast : List Role) (I K : Term) (a m d : Role) → Whole cast I a m
    → Whole cast K m d → Whole cast (Seq I K) a d
seq_whole cast I K a m d one other = record {
  full = and_left (empty I) (empty K) one.full;
  begins = rw one.full one.begins;
  ends = rw other.full other.ends;
  linked = and_from _ _
      (and_from (linked I K) _ (rw (other.begins, one.ends) refl) one.linked)
      other.linked;
  apart = rw (one.apart, other.apart) refl;
  formed = and_from _ _ one.formed other.formed;
  plain = and_from _ _ one.plain other.plain;
  known = list_all-append (λ q. member q cast) (mentions I) (mentions K)
      ∙ and_from _ _ one.known other.known;
}

-- two roles of the cast
pub record Two (cast : List Role) (a d : Role) : Type 0 where
  pub here : role_eq a a ≡ true
  pub there : role_eq d d ≡ true
  pub apart : role_eq a d ≡ false
  pub back : role_eq d a ≡ false
  pub named : is_formed_role a ≡ true
  pub next_named : is_formed_role d ≡ true
  pub known : member a cast ≡ true
  pub next_known : member d cast ≡ true

three : (p q r : Bool) → p ≡ true → q ≡ true → r ≡ true → (p && q && r) ≡ true
three p q r one two last = rw (one, two, last) refl

four : (p q r s : Bool) → p ≡ true → q ≡ true → r ≡ true → s ≡ true → (p && q && r && s) ≡ true
four p q r s one two more last = rw (one, two, more, last) refl

five : (p q r s t : Bool) → p ≡ true → q ≡ true → r ≡ true → s ≡ true → t ≡ true
    → (p && q && r && s && t) ≡ true
five p q r s t one two more next last = rw (one, two, more, next, last) refl

module _ (cast : List Role) (a d : Role) (two : Two cast a d) where
  -- a message from the one to the other
  pub com_whole : (i : Index) (o : List ℕ) (e : Expression) (y : List ℕ)
      → is_identifier o ≡ true → is_formed_step e ≡ true → is_identifier y ≡ true
      → Whole cast (Com i o a e d y) a d
  com_whole i o e y operation step variable = record {
    full = refl;
    begins = refl;
    ends = rw (two.back, two.there) refl;
    linked = refl;
    apart = rw two.apart refl;
    formed = five _ _ _ _ _ operation two.named step two.next_named variable;
    plain = refl;
    known = and_from _ _ two.known (and_from _ _ two.next_known refl);
  }

  -- its sender takes part in it too
  pub com_back : (i : Index) (o : List ℕ) (e : Expression) (y : List ℕ)
      → Whole cast (Com i o a e d y) a d → Whole cast (Com i o a e d y) a a
  com_back i o e y whole = record {
    full = refl;
    begins = refl;
    ends = rw two.here refl;
    linked = refl;
    apart = whole.apart;
    formed = whole.formed;
    plain = refl;
    known = whole.known;
  }

  pub set_whole : (i : Index) (x : List ℕ) (e : Expression) → is_identifier x ≡ true
      → is_formed_step e ≡ true → Whole cast (Set i x a e) a a
  set_whole i x e variable step = record {
    full = refl;
    begins = refl;
    ends = rw two.here refl;
    linked = refl;
    apart = refl;
    formed = three _ _ _ variable two.named step;
    plain = refl;
    known = and_from _ _ two.known refl;
  }

  pub if_whole : (i : Index) (g : Expression) (I K : Term) → is_formed_step g ≡ true
      → Whole cast I a d → Whole cast K a d → Whole cast (If i a g I K) a d
  if_whole i g I K step one other = record {
    full = refl;
    begins = refl;
    ends = rw (one.full, other.full) (list_all-append (member d) (groups I) (groups K)
        ∙ and_from _ _ one.ends other.ends);
    linked = and_from _ _ one.linked other.linked;
    apart = rw (one.apart, other.apart) refl;
    formed = four _ _ _ _ two.named step one.formed other.formed;
    plain = and_from _ _ one.plain other.plain;
    known = and_from _ _ two.known
        (list_all-append (λ q. member q cast) (mentions I) (mentions K)
        ∙ and_from _ _ one.known other.known);
  }

  pub while_whole : (i : Index) (g : Expression) (I : Term) (last : Role)
      → is_formed_step g ≡ true → Whole cast I a last → Whole cast (While i a g I) a a
  while_whole i g I last step body = record {
    full = refl;
    begins = refl;
    ends = rw two.here refl;
    linked = body.linked;
    apart = body.apart;
    formed = three _ _ _ two.named step body.formed;
    plain = body.plain;
    known = and_from _ _ two.known body.known;
  }

  -- a scope with a message
  pub scope_whole : (i k : Index) (o : List ℕ) (e : Expression) (y : List ℕ)
      (props : List (List ℕ × Value)) (level : ℕ) → list_all is_formed_binding props ≡ true
      → Whole cast (Com k o a e d y) a d
      → Whole cast (Scope i a (Com k o a e d y) [] props level) a d
  scope_whole i k o e y props level bindings body = record {
    full = refl;
    begins = refl;
    ends = rw (two.back, two.there) refl;
    linked = refl;
    apart = body.apart;
    formed = four _ _ _ _ two.named body.formed refl bindings;
    plain = refl;
    known = and_from _ _ two.known body.known;
  }
