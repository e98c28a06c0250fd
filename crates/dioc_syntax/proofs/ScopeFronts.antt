-- The longest optional parts behind a scope.
use Rattle.std.proofs.Common.{◌≡◌, ◌≢◌, ℕ, ◌≤◌, List, [], ◌∷◌, length, drop, codes, Some, None, refl, ap, sym, ◌∙◌, subst, arith}
use Rattle.dioc_terms.specs.declared.names.Role.{Role}
use Rattle.dioc_terms.specs.declared.values.Value.{Value}
use Rattle.aioc_tokens.specs.declared.words.Word.TheVariants as word
use Rattle.aioc_tokens.specs.declared.words.Punctuator.TheVariants as punctuator
use Rattle.aioc_tokens.specs.declared.words.Sort.{Sort}
use Rattle.aioc_tokens.specs.declared.words.Sort.TheVariants as sorts
use Rattle.aioc_tokens.specs.Lexemes.{Lexeme, Name, Reserved, Symbol, sort_of, Begins}
use Rattle.aioc_tokens.specs.Fronts.{Longest, NoFront}
use Rattle.expr_syntax.specs.Constants.{constant}
use Rattle.dioc_syntax.specs.Choreographies.{role, NamesRoles, last_role, more_roles, HasExtraRoles, no_roles, roles, GivesProperties, last_property, more_properties, HasProperties, no_properties, empty_properties, properties}
use Rattle.dioc_syntax.proofs.Shorter.{named_shorter, given_shorter, properties_shorter}
use Rattle.dioc_syntax.proofs.Tables.{is_comma, is_name}
use Rattle.dioc_syntax.proofs.Compare.{Compared, same, further, nearer, behind_is, named_compared, roles_compared, given_compared, given_begins, constant_same, ends_there}

-- the two parts are the longest, each behind the other
pub tail_longest : {version : ℕ} {behind after after2 to end : List Lexeme} {extra extra2 : List Role} {props props2 : List (List ℕ × Value)} → Longest (HasExtraRoles version behind) extra after → Longest (HasProperties after) props to
    → HasExtraRoles version behind extra2 after2 → HasProperties after2 props2 end → length to ≤ length end
tail_longest {version} {behind} {after} {after2} {to} {end} {extra} {extra2} {props} {props2} named given named2 given2 = go (roles_compared named.reads behind after2 extra2 refl named2)
  where
    go : Compared is_name extra extra2 after after2 → length to ≤ length end
    go (same is at) = given.longest props2 end (subst (λ list. HasProperties list props2 end) (sym at) given2)
    go (further less going) = let most = named.longest extra2 after2 named2 in absurd (omega arith)
    go (nearer less going) = let rest = ends_there going given2 in let short = properties_shorter given.reads in omega (arith, ap length rest)

-- roles that are named
named_last_go : {from to end : List Lexeme} {name : List ℕ} {other : List Role} → from ≡ Name name ∷ to → ((others : List Lexeme) (rest : List Role) → to ≡ Symbol punctuator.Comma ∷ others → NamesRoles others rest end → ⊥) → NamesRoles from other end
    → length to ≤ length end
named_last_go {to = to} begins none (last_role begins2) = omega (arith, ap length (behind_is refl begins begins2))
named_last_go {to = to} begins none (more_roles {others = others2} {rest = rest2} begins2 r2) = absurd (none others2 rest2 (behind_is refl begins begins2) r2)

named_more_go : {from others to end : List Lexeme} {name : List ℕ} {rest other : List Role} → from ≡ Name name ∷ Symbol punctuator.Comma ∷ others → Longest (NamesRoles others) rest to → NamesRoles from other end → length to ≤ length end
named_more_go begins front (last_role begins2) = let less = named_shorter front.reads in omega (arith, ap length begins, ap length begins2)
named_more_go {others = others} {end = end} begins front (more_roles {others = others2} {rest = rest2} begins2 r2) =
    let rests : others2 ≡ others = ap (drop 2) (sym begins2 ∙ begins) in
    front.longest rest2 end (subst (λ list. NamesRoles list rest2 end) rests r2)

no_name : {from end : List Lexeme} {other : List Role} → sort_of from ≢ sorts.Name → NamesRoles from other end → ⊥
no_name unnamed (last_role begins) = unnamed (ap sort_of begins)
no_name unnamed (more_roles begins r) = unnamed (ap sort_of begins)

module _ {from : List Lexeme} where
  pub named_none : sort_of from ≢ sorts.Name → NoFront (NamesRoles from)
  named_none unnamed other end is = no_name unnamed is

  -- no `,` stands behind the name
  pub named_alone : {to : List Lexeme} {name : List ℕ} → from ≡ Name name ∷ to → sort_of to ≢ sorts.Symbol punctuator.Comma → Longest (NamesRoles from) (role name ∷ []) to
  named_alone begins other = record { reads = last_role begins; longest = λ names end is. named_last_go begins (λ others rest comma r. other (ap sort_of comma)) is }

  -- no name stands behind the `,`
  pub named_last : {to others : List Lexeme} {name : List ℕ} → from ≡ Name name ∷ to → to ≡ Symbol punctuator.Comma ∷ others → NoFront (NamesRoles others) → Longest (NamesRoles from) (role name ∷ []) to
  named_last {to} {others} begins comma none = record {
    reads = last_role begins;
    longest = λ names end is. named_last_go begins (λ others2 rest comma2 r. none rest end (subst (λ list. NamesRoles list rest end) (behind_is refl comma2 comma) r)) is;
  }

  pub named_more : {others to : List Lexeme} {name : List ℕ} {rest : List Role} → from ≡ Name name ∷ Symbol punctuator.Comma ∷ others → Longest (NamesRoles others) rest to → Longest (NamesRoles from) (role name ∷ rest) to
  named_more begins front = record { reads = more_roles begins front.reads; longest = λ names end is. named_more_go begins front is }

named_settled : {from to end : List Lexeme} {names other : List Role} → Longest (NamesRoles from) names to → NamesRoles from other end → sort_of end ≡ sorts.Symbol punctuator.RightBrace → (names ≡ other) × (to ≡ end)
named_settled {from} {to} {end} {names} {other} front is stops = go (named_compared front.reads from end other refl is)
  where
    go : Compared is_comma names other to end → (names ≡ other) × (to ≡ end)
    go (same is' at) = (is', at)
    go (further less going) = let most = front.longest other end is in absurd (omega arith)
    go (nearer less going) = absurd (cc (ap is_comma stops))

-- further roles of a scope
roles_absent_go : {version : ℕ} {from end : List Lexeme} {other : List Role} → ((names behind : List Lexeme) (extra : List Role) → version ≡ 2 → from ≡ Name (codes "roles") ∷ Symbol punctuator.LeftBrace ∷ names → NamesRoles names extra behind
    → sort_of behind ≡ sorts.Symbol punctuator.RightBrace → ⊥) → HasExtraRoles version from other end → length from ≤ length end
roles_absent_go none no_roles = omega arith
roles_absent_go {other = other} none (roles {names = names2} {behind = behind2} two begins2 r2 ends2) = absurd (none names2 behind2 other two begins2 r2 (ap sort_of ends2))

roles_front_go : {version : ℕ} {from names behind to end : List Lexeme} {extra other : List Role} → from ≡ Name (codes "roles") ∷ Symbol punctuator.LeftBrace ∷ names → Longest (NamesRoles names) extra behind → behind ≡ Symbol punctuator.RightBrace ∷ to
    → HasExtraRoles version from other end → length to ≤ length end
roles_front_go begins front ends no_roles = let less = named_shorter front.reads in omega (arith, ap length begins, ap length ends)
roles_front_go {names = names} {other = other} begins front ends (roles {names = names2} {behind = behind2} two2 begins2 r2 ends2) =
    let rests : names2 ≡ names = ap (drop 2) (sym begins2 ∙ begins) in
    let both = named_settled front (subst (λ list. NamesRoles list other behind2) rests r2) (ap sort_of ends2) in
    omega (arith, ap length (behind_is both.1 ends ends2))

module _ {version : ℕ} {from : List Lexeme} where
  -- of version 1, or where `roles {` doesn't stand
  pub roles_version : version ≢ 2 → Longest (HasExtraRoles version from) [] from
  roles_version other = record { reads = no_roles; longest = λ extra end is. roles_absent_go (λ names behind extra two begins r ends. other two) is }

  pub roles_missing : ((names : List Lexeme) → from ≡ Name (codes "roles") ∷ Symbol punctuator.LeftBrace ∷ names → ⊥) → Longest (HasExtraRoles version from) [] from
  roles_missing none = record { reads = no_roles; longest = λ extra end is. roles_absent_go (λ names behind extra two begins r ends. none names begins) is }

  -- no name stands behind `roles {`
  pub roles_empty : {names : List Lexeme} → from ≡ Name (codes "roles") ∷ Symbol punctuator.LeftBrace ∷ names → NoFront (NamesRoles names) → Longest (HasExtraRoles version from) [] from
  roles_empty {names} begins none = record {
    reads = no_roles;
    longest = λ extra end is. roles_absent_go (λ names2 behind extra two begins2 r ends. none extra behind (subst (λ list. NamesRoles list extra behind) (ap (drop 2) (sym begins2 ∙ begins)) r)) is;
  }

  -- the longest names behind `roles {` aren't followed by `}`
  pub roles_open : {names behind : List Lexeme} {extra : List Role} → from ≡ Name (codes "roles") ∷ Symbol punctuator.LeftBrace ∷ names → Longest (NamesRoles names) extra behind → sort_of behind ≢ sorts.Symbol punctuator.RightBrace
      → Longest (HasExtraRoles version from) [] from
  roles_open {names} {behind} {extra} begins front unclosed = record {
    reads = no_roles;
    longest = λ extra end is.
        roles_absent_go
        (λ names2 behind2 extra2 two begins2 r ends.
        let both = named_settled front (subst (λ list. NamesRoles list extra2 behind2) (ap (drop 2) (sym begins2 ∙ begins)) r) ends in
        unclosed (ap sort_of both.1 ∙ ends))
        is;
  }

  pub roles_front : {names behind to : List Lexeme} {extra : List Role} → version ≡ 2 → from ≡ Name (codes "roles") ∷ Symbol punctuator.LeftBrace ∷ names → Longest (NamesRoles names) extra behind → behind ≡ Symbol punctuator.RightBrace ∷ to
      → Longest (HasExtraRoles version from) extra to
  roles_front two begins front ends = record { reads = roles two begins front.reads ends; longest = λ other end is. roles_front_go begins front ends is }

-- what begins a property
abbrev pub property_sorts : List Sort
property_sorts = sorts.Reserved word.N ∷ sorts.Symbol punctuator.Dot ∷ sorts.Name ∷ sorts.Symbol punctuator.Equal ∷ []

-- properties that are given
given_last_go : {from given to end : List Lexeme} {key : List ℕ} {value : Value} {other : List (List ℕ × Value)} → from ≡ Reserved word.N ∷ Symbol punctuator.Dot ∷ Name key ∷ Symbol punctuator.Equal ∷ given → constant given ≡ Some (value, to)
    → ((others : List Lexeme) (rest : List (List ℕ × Value)) → to ≡ Symbol punctuator.Comma ∷ others → GivesProperties others rest end → ⊥) → GivesProperties from other end → length to ≤ length end
given_last_go {given = given} begins found none (last_property {given = given2} begins2 found2) =
    let both = constant_same (ap (drop 4) (sym begins ∙ begins2)) found found2 in
    omega (arith, ap length both.1)
given_last_go {given = given} begins found none (more_properties {given = given2} {others = others2} {rest = rest2} begins2 found2 ends2 r2) =
    let both = constant_same (ap (drop 4) (sym begins ∙ begins2)) found found2 in
    absurd (none others2 rest2 (both.1 ∙ ends2) r2)

given_more_go : {from given behind others to end : List Lexeme} {key : List ℕ} {value : Value} {rest other : List (List ℕ × Value)} → from ≡ Reserved word.N ∷ Symbol punctuator.Dot ∷ Name key ∷ Symbol punctuator.Equal ∷ given
    → constant given ≡ Some (value, behind) → behind ≡ Symbol punctuator.Comma ∷ others → Longest (GivesProperties others) rest to → GivesProperties from other end → length to ≤ length end
given_more_go begins found ends front (last_property begins2 found2) =
    let both = constant_same (ap (drop 4) (sym begins ∙ begins2)) found found2 in
    let less = given_shorter front.reads in
    omega (arith, ap length both.1, ap length ends)
given_more_go {end = end} begins found ends front (more_properties {rest = rest2} begins2 found2 ends2 r2) =
    let both = constant_same (ap (drop 4) (sym begins ∙ begins2)) found found2 in
    front.longest rest2 end (subst (λ list. GivesProperties list rest2 end) (behind_is (sym both.1) ends2 ends) r2)

given_none_go : {from end : List Lexeme} {other : List (List ℕ × Value)} → ((key : List ℕ) (given to : List Lexeme) (value : Value) → from ≡ Reserved word.N ∷ Symbol punctuator.Dot ∷ Name key ∷ Symbol punctuator.Equal ∷ given
    → constant given ≡ Some (value, to) → ⊥) → GivesProperties from other end → ⊥
given_none_go {end = end} none (last_property {given = given2} {key = key2} {value = value2} begins2 found2) = none key2 given2 end value2 begins2 found2
given_none_go none (more_properties {given = given2} {behind = behind2} {key = key2} {value = value2} begins2 found2 ends2 r2) = none key2 given2 behind2 value2 begins2 found2

module _ {from : List Lexeme} where
  -- `N . name =` doesn't stand there
  pub given_missing : (Begins property_sorts from → ⊥) → NoFront (GivesProperties from)
  given_missing none other end is =
      given_none_go
      (λ key given to value begins found. none (subst (Begins property_sorts) (sym begins) (refl, (refl, (refl, (refl, tt))))))
      is

  -- no constant stands behind it
  pub given_valueless : {given : List Lexeme} {key : List ℕ} → from ≡ Reserved word.N ∷ Symbol punctuator.Dot ∷ Name key ∷ Symbol punctuator.Equal ∷ given → constant given ≡ None → NoFront (GivesProperties from)
  given_valueless {given} begins missing other end is =
      given_none_go (λ key2 given2 to value begins2 found. let same_given = ap constant (ap (drop 4) (sym begins ∙ begins2)) in cc (sym missing ∙ same_given ∙ found)) is

  module _ {given : List Lexeme} {key : List ℕ} {value : Value} (begins : from ≡ Reserved word.N ∷ Symbol punctuator.Dot ∷ Name key ∷ Symbol punctuator.Equal ∷ given) where
    -- no `,` stands behind the value
    pub given_alone : {to : List Lexeme} → constant given ≡ Some (value, to) → sort_of to ≢ sorts.Symbol punctuator.Comma → Longest (GivesProperties from) ((key, value) ∷ []) to
    given_alone found other = record { reads = last_property begins found; longest = λ props end is. given_last_go begins found (λ others rest comma r. other (ap sort_of comma)) is }

    -- no property stands behind the `,`
    pub given_last : {to others : List Lexeme} → constant given ≡ Some (value, to) → to ≡ Symbol punctuator.Comma ∷ others → NoFront (GivesProperties others) → Longest (GivesProperties from) ((key, value) ∷ []) to
    given_last found comma none = record {
      reads = last_property begins found;
      longest = λ props end is. given_last_go begins found (λ others2 rest comma2 r. none rest end (subst (λ list. GivesProperties list rest end) (behind_is refl comma2 comma) r)) is;
    }

    pub given_more : {behind others to : List Lexeme} {rest : List (List ℕ × Value)} → constant given ≡ Some (value, behind) → behind ≡ Symbol punctuator.Comma ∷ others → Longest (GivesProperties others) rest to
        → Longest (GivesProperties from) ((key, value) ∷ rest) to
    given_more found ends front = record { reads = more_properties begins found ends front.reads; longest = λ props end is. given_more_go begins found ends front is }

given_settled : {from to end : List Lexeme} {props other : List (List ℕ × Value)} → Longest (GivesProperties from) props to → GivesProperties from other end → sort_of end ≡ sorts.Symbol punctuator.RightBrace → (props ≡ other) × (to ≡ end)
given_settled {from} {to} {end} {props} {other} front is stops = go (given_compared front.reads from end other refl is)
  where
    go : Compared is_comma props other to end → (props ≡ other) × (to ≡ end)
    go (same is' at) = (is', at)
    go (further less going) = let most = front.longest other end is in absurd (omega arith)
    go (nearer less going) = absurd (cc (ap is_comma stops))

-- properties of a scope
properties_absent_go : {from end : List Lexeme} {other : List (List ℕ × Value)} → ((inside : List Lexeme) → from ≡ Reserved word.Prop ∷ Symbol punctuator.LeftBrace ∷ inside → sort_of inside ≢ sorts.Symbol punctuator.RightBrace)
    → ((inside behind : List Lexeme) (props : List (List ℕ × Value)) → from ≡ Reserved word.Prop ∷ Symbol punctuator.LeftBrace ∷ inside → GivesProperties inside props behind → sort_of behind ≡ sorts.Symbol punctuator.RightBrace → ⊥)
    → HasProperties from other end → length from ≤ length end
properties_absent_go filled none no_properties = omega arith
properties_absent_go {end = end} filled none (empty_properties begins2) = absurd (filled (Symbol punctuator.RightBrace ∷ end) begins2 refl)
properties_absent_go {other = other} filled none (properties {inside = inside2} {behind = behind2} begins2 r2 ends2) = absurd (none inside2 behind2 other begins2 r2 (ap sort_of ends2))

properties_empty_go : {from to end : List Lexeme} {other : List (List ℕ × Value)} → from ≡ Reserved word.Prop ∷ Symbol punctuator.LeftBrace ∷ Symbol punctuator.RightBrace ∷ to → HasProperties from other end → length to ≤ length end
properties_empty_go begins no_properties = omega (arith, ap length begins)
properties_empty_go begins (empty_properties begins2) = omega (arith, ap length (ap (drop 3) (sym begins ∙ begins2)))
properties_empty_go begins (properties {inside = inside2} begins2 r2 ends2) = absurd (cc (given_begins r2, ap (λ rest. sort_of (drop 2 rest)) (sym begins2 ∙ begins)))

properties_front_go : {from inside behind to end : List Lexeme} {props other : List (List ℕ × Value)} → from ≡ Reserved word.Prop ∷ Symbol punctuator.LeftBrace ∷ inside → Longest (GivesProperties inside) props behind → behind ≡ Symbol punctuator.RightBrace ∷ to
    → HasProperties from other end → length to ≤ length end
properties_front_go begins front ends no_properties = let less = given_shorter front.reads in omega (arith, ap length begins, ap length ends)
properties_front_go {inside = inside} begins front ends (empty_properties begins2) = absurd (cc (given_begins front.reads, ap (λ rest. sort_of (drop 2 rest)) (sym begins ∙ begins2)))
properties_front_go {other = other} begins front ends (properties {inside = inside2} {behind = behind2} begins2 r2 ends2) =
    let both = given_settled front (subst (λ list. GivesProperties list other behind2) (ap (drop 2) (sym begins2 ∙ begins)) r2) (ap sort_of ends2) in
    omega (arith, ap length (behind_is both.1 ends ends2))

module _ {from : List Lexeme} where
  -- `prop {` doesn't stand there
  pub properties_missing : ((inside : List Lexeme) → from ≡ Reserved word.Prop ∷ Symbol punctuator.LeftBrace ∷ inside → ⊥) → Longest (HasProperties from) [] from
  properties_missing none = record {
    reads = no_properties;
    longest = λ other end is. properties_absent_go (λ inside begins closes. none inside begins) (λ inside behind props begins r ends. none inside begins) is;
  }

  pub properties_empty : {to : List Lexeme} → from ≡ Reserved word.Prop ∷ Symbol punctuator.LeftBrace ∷ Symbol punctuator.RightBrace ∷ to → Longest (HasProperties from) [] to
  properties_empty begins = record { reads = empty_properties begins; longest = λ other end is. properties_empty_go begins is }

  module _ {inside : List Lexeme} (begins : from ≡ Reserved word.Prop ∷ Symbol punctuator.LeftBrace ∷ inside) where
    -- neither `}` nor a property stands behind `prop {`
    pub properties_none : sort_of inside ≢ sorts.Symbol punctuator.RightBrace → NoFront (GivesProperties inside) → Longest (HasProperties from) [] from
    properties_none filled none = record {
      reads = no_properties;
      longest = λ other end is.
          properties_absent_go (λ inside2 begins2 closes. filled (ap sort_of (behind2_is begins2) ∙ closes))
          (λ inside2 behind props begins2 r ends. none props behind (subst (λ list. GivesProperties list props behind) (sym (behind2_is begins2)) r)) is;
    }
      where
        behind2_is : {inside2 : List Lexeme} → from ≡ Reserved word.Prop ∷ Symbol punctuator.LeftBrace ∷ inside2 → inside ≡ inside2
        behind2_is begins2 = ap (drop 2) (sym begins ∙ begins2)

    -- the longest properties behind `prop {` aren't followed by `}`
    pub properties_open : {behind : List Lexeme} {props : List (List ℕ × Value)} → Longest (GivesProperties inside) props behind → sort_of behind ≢ sorts.Symbol punctuator.RightBrace → Longest (HasProperties from) [] from
    properties_open {behind} {props} front unclosed = record {
      reads = no_properties;
      longest = λ other end is.
          properties_absent_go (λ inside2 begins2 closes. cc (given_begins front.reads, ap sort_of (behind2_is begins2), closes))
          (λ inside2 behind2 props2 begins2 r ends.
          let both = given_settled front (subst (λ list. GivesProperties list props2 behind2) (sym (behind2_is begins2)) r) ends in
          unclosed (ap sort_of both.1 ∙ ends))
          is;
    }
      where
        behind2_is : {inside2 : List Lexeme} → from ≡ Reserved word.Prop ∷ Symbol punctuator.LeftBrace ∷ inside2 → inside ≡ inside2
        behind2_is begins2 = ap (drop 2) (sym begins ∙ begins2)

    pub properties_front : {behind to : List Lexeme} {props : List (List ℕ × Value)} → Longest (GivesProperties inside) props behind → behind ≡ Symbol punctuator.RightBrace ∷ to → Longest (HasProperties from) props to
    properties_front front ends = record { reads = properties begins front.reads ends; longest = λ other end is. properties_front_go begins front ends is }
