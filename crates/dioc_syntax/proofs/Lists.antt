-- The longest lists of names and of properties, one item after another.
use Rattle.std.proofs.Common.{◌≡◌, ◌≢◌, ℕ, suc, ◌+◌, ◌<◌, ◌≤◌, List, [], ◌∷◌, ◌++◌, drop, length, codes, Some, refl, sym, ap, ◌∙◌, subst, arith, length-drop}
use Rattle.std.proofs.Math.Nat.{lt_of_not-le}
use Rattle.dioc_terms.specs.declared.names.Role.{Role}
use Rattle.dioc_terms.specs.declared.values.Value.{Value}
use Rattle.aioc_tokens.specs.declared.words.Sort.TheVariants as sorts
use Rattle.aioc_tokens.specs.declared.words.Word.TheVariants as word
use Rattle.aioc_tokens.specs.declared.words.Punctuator.TheVariants as punctuator
use Rattle.aioc_tokens.specs.Lexemes.{Lexeme, Name, Reserved, Symbol, sort_of, Begins}
use Rattle.aioc_tokens.specs.Fronts.{Longest, NoFront}
use Rattle.expr_syntax.specs.Constants.{constant}
use Rattle.dioc_syntax.specs.Choreographies.{role, NamesRoles, last_role, more_roles, HasExtraRoles, GivesProperties, last_property, more_properties, HasProperties}
use Rattle.dioc_syntax.proofs.Shorter.{named_shorter, given_shorter}
use Rattle.dioc_syntax.specs.Readers.{IsPair, NamesAt, RolesAt, PairsAt, PropertiesAt}
use Rattle.dioc_syntax.proofs.Compare.{behind_is, constant_same}
use Rattle.dioc_syntax.proofs.HeadSorts.{further, follows, symbol_here, reserved_here}
use Rattle.dioc_syntax.proofs.ScopeFronts.{roles_version, roles_missing, roles_empty, roles_open, roles_front, properties_missing, properties_empty, properties_none, properties_open, properties_front}

not_less : (a b : ℕ) → (b < a → ⊥) → a ≤ b
not_less a b h = let less = lt_of_not-le {n = suc b} {m = a} h in omega arith

-- a name more
pub named_another : {from middle to : List Lexeme} {names : List Role} {name : List ℕ} → NamesRoles from names middle → middle ≡ Symbol punctuator.Comma ∷ Name name ∷ to → NamesRoles from (names ++ role name ∷ []) to
named_another {from} {middle} {to} {names} {name} (last_role {name = first} begins) comma =
    more_roles (begins ∙ ap (λ others. Name first ∷ others) comma) (last_role refl)
named_another (more_roles begins r) comma = more_roles begins (named_another r comma)

-- names that are read further than these have a `,` and a name behind them
pub named_on : {from to end : List Lexeme} {names other : List Role} → NamesRoles from names to → NamesRoles from other end → length end < length to → Begins (sorts.Symbol punctuator.Comma ∷ sorts.Name ∷ []) to
named_on (last_role begins) (last_role begins2) less = absurd (omega (arith, ap length (behind_is refl begins begins2)))
named_on (last_role begins) (more_roles begins2 r2) less = go (behind_is refl begins begins2) r2
  where
    go : {to others end : List Lexeme} {rest : List Role} → to ≡ Symbol punctuator.Comma ∷ others → NamesRoles others rest end → Begins (sorts.Symbol punctuator.Comma ∷ sorts.Name ∷ []) to
    go comma (last_role begins3) = (ap sort_of comma, (ap (λ rest. sort_of (drop 1 rest)) comma ∙ ap sort_of begins3, tt))
    go comma (more_roles begins3 r3) = (ap sort_of comma, (ap (λ rest. sort_of (drop 1 rest)) comma ∙ ap sort_of begins3, tt))
named_on (more_roles begins r) (last_role begins2) less = let short = named_shorter r in absurd (omega (arith, ap length (behind_is refl begins2 begins)))
named_on {end = end} (more_roles begins r) (more_roles {rest = rest2} begins2 r2) less = named_on r (subst (λ list. NamesRoles list rest2 end) (ap (drop 2) (sym begins2 ∙ begins)) r2) less

-- the names so far are the longest where neither stands there
pub named_ended : {from to : List Lexeme} {names : List Role} → NamesRoles from names to → (Begins (sorts.Symbol punctuator.Comma ∷ sorts.Name ∷ []) to → ⊥) → Longest (NamesRoles from) names to
named_ended {from} {to} {names} named none = record { reads = named; longest = λ other end is. not_less (length to) (length end) (λ less. none (named_on named is less)) }

-- a property more
pub given_another : {from middle given to : List Lexeme} {props : List (List ℕ × Value)} {key : List ℕ} {value : Value} → GivesProperties from props middle
    → middle ≡ Symbol punctuator.Comma ∷ Reserved word.N ∷ Symbol punctuator.Dot ∷ Name key ∷ Symbol punctuator.Equal ∷ given → constant given ≡ Some (value, to) → GivesProperties from (props ++ (key, value) ∷ []) to
given_another (last_property begins found) comma found2 = more_properties begins found comma (last_property refl found2)
given_another (more_properties begins found ends r) comma found2 = more_properties begins found ends (given_another r comma found2)

-- what is read further than these has a `,` and properties behind them
pub record GoesOn (to end : List Lexeme) : Type 0 where
  pub others : List Lexeme
  pub rest : List (List ℕ × Value)
  pub comma : to ≡ Symbol punctuator.Comma ∷ others
  pub given : GivesProperties others rest end

pub given_on : {from to end : List Lexeme} {props other : List (List ℕ × Value)} → GivesProperties from props to → GivesProperties from other end → length end < length to → GoesOn to end
given_on (last_property begins found) (last_property begins2 found2) less = absurd (omega (arith, ap length (constant_same (ap (drop 4) (sym begins ∙ begins2)) found found2).1))
given_on {to = to} {end = end} (last_property begins found) (more_properties {others = others2} {rest = rest2} begins2 found2 ends2 r2) less =
    record { others = others2; rest = rest2; comma = (constant_same (ap (drop 4) (sym begins ∙ begins2)) found found2).1 ∙ ends2; given = r2 }
given_on (more_properties begins found ends r) (last_property begins2 found2) less =
    let short = given_shorter r in
    absurd (omega (arith, ap length ends, ap length (constant_same (ap (drop 4) (sym begins ∙ begins2)) found found2).1))
given_on {end = end} (more_properties begins found ends r) (more_properties {rest = rest2} begins2 found2 ends2 r2) less =
    given_on r (subst (λ list. GivesProperties list rest2 end) (behind_is (sym (constant_same (ap (drop 4) (sym begins ∙ begins2)) found found2).1) ends2 ends) r2) less

-- the properties so far are the longest where none stands behind a `,`
pub given_ended : {from to : List Lexeme} {props : List (List ℕ × Value)} → GivesProperties from props to → ((others end : List Lexeme) (rest : List (List ℕ × Value)) → to ≡ Symbol punctuator.Comma ∷ others → GivesProperties others rest end → ⊥)
    → Longest (GivesProperties from) props to
given_ended {from} {to} {props} given none = record {
  reads = given;
  longest = λ other end is. not_less (length to) (length end) (λ less. let more = given_on given is less in none more.others end more.rest more.comma more.given);
}

-- the names from a place up to another
pub record NamesUpTo (text : List Lexeme) (at : ℕ) (names : List Role) (next : ℕ) : Type 0 where
  pub named : NamesRoles (drop at text) names (drop next text)
  pub after : at < next
  pub within : next ≤ length text

-- the properties from a place up to another
pub record PropertiesUpTo (text : List Lexeme) (at : ℕ) (props : List (List ℕ × Value)) (next : ℕ) : Type 0 where
  pub given : GivesProperties (drop at text) props (drop next text)
  pub after : at < next
  pub within : next ≤ length text

module _ (text : List Lexeme) (at : ℕ) where
  pub names_begin : (name : List ℕ) → drop at text ≡ Name name ∷ drop (at + 1) text → NamesUpTo text at (role name ∷ []) (at + 1)
  names_begin name begins = record { named = last_role begins; after = omega arith; within = omega (arith, ap length begins, length-drop at text) }

  pub names_go_on : (names : List Role) (name : List ℕ) (next : ℕ) → NamesUpTo text at names next → Begins (sorts.Symbol punctuator.Comma ∷ sorts.Name ∷ []) (drop next text) → drop (next + 1) text ≡ Name name ∷ drop (next + 1 + 1) text
      → NamesUpTo text at (names ++ role name ∷ []) (next + 2)
  names_go_on names name next so_far sorts_are second =
      let comma : drop next text ≡ Symbol punctuator.Comma ∷ Name name ∷ drop (next + 2) text =
      symbol_here text punctuator.Comma next (next + 1) refl sorts_are.0 ∙ ap (λ others. Symbol punctuator.Comma ∷ others) (second ∙ ap (λ n. Name name ∷ drop n text) (omega arith)) in
      let after = so_far.after in
      record { named = named_another so_far.named comma; after = omega arith; within = omega (arith, ap length comma, length-drop next text) }

  pub properties_begin : (pair : List ℕ × Value) (next : ℕ) → IsPair text at pair next → PropertiesUpTo text at (pair ∷ []) next
  properties_begin pair next is = record { given = last_property is.head is.value; after = is.after; within = is.within }

  pub properties_go_on : (props : List (List ℕ × Value)) (pair : List ℕ × Value) (next behind : ℕ) → PropertiesUpTo text at props next → sort_of (drop next text) ≡ sorts.Symbol punctuator.Comma → IsPair text (next + 1) pair behind
      → PropertiesUpTo text at (props ++ pair ∷ []) behind
  properties_go_on props pair next behind so_far sort is =
      let before = so_far.after in
      let after = is.after in
      record { given = given_another so_far.given (symbol_here text punctuator.Comma next (next + 1) refl sort ∙ ap (λ others. Symbol punctuator.Comma ∷ others) is.head) is.value; after = omega arith; within = is.within }

-- what a scope may have behind its body
module _ (version : ℕ) (text : List Lexeme) (at : ℕ) where
  roles_none : (read : List Role × ℕ) → Longest (HasExtraRoles version (drop at text)) [] (drop at text) → at ≤ length text → read.0 ≡ [] → read.1 ≡ at → RolesAt version text at read
  roles_none read front inside none place = (rw (none, place) front, omega arith, omega arith)

  -- what follows the first lexeme
  behind_first : (first : Lexeme) (others : List Lexeme) → drop at text ≡ first ∷ others → drop (at + 1) text ≡ others
  behind_first first others begins = sym (further text at (at + 1) refl) ∙ ap (drop 1) begins

  roles_begin : drop at text ≡ Name (codes "roles") ∷ drop (at + 1) text → sort_of (drop (at + 1) text) ≡ sorts.Symbol punctuator.LeftBrace → drop at text ≡ Name (codes "roles") ∷ Symbol punctuator.LeftBrace ∷ drop (at + 2) text
  roles_begin named opens = named ∙ ap (λ others. Name (codes "roles") ∷ others) (symbol_here text punctuator.LeftBrace (at + 1) (at + 2) (omega arith) opens)

  pub roles_of_version : (read : List Role × ℕ) → version ≢ 2 → at ≤ length text → read.0 ≡ [] → read.1 ≡ at → RolesAt version text at read
  roles_of_version read other inside none place = roles_none read (roles_version other) inside none place

  pub roles_unnamed : (read : List Role × ℕ) → (drop at text ≡ Name (codes "roles") ∷ drop (at + 1) text → ⊥) → at ≤ length text → read.0 ≡ [] → read.1 ≡ at → RolesAt version text at read
  roles_unnamed read unnamed inside none place =
      roles_none read (roles_missing (λ names begins. unnamed (begins ∙ ap (λ others. Name (codes "roles") ∷ others) (sym (behind_first (Name (codes "roles")) (Symbol punctuator.LeftBrace ∷ names) begins))))) inside none place

  pub roles_unopened : (read : List Role × ℕ) → sort_of (drop (at + 1) text) ≢ sorts.Symbol punctuator.LeftBrace → at ≤ length text → read.0 ≡ [] → read.1 ≡ at → RolesAt version text at read
  roles_unopened read unopened inside none place =
      roles_none read (roles_missing (λ names begins. unopened (ap sort_of (behind_first (Name (codes "roles")) (Symbol punctuator.LeftBrace ∷ names) begins)))) inside none place

  pub roles_unread : (read : List Role × ℕ) → drop at text ≡ Name (codes "roles") ∷ drop (at + 1) text → sort_of (drop (at + 1) text) ≡ sorts.Symbol punctuator.LeftBrace → NoFront (NamesRoles (drop (at + 2) text)) → at ≤ length text
      → read.0 ≡ [] → read.1 ≡ at → RolesAt version text at read
  roles_unread read named opens unread inside none place = roles_none read (roles_empty (roles_begin named opens) unread) inside none place

  pub roles_unclosed : (read names : List Role × ℕ) → drop at text ≡ Name (codes "roles") ∷ drop (at + 1) text → sort_of (drop (at + 1) text) ≡ sorts.Symbol punctuator.LeftBrace → NamesAt text (at + 2) (Some names)
      → sort_of (drop names.1 text) ≢ sorts.Symbol punctuator.RightBrace → at ≤ length text → read.0 ≡ [] → read.1 ≡ at → RolesAt version text at read
  roles_unclosed read names named opens front unclosed inside none place = roles_none read (roles_open (roles_begin named opens) front.0 unclosed) inside none place

  pub roles_found : (names : List Role × ℕ) → version ≡ 2 → drop at text ≡ Name (codes "roles") ∷ drop (at + 1) text → sort_of (drop (at + 1) text) ≡ sorts.Symbol punctuator.LeftBrace → NamesAt text (at + 2) (Some names)
      → sort_of (drop names.1 text) ≡ sorts.Symbol punctuator.RightBrace → RolesAt version text at (names.0, names.1 + 1)
  roles_found names two named opens front closes =
      let ends = symbol_here text punctuator.RightBrace names.1 (names.1 + 1) refl closes in
      let after = front.1 in
      (roles_front two (roles_begin named opens) front.0 ends, omega arith, omega (arith, ap length ends, length-drop names.1 text))

module _ (text : List Lexeme) (at : ℕ) where
  properties_empty_at : (read : List (List ℕ × Value) × ℕ) → Longest (HasProperties (drop at text)) [] (drop at text) → at ≤ length text → read.0 ≡ [] → read.1 ≡ at → PropertiesAt text at read
  properties_empty_at read front inside none place = (rw (none, place) front, omega arith, omega arith)

  pub properties_begin_at : Begins (sorts.Reserved word.Prop ∷ sorts.Symbol punctuator.LeftBrace ∷ []) (drop at text) → drop at text ≡ Reserved word.Prop ∷ Symbol punctuator.LeftBrace ∷ drop (at + 2) text
  properties_begin_at sorts_are =
      let second = (follows text (sorts.Reserved word.Prop) (sorts.Symbol punctuator.LeftBrace ∷ []) at (at + 1) refl sorts_are).1 in
      reserved_here text word.Prop at (at + 1) refl sorts_are.0 ∙ ap (λ others. Reserved word.Prop ∷ others) (symbol_here text punctuator.LeftBrace (at + 1) (at + 2) (omega arith) second.0)

  pub properties_inside : Begins (sorts.Reserved word.Prop ∷ sorts.Symbol punctuator.LeftBrace ∷ []) (drop at text) → at + 2 ≤ length text
  properties_inside sorts_are = omega (arith, ap length (properties_begin_at sorts_are), length-drop at text)

  pub properties_absent : (read : List (List ℕ × Value) × ℕ) → (Begins (sorts.Reserved word.Prop ∷ sorts.Symbol punctuator.LeftBrace ∷ []) (drop at text) → ⊥) → at ≤ length text → read.0 ≡ [] → read.1 ≡ at → PropertiesAt text at read
  properties_absent read absent inside none place =
      properties_empty_at read (properties_missing (λ names begins. absent (ap sort_of begins, (ap (λ rest. sort_of (drop 1 rest)) begins, tt)))) inside none place

  pub properties_closed : (read : List (List ℕ × Value) × ℕ) → Begins (sorts.Reserved word.Prop ∷ sorts.Symbol punctuator.LeftBrace ∷ []) (drop at text) → sort_of (drop (at + 2) text) ≡ sorts.Symbol punctuator.RightBrace → read.0 ≡ []
      → read.1 ≡ at + 3 → PropertiesAt text at read
  properties_closed read sorts_are closes none place =
      let ends : drop (at + 2) text ≡ Symbol punctuator.RightBrace ∷ drop (at + 3) text = symbol_here text punctuator.RightBrace (at + 2) (at + 3) (omega arith) closes in
      let inside = properties_inside sorts_are in (
        rw (none, place) (properties_empty (properties_begin_at sorts_are ∙ ap (λ others. Reserved word.Prop ∷ Symbol punctuator.LeftBrace ∷ others) ends)),
        omega arith,
        omega (arith, ap length ends, length-drop (at + 2) text),
      )

  pub properties_unread : (read : List (List ℕ × Value) × ℕ) → Begins (sorts.Reserved word.Prop ∷ sorts.Symbol punctuator.LeftBrace ∷ []) (drop at text) → sort_of (drop (at + 2) text) ≢ sorts.Symbol punctuator.RightBrace
      → NoFront (GivesProperties (drop (at + 2) text)) → at ≤ length text → read.0 ≡ [] → read.1 ≡ at → PropertiesAt text at read
  properties_unread read sorts_are filled unread inside none place = properties_empty_at read (properties_none (properties_begin_at sorts_are) filled unread) inside none place

  pub properties_unclosed : (read props : List (List ℕ × Value) × ℕ) → Begins (sorts.Reserved word.Prop ∷ sorts.Symbol punctuator.LeftBrace ∷ []) (drop at text) → PairsAt text (at + 2) (Some props)
      → sort_of (drop props.1 text) ≢ sorts.Symbol punctuator.RightBrace → at ≤ length text → read.0 ≡ [] → read.1 ≡ at → PropertiesAt text at read
  properties_unclosed read props sorts_are front unclosed inside none place = properties_empty_at read (properties_open (properties_begin_at sorts_are) front.0 unclosed) inside none place

  pub properties_found : (props : List (List ℕ × Value) × ℕ) → Begins (sorts.Reserved word.Prop ∷ sorts.Symbol punctuator.LeftBrace ∷ []) (drop at text) → PairsAt text (at + 2) (Some props)
      → sort_of (drop props.1 text) ≡ sorts.Symbol punctuator.RightBrace → PropertiesAt text at (props.0, props.1 + 1)
  properties_found props sorts_are front closes =
      let ends = symbol_here text punctuator.RightBrace props.1 (props.1 + 1) refl closes in
      let after = front.1 in
      (properties_front (properties_begin_at sorts_are) front.0 ends, omega arith, omega (arith, ap length ends, length-drop props.1 text))
