-- What the sorts at a place say of the heads of steps.
use Rattle.std.proofs.Common.{◌≡◌, ℕ, ◌+◌, ◌<◌, ◌≤◌, List, [], ◌∷◌, drop, length, None, refl, sym, ap, ◌∙◌, subst, arith, length-drop, drop-drop}
use Rattle.aioc_tokens.specs.declared.words.Sort.{Sort}
use Rattle.aioc_tokens.specs.declared.words.Sort.TheVariants as sorts
use Rattle.aioc_tokens.specs.declared.words.Word.{Word}
use Rattle.aioc_tokens.specs.declared.words.Word.TheVariants as word
use Rattle.aioc_tokens.specs.declared.words.Punctuator.{Punctuator}
use Rattle.aioc_tokens.specs.declared.words.Punctuator.TheVariants as punctuator
use Rattle.aioc_tokens.specs.Lexemes.{Lexeme, Name, Reserved, Symbol, sort_of, Begins}
use Rattle.aioc_tokens.proofs.Looks.{reserved_first, symbol_first}
use Rattle.aioc_tokens.proofs.Places.{name_at}
use Rattle.dioc_syntax.specs.Readers.{sent_by, received_by, set_by, led_by, HeadAt, LeaderAt}

module _ (text : List Lexeme) where
  -- one lexeme further
  pub further : (place next : ℕ) → place + 1 ≡ next → drop 1 (drop place text) ≡ drop next text
  further place next e = drop-drop 1 place text ∙ ap (λ n. drop n text) e

  -- a list that begins with these sorts begins with the first of them, and behind it with the rest
  pub follows : (first : Sort) (others : List Sort) (place next : ℕ) → place + 1 ≡ next → Begins (first ∷ others) (drop place text) → (sort_of (drop place text) ≡ first) × Begins others (drop next text)
  follows first others place next e h = (h.0, subst (Begins others) (further place next e) h.1)

  pub symbol_here : (sign : Punctuator) (place next : ℕ) → place + 1 ≡ next → sort_of (drop place text) ≡ sorts.Symbol sign → drop place text ≡ Symbol sign ∷ drop next text
  symbol_here sign place next e h = symbol_first (drop place text) sign h ∙ ap (λ others. Symbol sign ∷ others) (further place next e)

  pub reserved_here : (reserved : Word) (place next : ℕ) → place + 1 ≡ next → sort_of (drop place text) ≡ sorts.Reserved reserved → drop place text ≡ Reserved reserved ∷ drop next text
  reserved_here reserved place next e h = reserved_first (drop place text) reserved h ∙ ap (λ others. Reserved reserved ∷ others) (further place next e)

  -- where a symbol stands, the text goes on
  pub within_here : (sign : Punctuator) (place : ℕ) → sort_of (drop place text) ≡ sorts.Symbol sign → place < length text
  within_here sign place h = omega (arith, ap length (symbol_here sign place (place + 1) refl h), length-drop place text)

  name_here : (name : List ℕ) (place here next : ℕ) → here ≡ next → drop place text ≡ Name name ∷ drop here text → drop place text ≡ Name name ∷ drop next text
  name_here name place here next e h = h ∙ ap (λ n. Name name ∷ drop n text) e

  module _ (at : ℕ) where
    -- `o : a (`
    abbrev sender_sorts : List Sort
    sender_sorts = sorts.Name ∷ sorts.Symbol punctuator.Colon ∷ sorts.Name ∷ sorts.Symbol punctuator.LeftParen ∷ []

    pub record SenderSorts : Type 0 where
      pub sender : sort_of (drop (at + 2) text) ≡ sorts.Name
      pub head : (operation sender : List ℕ) → drop at text ≡ Name operation ∷ drop (at + 1) text → drop (at + 2) text ≡ Name sender ∷ drop (at + 2 + 1) text → drop at text ≡ sent_by operation sender (drop (at + 4) text)

    pub sender_is : Begins sender_sorts (drop at text) → SenderSorts
    sender_is h =
        let n0 = follows sorts.Name (drop 1 sender_sorts) at (at + 1) refl h in
        let n1 = follows (sorts.Symbol punctuator.Colon) (drop 2 sender_sorts) (at + 1) (at + 2) (omega arith) n0.1 in
        let n2 = follows sorts.Name (drop 3 sender_sorts) (at + 2) (at + 3) (omega arith) n1.1 in
        let n3 = follows (sorts.Symbol punctuator.LeftParen) (drop 4 sender_sorts) (at + 3) (at + 4) (omega arith) n2.1 in
        record {
          sender = n2.0;
          head = λ operation sender first third.
              first ∙ ap (λ others. Name operation ∷ others) (symbol_here punctuator.Colon (at + 1) (at + 2) (omega arith) n1.0
              ∙ ap (λ others. Symbol punctuator.Colon ∷ others) (name_here sender (at + 2) (at + 2 + 1) (at + 3) (omega arith) third
              ∙ ap (λ others. Name sender ∷ others) (symbol_here punctuator.LeftParen (at + 3) (at + 4) (omega arith) n3.0)));
        }

    pub sender_begins : HeadAt sent_by 4 text at None → Begins sender_sorts (drop at text) → ⊥
    sender_begins none h =
        let sorts = sender_is h in
        let (operation, first) = name_at text at (sym h.0) in
        let (sender, third) = name_at text (at + 2) (sym sorts.sender) in
        none operation sender (drop (at + 4) text) (sorts.head operation sender first third)

    -- `) -> b ( x )`
    abbrev receiver_sorts : List Sort
    receiver_sorts = sorts.Symbol punctuator.RightParen ∷ sorts.Symbol punctuator.Arrow ∷ sorts.Name ∷ sorts.Symbol punctuator.LeftParen ∷ sorts.Name ∷ sorts.Symbol punctuator.RightParen ∷ []

    pub record ReceiverSorts : Type 0 where
      pub receiver : sort_of (drop (at + 2) text) ≡ sorts.Name
      pub variable : sort_of (drop (at + 4) text) ≡ sorts.Name
      pub head : (receiver variable : List ℕ) → drop (at + 2) text ≡ Name receiver ∷ drop (at + 2 + 1) text → drop (at + 4) text ≡ Name variable ∷ drop (at + 4 + 1) text
          → drop at text ≡ received_by receiver variable (drop (at + 6) text)

    pub receiver_is : Begins receiver_sorts (drop at text) → ReceiverSorts
    receiver_is h =
        let n0 = follows (sorts.Symbol punctuator.RightParen) (drop 1 receiver_sorts) at (at + 1) refl h in
        let n1 = follows (sorts.Symbol punctuator.Arrow) (drop 2 receiver_sorts) (at + 1) (at + 2) (omega arith) n0.1 in
        let n2 = follows sorts.Name (drop 3 receiver_sorts) (at + 2) (at + 3) (omega arith) n1.1 in
        let n3 = follows (sorts.Symbol punctuator.LeftParen) (drop 4 receiver_sorts) (at + 3) (at + 4) (omega arith) n2.1 in
        let n4 = follows sorts.Name (drop 5 receiver_sorts) (at + 4) (at + 5) (omega arith) n3.1 in
        let n5 = follows (sorts.Symbol punctuator.RightParen) (drop 6 receiver_sorts) (at + 5) (at + 6) (omega arith) n4.1 in
        record {
          receiver = n2.0;
          variable = n4.0;
          head = λ receiver variable third fifth.
              symbol_here punctuator.RightParen at (at + 1) refl n0.0
              ∙ ap (λ others. Symbol punctuator.RightParen ∷ others) (symbol_here punctuator.Arrow (at + 1) (at + 2) (omega arith) n1.0
              ∙ ap (λ others. Symbol punctuator.Arrow ∷ others) (name_here receiver (at + 2) (at + 2 + 1) (at + 3) (omega arith) third
              ∙ ap (λ others. Name receiver ∷ others) (symbol_here punctuator.LeftParen (at + 3) (at + 4) (omega arith) n3.0
              ∙ ap (λ others. Symbol punctuator.LeftParen ∷ others) (name_here variable (at + 4) (at + 4 + 1) (at + 5) (omega arith) fifth
              ∙ ap (λ others. Name variable ∷ others) (symbol_here punctuator.RightParen (at + 5) (at + 6) (omega arith) n5.0)))));
        }

    pub receiver_begins : HeadAt received_by 6 text at None → Begins receiver_sorts (drop at text) → ⊥
    receiver_begins none h =
        let sorts = receiver_is h in
        let (receiver, third) = name_at text (at + 2) (sym sorts.receiver) in
        let (variable, fifth) = name_at text (at + 4) (sym sorts.variable) in
        none receiver variable (drop (at + 6) text) (sorts.head receiver variable third fifth)

    -- `x @ r =`
    abbrev target_sorts : List Sort
    target_sorts = sorts.Name ∷ sorts.Symbol punctuator.At ∷ sorts.Name ∷ sorts.Symbol punctuator.Equal ∷ []

    pub record TargetSorts : Type 0 where
      pub owner : sort_of (drop (at + 2) text) ≡ sorts.Name
      pub head : (variable owner : List ℕ) → drop at text ≡ Name variable ∷ drop (at + 1) text → drop (at + 2) text ≡ Name owner ∷ drop (at + 2 + 1) text → drop at text ≡ set_by variable owner (drop (at + 4) text)

    pub target_is : Begins target_sorts (drop at text) → TargetSorts
    target_is h =
        let n0 = follows sorts.Name (drop 1 target_sorts) at (at + 1) refl h in
        let n1 = follows (sorts.Symbol punctuator.At) (drop 2 target_sorts) (at + 1) (at + 2) (omega arith) n0.1 in
        let n2 = follows sorts.Name (drop 3 target_sorts) (at + 2) (at + 3) (omega arith) n1.1 in
        let n3 = follows (sorts.Symbol punctuator.Equal) (drop 4 target_sorts) (at + 3) (at + 4) (omega arith) n2.1 in
        record {
          owner = n2.0;
          head = λ variable owner first third.
              first ∙ ap (λ others. Name variable ∷ others) (symbol_here punctuator.At (at + 1) (at + 2) (omega arith) n1.0
              ∙ ap (λ others. Symbol punctuator.At ∷ others) (name_here owner (at + 2) (at + 2 + 1) (at + 3) (omega arith) third
              ∙ ap (λ others. Name owner ∷ others) (symbol_here punctuator.Equal (at + 3) (at + 4) (omega arith) n3.0)));
        }

    pub target_begins : HeadAt set_by 4 text at None → Begins target_sorts (drop at text) → ⊥
    target_begins none h =
        let sorts = target_is h in
        let (variable, first) = name_at text at (sym h.0) in
        let (owner, third) = name_at text (at + 2) (sym sorts.owner) in
        none variable owner (drop (at + 4) text) (sorts.head variable owner first third)

    -- `@ r`
    abbrev leader_sorts : List Sort
    leader_sorts = sorts.Symbol punctuator.At ∷ sorts.Name ∷ []

    pub leader_sort : Begins leader_sorts (drop at text) → sort_of (drop (at + 1) text) ≡ sorts.Name
    leader_sort h = (follows sorts.Name [] (at + 1) (at + 2) (omega arith) (follows (sorts.Symbol punctuator.At) (drop 1 leader_sorts) at (at + 1) refl h).1).0

    pub leader_is : (leader : List ℕ) → Begins leader_sorts (drop at text) → drop (at + 1) text ≡ Name leader ∷ drop (at + 1 + 1) text → drop at text ≡ led_by leader (drop (at + 2) text)
    leader_is leader h second = symbol_here punctuator.At at (at + 1) refl h.0 ∙ ap (λ others. Symbol punctuator.At ∷ others) (name_here leader (at + 1) (at + 1 + 1) (at + 2) (omega arith) second)

    -- `N . k =`
    abbrev pair_sorts : List Sort
    pair_sorts = sorts.Reserved word.N ∷ sorts.Symbol punctuator.Dot ∷ sorts.Name ∷ sorts.Symbol punctuator.Equal ∷ []

    pub record PairSorts : Type 0 where
      pub key : sort_of (drop (at + 2) text) ≡ sorts.Name
      pub head : (key : List ℕ) → drop (at + 2) text ≡ Name key ∷ drop (at + 2 + 1) text → drop at text ≡ Reserved word.N ∷ Symbol punctuator.Dot ∷ Name key ∷ Symbol punctuator.Equal ∷ drop (at + 4) text

    pub pair_is : Begins pair_sorts (drop at text) → PairSorts
    pair_is h =
        let n0 = follows (sorts.Reserved word.N) (drop 1 pair_sorts) at (at + 1) refl h in
        let n1 = follows (sorts.Symbol punctuator.Dot) (drop 2 pair_sorts) (at + 1) (at + 2) (omega arith) n0.1 in
        let n2 = follows sorts.Name (drop 3 pair_sorts) (at + 2) (at + 3) (omega arith) n1.1 in
        let n3 = follows (sorts.Symbol punctuator.Equal) (drop 4 pair_sorts) (at + 3) (at + 4) (omega arith) n2.1 in
        record {
          key = n2.0;
          head = λ key third.
              reserved_here word.N at (at + 1) refl n0.0
              ∙ ap (λ others. Reserved word.N ∷ others) (symbol_here punctuator.Dot (at + 1) (at + 2) (omega arith) n1.0
              ∙ ap (λ others. Symbol punctuator.Dot ∷ others) (name_here key (at + 2) (at + 2 + 1) (at + 3) (omega arith) third
              ∙ ap (λ others. Name key ∷ others) (symbol_here punctuator.Equal (at + 3) (at + 4) (omega arith) n3.0)));
        }

    pub leader_begins : LeaderAt text at None → Begins leader_sorts (drop at text) → ⊥
    leader_begins none h = let (leader, second) = name_at text (at + 1) (sym (leader_sort h)) in none leader (drop (at + 2) text) (leader_is leader h second)

    -- a head lies in the text
    pub sent_within : (one two : List ℕ) → drop at text ≡ sent_by one two (drop (at + 4) text) → at + 4 ≤ length text
    sent_within one two is = omega (arith, ap length is, length-drop at text)

    pub received_within : (one two : List ℕ) → drop at text ≡ received_by one two (drop (at + 6) text) → at + 6 ≤ length text
    received_within one two is = omega (arith, ap length is, length-drop at text)

    pub set_within : (one two : List ℕ) → drop at text ≡ set_by one two (drop (at + 4) text) → at + 4 ≤ length text
    set_within one two is = omega (arith, ap length is, length-drop at text)

    pub led_within : (leader : List ℕ) → drop at text ≡ led_by leader (drop (at + 2) text) → at + 2 ≤ length text
    led_within leader is = omega (arith, ap length is, length-drop at text)
