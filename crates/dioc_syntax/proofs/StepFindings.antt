-- What the readers of steps with no step inside find.
use Rattle.std.proofs.Common.{◌≡◌, ◌≢◌, ℕ, ◌+◌, ◌-◌, ◌<◌, ◌≤◌, List, [], ◌∷◌, drop, length, Option, Some, None, Box, Global, refl, sym, ap, subst, ◌∙◌, arith, length-drop}
use Rattle.dioc_terms.specs.declared.expressions.Expr.{Expr}
use Rattle.dioc_terms.specs.declared.choreographies.Choreo.{Choreo}
use Rattle.dioc_terms.specs.declared.choreographies.Choreo as choreo
use Rattle.dioc_terms.specs.Terms.{term, constructs, depth, index_at}
use Rattle.aioc_tokens.specs.declared.words.Sort.TheVariants as sorts
use Rattle.aioc_tokens.specs.declared.words.Word.TheVariants as word
use Rattle.aioc_tokens.specs.declared.words.Punctuator.TheVariants as punctuator
use Rattle.aioc_tokens.specs.Lexemes.{Lexeme, Name, Reserved, Symbol, sort_of, Begins}
use Rattle.aioc_tokens.specs.Fronts.{Longest}
use Rattle.expr_syntax.specs.Grammar.{ExpressionAt}
use Rattle.expr_syntax.specs.declared.levels.ExprKind.TheVariants as kind
use Rattle.dioc_syntax.specs.declared.found.FoundChoreo.{FoundChoreo}
use Rattle.dioc_syntax.specs.Choreographies.{role, Step, IsShallow}
use Rattle.dioc_syntax.specs.Readers.{sent_by, received_by, set_by, HeadAt, Finds, FormAt}
use Rattle.dioc_syntax.proofs.HeadSorts.{symbol_here, reserved_here, follows, sender_begins, receiver_begins, target_begins}
use Rattle.dioc_syntax.proofs.StepFronts.{interaction_front, interaction_none, interaction_open, input_front, input_room, input_open, assignment_front, assignment_none, name_none}

-- A step without a step inside is read whatever the version, wherever it may be 1 deep.
abbrev pub LeafFoundAt : ℕ → ℕ → List Lexeme → ℕ → Option FoundChoreo → Type 0
LeafFoundAt room earlier text at found = (version deep : ℕ) → 0 < deep → FormAt version Step room deep earlier text at found

module _ (room earlier : ℕ) (text : List Lexeme) (at : ℕ) where
  -- a step in a box
  leaf_finds : {version deep : ℕ} (box : Box Choreo Global) (whole : Choreo) → box.value ≡ whole → (next : ℕ) → 0 < deep → Longest (IsShallow version Step room deep earlier (drop at text)) (term whole) (drop next text) → depth (term whole) ≡ 1
      → constructs (term whole) ≡ 1 → at < next → next ≤ length text → Finds (IsShallow version Step room deep earlier) 1 deep earlier text at (record { choreo = box; depth = 1; at = next; next = earlier + 1 })
  leaf_finds {version} {deep} box whole is next some front one counted after within = record {
    front = subst (λ whole. Longest (IsShallow version Step room deep earlier (drop at text)) (term whole) (drop next text)) (sym is) front;
    depth = sym one ∙ ap (λ whole. depth (term whole)) (sym is);
    shallow = omega arith;
    next = ap (λ n. earlier + n) (sym counted ∙ ap (λ whole. constructs (term whole)) (sym is));
    few = omega arith;
    after = omega arith;
    within = within;
  }

  -- interactions
  module _ (operation sender : List ℕ) (head : drop at text ≡ sent_by operation sender (drop (at + 4) text)) where
    pub interaction_found : (names : List ℕ × List ℕ) (sent : Expr × ℕ) → (box : Box Choreo Global) → box.value ≡ choreo.Com (index_at earlier) operation (role sender) sent.0 (role names.0) names.1 → room ≢ 0 → ExpressionAt kind.Step (room - 1) text (at + 4) (Some sent) → HeadAt received_by 6 text sent.1 (Some names)
        → LeafFoundAt room earlier text at (Some (record { choreo = box; depth = 1; at = sent.1 + 6; next = earlier + 1 }))
    interaction_found names sent box is roomy read tail version deep some =
        let after = read.after in
        leaf_finds box (choreo.Com (index_at earlier) operation (role sender) sent.0 (role names.0) names.1) is (sent.1 + 6) some (interaction_front head some (omega arith) read.front tail.0) refl refl (omega arith) tail.1

    pub interaction_missing : ExpressionAt kind.Step (room - 1) text (at + 4) None → LeafFoundAt room earlier text at None
    interaction_missing none version deep some = interaction_none head none

    pub interaction_unreceived : (sent : Expr × ℕ) → ExpressionAt kind.Step (room - 1) text (at + 4) (Some sent) → HeadAt received_by 6 text sent.1 None → LeafFoundAt room earlier text at None
    interaction_unreceived sent read none version deep some = interaction_open head read.front (receiver_begins text sent.1 none)

  -- inputs and assignments
  module _ (variable owner : List ℕ) (head : drop at text ≡ set_by variable owner (drop (at + 4) text)) where
    input_begins : sort_of (drop (at + 4) text) ≡ sorts.Reserved word.Input → drop at text ≡ Name variable ∷ Symbol punctuator.At ∷ Name owner ∷ Symbol punctuator.Equal ∷ Reserved word.Input ∷ drop (at + 5) text
    input_begins sort = head ∙ ap (λ others. Name variable ∷ Symbol punctuator.At ∷ Name owner ∷ Symbol punctuator.Equal ∷ others) (reserved_here text word.Input (at + 4) (at + 5) (omega arith) sort)

    pub input_found : (box : Box Choreo Global) → box.value ≡ choreo.Input (index_at earlier) variable (role owner) → room ≢ 0 → sort_of (drop (at + 4) text) ≡ sorts.Reserved word.Input → Begins (sorts.Symbol punctuator.LeftParen ∷ sorts.Symbol punctuator.RightParen ∷ []) (drop (at + 5) text)
        → LeafFoundAt room earlier text at (Some (record { choreo = box; depth = 1; at = at + 7; next = earlier + 1 }))
    input_found box is roomy sort brackets version deep some =
        let second = (follows text (sorts.Symbol punctuator.LeftParen) (sorts.Symbol punctuator.RightParen ∷ []) (at + 5) (at + 6) (omega arith) brackets).1 in
        let closes : drop (at + 5) text ≡ Symbol punctuator.LeftParen ∷ Symbol punctuator.RightParen ∷ drop (at + 7) text =
        symbol_here text punctuator.LeftParen (at + 5) (at + 6) (omega arith) brackets.0 ∙ ap (λ others. Symbol punctuator.LeftParen ∷ others) (symbol_here text punctuator.RightParen (at + 6) (at + 7) (omega arith) second.0) in
        leaf_finds box (choreo.Input (index_at earlier) variable (role owner)) is (at + 7) some (input_front (input_begins sort) some (omega arith) closes) refl refl (omega arith)
        (omega (arith, ap length closes, length-drop (at + 5) text))

    pub input_roomless : room ≡ 0 → sort_of (drop (at + 4) text) ≡ sorts.Reserved word.Input → LeafFoundAt room earlier text at None
    input_roomless full sort version deep some = input_room (input_begins sort) full

    pub input_missing : sort_of (drop (at + 4) text) ≡ sorts.Reserved word.Input → (Begins (sorts.Symbol punctuator.LeftParen ∷ sorts.Symbol punctuator.RightParen ∷ []) (drop (at + 5) text) → ⊥) → LeafFoundAt room earlier text at None
    input_missing sort none version deep some = input_open (input_begins sort) none

    pub assignment_found : (expr : Expr) (next : ℕ) → (box : Box Choreo Global) → box.value ≡ choreo.Set (index_at earlier) variable (role owner) expr → sort_of (drop (at + 4) text) ≢ sorts.Reserved word.Input → ExpressionAt kind.Step room text (at + 4) (Some (expr, next))
        → LeafFoundAt room earlier text at (Some (record { choreo = box; depth = 1; at = next; next = earlier + 1 }))
    assignment_found expr next box is other read version deep some =
        let after = read.after in
        leaf_finds box (choreo.Set (index_at earlier) variable (role owner) expr) is next some (assignment_front head some other read.front) refl refl (omega arith) read.within

    pub assignment_missing : sort_of (drop (at + 4) text) ≢ sorts.Reserved word.Input → ExpressionAt kind.Step room text (at + 4) None → LeafFoundAt room earlier text at None
    assignment_missing other none version deep some = assignment_none head other none

  pub name_missing : sort_of (drop at text) ≡ sorts.Name → HeadAt sent_by 4 text at None → HeadAt set_by 4 text at None → LeafFoundAt room earlier text at None
  name_missing sort no_message no_target version deep some = name_none sort (sender_begins text at no_message) (target_begins text at no_target)
