-- What the readers of choreographies find, by what they find of the parts.
use Rattle.std.proofs.Common.{◌≡◌, ◌≢◌, ℕ, suc, ◌+◌, ◌-◌, ◌<◌, ◌≤◌, List, drop, length, max, Some, None, refl, sym, ap, ◌∙◌, subst, arith, length-drop}
use Rattle.dioc_terms.specs.declared.names.Role.{Role}
use Rattle.dioc_terms.specs.declared.expressions.Expr.{Expr}
use Rattle.dioc_terms.specs.Expressions.{expression}
use Rattle.dioc_terms.specs.Terms.{Skip, Seq, Par, If, While, Scope, term, constructs, depth, index_at}
use Rattle.aioc_tokens.specs.declared.words.Sort.TheVariants as sorts
use Rattle.aioc_tokens.specs.declared.words.Word.TheVariants as word
use Rattle.aioc_tokens.specs.declared.words.Punctuator.TheVariants as punctuator
use Rattle.aioc_tokens.specs.Lexemes.{Lexeme, sort_of}
use Rattle.aioc_tokens.specs.Fronts.{Longest, NoFront}
use Rattle.expr_syntax.specs.Grammar.{ExpressionAt}
use Rattle.expr_syntax.specs.declared.levels.ExprKind.TheVariants as kind
use Rattle.dioc_syntax.specs.declared.found.FoundChoreo.{FoundChoreo}
use Rattle.dioc_syntax.specs.declared.found.ScopeParts.{ScopeParts}
use Rattle.dioc_syntax.specs.declared.guards.Guard.{Guard}
use Rattle.dioc_syntax.specs.Choreographies.{Choreography, Sequence, Step, Block, Otherwise, IsShallow}
use Rattle.dioc_syntax.specs.Readers.{led_by, LeaderAt, IsGuard, NoGuard, no_expression, no_leader, ScopePartsAt, Finds, one_behind}
use Rattle.dioc_syntax.proofs.Fronts.{no_punctuator, no_depth, no_second, choreography_alone, choreography_beside, sequence_alone, sequence_last, sequence_turn, block_front, block_none, block_room, block_open, else_missing, else_open, else_front}
use Rattle.dioc_syntax.proofs.StepFronts.{skip_front, choice_front, choice_guard, choice_head, choice_body, loop_front, loop_guard, loop_head, loop_body, scope_front, scope_head, scope_body, group_front, group_none, group_room, group_open}
use Rattle.dioc_syntax.proofs.HeadSorts.{symbol_here, reserved_here, within_here, leader_begins}

-- guards
module _ (room : ℕ) (text : List Lexeme) (at : ℕ) where
  pub guard_found : (guard : Expr × ℕ) (leader : Role) → ExpressionAt kind.Step room text at (Some guard) → LeaderAt text guard.1 (Some leader) → IsGuard room text at (record { expr = guard.0; leader = leader; at = guard.1 + 2 })
  guard_found guard leader read led = record { head = drop guard.1 text; front = read.front; leads = led.0; after = (let after = read.after in omega arith); within = led.1 }

module _ (version room deep earlier : ℕ) (text : List Lexeme) (at : ℕ) where
  -- sequences side by side
  pub bar_missing : (first : FoundChoreo) → Finds (IsShallow version Sequence room deep earlier) 1 deep earlier text at first → sort_of (drop first.at text) ≢ sorts.Symbol punctuator.Bar
      → Finds (IsShallow version Choreography room deep earlier) 1 deep earlier text at first
  bar_missing first one other = record { front = choreography_alone one.front (no_punctuator other); depth = one.depth; shallow = one.shallow; next = one.next; few = one.few; after = one.after; within = one.within }

  pub bar_deep : (first : FoundChoreo) → Finds (IsShallow version Sequence room deep earlier) 1 deep earlier text at first → first.depth ≡ deep → Finds (IsShallow version Choreography room deep earlier) 1 deep earlier text at first
  bar_deep first one full = record { front = choreography_alone one.front (no_depth (sym one.depth ∙ full)); depth = one.depth; shallow = one.shallow; next = one.next; few = one.few; after = one.after; within = one.within }

  pub bar_open : (first : FoundChoreo) → Finds (IsShallow version Sequence room deep earlier) 1 deep earlier text at first → sort_of (drop first.at text) ≡ sorts.Symbol punctuator.Bar
      → NoFront (IsShallow version Choreography room (deep - 1) first.next (drop (first.at + 1) text)) → Finds (IsShallow version Choreography room deep earlier) 1 deep earlier text at first
  bar_open first one sort none = record {
    front = choreography_alone one.front (no_second (drop (first.at + 1) text) (symbol_here text punctuator.Bar first.at (first.at + 1) refl sort) (subst (λ n. NoFront (IsShallow version Choreography room (deep - 1) n (drop (first.at + 1) text))) one.next none));
    depth = one.depth;
    shallow = one.shallow;
    next = one.next;
    few = one.few;
    after = one.after;
    within = one.within;
  }

  pub bar_found : (first second both : FoundChoreo) → Finds (IsShallow version Sequence room deep earlier) 1 deep earlier text at first → sort_of (drop first.at text) ≡ sorts.Symbol punctuator.Bar → first.depth ≢ deep
      → Finds (IsShallow version Choreography room (deep - 1) first.next) 1 (deep - 1) first.next text (first.at + 1) second → term both.choreo.value ≡ Par (term first.choreo.value) (term second.choreo.value)
      → both.depth ≡ suc (max first.depth second.depth) → both.at ≡ second.at → both.next ≡ second.next → Finds (IsShallow version Choreography room deep earlier) 1 deep earlier text at both
  bar_found first second both one sort deeper two joins deep_is at_is next_is =
      let depth1 = one.depth in
      let depth2 = two.depth in
      let shallow1 = one.shallow in
      let shallow2 = two.shallow in
      let few1 = one.few in
      let few2 = two.few in
      let after1 = one.after in
      let after2 = two.after in
      let next1 = one.next in
      let next2 = two.next in
      record {
        front = rw (joins, at_is) (choreography_beside one.front (symbol_here text punctuator.Bar first.at (first.at + 1) refl sort) (omega arith)
            (subst (λ n. Longest (IsShallow version Choreography room (deep - 1) n (drop (first.at + 1) text)) (term second.choreo.value) (drop second.at text)) one.next two.front));
        depth = deep_is ∙ omega arith ∙ sym (ap depth joins);
        shallow = omega arith;
        next = next_is ∙ omega arith ∙ sym (ap (λ t. earlier + constructs t) joins);
        few = omega arith;
        after = omega arith;
        within = (let within = two.within in omega arith);
      }

  -- steps one after another
  pub semicolon_missing : (first : FoundChoreo) → Finds (IsShallow version Step room deep earlier) 1 deep earlier text at first → sort_of (drop first.at text) ≢ sorts.Symbol punctuator.Semicolon
      → Finds (IsShallow version Sequence room deep earlier) 1 deep earlier text at first
  semicolon_missing first one other = record { front = sequence_alone one.front other; depth = one.depth; shallow = one.shallow; next = one.next; few = one.few; after = one.after; within = one.within }

  pub semicolon_deep : (first : FoundChoreo) → Finds (IsShallow version Step room deep earlier) 1 deep earlier text at first → sort_of (drop first.at text) ≡ sorts.Symbol punctuator.Semicolon → first.depth ≡ deep
      → Finds (IsShallow version Sequence room deep earlier) 1 deep earlier text at (one_behind first)
  semicolon_deep first one sort full =
      let inside = within_here text punctuator.Semicolon first.at sort in
      let few1 = one.few in
      let after1 = one.after in
      record {
        front = sequence_last one.front (symbol_here text punctuator.Semicolon first.at (first.at + 1) refl sort) (no_depth (sym one.depth ∙ full));
        depth = one.depth;
        shallow = one.shallow;
        next = one.next;
        few = omega arith;
        after = omega arith;
        within = omega arith;
      }

  pub semicolon_open : (first : FoundChoreo) → Finds (IsShallow version Step room deep earlier) 1 deep earlier text at first → sort_of (drop first.at text) ≡ sorts.Symbol punctuator.Semicolon
      → NoFront (IsShallow version Sequence room (deep - 1) first.next (drop (first.at + 1) text))
      → Finds (IsShallow version Sequence room deep earlier) 1 deep earlier text at (one_behind first)
  semicolon_open first one sort none =
      let inside = within_here text punctuator.Semicolon first.at sort in
      let few1 = one.few in
      let after1 = one.after in
      let ends = symbol_here text punctuator.Semicolon first.at (first.at + 1) refl sort in
      record {
        front = sequence_last one.front ends (no_second (drop (first.at + 1) text) ends (subst (λ n. NoFront (IsShallow version Sequence room (deep - 1) n (drop (first.at + 1) text))) one.next none));
        depth = one.depth;
        shallow = one.shallow;
        next = one.next;
        few = omega arith;
        after = omega arith;
        within = omega arith;
      }

  pub semicolon_found : (first second both : FoundChoreo) → Finds (IsShallow version Step room deep earlier) 1 deep earlier text at first → sort_of (drop first.at text) ≡ sorts.Symbol punctuator.Semicolon → first.depth ≢ deep
      → Finds (IsShallow version Sequence room (deep - 1) first.next) 1 (deep - 1) first.next text (first.at + 1) second → term both.choreo.value ≡ Seq (term first.choreo.value) (term second.choreo.value)
      → both.depth ≡ suc (max first.depth second.depth) → both.at ≡ second.at → both.next ≡ second.next → Finds (IsShallow version Sequence room deep earlier) 1 deep earlier text at both
  semicolon_found first second both one sort deeper two joins deep_is at_is next_is =
      let depth1 = one.depth in
      let depth2 = two.depth in
      let shallow1 = one.shallow in
      let shallow2 = two.shallow in
      let few1 = one.few in
      let few2 = two.few in
      let after1 = one.after in
      let after2 = two.after in
      let next1 = one.next in
      let next2 = two.next in
      record {
        front = rw (joins, at_is) (sequence_turn one.front (symbol_here text punctuator.Semicolon first.at (first.at + 1) refl sort) (omega arith)
            (subst (λ n. Longest (IsShallow version Sequence room (deep - 1) n (drop (first.at + 1) text)) (term second.choreo.value) (drop second.at text)) one.next two.front));
        depth = deep_is ∙ omega arith ∙ sym (ap depth joins);
        shallow = omega arith;
        next = next_is ∙ omega arith ∙ sym (ap (λ t. earlier + constructs t) joins);
        few = omega arith;
        after = omega arith;
        within = (let within = two.within in omega arith);
      }

module _ (version room deep earlier : ℕ) (text : List Lexeme) (at : ℕ) where
  -- groups
  pub group_found : (inner : FoundChoreo) → 0 < room → sort_of (drop at text) ≡ sorts.Symbol punctuator.LeftParen → Finds (IsShallow version Choreography (room - 1) deep earlier) 1 deep earlier text (at + 1) inner
      → sort_of (drop inner.at text) ≡ sorts.Symbol punctuator.RightParen → Finds (IsShallow version Step room deep earlier) 1 deep earlier text at (one_behind inner)
  group_found inner some opens one closes =
      let inside = within_here text punctuator.RightParen inner.at closes in
      let few1 = one.few in
      let after1 = one.after in
      record {
        front = group_front (symbol_here text punctuator.LeftParen at (at + 1) refl opens) some one.front (symbol_here text punctuator.RightParen inner.at (inner.at + 1) refl closes);
        depth = one.depth;
        shallow = one.shallow;
        next = one.next;
        few = omega arith;
        after = omega arith;
        within = omega arith;
      }

  pub group_missing : sort_of (drop at text) ≡ sorts.Symbol punctuator.LeftParen → NoFront (IsShallow version Choreography (room - 1) deep earlier (drop (at + 1) text)) → NoFront (IsShallow version Step room deep earlier (drop at text))
  group_missing opens none = group_none (symbol_here text punctuator.LeftParen at (at + 1) refl opens) none

  pub group_unclosed : (inner : FoundChoreo) → sort_of (drop at text) ≡ sorts.Symbol punctuator.LeftParen → Finds (IsShallow version Choreography (room - 1) deep earlier) 1 deep earlier text (at + 1) inner
      → sort_of (drop inner.at text) ≢ sorts.Symbol punctuator.RightParen → NoFront (IsShallow version Step room deep earlier (drop at text))
  group_unclosed inner opens one unclosed = group_open (symbol_here text punctuator.LeftParen at (at + 1) refl opens) one.front unclosed

  pub group_roomless : sort_of (drop at text) ≡ sorts.Symbol punctuator.LeftParen → room ≡ 0 → NoFront (IsShallow version Step room deep earlier (drop at text))
  group_roomless opens full = group_room (symbol_here text punctuator.LeftParen at (at + 1) refl opens) full

  -- blocks
  pub block_found : (inner : FoundChoreo) → 0 < room → sort_of (drop at text) ≡ sorts.Symbol punctuator.LeftBrace → Finds (IsShallow version Choreography (room - 1) deep earlier) 1 deep earlier text (at + 1) inner
      → sort_of (drop inner.at text) ≡ sorts.Symbol punctuator.RightBrace → Finds (IsShallow version Block room deep earlier) 1 deep earlier text at (one_behind inner)
  block_found inner some opens one closes =
      let inside = within_here text punctuator.RightBrace inner.at closes in
      let few1 = one.few in
      let after1 = one.after in
      record {
        front = block_front some (symbol_here text punctuator.LeftBrace at (at + 1) refl opens) one.front (symbol_here text punctuator.RightBrace inner.at (inner.at + 1) refl closes);
        depth = one.depth;
        shallow = one.shallow;
        next = one.next;
        few = omega arith;
        after = omega arith;
        within = omega arith;
      }

  pub block_missing : sort_of (drop at text) ≡ sorts.Symbol punctuator.LeftBrace → NoFront (IsShallow version Choreography (room - 1) deep earlier (drop (at + 1) text)) → NoFront (IsShallow version Block room deep earlier (drop at text))
  block_missing opens none = block_none (drop (at + 1) text) (symbol_here text punctuator.LeftBrace at (at + 1) refl opens) none

  pub block_unclosed : (inner : FoundChoreo) → sort_of (drop at text) ≡ sorts.Symbol punctuator.LeftBrace → Finds (IsShallow version Choreography (room - 1) deep earlier) 1 deep earlier text (at + 1) inner
      → sort_of (drop inner.at text) ≢ sorts.Symbol punctuator.RightBrace → NoFront (IsShallow version Block room deep earlier (drop at text))
  block_unclosed inner opens one unclosed = block_open (symbol_here text punctuator.LeftBrace at (at + 1) refl opens) one.front unclosed

  pub block_roomless : sort_of (drop at text) ≡ sorts.Symbol punctuator.LeftBrace → room ≡ 0 → NoFront (IsShallow version Block room deep earlier (drop at text))
  block_roomless opens full = block_room (drop (at + 1) text) full (symbol_here text punctuator.LeftBrace at (at + 1) refl opens)

  -- second branches
  pub else_absent : (found : FoundChoreo) → 0 < deep → at ≤ length text → Longest (IsShallow version Otherwise room deep earlier (drop at text)) Skip (drop at text)
      → term found.choreo.value ≡ Skip → found.depth ≡ 1 → found.at ≡ at → found.next ≡ earlier → Finds (IsShallow version Otherwise room deep earlier) 0 deep earlier text at found
  else_absent found some inside front skips deep_is at_is next_is = record {
    front = rw (skips, at_is) front;
    depth = deep_is ∙ sym (ap depth skips);
    shallow = omega arith;
    next = next_is ∙ omega arith ∙ sym (ap (λ t. earlier + constructs t) skips);
    few = omega arith;
    after = omega arith;
    within = omega arith;
  }

  pub else_missing_at : 0 < deep → sort_of (drop at text) ≢ sorts.Reserved word.Else → Longest (IsShallow version Otherwise room deep earlier (drop at text)) Skip (drop at text)
  else_missing_at some other = else_missing some other

  pub else_open_at : 0 < deep → sort_of (drop at text) ≡ sorts.Reserved word.Else → NoFront (IsShallow version Block room deep earlier (drop (at + 1) text)) → Longest (IsShallow version Otherwise room deep earlier (drop at text)) Skip (drop at text)
  else_open_at some sort none = else_open some (reserved_here text word.Else at (at + 1) refl sort) none

  pub else_found : (second : FoundChoreo) → sort_of (drop at text) ≡ sorts.Reserved word.Else → Finds (IsShallow version Block room deep earlier) 1 deep earlier text (at + 1) second
      → Finds (IsShallow version Otherwise room deep earlier) 0 deep earlier text at second
  else_found second sort one =
      let few1 = one.few in
      let after1 = one.after in
      record { front = else_front (reserved_here text word.Else at (at + 1) refl sort) one.front; depth = one.depth; shallow = one.shallow; next = one.next; few = omega arith; after = omega arith; within = one.within }

  -- steps that begin with a word
  pub skip_found : (found : FoundChoreo) → 0 < deep → sort_of (drop at text) ≡ sorts.Reserved word.Skip → term found.choreo.value ≡ Skip → found.depth ≡ 1 → found.at ≡ at + 1 → found.next ≡ earlier
      → Finds (IsShallow version Step room deep earlier) 1 deep earlier text at found
  skip_found found some sort skips deep_is at_is next_is =
      let begins = reserved_here text word.Skip at (at + 1) refl sort in
      record {
        front = rw (skips, at_is) (skip_front some begins);
        depth = deep_is ∙ sym (ap depth skips);
        shallow = omega arith;
        next = next_is ∙ omega arith ∙ sym (ap (λ t. earlier + constructs t) skips);
        few = omega arith;
        after = omega arith;
        within = omega (arith, ap length begins, length-drop at text);
      }

  pub choice_found : (guard : Guard) (first second whole : FoundChoreo) → 0 < deep → sort_of (drop at text) ≡ sorts.Reserved word.If → IsGuard room text (at + 1) guard
      → Finds (IsShallow version Block room (deep - 1) (earlier + 1)) 1 (deep - 1) (earlier + 1) text guard.at first
      → Finds (IsShallow version Otherwise room (deep - 1) first.next) 0 (deep - 1) first.next text first.at second
      → term whole.choreo.value ≡ If (index_at earlier) guard.leader (expression guard.expr) (term first.choreo.value) (term second.choreo.value) → whole.depth ≡ suc (max first.depth second.depth) → whole.at ≡ second.at → whole.next ≡ second.next
      → Finds (IsShallow version Step room deep earlier) 1 deep earlier text at whole
  choice_found guard first second whole some sort guards one two joins deep_is at_is next_is =
      let depth1 = one.depth in
      let depth2 = two.depth in
      let shallow1 = one.shallow in
      let shallow2 = two.shallow in
      let few1 = one.few in
      let few2 = two.few in
      let after0 = guards.after in
      let after1 = one.after in
      let after2 = two.after in
      let next1 = one.next in
      let next2 = two.next in
      record {
        front = rw (joins, at_is) (choice_front (reserved_here text word.If at (at + 1) refl sort) guards.front guards.leads
            (subst (λ n. Longest (IsShallow version Block room (deep - 1) n (drop guard.at text)) (term first.choreo.value) (drop first.at text)) (omega arith) one.front)
            (subst (λ n. Longest (IsShallow version Otherwise room (deep - 1) n (drop first.at text)) (term second.choreo.value) (drop second.at text)) (omega arith) two.front));
        depth = deep_is ∙ omega arith ∙ sym (ap depth joins);
        shallow = omega arith;
        next = next_is ∙ omega arith ∙ sym (ap (λ t. earlier + constructs t) joins);
        few = omega arith;
        after = omega arith;
        within = (let within = two.within in omega arith);
      }

  pub choice_unguarded : sort_of (drop at text) ≡ sorts.Reserved word.If → NoGuard room text (at + 1) → NoFront (IsShallow version Step room deep earlier (drop at text))
  choice_unguarded sort (no_expression none) = choice_guard (reserved_here text word.If at (at + 1) refl sort) none
  choice_unguarded sort (no_leader {head = head} front none) = choice_head (reserved_here text word.If at (at + 1) refl sort) front (leader_begins head 0 none)

  pub choice_missing : (guard : Guard) → sort_of (drop at text) ≡ sorts.Reserved word.If → IsGuard room text (at + 1) guard → NoFront (IsShallow version Block room (deep - 1) (earlier + 1) (drop guard.at text))
      → NoFront (IsShallow version Step room deep earlier (drop at text))
  choice_missing guard sort guards none =
      choice_body (reserved_here text word.If at (at + 1) refl sort) guards.front guards.leads (subst (λ n. NoFront (IsShallow version Block room (deep - 1) n (drop guard.at text))) (omega arith) none)

  pub loop_found : (guard : Guard) (inner whole : FoundChoreo) → 0 < deep → sort_of (drop at text) ≡ sorts.Reserved word.While → IsGuard room text (at + 1) guard
      → Finds (IsShallow version Block room (deep - 1) (earlier + 1)) 1 (deep - 1) (earlier + 1) text guard.at inner → term whole.choreo.value ≡ While (index_at earlier) guard.leader (expression guard.expr) (term inner.choreo.value)
      → whole.depth ≡ suc inner.depth → whole.at ≡ inner.at → whole.next ≡ inner.next → Finds (IsShallow version Step room deep earlier) 1 deep earlier text at whole
  loop_found guard inner whole some sort guards one joins deep_is at_is next_is =
      let depth1 = one.depth in
      let shallow1 = one.shallow in
      let few1 = one.few in
      let after0 = guards.after in
      let after1 = one.after in
      let next1 = one.next in
      record {
        front = rw (joins, at_is) (loop_front (reserved_here text word.While at (at + 1) refl sort) guards.front guards.leads
            (subst (λ n. Longest (IsShallow version Block room (deep - 1) n (drop guard.at text)) (term inner.choreo.value) (drop inner.at text)) (omega arith) one.front));
        depth = deep_is ∙ omega arith ∙ sym (ap depth joins);
        shallow = omega arith;
        next = next_is ∙ omega arith ∙ sym (ap (λ t. earlier + constructs t) joins);
        few = omega arith;
        after = omega arith;
        within = (let within = one.within in omega arith);
      }

  pub loop_unguarded : sort_of (drop at text) ≡ sorts.Reserved word.While → NoGuard room text (at + 1) → NoFront (IsShallow version Step room deep earlier (drop at text))
  loop_unguarded sort (no_expression none) = loop_guard (reserved_here text word.While at (at + 1) refl sort) none
  loop_unguarded sort (no_leader {head = head} front none) = loop_head (reserved_here text word.While at (at + 1) refl sort) front (leader_begins head 0 none)

  pub loop_missing : (guard : Guard) → sort_of (drop at text) ≡ sorts.Reserved word.While → IsGuard room text (at + 1) guard → NoFront (IsShallow version Block room (deep - 1) (earlier + 1) (drop guard.at text))
      → NoFront (IsShallow version Step room deep earlier (drop at text))
  loop_missing guard sort guards none =
      loop_body (reserved_here text word.While at (at + 1) refl sort) guards.front guards.leads (subst (λ n. NoFront (IsShallow version Block room (deep - 1) n (drop guard.at text))) (omega arith) none)

  -- where the leader stands behind `scope`
  led : (leader : Role) → LeaderAt text (at + 1) (Some leader) → drop (at + 1) text ≡ led_by leader.0 (drop (at + 3) text)
  led leader is = is.0 ∙ ap (λ n. led_by leader.0 (drop n text)) (omega arith)

  pub scope_found : (leader : Role) (inner whole : FoundChoreo) (parts : ScopeParts) → 0 < deep → sort_of (drop at text) ≡ sorts.Reserved word.Scope → LeaderAt text (at + 1) (Some leader)
      → Finds (IsShallow version Block room (deep - 1) (earlier + 1)) 1 (deep - 1) (earlier + 1) text (at + 3) inner → ScopePartsAt version text inner.at parts → parts.leader ≡ leader
      → term whole.choreo.value ≡ Scope (index_at earlier) parts.leader (term inner.choreo.value) parts.extra parts.props 0 → whole.depth ≡ suc inner.depth → whole.at ≡ parts.at → whole.next ≡ inner.next
      → Finds (IsShallow version Step room deep earlier) 1 deep earlier text at whole
  scope_found leader inner whole parts some sort led_is one tail leader_is joins deep_is at_is next_is =
      let depth1 = one.depth in
      let shallow1 = one.shallow in
      let few1 = one.few in
      let after1 = one.after in
      let after2 = tail.after in
      let next1 = one.next in
      let leads = led leader led_is in
      let whole_is : term whole.choreo.value ≡ Scope (index_at earlier) leader (term inner.choreo.value) parts.extra parts.props 0 = joins ∙ ap (λ who. Scope (index_at earlier) who (term inner.choreo.value) parts.extra parts.props 0) leader_is in
      record {
        front = rw (whole_is, at_is) (scope_front (reserved_here text word.Scope at (at + 1) refl sort) leads
            (subst (λ n. Longest (IsShallow version Block room (deep - 1) n (drop (at + 3) text)) (term inner.choreo.value) (drop inner.at text)) (omega arith) one.front) tail.roles tail.props);
        depth = deep_is ∙ omega arith ∙ sym (ap depth whole_is);
        shallow = omega arith;
        next = next_is ∙ omega arith ∙ sym (ap (λ t. earlier + constructs t) whole_is);
        few = omega arith;
        after = omega arith;
        within = (let within = tail.within in omega arith);
      }

  pub scope_unled : sort_of (drop at text) ≡ sorts.Reserved word.Scope → LeaderAt text (at + 1) None → NoFront (IsShallow version Step room deep earlier (drop at text))
  scope_unled sort none = scope_head (reserved_here text word.Scope at (at + 1) refl sort) (leader_begins text (at + 1) none)

  pub scope_missing : (leader : Role) → sort_of (drop at text) ≡ sorts.Reserved word.Scope → LeaderAt text (at + 1) (Some leader)
      → NoFront (IsShallow version Block room (deep - 1) (earlier + 1) (drop (at + 3) text)) → NoFront (IsShallow version Step room deep earlier (drop at text))
  scope_missing leader sort led_is none = scope_body (reserved_here text word.Scope at (at + 1) refl sort) (led leader led_is) (subst (λ n. NoFront (IsShallow version Block room (deep - 1) n (drop (at + 3) text))) (omega arith) none)
