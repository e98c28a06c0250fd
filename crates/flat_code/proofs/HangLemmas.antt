-- What is known of each place of code hangs together with what is known of its parts and of the
-- construct around it.
use Rattle.std.proofs.Common.{◌≡◌, ◌+◌, ◌<◌, ◌≤◌, ℕ, List, true, false, get_or, length, refl, sym, ap, ◌∙◌, subst, ⊎_elim, arith}
use Rattle.std.proofs.lemmas.Bool.{cases_lt}
use Rattle.dioc_terms.specs.Parts.{has_two, first_of, second_of, has_body, body_of}
use Rattle.dioc_terms.specs.Processes.{Process, Seq, Par, IfLead, IfFollow, WhileLead, WhileFollow, ScopeLead, ScopeFollow}
use Rattle.flat_code.specs.declared.levels.Level.{Level}
use Rattle.flat_code.specs.declared.ops.Op.{Op}
use Rattle.flat_code.specs.declared.ops.Op.TheVariants as op
use Rattle.flat_code.specs.Layout.{inner, size, IsLaid}
use Rattle.flat_code.specs.Levels.{AreLevels, HasLevel, IsLevel, PartsHang}
use Rattle.flat_code.specs.Places.{are_placed, at, part_places, processes}
use Rattle.flat_code.proofs.LayoutLemmas.{two_of_each, body_of_each, two_at, body_at, plain_at, two_inner, body_longer, plain_longer}
use Rattle.flat_code.proofs.WayLemmas.{IsLaidOut, first_laid, second_laid, body_laid, whole_laid}
use Rattle.process_steps.specs.Steps.{ended}

-- the construct around a process stands behind it, and behind all where the process is the whole
record IsUnder (levels : List Level) (up b : ℕ) (P : Process) : Type 0 where
  pub before : b + inner P < up
  pub known : up ≤ length levels
  pub whole : up ≡ length levels → b + inner P + 1 ≡ length levels

module _ (ops : List Op) (levels : List Level) (placed : are_placed 0 ops ≡ true) where
  abbrev OwnPartsHang : ℕ → Process → Type 0
  OwnPartsHang b P = PartsHang levels (b + inner P) (part_places (get_or ops (b + inner P) op.Skip))

  two_parts : (up b : ℕ) (P : Process) → has_two P ≡ true → IsLaidOut ops levels up b P → OwnPartsHang b P
  two_parts up b P two h =
      let parts = two_of_each (HasLevel levels) b P two h.levels_are.parts in
      subst (PartsHang levels (b + inner P)) (sym (h.lies.0.1 ∙ two_at b P two)) (record {
        first_not_last = omega (arith, two_inner P two);
        first_parent = ap (λ l. l.parent) parts.0.0.is;
        first_low = ap (λ l. l.low) parts.0.0.is ∙ sym (ap (λ l. l.low) h.levels_are.own.is);
        second_last = omega (arith, two_inner P two);
        second_parent = ap (λ l. l.parent) parts.1.0.is;
        second_low = ap (λ l. l.low) parts.1.0.is ∙ omega arith;
      })

  body_part : (up b : ℕ) (P : Process) → has_body P ≡ true → IsLaidOut ops levels up b P → OwnPartsHang b P
  body_part up b P one h =
      let part = body_of_each (HasLevel levels) b P one h.levels_are.parts in
      subst (PartsHang levels (b + inner P)) (sym (h.lies.0.1 ∙ body_at b P one)) (record {
        last = omega (arith, body_longer b P one);
        parent = ap (λ l. l.parent) part.0.is;
        low = ap (λ l. l.low) part.0.is ∙ sym (ap (λ l. l.low) h.levels_are.own.is);
      })

  own_hangs : (up b : ℕ) (P : Process) → IsLaidOut ops levels up b P → IsUnder levels up b P → OwnPartsHang b P → IsLevel levels ops (b + inner P)
  own_hangs up b P h under parts =
      let parent = ap (λ l. l.parent) h.levels_are.own.is in
      record {
        inside = h.lies.0.0;
        low_is = ap (λ l. l.low + inner (at (processes ops) (b + inner P))) h.levels_are.own.is ∙ ap (λ Q. b + inner Q) h.stands;
        ended_is = ap (λ l. l.ended) h.levels_are.own.is ∙ ap ended (sym h.stands);
        before = subst (λ n. b + inner P < n) (sym parent) under.before;
        known = subst (λ n. n ≤ length levels) (sym parent) under.known;
        whole = λ e. under.whole (sym parent ∙ e);
        parts = parts;
      }

  -- each place of a process hangs together
  abbrev Hangs : Process → Type 0
  Hangs P = (up b : ℕ) → IsLaidOut ops levels up b P → IsUnder levels up b P
      → (place : ℕ) → b ≤ place → place ≤ b + inner P → IsLevel levels ops place

  two_hang : (P : Process) → has_two P ≡ true → Hangs (first_of P) → Hangs (second_of P) → Hangs P
  two_hang P two first second up b h under place low high =
      let longer = two_inner P two in
      let inside = h.levels_are.own.inside in
      ⊎_elim
      (λ below. first (b + inner P) b (first_laid ops levels placed up b P two h) (record {
        before = omega (arith, longer);
        known = omega (arith, inside);
        whole = λ e. absurd (omega (arith, inside, e));
      }) place low (omega (arith, below)))
      (λ behind. ⊎_elim
      (λ below. second (b + inner P) (b + size (first_of P)) (second_laid ops levels placed up b P two h) (record {
        before = omega (arith, longer);
        known = omega (arith, inside);
        whole = λ e. absurd (omega (arith, inside, e));
      }) place behind (omega (arith, below)))
      (λ own. subst (IsLevel levels ops) (omega (arith, own, high, longer)) (own_hangs up b P h under (two_parts up b P two h)))
      (cases_lt place (b + size (first_of P) + size (second_of P))))
      (cases_lt place (b + size (first_of P)))

  body_hangs : (P : Process) → has_body P ≡ true → Hangs (body_of P) → Hangs P
  body_hangs P one body up b h under place low high =
      let longer = body_longer b P one in
      let inside = h.levels_are.own.inside in
      ⊎_elim
      (λ below. body (b + inner P) b (body_laid ops levels placed up b P one h) (record {
        before = omega (arith, longer);
        known = omega (arith, inside);
        whole = λ e. absurd (omega (arith, inside, e));
      }) place low (omega (arith, below)))
      (λ own. subst (IsLevel levels ops) (omega (arith, own, high, longer)) (own_hangs up b P h under (body_part up b P one h)))
      (cases_lt place (b + size (body_of P)))

  none_hangs : (P : Process) → has_two P ≡ false → has_body P ≡ false → Hangs P
  none_hangs P two one up b h under place low high =
      subst (IsLevel levels ops) (omega (arith, low, high, plain_longer b P two one)) (own_hangs up b P h under
      (subst (PartsHang levels (b + inner P)) (sym (h.lies.0.1 ∙ plain_at b P two one)) tt))

  all_hang : (P : Process) → Hangs P
  all_hang (Seq P Q) = two_hang (Seq P Q) refl (all_hang P) (all_hang Q)
  all_hang (Par P Q) = two_hang (Par P Q) refl (all_hang P) (all_hang Q)
  all_hang (IfLead i g others P Q) = two_hang (IfLead i g others P Q) refl (all_hang P) (all_hang Q)
  all_hang (IfFollow i leader P Q) = two_hang (IfFollow i leader P Q) refl (all_hang P) (all_hang Q)
  all_hang (WhileLead i g others P) = body_hangs (WhileLead i g others P) refl (all_hang P)
  all_hang (WhileFollow i leader P) = body_hangs (WhileFollow i leader P) refl (all_hang P)
  all_hang (ScopeLead head others P) = body_hangs (ScopeLead head others P) refl (all_hang P)
  all_hang (ScopeFollow i leader P) = body_hangs (ScopeFollow i leader P) refl (all_hang P)
  all_hang P = none_hangs P refl refl

-- each place of code
pub places_hang : (ops : List Op) (start : ℕ) (levels : List Level) → are_placed 0 ops ≡ true → IsLaid ops start
    → length levels ≡ start + 1 → AreLevels levels (start + 1) 0 (at (processes ops) start)
    → (place : ℕ) → place < length levels → IsLevel levels ops place
places_hang ops start levels placed laid longer are place inside =
    all_hang ops levels placed (at (processes ops) start) (length levels) 0 (whole_laid ops start levels laid longer are) (record {
      before = omega (arith, laid.0, longer);
      known = omega arith;
      whole = λ e. omega (arith, laid.0, longer);
    }) place (omega arith) (omega (arith, laid.0, longer, inside))
