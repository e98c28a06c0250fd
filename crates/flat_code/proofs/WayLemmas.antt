-- Code and its levels say the way from each part to the top.
use Rattle.std.proofs.Common.{◌≡◌, ◌+◌, ◌<◌, ℕ, List, [], ◌∷◌, true, false, Some, None, get_or, length, refl, sym, ap, ◌∙◌, subst, arith}
use Rattle.std.specs.Prelude.{nat_lt}
use Rattle.std.proofs.lemmas.Bool.{cond-true, cond-false}
use Rattle.std.proofs.lemmas.Bool.Decides.{nat_tests}
use Rattle.std.proofs.lemmas.List.{get_or_default}
use Rattle.dioc_terms.specs.Parts.{has_two, first_of, second_of, has_body, body_of}
use Rattle.dioc_terms.specs.Processes.{Process, Seq, Par, IfLead, IfFollow, WhileLead, WhileFollow, ScopeLead, ScopeFollow}
use Rattle.flat_code.specs.declared.levels.Level.{Level}
use Rattle.flat_code.specs.declared.ops.Op.{Op}
use Rattle.flat_code.specs.declared.ops.Op.TheVariants as op
use Rattle.flat_code.specs.Layout.{HasOp, IsLaid, Lies}
use Rattle.flat_code.specs.Levels.{AreLevels, AreLevelsAdded, HasLevel, layout_of, parent_at}
use Rattle.flat_code.specs.Places.{are_placed, at, op_process, processes}
use Rattle.flat_code.proofs.LayoutLemmas.{two_of_each, body_of_each, two_at, body_at}
use Rattle.flat_code.proofs.LevelLemmas.{op_of_two, op_of_body}
use Rattle.flat_code.proofs.PlaceLemmas.{stands_at}
use Rattle.role_statuses.specs.Flat.{inner, size, left_size, PathAt}
use Rattle.role_statuses.specs.Local.{PathLays}
use Rattle.role_statuses.specs.PlaceLaws.{IsCodeOf}
use Rattle.role_statuses.specs.Paths.{Hole, InFirst, InSecond, InLeft, InRight, InLeadBranch, InFollowBranch, InLeadTurn, InFollowTurn, InLeadScope, InFollowScope, static_of, top_static}

parent_known : (n up : ℕ) → up < n → parent_at n up ≡ Some up
parent_known n up h = cond-true (nat_lt up n) _ _ (below up n h)
  where
    below : (k m : ℕ) → k < m → nat_lt k m ≡ true
    below k m h = grind (arith, nat_tests)

parent_none : (n : ℕ) → parent_at n n ≡ None
parent_none n = cond-false (nat_lt n n) _ _ (self n)
  where
    self : (m : ℕ) → nat_lt m m ≡ false
    self m = grind (arith, nat_tests)

-- a process has the places from this one on
pub record IsLaidOut (ops : List Op) (levels : List Level) (up b : ℕ) (P : Process) : Type 0 where
  pub lies : Lies ops b P
  pub levels_are : AreLevels levels up b P
  pub stands : at (processes ops) (b + inner P) ≡ P

module _ (ops : List Op) (levels : List Level) (placed : are_placed 0 ops ≡ true) where
  -- the op of a process
  op_stands : (up b : ℕ) (P : Process) → IsLaidOut ops levels up b P → op_process (processes ops) (get_or ops (b + inner P) op.Skip) ≡ P
  op_stands up b P h =
      let o : Op = get_or ops (b + inner P) op.Skip in
      sym (stands_at ops (b + inner P) o placed h.lies.0.0 (get_or_default ops (b + inner P) op.Skip o h.lies.0.0)).0 ∙ h.stands

  pub first_laid : (up b : ℕ) (P : Process) → has_two P ≡ true → IsLaidOut ops levels up b P → IsLaidOut ops levels (b + inner P) b (first_of P)
  first_laid up b P two h =
      let parts = two_of_each (λ up. HasOp ops) b P two h.lies.1 in
      let own = two_of_each (HasLevel levels) b P two h.levels_are.parts in
      let of = op_of_two (processes ops) (get_or ops (b + inner P) op.Skip) (b + inner (first_of P)) (b + size (first_of P) + inner (second_of P))
      (h.lies.0.1 ∙ two_at b P two) in
      record {
        lies = parts.0;
        levels_are = record { own = own.0.0; parts = own.0.1 };
        stands = sym of.first ∙ ap first_of (op_stands up b P h);
      }

  pub second_laid : (up b : ℕ) (P : Process) → has_two P ≡ true → IsLaidOut ops levels up b P
      → IsLaidOut ops levels (b + inner P) (b + size (first_of P)) (second_of P)
  second_laid up b P two h =
      let parts = two_of_each (λ up. HasOp ops) b P two h.lies.1 in
      let own = two_of_each (HasLevel levels) b P two h.levels_are.parts in
      let of = op_of_two (processes ops) (get_or ops (b + inner P) op.Skip) (b + inner (first_of P)) (b + size (first_of P) + inner (second_of P))
      (h.lies.0.1 ∙ two_at b P two) in
      record {
        lies = parts.1;
        levels_are = record { own = own.1.0; parts = own.1.1 };
        stands = sym of.second ∙ ap second_of (op_stands up b P h);
      }

  pub body_laid : (up b : ℕ) (P : Process) → has_body P ≡ true → IsLaidOut ops levels up b P → IsLaidOut ops levels (b + inner P) b (body_of P)
  body_laid up b P one h =
      let part = body_of_each (λ up. HasOp ops) b P one h.lies.1 in
      let own = body_of_each (HasLevel levels) b P one h.levels_are.parts in
      let of = op_of_body (processes ops) (get_or ops (b + inner P) op.Skip) (b + inner (body_of P)) (h.lies.0.1 ∙ body_at b P one) in
      record {
        lies = part;
        levels_are = record { own = own.0; parts = own.1 };
        stands = sym of.body ∙ ap body_of (op_stands up b P h);
      }

  at_base : (up b c : ℕ) (P : Process) → c ≡ b → IsLaidOut ops levels up c P → IsLaidOut ops levels up b P
  at_base up b c P e = subst (λ d. IsLaidOut ops levels up d P) e

  -- the part in a hole
  hole_laid : (up b c : ℕ) (h : Hole) (P : Process) → b ≡ c + left_size h → IsLaidOut ops levels up c (static_of h P)
      → IsLaidOut ops levels (c + inner (static_of h P)) b P
  hole_laid up b c (InFirst Q) P e s = at_base _ b c P (omega arith) (first_laid up c (Seq P Q) refl s)
  hole_laid up b c (InSecond R) P e s = at_base _ b (c + size R) P (sym e) (second_laid up c (Seq R P) refl s)
  hole_laid up b c (InLeft y Q) P e s = at_base _ b c P (omega arith) (first_laid up c (Par P Q) refl s)
  hole_laid up b c (InRight y R) P e s = at_base _ b (c + size R) P (sym e) (second_laid up c (Par R P) refl s)
  hole_laid up b c (InLeadBranch true i g others Q) P e s = at_base _ b c P (omega arith) (first_laid up c (IfLead i g others P Q) refl s)
  hole_laid up b c (InLeadBranch false i g others Q) P e s = at_base _ b (c + size Q) P (sym e) (second_laid up c (IfLead i g others Q P) refl s)
  hole_laid up b c (InFollowBranch true i leader Q) P e s = at_base _ b c P (omega arith) (first_laid up c (IfFollow i leader P Q) refl s)
  hole_laid up b c (InFollowBranch false i leader Q) P e s = at_base _ b (c + size Q) P (sym e) (second_laid up c (IfFollow i leader Q P) refl s)
  hole_laid up b c (InLeadTurn i g others) P e s = at_base _ b c P (omega arith) (body_laid up c (WhileLead i g others P) refl s)
  hole_laid up b c (InFollowTurn i leader) P e s = at_base _ b c P (omega arith) (body_laid up c (WhileFollow i leader P) refl s)
  hole_laid up b c (InLeadScope head others) P e s = at_base _ b c P (omega arith) (body_laid up c (ScopeLead head others P) refl s)
  hole_laid up b c (InFollowScope i leader) P e s = at_base _ b c P (omega arith) (body_laid up c (ScopeFollow i leader P) refl s)

  -- a part, and its way to the top
  record HasWay (b : ℕ) (hs : List Hole) (P : Process) : Type 0 where
    pub up : ℕ
    pub is : IsLaidOut ops levels up b P
    pub way : PathLays (layout_of ops levels) b hs P

  has_way : (W : Process) (hs : List Hole) (P : Process) (b : ℕ) → IsLaidOut ops levels (length levels) 0 W → PathAt 0 b hs P → top_static hs P ≡ W → HasWay b hs P
  has_way W [] P b laid path e = at_top b (subst (λ Q. IsLaidOut ops levels (length levels) 0 Q) (sym e) laid) path
    where
      at_top : (b : ℕ) → IsLaidOut ops levels (length levels) 0 P → b ≡ 0 → HasWay b [] P
      at_top b h e =
          let own : IsLaidOut ops levels (length levels) b P = at_base (length levels) b 0 P (sym e) h in record {
            up = length levels;
            is = own;
            way = ap (λ l. parent_at (length levels) l.parent) own.levels_are.own.is ∙ parent_none (length levels);
          }
  has_way W (h ∷ hs) P b laid path e =
      let c : ℕ = path.0 in
      let S : Process = static_of h P in
      let above : HasWay c hs S = has_way W hs S c laid path.2 e in
      let own : IsLaidOut ops levels (c + inner S) b P = hole_laid above.up b c h P path.1 above.is in record {
        up = c + inner S;
        is = own;
        way = (
          c,
          path.1,
          ap (λ l. parent_at (length levels) l.parent) own.levels_are.own.is ∙ parent_known (length levels) (c + inner S) above.is.levels_are.own.inside,
          above.is.stands,
          ap (λ l. l.low) above.is.levels_are.own.is,
          above.way,
        );
      }

  pub code-is : (W : Process) → IsLaidOut ops levels (length levels) 0 W → IsCodeOf (layout_of ops levels) (length levels) W
  code-is W laid = record {
    ways = λ hs P b path e. let way : HasWay b hs P = has_way W hs P b laid path e in record {
      way = way.way;
      low = ap (λ l. l.low) way.is.levels_are.own.is;
      static = way.is.stands;
    };
    room = omega (arith, laid.levels_are.own.inside);
  }

-- the process of code, with its levels
pub whole_laid : (ops : List Op) (start : ℕ) (levels : List Level) → IsLaid ops start
    → length levels ≡ start + 1 → AreLevels levels (start + 1) 0 (at (processes ops) start)
    → IsLaidOut ops levels (length levels) 0 (at (processes ops) start)
whole_laid ops start levels laid longer are =
    let here : 0 + inner (at (processes ops) start) ≡ start = omega (arith, laid.0) in
    record {
      lies = laid.1;
      levels_are = subst (λ up. AreLevels levels up 0 (at (processes ops) start)) (sym longer) are;
      stands = ap (at (processes ops)) here;
    }

pub levels_say : (ops : List Op) (start : ℕ) (levels : List Level) → are_placed 0 ops ≡ true → IsLaid ops start
    → length levels ≡ start + 1 → AreLevels levels (start + 1) 0 (at (processes ops) start)
    → IsCodeOf (layout_of ops levels) (length levels) (at (processes ops) start)
levels_say ops start levels placed laid longer are =
    code-is ops levels placed (at (processes ops) start) (whole_laid ops start levels laid longer are)

-- once they were added to none
pub levels_said : (ops : List Op) (start : ℕ) (old levels : List Level) → are_placed 0 ops ≡ true → IsLaid ops start → old ≡ []
    → AreLevelsAdded old levels (start + 1) (at (processes ops) start)
    → IsCodeOf (layout_of ops levels) (length levels) (at (processes ops) start)
levels_said ops start old levels placed laid none added =
    let from_none : AreLevelsAdded [] levels (start + 1) (at (processes ops) start) =
    subst (λ o. AreLevelsAdded o levels (start + 1) (at (processes ops) start)) none added in
    levels_say ops start levels placed laid (from_none.longer ∙ omega (arith, laid.0)) from_none.levels
