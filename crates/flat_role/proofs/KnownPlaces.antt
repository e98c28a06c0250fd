-- What a plan says of each of its places.
use Rattle.std.proofs.Common.{◌≡◌, ◌<◌, ◌≤◌, ◌+◌, ℕ, List, [], ◌∷◌, true, false, length, refl, ap, ◌∙◌, sym, subst, arith, ⊎_elim}
use Rattle.std.proofs.lemmas.Bool.{cases_lt}
use Rattle.dioc_terms.specs.Processes.{Process, Seq, Par, IfLead, IfFollow, WhileLead, WhileFollow, ScopeLead, ScopeFollow}
use Rattle.flat_code.specs.declared.levels.Level.{Level}
use Rattle.flat_code.specs.declared.plan.Plan.{Plan}
use Rattle.flat_code.specs.Codes.{process_of}
use Rattle.flat_code.specs.Layout.{EachPart, inner, size}
use Rattle.flat_code.specs.Levels.{HasLevel, layout_of, level_at}
use Rattle.flat_code.proofs.WayLemmas.{levels_say}
use Rattle.flat_role.specs.PlanMarks.{low_at, plan_len, static_at}
use Rattle.process_steps.specs.Steps.{ended}
use Rattle.role_statuses.specs.Flat.{PathAt}
use Rattle.role_statuses.specs.Local.{Layout}
use Rattle.role_statuses.specs.Paths.{Hole, InFirst, InSecond, InLeft, InRight, InLeadBranch, InFollowBranch, InLeadTurn, InFollowTurn, InLeadScope, InFollowScope, top_static}
use Rattle.role_statuses.specs.Statuses.{Untouched}
use Rattle.role_statuses.specs.PlaceLaws.{IsCodeOf}

-- the process at a place
record IsKnown (code : Layout) (levels : List Level) (place : ℕ) : Type 0 where
  pub up : ℕ
  pub b : ℕ
  pub P : Process
  pub here : b + inner P ≡ place
  pub above : place < up
  pub static : code.statics place ≡ P
  pub level : level_at levels place ≡ record { parent = up; low = b; ended = ended P }

module _ (code : Layout) (levels : List Level) (n : ℕ) (W : Process) (says : IsCodeOf code n W) where
  -- a part, its way to the top, and what is known of its parts
  record IsPart (up b : ℕ) (hs : List Hole) (P : Process) : Type 0 where
    pub path : PathAt 0 b hs P
    pub top : top_static hs P ≡ W
    pub own : HasLevel levels up b P
    pub parts : EachPart (HasLevel levels) b P
    pub above : b + inner P < up

  part_known : (up b : ℕ) (hs : List Hole) (P : Process) (place : ℕ) → IsPart up b hs P → b + inner P ≡ place → IsKnown code levels place
  part_known up b hs P place h e = subst (IsKnown code levels) e (record {
    up = up;
    b = b;
    P = P;
    here = refl;
    above = h.above;
    static = (says.ways hs P b h.path h.top).static;
    level = h.own.is;
  })

  -- the place of a construct or one of its parts
  either : (place b p : ℕ) → place ≤ p → (p ≡ place → IsKnown code levels place) → (place < p → IsKnown code levels place) → IsKnown code levels place
  either place b p most own inside = ⊎_elim (λ less. inside less) (λ more. own (omega arith)) (cases_lt place p)

  known_in : (P : Process) (up b : ℕ) (hs : List Hole) (place : ℕ) → IsPart up b hs P → b ≤ place → place ≤ b + inner P → IsKnown code levels place
  known_in (Seq P Q) up b hs place h least most = either place b (b + inner (Seq P Q)) most (part_known up b hs (Seq P Q) place h) (λ less.
      ⊎_elim
      (λ left. known_in P (b + inner (Seq P Q)) b (InFirst Q ∷ hs) place
      (record { path = (b, omega arith, h.path); top = h.top; own = h.parts.0.0; parts = h.parts.0.1; above = omega arith }) least (omega arith))
      (λ right. known_in Q (b + inner (Seq P Q)) (b + size P) (InSecond P ∷ hs) place
      (record { path = (b, refl, h.path); top = h.top; own = h.parts.1.0; parts = h.parts.1.1; above = omega arith }) right (omega arith))
      (cases_lt place (b + size P)))
  known_in (Par P Q) up b hs place h least most = either place b (b + inner (Par P Q)) most (part_known up b hs (Par P Q) place h) (λ less.
      ⊎_elim
      (λ left. known_in P (b + inner (Par P Q)) b (InLeft Untouched Q ∷ hs) place
      (record { path = (b, omega arith, h.path); top = h.top; own = h.parts.0.0; parts = h.parts.0.1; above = omega arith }) least (omega arith))
      (λ right. known_in Q (b + inner (Par P Q)) (b + size P) (InRight Untouched P ∷ hs) place
      (record { path = (b, refl, h.path); top = h.top; own = h.parts.1.0; parts = h.parts.1.1; above = omega arith }) right (omega arith))
      (cases_lt place (b + size P)))
  known_in (IfLead i g others P Q) up b hs place h least most = either place b (b + inner (IfLead i g others P Q)) most
      (part_known up b hs (IfLead i g others P Q) place h) (λ less.
      ⊎_elim
      (λ left. known_in P (b + inner (IfLead i g others P Q)) b (InLeadBranch true i g others Q ∷ hs) place
      (record { path = (b, omega arith, h.path); top = h.top; own = h.parts.0.0; parts = h.parts.0.1; above = omega arith }) least (omega arith))
      (λ right. known_in Q (b + inner (IfLead i g others P Q)) (b + size P) (InLeadBranch false i g others P ∷ hs) place
      (record { path = (b, refl, h.path); top = h.top; own = h.parts.1.0; parts = h.parts.1.1; above = omega arith }) right (omega arith))
      (cases_lt place (b + size P)))
  known_in (IfFollow i leader P Q) up b hs place h least most = either place b (b + inner (IfFollow i leader P Q)) most
      (part_known up b hs (IfFollow i leader P Q) place h) (λ less.
      ⊎_elim
      (λ left. known_in P (b + inner (IfFollow i leader P Q)) b (InFollowBranch true i leader Q ∷ hs) place
      (record { path = (b, omega arith, h.path); top = h.top; own = h.parts.0.0; parts = h.parts.0.1; above = omega arith }) least (omega arith))
      (λ right. known_in Q (b + inner (IfFollow i leader P Q)) (b + size P) (InFollowBranch false i leader P ∷ hs) place
      (record { path = (b, refl, h.path); top = h.top; own = h.parts.1.0; parts = h.parts.1.1; above = omega arith }) right (omega arith))
      (cases_lt place (b + size P)))
  known_in (WhileLead i g others P) up b hs place h least most = either place b (b + inner (WhileLead i g others P)) most
      (part_known up b hs (WhileLead i g others P) place h) (λ less.
      known_in P (b + inner (WhileLead i g others P)) b (InLeadTurn i g others ∷ hs) place
      (record { path = (b, omega arith, h.path); top = h.top; own = h.parts.0; parts = h.parts.1; above = omega arith }) least (omega arith))
  known_in (WhileFollow i leader P) up b hs place h least most = either place b (b + inner (WhileFollow i leader P)) most
      (part_known up b hs (WhileFollow i leader P) place h) (λ less.
      known_in P (b + inner (WhileFollow i leader P)) b (InFollowTurn i leader ∷ hs) place
      (record { path = (b, omega arith, h.path); top = h.top; own = h.parts.0; parts = h.parts.1; above = omega arith }) least (omega arith))
  known_in (ScopeLead head others P) up b hs place h least most = either place b (b + inner (ScopeLead head others P)) most
      (part_known up b hs (ScopeLead head others P) place h) (λ less.
      known_in P (b + inner (ScopeLead head others P)) b (InLeadScope head others ∷ hs) place
      (record { path = (b, omega arith, h.path); top = h.top; own = h.parts.0; parts = h.parts.1; above = omega arith }) least (omega arith))
  known_in (ScopeFollow i leader P) up b hs place h least most = either place b (b + inner (ScopeFollow i leader P)) most
      (part_known up b hs (ScopeFollow i leader P) place h) (λ less.
      known_in P (b + inner (ScopeFollow i leader P)) b (InFollowScope i leader ∷ hs) place
      (record { path = (b, omega arith, h.path); top = h.top; own = h.parts.0; parts = h.parts.1; above = omega arith }) least (omega arith))
  known_in P up b hs place h least most = part_known up b hs P place h (omega arith)

-- where the places of the process at a place begin, whether it has ended, and that the construct around it stands behind it
pub record PlaceSays (plan : Plan) (place : ℕ) : Type 0 where
  pub begins : low_at plan place + size (static_at plan place) ≡ place + 1
  pub ended_is : (level_at plan.levels.items place).ended ≡ ended (static_at plan place)
  pub above : place < (level_at plan.levels.items place).parent

pub place_says : (plan : Plan) (place : ℕ) → place < plan_len plan → PlaceSays plan place
place_says plan place inside =
    let ops = plan.code.ops.items in
    let levels : List Level = plan.levels.items in
    let W : Process = process_of plan.code in
    let says : IsCodeOf (layout_of ops levels) (length levels) W =
    levels_say ops plan.code.start levels plan.code.placed plan.code.laid plan.longer plan.says in
    let last : plan.code.start ≡ inner W = plan.code.laid.0 in
    let known : IsKnown (layout_of ops levels) levels place = known_in (layout_of ops levels) levels (length levels) W says W (plan.code.start + 1) 0 [] place
    (record { path = refl; top = refl; own = plan.says.own; parts = plan.says.parts; above = omega (arith, last) }) (omega arith)
    (omega (arith, last, plan.longer)) in
    let static : static_at plan place ≡ known.P = known.static in
    let parent : (level_at levels place).parent ≡ known.up = ap (λ l. l.parent) known.level in
    record {
      begins = ap (λ l. l.low + size (static_at plan place)) known.level ∙ ap (λ Q. known.b + size Q) static ∙ omega (arith, known.here);
      ended_is = ap (λ l. l.ended) known.level ∙ ap ended (sym static);
      above = omega (arith, parent, known.above);
    }
