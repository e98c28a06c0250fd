-- What is known of the places of a process, by what is known of those of its parts.
use Rattle.std.specs.Result.{IfOk, OnOk}
use Rattle.std.proofs.lemmas.Result.{IfOk-weaker}
use Rattle.std.proofs.Common.{Result, Ok, Err, ◌≡◌, ◌+◌, ℕ, List, [], ◌∷◌, ◌++◌, Bool, true, false, ◌&&◌, get_or, length, refl, sym, ap, ap₂, ◌∙◌, subst, arith}
use Rattle.std.proofs.lemmas.List.{append_assoc, append-nil, get_or_append_left, get_or_push, length-append, length_push}
use Rattle.dioc_terms.specs.Parts.{has_two, first_of, second_of, has_body, body_of}
use Rattle.dioc_terms.specs.Processes.{Process}
use Rattle.flat_code.specs.declared.levels.Level.{Level}
use Rattle.flat_code.specs.declared.ops.Op.{Op}
use Rattle.flat_code.specs.declared.ops.Op.TheVariants as op
use Rattle.flat_code.specs.Layout.{inner, size, parts_at, EachPart, HasOp, Lies}
use Rattle.flat_code.specs.Levels.{AreLevelsAdded, ArePartLevels, HasLevel, all_ended, level_at}
use Rattle.flat_code.specs.Places.{at, op_process, part_places, processes}
use Rattle.flat_code.proofs.LayoutLemmas.{each_still, each_of_two, two_of_each, each_of_body, body_of_each, each_of_none, two_at, body_at, two_inner, body_longer, plain_longer}
use Rattle.process_steps.specs.Steps.{ended}

first_is : {x y : ℕ} {xs ys : List ℕ} → x ∷ xs ≡ y ∷ ys → x ≡ y
first_is h = cc

second_is : {x y u v : ℕ} {xs ys : List ℕ} → x ∷ u ∷ xs ≡ y ∷ v ∷ ys → u ≡ v
second_is h = cc

-- The process of an op, by the places of its parts.

-- it has two parts, at these places
pub record IsOfTwo (done : List Process) (p q : ℕ) (P : Process) : Type 0 where
  pub two : has_two P ≡ true
  pub first : first_of P ≡ at done p
  pub second : second_of P ≡ at done q

pub op_of_two : (done : List Process) (o : Op) (p q : ℕ) → part_places o ≡ p ∷ q ∷ [] → IsOfTwo done p q (op_process done o)
op_of_two done (op.Seq r s) p q h = record { two = refl; first = ap (at done) (first_is h); second = ap (at done) (second_is h) }
op_of_two done (op.Par r s) p q h = record { two = refl; first = ap (at done) (first_is h); second = ap (at done) (second_is h) }
op_of_two done (op.IfLead i g others r s) p q h = record { two = refl; first = ap (at done) (first_is h); second = ap (at done) (second_is h) }
op_of_two done (op.IfFollow i leader r s) p q h = record { two = refl; first = ap (at done) (first_is h); second = ap (at done) (second_is h) }
op_of_two done o p q h = cc

-- it has a body, at this place
pub record IsOfBody (done : List Process) (p : ℕ) (P : Process) : Type 0 where
  pub one : has_body P ≡ true
  pub body : body_of P ≡ at done p

pub op_of_body : (done : List Process) (o : Op) (p : ℕ) → part_places o ≡ p ∷ [] → IsOfBody done p (op_process done o)
op_of_body done (op.WhileLead i g others r) p h = record { one = refl; body = ap (at done) (first_is h) }
op_of_body done (op.WhileFollow i leader r) p h = record { one = refl; body = ap (at done) (first_is h) }
op_of_body done (op.ScopeLead head others r) p h = record { one = refl; body = ap (at done) (first_is h) }
op_of_body done (op.ScopeFollow i leader r) p h = record { one = refl; body = ap (at done) (first_is h) }
op_of_body done o p h = cc

pub op_of_none : (done : List Process) (o : Op) → part_places o ≡ [] → (has_two (op_process done o) ≡ false) × (has_body (op_process done o) ≡ false)
op_of_none done (op.Seq r s) h = cc
op_of_none done (op.Par r s) h = cc
op_of_none done (op.IfLead i g others r s) h = cc
op_of_none done (op.IfFollow i leader r s) h = cc
op_of_none done (op.WhileLead i g others r) h = cc
op_of_none done (op.WhileFollow i leader r) h = cc
op_of_none done (op.ScopeLead head others r) h = cc
op_of_none done (op.ScopeFollow i leader r) h = cc
op_of_none done o h = (refl, refl)

-- Where the parts of the process at a place lie.

-- its process, at the last of the places that begin at this one
pub record IsAt (ops : List Op) (b place : ℕ) (o : Op) : Type 0 where
  pub begins : place ≡ b + inner (at (processes ops) place)
  pub lies : Lies ops b (at (processes ops) place)
  pub is : o ≡ get_or ops place op.Skip
  pub stands : at (processes ops) place ≡ op_process (processes ops) o

pub record TwoBegin (ops : List Op) (b p q : ℕ) (P : Process) : Type 0 where
  pub of : IsOfTwo (processes ops) p q P
  pub first_begins : p ≡ b + inner (at (processes ops) p)
  pub first_lies : Lies ops b (at (processes ops) p)
  pub second_begins : q ≡ b + size (at (processes ops) p) + inner (at (processes ops) q)
  pub second_lies : Lies ops (b + size (at (processes ops) p)) (at (processes ops) q)

pub record BodyBegins (ops : List Op) (b p : ℕ) (P : Process) : Type 0 where
  pub of : IsOfBody (processes ops) p P
  pub begins : p ≡ b + inner (at (processes ops) p)
  pub lies : Lies ops b (at (processes ops) p)

module _ (ops : List Op) (b place : ℕ) (o : Op) (h : IsAt ops b place o) where
  own_places : part_places o ≡ parts_at b (at (processes ops) place)
  own_places = ap part_places h.is ∙ ap (λ n. part_places (get_or ops n op.Skip)) h.begins ∙ h.lies.0.1

  pub two_begin : (p q : ℕ) → p ∷ q ∷ [] ≡ part_places o → TwoBegin ops b p q (at (processes ops) place)
  two_begin p q e =
      let P : Process = at (processes ops) place in
      let of : IsOfTwo (processes ops) p q P =
      subst (IsOfTwo (processes ops) p q) (sym h.stands) (op_of_two (processes ops) o p q (sym e)) in
      let places = e ∙ own_places ∙ two_at b P of.two in
      let parts = two_of_each (λ up. HasOp ops) b P of.two h.lies.1 in
      record {
        of = of;
        first_begins = first_is places ∙ ap (λ Q. b + inner Q) of.first;
        first_lies = subst (Lies ops b) of.first parts.0;
        second_begins = second_is places ∙ ap₂ (λ Q R. b + size Q + inner R) of.first of.second;
        second_lies = subst (λ Q. Lies ops (b + size Q) (at (processes ops) q)) of.first
            (subst (Lies ops (b + size (first_of P))) of.second parts.1);
      }

  pub body_begins : (p : ℕ) → p ∷ [] ≡ part_places o → BodyBegins ops b p (at (processes ops) place)
  body_begins p e =
      let P : Process = at (processes ops) place in
      let of : IsOfBody (processes ops) p P =
      subst (IsOfBody (processes ops) p) (sym h.stands) (op_of_body (processes ops) o p (sym e)) in
      let places = e ∙ own_places ∙ body_at b P of.one in
      record {
        of = of;
        begins = first_is places ∙ ap (λ Q. b + inner Q) of.body;
        lies = subst (Lies ops b) of.body (body_of_each (λ up. HasOp ops) b P of.one h.lies.1);
      }

-- The levels of a process, by those of its parts.

module _ (mid new more : List Level) (behind : new ≡ mid ++ more) where
  level_stays : (up b : ℕ) (P : Process) → HasLevel mid up b P → HasLevel new up b P
  level_stays up b P h =
      let longer : length new ≡ length mid + length more = ap length behind ∙ length-append mid more in record {
        inside = omega (arith, h.inside, longer);
        is = ap (λ ls. level_at ls (b + inner P)) behind
            ∙ get_or_append_left mid more (record { parent = 0; low = 0; ended = false }) (b + inner P) h.inside ∙ h.is;
      }

  levels_stay : (b : ℕ) (P : Process) → EachPart (HasLevel mid) b P → EachPart (HasLevel new) b P
  levels_stay b P h = each_still (HasLevel mid) (HasLevel new) level_stays b P h

pub none_levels : (levels : List Level) (P : Process) → has_two P ≡ false → has_body P ≡ false → ArePartLevels levels levels P
none_levels levels P two body = record {
  longer = plain_longer (length levels) P two body;
  more = [];
  behind = sym (append-nil levels);
  parts = each_of_none (HasLevel levels) (length levels) P two body;
}

pub body_levels : (old new : List Level) (P : Process) → has_body P ≡ true
    → AreLevelsAdded old new (length old + inner P) (body_of P) → ArePartLevels old new P
body_levels old new P one added = record {
  longer = added.longer ∙ omega arith ∙ body_longer (length old) P one;
  more = added.more;
  behind = added.behind;
  parts = each_of_body (HasLevel new) (length old) P one (added.levels.own, added.levels.parts);
}

pub two_levels : (old mid new : List Level) (P : Process) → has_two P ≡ true
    → AreLevelsAdded old mid (length old + inner P) (first_of P)
    → AreLevelsAdded mid new (length old + inner P) (second_of P) → ArePartLevels old new P
two_levels old mid new P two first second = record {
  longer = second.longer ∙ ap (λ n. n + size (second_of P)) first.longer ∙ omega arith
      ∙ ap (λ n. length old + n) (sym (two_inner P two));
  more = first.more ++ second.more;
  behind = second.behind ∙ ap (λ ls. ls ++ second.more) first.behind ∙ append_assoc old first.more second.more;
  parts = each_of_two (HasLevel new) (length old) P two (
    level_stays mid new second.more second.behind (length old + inner P) (length old) (first_of P) first.levels.own,
    levels_stay mid new second.more second.behind (length old) (first_of P) first.levels.parts,
  )
      (subst (λ n. HasLevel new (length old + inner P) n (second_of P) × EachPart (HasLevel new) n (second_of P)) first.longer
      (second.levels.own, second.levels.parts));
}

-- its own level behind those of its parts
pub own_level : (old mid new : List Level) (up : ℕ) (P : Process) (over : Bool) → ArePartLevels old mid P → over ≡ ended P
    → new ≡ mid ++ record { parent = up; low = length old; ended = over } ∷ [] → AreLevelsAdded old new up P
own_level old mid new up P over parts is pushed =
    let own : Level = record { parent = up; low = length old; ended = over } in
    let longer : length new ≡ length mid + 1 = ap length pushed ∙ length_push mid own in record {
      longer = omega (arith, longer, parts.longer);
      more = parts.more ++ own ∷ [];
      behind = pushed ∙ ap (λ ls. ls ++ own ∷ []) parts.behind ∙ append_assoc old parts.more (own ∷ []);
      levels = record {
        own = record {
          inside = omega (arith, longer, parts.longer);
          is = ap (λ ls. level_at ls (length old + inner P)) pushed
              ∙ get_or_push mid own (record { parent = 0; low = 0; ended = false }) (length old + inner P) parts.longer
              ∙ ap (λ t. record { parent = up; low = length old; ended = t }) is;
        };
        parts = levels_stay mid new (own ∷ []) pushed (length old) P parts.parts;
      };
    }

-- What the calls answer.

-- with this place, where the code says so
module _ (ops : List Op) (b place : ℕ) (o : Op) (h : IsAt ops b place o) where
  pub level_of_none : (levels : List Level) → b ≡ length levels → [] ≡ part_places o → ArePartLevels levels levels (at (processes ops) place)
  level_of_none levels e none =
      let of = op_of_none (processes ops) o (sym none) in
      none_levels levels (at (processes ops) place) (ap has_two h.stands ∙ of.0) (ap has_body h.stands ∙ of.1)

  pub level_of_body : (old new : List Level) (p : ℕ) → b ≡ length old → p ∷ [] ≡ part_places o → AreLevelsAdded old new place (at (processes ops) p)
      → ArePartLevels old new (at (processes ops) place)
  level_of_body old new p e body added =
      let P : Process = at (processes ops) place in
      let begun : BodyBegins ops b p P = body_begins ops b place o h p body in
      body_levels old new P begun.of.one
      (subst (λ Q. AreLevelsAdded old new (length old + inner P) Q) (sym begun.of.body)
      (subst (λ n. AreLevelsAdded old new n (at (processes ops) p)) (h.begins ∙ ap (λ n. n + inner P) e) added))

  pub level_of_two : (old mid new : List Level) (p q : ℕ) → b ≡ length old → p ∷ q ∷ [] ≡ part_places o
      → AreLevelsAdded old mid place (at (processes ops) p) → AreLevelsAdded mid new place (at (processes ops) q)
      → ArePartLevels old new (at (processes ops) place)
  level_of_two old mid new p q e both first second =
      let P : Process = at (processes ops) place in
      let begun : TwoBegin ops b p q P = two_begin ops b place o h p q both in
      let up : place ≡ length old + inner P = h.begins ∙ ap (λ n. n + inner P) e in
      two_levels old mid new P begun.of.two
      (subst (λ Q. AreLevelsAdded old mid (length old + inner P) Q) (sym begun.of.first) (subst (λ n. AreLevelsAdded old mid n (at (processes ops) p)) up first))
      (subst (λ Q. AreLevelsAdded mid new (length old + inner P) Q) (sym begun.of.second) (subst (λ n. AreLevelsAdded mid new n (at (processes ops) q)) up second))

  -- where its second part begins, behind the levels of the first
  pub second_at : (old mid : List Level) (p q : ℕ) → b ≡ length old → p ∷ q ∷ [] ≡ part_places o → AreLevelsAdded old mid place (at (processes ops) p)
      → (q ≡ length mid + inner (at (processes ops) q)) × Lies ops (length mid) (at (processes ops) q)
  second_at old mid p q e both first =
      let begun : TwoBegin ops b p q (at (processes ops) place) = two_begin ops b place o h p q both in
      let base : b + size (at (processes ops) p) ≡ length mid = ap (λ n. n + size (at (processes ops) p)) e ∙ sym first.longer in (
        begun.second_begins ∙ ap (λ n. n + inner (at (processes ops) q)) base,
        subst (λ n. Lies ops n (at (processes ops) q)) base begun.second_lies,
      )

and_all : (t : Bool) → t ≡ (t && true)
and_all true = refl
and_all false = refl

pub one_ended : (done : List Process) (o : Op) (p : ℕ) (t : Bool) → p ∷ [] ≡ part_places o → t ≡ ended (at done p) → t ≡ all_ended done (part_places o)
one_ended done o p t places is = is ∙ and_all (ended (at done p)) ∙ ap (all_ended done) places

pub two_ended : (done : List Process) (o : Op) (p q : ℕ) (t u : Bool) → p ∷ q ∷ [] ≡ part_places o → t ≡ ended (at done p) → u ≡ ended (at done q)
    → (t && u) ≡ all_ended done (part_places o)
two_ended done o p q t u places first second =
    ap₂ (λ x y. x && y) first (second ∙ and_all (ended (at done q))) ∙ ap (all_ended done) places

-- the level of an op that closes its parts
pub closed_ended : {E : Type 0} (made : Result Bool E) (ops : List Op) (place : ℕ) (o : Op) (t : Bool) → at (processes ops) place ≡ op_process (processes ops) o
    → t ≡ all_ended (processes ops) (part_places o)
    → ((done : List Process) → t ≡ all_ended done (part_places o) → IfOk made (λ e. e ≡ ended (op_process done o)))
    → IfOk made (λ e. e ≡ ended (at (processes ops) place))
closed_ended made ops place o t stands all says =
    IfOk-weaker made (λ e. e ≡ ended (op_process (processes ops) o)) (λ e. e ≡ ended (at (processes ops) place))
    (λ e is. is ∙ ap ended (sym stands)) (says (processes ops) all)

pub closed_levels : {E : Type 0} (made : Result Bool E) (old mid new : List Level) (up low : ℕ) (P : Process) → ArePartLevels old mid P → low ≡ length old
    → IfOk made (λ e. e ≡ ended P) → IfOk made (λ e. new ≡ mid ++ record { parent = up; low = low; ended = e } ∷ [])
    → OnOk made (AreLevelsAdded old new up P)
closed_levels (Ok e) old mid new up low P parts is over pushed =
    own_level old mid new up P e parts over (pushed ∙ ap (λ n. mid ++ record { parent = up; low = n; ended = e } ∷ []) is)
closed_levels (Err fault) old mid new up low P parts is over pushed = tt
