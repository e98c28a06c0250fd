-- The bundle that is made of a seed and a size: a choreography of so many blocks, with rules and a
-- script that do not depend on them.
use Rattle.std.specs.Prelude.{ℕ, zero, suc, ◌+◌, ◌/◌, List, [], ◌∷◌, ◌++◌, map, take, drop, codes, pos, None}
use Rattle.dioc_terms.specs.declared.bundles.Change.TheVariants as change
use Rattle.dioc_terms.specs.declared.bundles.Timed.{Timed}
use Rattle.dioc_terms.specs.declared.expressions.Oper.TheVariants.{Mul, Eq, Ne, And}
use Rattle.dioc_terms.specs.declared.values.Value.TheVariants.{Int}
use Rattle.dioc_terms.specs.Bundles.{numbers_from}
use Rattle.dioc_terms.specs.Expressions.{Expression, Var, Prop, Env, Bin}
use Rattle.dioc_terms.specs.Plain.{PlainRule, PlainBundle}
use Rattle.dioc_terms.specs.Terms.{Term, Skip, Seq, indexed}
use Rattle.load_gen.specs.Blocks.{blocks}
use Rattle.load_gen.specs.Draws.{kinds}
use Rattle.load_gen.specs.Pieces.{role_numbered, number_literal, token, sending, setting_variable, with_digit}

-- one after another, nested to the right
abbrev pub sequence : List Term → Term
sequence [] = Skip
sequence (I ∷ []) = I
sequence (I ∷ J ∷ Is) = Seq I (sequence (J ∷ Is))

-- the numbers of the eight roles
abbrev pub eight : List ℕ
eight = numbers_from 0 8

-- role 0 sets the token, and each role passes it on
abbrev pub pass : ℕ → Term
pass j = sending (with_digit (codes "pass") j) j (Var token)

abbrev pub opening_steps : List Term
opening_steps = setting_variable token 0 (number_literal 1) ∷ map pass eight

-- so many groups of 20, the last one possibly shorter
abbrev pub groups_of_twenty : {A : Type 0} → ℕ → List A → List (List A)
groups_of_twenty zero xs = []
groups_of_twenty (suc count) xs = take 20 xs ∷ groups_of_twenty count (drop 20 xs)

-- the parts of the choreography: the opening, then groups of blocks
abbrev pub parts : ℕ → ℕ → List Term
parts seed size =
    opening_steps
    ++ map sequence (groups_of_twenty ((size + 19) / 20) (blocks (kinds size seed) 0 0))

-- the choreography before it has its indices, and with them
abbrev pub text : ℕ → ℕ → Term
text seed size = sequence (parts seed size)

abbrev pub choreography : ℕ → ℕ → Term
choreography seed size = indexed (text seed size)

-- rule number j replaces a scope of role number j while it is not calm
abbrev pub rule_name : ℕ → List ℕ
rule_name j = with_digit (codes "u") j

abbrev pub condition : ℕ → Expression
condition j =
    Bin And (Bin Eq (Prop (codes "k")) (number_literal j))
    (Bin Ne (Env (codes "calm")) (number_literal 1))

abbrev pub body : ℕ → Term
body j =
    indexed (Seq (setting_variable (codes "w") j (Bin Mul (Var token) (number_literal 2)))
    (sending (codes "w") j (Var (codes "w"))))

abbrev pub rule : ℕ → PlainRule
rule j =
    record {
      name = rule_name j;
      priority = pos 0;
      cond = condition j;
      body = body j;
    }

-- the rules are added, then it becomes calm, then the first rule is dropped
abbrev pub add : ℕ → Timed
add j = record { after = 10; change = change.Add j }

abbrev pub script : List Timed
script =
    map add eight
    ++ record { after = 200; change = change.Env (codes "calm") (Int (pos 1)) }
    ∷ record { after = 400; change = change.Drop (rule_name 0) } ∷ []

abbrev pub made : ℕ → ℕ → PlainBundle
made seed size = record {
  version = 1;
  cast = map role_numbered eight;
  choreo = choreography seed size;
  rules = map rule eight;
  opening = 0;
  env = [];
  inputs = [];
  script = script;
  trace = record { entries = []; last = None };
}
