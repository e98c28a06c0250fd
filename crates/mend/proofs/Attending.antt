-- Who begins a part, and who is in each group that ends one, asked by recursion: what the code asks is what the definitions say.
use Rattle.std.proofs.Common.{◌≡◌, List, Bool, true, false, ◌&&◌, if◌then◌else◌, refl, sym, ap₂, ◌∙◌}
use Rattle.std.specs.Prelude.{find}
use Rattle.std.specs.List.{list_all}
use Rattle.std.proofs.lemmas.List.Folds.{list_all-append}
use Rattle.dioc_terms.specs.declared.names.Role.{Role}
use Rattle.dioc_terms.specs.Terms.{Term, Skip, Com, Set, Input, Seq, Par, If, While, Scope, empty}
use Rattle.connectedness.specs.ByCases.{begins}
use Rattle.connectedness.specs.Connected.{starters, in_each_group, linked}
use Rattle.connectedness.specs.Laws.{RolesAtEnds}
use Rattle.mend.specs.Building.{attended}
use Rattle.mend.specs.Mended.{first_starter}

and_true : (b : Bool) → (b && true) ≡ b
and_true true = refl
and_true false = refl

all_of_either : (p : Role → Bool) (t : Bool) (xs ys : List Role) → list_all p (if t then xs else ys) ≡ (if t then list_all p xs else list_all p ys)
all_of_either p true xs ys = refl
all_of_either p false xs ys = refl

module _ (ends : RolesAtEnds) where
  pub linked-attended : (I J : Term) → linked I J ≡ attended I J
  linked-attended I Skip = refl
  linked-attended I (Com i o a e b x) = and_true (in_each_group I a) ∙ ends.in_groups a I
  linked-attended I (Set i x r e) = and_true (in_each_group I r) ∙ ends.in_groups r I
  linked-attended I (Input i x r) = and_true (in_each_group I r) ∙ ends.in_groups r I
  linked-attended I (Seq J K) =
      all_of_either (in_each_group I) (empty J) (starters K) (starters J)
      ∙ ap₂ (λ s t. if empty J then s else t) (linked-attended I K) (linked-attended I J)
  linked-attended I (Par J K) =
      list_all-append (in_each_group I) (starters J) (starters K) ∙ ap₂ (λ s t. s && t) (linked-attended I J) (linked-attended I K)
  linked-attended I (If i r g J K) = and_true (in_each_group I r) ∙ ends.in_groups r I
  linked-attended I (While i r g J) = and_true (in_each_group I r) ∙ ends.in_groups r I
  linked-attended I (Scope i r J extra props level) = and_true (in_each_group I r) ∙ ends.in_groups r I

  pub found-starter : (cast : List Role) (J : Term) → find (λ q. begins q J) cast ≡ first_starter cast J
  found-starter cast J = sym (λ i. find (λ q. ends.starter q J i) cast)
