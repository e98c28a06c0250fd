-- Runs of one history after another.
use Rattle.std.proofs.Common.{◌≡◌, List, [], ◌∷◌, ◌++◌, Option, Some, None, option_and_then, refl, sym, ◌∙◌}
use Rattle.dioc_terms.specs.declared.entries.Entry.{Entry}
use Rattle.dioc_terms.specs.Plain.{Setting}
use Rattle.network_steps.specs.Network.{Network, network_step, run_from}
use Rattle.marked_laws.specs.RunLaws.{Extensions}
use Rattle.marked_laws.proofs.Shapes.{none_some}

-- a step that may fail, after two others
then_then : {A B C : Type 0} (o : Option A) (f : A → Option B) (g : B → Option C)
    → option_and_then (λ a. option_and_then g (f a)) o ≡ option_and_then g (option_and_then f o)
then_then None f g = refl
then_then (Some a) f g = refl

then_same : {A B : Type 0} (o : Option A) (f g : A → Option B) → ((a : A) → f a ≡ g a) → option_and_then f o ≡ option_and_then g o
then_same None f g h = refl
then_same (Some a) f g h = h a

then_some : {A : Type 0} (o : Option A) → option_and_then (λ a. Some a) o ≡ o
then_some None = refl
then_some (Some a) = refl

then_had : {A B : Type 0} (o : Option A) (f : A → Option B) {b : B} → option_and_then f o ≡ Some b → (a : A) × (o ≡ Some a)
then_had None f h = absurd (none_some h)
then_had (Some a) f h = (a, refl)

run_more : (b : Setting) (N : Network) (H K : List Entry) → run_from b N (H ++ K) ≡ option_and_then (λ M. run_from b M K) (run_from b N H)
run_more b N [] K = refl
run_more b N (e ∷ H) K =
    then_same (network_step b N e) (λ M. run_from b M (H ++ K)) (λ M. option_and_then (λ L. run_from b L K) (run_from b M H)) (λ M. run_more b M H K)
    ∙ then_then (network_step b N e) (λ M. run_from b M H) (λ L. run_from b L K)

pub extensions : Extensions
extensions = record {
  run = run_more;
  run_one = λ b N H e. run_more b N H (e ∷ []) ∙ then_same (run_from b N H) (λ M. option_and_then (λ L. Some L) (network_step b M e)) (λ M. network_step b M e)
      (λ M. then_some (network_step b M e));
  prefix = λ b N H K M h. then_had (run_from b N H) (λ L. run_from b L K) (sym (run_more b N H K) ∙ h);
}
