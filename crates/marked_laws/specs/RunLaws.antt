-- What holds of runs, whatever the bundle.
use Rattle.std.specs.Prelude.{◌≡◌, List, [], ◌∷◌, ◌++◌, Some, option_and_then}
use Rattle.dioc_terms.specs.declared.entries.Entry.{Entry}
use Rattle.dioc_terms.specs.Plain.{Setting}
use Rattle.network_steps.specs.Network.{Network, network_step, run_from}

-- Extension: a run of two histories is a run of the second after one of the first.
pub record Extensions : Type 0 where
  pub run : (b : Setting) (N : Network) (H K : List Entry) → run_from b N (H ++ K)
      ≡ option_and_then (λ M. run_from b M K) (run_from b N H)
  -- one entry more is one step more
  pub run_one : (b : Setting) (N : Network) (H : List Entry) (e : Entry)
      → run_from b N (H ++ e ∷ []) ≡ option_and_then (λ M. network_step b M e) (run_from b N H)
  -- a prefix of a run is a run
  pub prefix : (b : Setting) (N : Network) (H K : List Entry) (M : Network) → run_from b N (H ++ K)
      ≡ Some M → (L : Network) × (run_from b N H ≡ Some L)
