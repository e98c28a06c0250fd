-- A worked row of traces: what a trace of the first mended row says of the input.
use Rattle.std.proofs.Common.{◌≡◌, ℕ, List, [], ◌∷◌, Some, None, pos, refl}
use Rattle.std.specs.Prelude.{codes}
use Rattle.dioc_terms.specs.declared.names.Role.{Role}
use Rattle.dioc_terms.specs.declared.values.Value.{Value}
use Rattle.dioc_terms.specs.declared.values.Value.TheVariants.{Nil, Int}
use Rattle.dioc_terms.specs.declared.processes.Tag.TheVariants.{Op}
use Rattle.dioc_terms.specs.declared.entries.Note.TheVariants as note
use Rattle.dioc_terms.specs.declared.entries.Entry.{Entry}
use Rattle.dioc_terms.specs.declared.entries.Entry.TheVariants as entry
use Rattle.dioc_terms.specs.Plain.{PlainBundle}
use Rattle.dioc_terms.specs.Terms.{index_at, cast_of}
use Rattle.mend.specs.Names.{sq_name}
use Rattle.mend.specs.Traces.{mended_bundle, trace_before}
use Rattle.mend.proofs.Rows.{a, b, c, first_row}

abbrev first_bundle : PlainBundle
first_bundle = record {
  version = 1;
  cast = cast_of first_row;
  choreo = first_row;
  rules = [];
  opening = 0;
  env = [];
  inputs = [];
  script = [];
  trace = record { entries = []; last = None };
}

abbrev put : ℕ → List ℕ → Role → Role → Value → Entry
put n o r s v = entry.Put (record { from = r; to = s; index = index_at n; tag = Op o }) (note.Val v)

abbrev take : ℕ → List ℕ → Role → Role → List ℕ → Entry
take n o r s x = entry.Take (record { from = r; to = s; index = index_at n; tag = Op o }) (Some x)

-- the message that was added goes, and the last one's place is again 1
first_trace : trace_before first_bundle (mended_bundle first_bundle) (
    put 0 (codes "p") a c (Int (pos 1)) ∷ take 0 (codes "p") a c (codes "x") ∷ put 1 (sq_name 0) c b Nil ∷ take 1 (sq_name 0) c b (codes "sq_v")
    ∷ put 2 (codes "q") b c (Int (pos 2)) ∷ take 2 (codes "q") b c (codes "y") ∷ []
    )
    ≡ put 0 (codes "p") a c (Int (pos 1)) ∷ take 0 (codes "p") a c (codes "x") ∷ put 1 (codes "q") b c (Int (pos 2))
    ∷ take 1 (codes "q") b c (codes "y") ∷ []
first_trace = refl
