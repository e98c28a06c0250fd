-- How many entries are visible.
use Rattle.std.proofs.Common.{◌≤◌, suc, List, [], ◌∷◌, length, Bool, true, false, cond, not, arith}
use Rattle.dioc_terms.specs.declared.entries.Entry.{Entry}
use Rattle.dioc_terms.specs.Messages.{is_aux, visible}

-- no more entries are visible than there are
pub few_visible : (entries : List Entry) → length (visible entries) ≤ length entries
few_visible [] = omega arith
few_visible (entry ∷ entries) = one (not (is_aux entry)) (few_visible entries)
  where
    one : (b : Bool) → length (visible entries) ≤ length entries → length (cond b (entry ∷ visible entries) (visible entries)) ≤ suc (length entries)
    one true few = omega arith
    one false few = omega arith
