-- The text of each refusal, as the line to a person has it.
use Rattle.std.specs.Prelude.{ℕ, List, [], ◌++◌, codes, decimal}
use Rattle.dioc_terms.specs.declared.names.Index.{Index}
use Rattle.rule_checks.specs.declared.refusals.Refusal.{Refusal}
use Rattle.rule_checks.specs.declared.refusals.Refusal.TheVariants as refusal
use Rattle.rule_checks.specs.declared.refusals.Where.{Where}
use Rattle.rule_checks.specs.declared.refusals.Where.TheVariants as place
use Rattle.rule_checks.specs.declared.refusals.Which.{Which}
use Rattle.rule_checks.specs.declared.refusals.Which.TheVariants.{Nodes, Roles, Rules, Changes}

abbrev pub which_text : Which → List ℕ
which_text Nodes = codes "nodes"
which_text Roles = codes "roles"
which_text Rules = codes "rules"
which_text Changes = codes "changes"

-- the rule that a refusal is about, by its number
abbrev pub where_text : Where → List ℕ
where_text place.Program = []
where_text (place.Rule n) = codes "rule " ++ decimal n ++ codes ": "

-- `#`, the epoch, `.`, the place
abbrev pub place_text : Index → List ℕ
place_text i = codes "#" ++ decimal i.epoch ++ codes "." ++ decimal i.place

abbrev pub refusal_text : Refusal → List ℕ
refusal_text (refusal.TooMany which) = codes "too many " ++ which_text which
refusal_text (refusal.UnknownRole at r) = where_text at ++ (codes "unknown role " ++ r.0)
refusal_text (refusal.SelfMessage at i) = where_text at ++ (codes "self message " ++ place_text i)
refusal_text (refusal.Unlinked at i j r) =
    where_text at ++ codes "unlinked " ++ place_text i ++ codes " then " ++ place_text j
    ++ codes ": " ++ r.0
refusal_text (refusal.BodyTooBig n) = where_text (place.Rule n) ++ codes "body too big"
refusal_text refusal.Memory = codes "out of memory"
