-- What the check keeps of a part of a choreography: its first index, how each role of the cast
-- takes part in it, and its first gap.
use Rattle.std.specs.Prelude.{◌≡◌, List, map, Bool, ◌&&◌, ◌||◌, not, if◌then◌else◌, Option, Some, None, slice_get}
use Rattle.dioc_terms.specs.declared.names.Role.{Role}
use Rattle.dioc_terms.specs.Terms.{Term, is_in}
use Rattle.connectedness.specs.ByCases.{begins, attends_ends}
use Rattle.connectedness.specs.Connected.{Gap, first_index, first_gap}
use Rattle.connectedness.specs.declared.summaries.FoundGap.{FoundGap}
use Rattle.connectedness.specs.declared.summaries.Presence.{Presence}
use Rattle.connectedness.specs.declared.summaries.Summary.{Summary}

-- how the role takes part in the term
abbrev pub presence_in : Term → Role → Presence
presence_in I q = record { starts = begins q I; attends = attends_ends q I; named = is_in q I }

-- in a message, by whether the role sends or receives it; a step of one role counts as a message to
-- itself
abbrev pub in_act : Bool → Bool → Presence
in_act sends receives =
    record { starts = sends; attends = sends || receives; named = sends || receives }

-- in two parts one after the other, from that in each, where the first or the second may be empty
abbrev pub in_sequence : Bool → Bool → Presence → Presence → Presence
in_sequence no_first no_second x y = record {
  starts = if no_first then y.starts else x.starts;
  attends = if no_second then x.attends else y.attends;
  named = x.named || y.named;
}

-- in two parts side by side
abbrev pub in_parallel : Presence → Presence → Presence
in_parallel x y =
    record {
      starts = x.starts || y.starts;
      attends = x.attends && y.attends;
      named = x.named
          || y.named;
    }

-- in a choice, from that in its two branches side by side, where one of them may be empty
abbrev pub in_choice : Bool → Bool → Presence → Presence
in_choice one_empty leads both = record {
  starts = leads;
  attends = both.attends && (leads || both.named || not one_empty);
  named = leads || both.named;
}

-- in a loop or a scope, from that in its body, where the scope may name the role further; all its
-- roles are one group
abbrev pub in_block : Bool → Bool → Presence → Presence
in_block leads named_further body = record {
  starts = leads;
  attends = leads || body.named || named_further;
  named = leads || body.named || named_further;
}

-- a gap, kept with the number of its role in the cast
abbrev pub IsGapOf : List Role → Option FoundGap → Option Gap → Type 0
IsGapOf cast None None = Unit {0}
IsGapOf cast (Some found) (Some gap) =
    (found.first ≡ gap.first) × (found.second ≡ gap.second)
    × (slice_get cast found.role ≡ Some gap.role)
IsGapOf cast None (Some gap) = ⊥
IsGapOf cast (Some found) None = ⊥

-- what the check keeps of the term
pub record IsSummary (cast : List Role) (I : Term) (summary : Summary) : Type 0 where
  pub first : summary.first ≡ first_index I
  pub roles : summary.roles.items ≡ map (presence_in I) cast
  pub gap : IsGapOf cast summary.gap (first_gap cast I)
