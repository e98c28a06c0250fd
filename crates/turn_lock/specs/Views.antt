-- The views of seats: at the start, and after each call.
use Rattle.std.specs.Prelude.{◌≡◌, ℕ, ◌+◌, List, [], ◌∷◌, ◌++◌, true, false, Some, None}
use Rattle.turn_lock.specs.declared.views.Claim.{Claim}
use Rattle.turn_lock.specs.declared.views.View.{View}
use Rattle.turn_lock.specs.declared.views.Known.{Known}
use Rattle.turn_lock.specs.Items.{BeginsWith, Each, claim}

module _ {I : Type 0} where
  abbrev number_in : List (Claim I) → ℕ
  number_in [] = 0
  number_in (c ∷ cs) = c.number

  abbrev mine_in : List (Claim I) → List I
  mine_in [] = []
  mine_in (c ∷ cs) = c.mine

module _ {I B : Type 0} where
  -- the seat's number
  abbrev pub number : View I B → ℕ
  number v = number_in v.claims

  -- the seat's own items
  abbrev pub mine : View I B → List I
  mine v = mine_in v.claims

  -- a view of one seat, and not of several joined
  abbrev pub IsSingle : View I B → Type 0
  IsSingle v = v.claims ≡ claim (number v) (mine v) ∷ []

  -- the list begins with what the seat has seen, and with what each that was joined into it has
  abbrev pub BeginsWithAll : List I → View I B → Type 0
  BeginsWithAll items v = BeginsWith items v.seen × Each (BeginsWith items) v.others_seen

  -- of a new lock's seat
  abbrev pub first_view : B → View I B
  first_view b =
      record {
        base = Some b;
        claims = claim 0 [] ∷ [];
        seen = [];
        holds = false;
        made = 1;
        others_seen = [];
      }

  -- of the seat that has made one more
  abbrev pub split_view : View I B → View I B
  split_view v = record v { made = v.made + 1 }

  -- of the seat that it made
  abbrev pub new_view : View I B → View I B
  new_view v =
      record v { claims = claim v.made [] ∷ []; holds = false; made = 0; others_seen = [] }

  -- of a seat that has the turn, where the list is this
  abbrev pub entered : View I B → List I → View I B
  entered v items = record v { seen = items; holds = true }

  -- of a seat that has left the list as it found it
  abbrev pub left : View I B → View I B
  left v = record v { holds = false }

  -- of a seat that has left, with these items more
  abbrev pub left_with : View I B → List I → View I B
  left_with v more =
      record v {
        claims = claim (number v) (mine v ++ more) ∷ [];
        seen = v.seen ++ more;
        holds = false;
      }

  -- of two seats that were joined into the first
  abbrev pub joined : View I B → View I B → View I B
  joined v w =
      record v {
        claims = v.claims ++ w.claims;
        holds = false;
        others_seen = v.others_seen ++ w.seen ∷ [];
      }

  -- of the second of them
  abbrev pub spent : View I B
  spent =
      record {
        base = None;
        claims = [];
        seen = [];
        holds = false;
        made = 0;
        others_seen = [];
      }

-- The same of what a seat knows, with the mark.
module _ {I B M : Type 0} where
  -- of a new lock's seat, where the value has this mark
  abbrev pub first_known : B → M → Known I B M
  first_known b m = record { view = first_view b; at = Some m; found = Some m; turns = 0 }

  -- of the seat that has made one more
  abbrev pub split_known : Known I B M → Known I B M
  split_known k = record k { view = split_view k.view }

  -- of the seat that it made
  abbrev pub new_known : Known I B M → Known I B M
  new_known k = record k { view = new_view k.view; turns = 0 }

  -- of a seat that has the turn, where the list and the mark are these
  abbrev pub entered_known : Known I B M → List I → M → Known I B M
  entered_known k items m =
      record k { view = entered k.view items; found = Some m; turns = k.turns + 1 }

  -- of a seat that has left the list as it found it, with this mark
  abbrev pub left_known : Known I B M → M → Known I B M
  left_known k m = record k { view = left k.view; at = Some m }

  -- of a seat that has left, with these items more and this mark
  abbrev pub left_with_known : Known I B M → List I → M → Known I B M
  left_with_known k more m = record k { view = left_with k.view more; at = Some m }

  -- of two seats that were joined into the first
  abbrev pub joined_known : Known I B M → Known I B M → Known I B M
  joined_known k l = record k { view = joined k.view l.view }

  -- of the second of them
  abbrev pub spent_known : Known I B M
  spent_known = record { view = spent; at = None; found = None; turns = 0 }
