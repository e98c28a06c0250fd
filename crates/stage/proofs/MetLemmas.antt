-- The entries of a seat's number in what it has seen are its own, after each call.
use Rattle.std.proofs.Common.{◌≡◌, Option, sym, ap, ◌∙◌, subst}
use Rattle.dioc_terms.specs.declared.entries.Entry.{Entry}
use Rattle.marked_laws.proofs.Shapes.{some_same}
use Rattle.turn_lock.specs.declared.views.View.{View}
use Rattle.turn_lock.specs.Items.{items_of}
use Rattle.turn_lock.specs.Views.{number, mine}
use Rattle.stage.specs.declared.faults.CommitFault.{CommitFault}
use Rattle.stage.specs.Homes.{HomeState}
use Rattle.stage.specs.Owners.{owner_in}
use Rattle.stage.specs.Seats.{Base, Added, HasMet, LookedOn}

-- where the seat has looked on
pub looked_met : (v w : View Entry Base) → LookedOn v w → HasMet w
looked_met v w looked = λ base is.
    ap (λ n. items_of (owner_in base.0.cast) n w.seen) looked.same_number
    ∙ looked.still.own base (sym looked.same_base ∙ is) ∙ sym looked.same_mine

-- where it has added an entry
pub added_met : (fault_of : HomeState → Option CommitFault) (v w : View Entry Base) (e : Entry) → Added fault_of v w e → HasMet w
added_met fault_of v w e added = λ base is.
    subst (λ (b : Base). items_of (owner_in b.0.cast) (number w) w.seen ≡ mine w) (some_same (sym added.found.base ∙ sym added.same_base ∙ is)) added.own
