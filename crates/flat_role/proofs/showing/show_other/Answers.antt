-- What is next stands for the part that acts, so what is made ready and shown of it is that of the
-- part.
use Rattle.std.proofs.Common.{◌≡◌, Bool, refl, ap₂, ◌∙◌, subst}
use Rattle.dioc_terms.specs.declared.values.Value.{Value}
use Rattle.dioc_terms.specs.KeptStores.{store_of}
use Rattle.dpoc_process.specs.Growth.{value_at}
use Rattle.dpoc_process.specs.declared.runs.Shown.{Shown}
use Rattle.dpoc_process.specs.KeptReady.{IsShownFor}
use Rattle.dpoc_process.specs.Shows.{put_message}
use Rattle.flat_role.specs.Replacing.{IsRoomWhen}
use Rattle.flat_role.proofs.ShowLemmas.{entry-shows}
use Rattle.flat_role.proofs.showing.show_other.Goals as goal

pub returns-clause-own : goal.returns-clause-own
returns-clause-own c = λ a P fresh is.
    let me = c.args.me.now in
    let s = store_of c.args.store.now in
    record {
      own = c.in_ok-own.own;
      is = refl;
      made = record {
        part = is.part;
        acts = is.acts;
        made = c.in_ok-own.ensures.own is.part s (c.in_ok-value.ensures me is.part is.stands)
            is.stands;
        room = subst (λ (b : Bool). IsRoomWhen b me is.part c.in_ok-own.own.room) is.first
            (c.in_ok-own.ensures.room is.part is.stands);
      };
    }

pub returns-clause-shown : goal.returns-clause-shown
returns-clause-shown c = λ a P fresh is.
    let me = c.args.me.now in
    let s = store_of c.args.store.now in
    let value : c.in_ok-value.value ≡ value_at s is.part =
    c.in_ok-value.ensures me is.part is.stands in
    let shown : Shown = record {
      entry = c.in_ok-entry.entry;
      head = c.in_ok-head.head;
      part = c.in_ok-part.part;
    } in
    record {
      part = is.part;
      acts = is.acts;
      shown = subst (λ (v : Value). IsShownFor me v is.part shown) value record {
        head = c.in_ok-head.ensures me is.part is.stands;
        entry = c.in_ok-entry.ensures is.part is.stands;
        message = ap₂ put_message (c.in_ok-entry.ensures is.part is.stands)
            (c.in_ok-part.ensures me is.part is.stands)
            ∙ entry-shows me c.in_ok-value.value is.part;
      };
    }
