-- What a seat that was refused keeps of the hold.
use Rattle.std.proofs.Common.{[], ◌++◌, Option, refl, sym, ap, ◌∙◌, append-nil}
use Rattle.std.proofs.lemmas.List.{append_assoc}
use Rattle.dioc_terms.specs.declared.entries.Entry.{Entry}
use Rattle.role_runner.specs.Ties.{LeftFor, RefusedIn, WentOn}
use Rattle.stage.specs.declared.faults.CommitFault.{CommitFault}
use Rattle.stage.specs.Homes.{HomeState}
use Rattle.stage.specs.Owners.{owner_in}
use Rattle.stage.specs.Seats.{Base, HasMet, LookedOn, RefusedFor}
use Rattle.turn_lock.specs.declared.views.View.{View}
use Rattle.turn_lock.specs.Items.{items_of}

-- a seat that has only looked on, from where it is
pub looked_nowhere : (v : View Entry Base) → HasMet v → LookedOn v v
looked_nowhere v met = record {
  same_base = refl;
  same_number = refl;
  same_made = refl;
  same_mine = refl;
  still = record { begins = ([], sym (append-nil v.seen)); own = met; stands = λ base q P s sits stands. stands };
}

-- and twice
pub looked_through : (u v w : View Entry Base) → LookedOn u v → LookedOn v w → LookedOn u w
looked_through u v w first then = record {
  same_base = then.same_base ∙ first.same_base;
  same_number = then.same_number ∙ first.same_number;
  same_made = then.same_made ∙ first.same_made;
  same_mine = then.same_mine ∙ first.same_mine;
  still = record {
    begins = (
      (first.still).begins.0 ++ (then.still).begins.0,
      (then.still).begins.1 ∙ ap (λ seen. seen ++ (then.still).begins.0) (first.still).begins.1 ∙ append_assoc u.seen (first.still).begins.0 (then.still).begins.0,
    );
    own = λ base is.
        ap (λ n. items_of (owner_in base.0.cast) n w.seen) (sym first.same_number) ∙ (then.still).own base (first.same_base ∙ is) ∙ first.same_mine;
    stands = λ base q P s sits at.
        (then.still).stands base q P s (first.same_base ∙ sits.0, first.same_number ∙ sits.1) ((first.still).stands base q P s sits at);
  };
}

module _ (fault_of : HomeState → Option CommitFault) (u v w : View Entry Base) (f : CommitFault) where
  -- a refusal at the end of a turn so far
  pub refused_here : LookedOn u v → HasMet w → RefusedFor fault_of v w f → RefusedIn fault_of u w f
  refused_here came met refused = record { before = v; after = w; came = came; refused = refused; left = looked_nowhere w met }

  -- a refusal, seen from where the seat had looked on before
  pub refused_from : LookedOn u v → RefusedIn fault_of v w f → RefusedIn fault_of u w f
  refused_from looked was = record {
    before = was.before;
    after = was.after;
    came = looked_through u v was.before looked was.came;
    refused = was.refused;
    left = was.left;
  }

  -- the refusal for which a seat left
  pub left_here : WentOn u v → HasMet w → RefusedFor fault_of v w f → LeftFor fault_of u w f
  left_here came met refused = record { before = v; after = w; came = came; refused = refused; left = looked_nowhere w met }

  pub left_looked : (x : View Entry Base) → WentOn u v → RefusedFor fault_of v w f → LookedOn w x → LeftFor fault_of u x f
  left_looked x came refused then = record { before = v; after = w; came = came; refused = refused; left = then }
