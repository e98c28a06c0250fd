-- The holds in which a scope is begun, a change is made or a mark is set.
use Rattle.std.proofs.Common.{◌≡◌, ℕ, List, [], ◌∷◌, ◌++◌, length, Option, Some, None, refl, sym, ap, ◌∙◌, subst, arith, length-append, append-nil}
use Rattle.std.specs.Option.{option_map_or}
use Rattle.dioc_terms.specs.declared.entries.Act.TheVariants as act
use Rattle.dioc_terms.specs.declared.entries.Entry.{Entry}
use Rattle.dioc_terms.specs.declared.entries.Entry.TheVariants as entry
use Rattle.dioc_terms.specs.declared.names.Role.{Role}
use Rattle.dioc_terms.specs.declared.processes.ScopeHead.{ScopeHead}
use Rattle.dioc_terms.specs.Stores.{Store}
use Rattle.global_steps.specs.Follow.{book_choice}
use Rattle.marked_laws.proofs.Shapes.{some_same}
use Rattle.network_steps.specs.Network.{Network, decision}
use Rattle.process_steps.specs.Laws.{OffersAreSteps}
use Rattle.process_steps.specs.Steps.{Deed, Chooses, Decision, FromBook, entry_of}
use Rattle.net_core.proofs.NetLemmas.{network_is}
use Rattle.net_core.specs.Scopes.{chosen_by}
use Rattle.turn_lock.specs.declared.views.View.{View}
use Rattle.turn_lock.specs.Items.{items_of}
use Rattle.turn_lock.specs.Views.{number, mine, entered, left_with}
use Rattle.stage.proofs.BeginLemmas.{can_lead, shows_decision}
use Rattle.stage.proofs.FeederLemmas.{next_nobodys}
use Rattle.stage.proofs.HoldLemmas.{Grown, Leaves, left_grown, own_grown}
use Rattle.stage.proofs.SeatLemmas.{added_one, committed_here}
use Rattle.stage.specs.Begins.{CanBegin, begin_in, network_in, scope_entry, update_in}
use Rattle.stage.specs.Changes.{next_entry}
use Rattle.stage.specs.Faults.{feeder_fault, role_fault}
use Rattle.stage.specs.Holds.{CanCommitScope, CommittedChange, CommittedScope, HasFinished, IsFeeder, SawLimit}
use Rattle.stage.specs.Homes.{HasEnded, HomeState, IsCut, IsSoundHome, with_entry}
use Rattle.stage.specs.Laws.{DeedsMove}
use Rattle.stage.specs.Owners.{cast_place, owner_in}
use Rattle.stage.specs.Seats.{Base, StillStands}

module _ (v : View Entry Base) (home : HomeState) (base : v.base ≡ Some (home.bundle, home.limit)) (still : StillStands v home.history) where
  -- a leader that could begin its scope can begin it still
  pub begin_now : (head : ScopeHead) (s : Store) → CanCommitScope v head s → CanBegin home.bundle home.history head s
  begin_now head s can =
      let here = can (home.bundle, home.limit) base in
      record {
        process = here.1.process;
        stands = still.stands (home.bundle, home.limit) head.leader here.1.process s (base, here.0) here.1.stands;
        lead = here.1.lead;
        leads = here.1.leads;
        same = here.1.same;
      }

  -- a role that has ended has ended still
  pub ended_now : (q : Role) → HasFinished v q → HasEnded home.bundle home.history q
  ended_now q done =
      let here = done (home.bundle, home.limit) base in
      record {
        process = here.1.process;
        store = here.1.store;
        stands = still.stands (home.bundle, home.limit) q here.1.process here.1.store (base, here.0) here.1.stands;
        done = here.1.done;
      }

  nothing_more : (rest : List Entry) → length rest ≡ 0 → rest ≡ []
  nothing_more [] h = refl
  nothing_more (e ∷ es) h = absurd (omega (arith, h))

  -- a history that was cut where the seat looked is what is found
  pub cut_now : IsSoundHome home → SawLimit v → IsCut home.bundle home.limit home.history
  cut_now sound saw =
      let cut = saw (home.bundle, home.limit) base in
      let rest = still.begins.0 in
      let none : length rest ≡ 0 = omega (arith, sound.within, cut.full, ap length still.begins.1, length-append v.seen rest) in
      subst (IsCut home.bundle home.limit)
      (sym (still.begins.1 ∙ ap (λ r. v.seen ++ r) (nothing_more rest none) ∙ append-nil v.seen)) cut

  module _ (u w : View Entry Base) (next : HomeState) (sound : IsSoundHome home) (after : IsSoundHome next) where
    -- what the script's next change leaves its seat
    pub did_change : feeder_fault home ≡ None → (e : Entry) → next_entry home ≡ Some e → Grown v u home next e
        → Leaves u w next → CommittedChange v w
    did_change free e is grown leaves = subst (λ x. CommittedChange v x) (sym (left_grown v u w home next e grown leaves)) (record {
      entry = e;
      added = added_one v home base still feeder_fault sound e free (subst IsSoundHome grown.added after) (own_grown v u w home next e grown leaves);
      next = is;
    })

    -- what the begin of a scope leaves its seat
    pub did_begin : OffersAreSteps → DeedsMove → role_fault home ≡ None → (head : ScopeHead) (s : Store) → CanCommitScope v head s → (update : Option (ℕ × ℕ)) → update ≡ update_in home head s
        → Grown v u home next (begin_in home head s) → Leaves u w next → CommittedScope v w head s update
    did_begin offers law free head s can update chosen grown leaves =
        subst (λ x. CommittedScope v x head s update) (sym is) (record {
          given = FromBook decide;
          deed = deed;
          done = committed_here v home base still head.leader (act.Scope head.index) (FromBook decide) deed role_fault law sound
              (can_lead offers home.bundle home.history head s there decide) refl refl refl free
              (subst IsSoundHome (grown.added ∙ ap (with_entry home) shown) after)
              (subst (λ e. items_of (owner_in home.bundle.cast) (number v) (home.history ++ e ∷ []) ≡ mine v ++ e ∷ []) shown (own_grown v u w home next (begin_in home head s) grown leaves));
          chosen = chosen;
          shows = sym shown;
        })
      where
        there : CanBegin home.bundle home.history head s
        there = begin_now head s can

        decide : ScopeHead → Decision
        decide h = decision home.bundle.cast sound.network.updates h (book_choice home.bundle.rules sound.network.book h (sound.network.stores head.leader))

        deed : Deed
        deed = Chooses head.index head.leader (chosen_by (decide head))

        same : network_in home ≡ sound.network
        same = network_is home.bundle home.history sound.network sound.runs

        store : s ≡ sound.network.stores head.leader
        store = sym there.stands.store ∙ ap (λ (M : Network). M.stores head.leader) (some_same (sym there.stands.runs ∙ sound.runs))

        shown : begin_in home head s ≡ entry_of deed
        shown = (λ i. scope_entry home.bundle.rules (same i).book (same i).updates head (store i))
            ∙ ap (entry.Scope head.index head.leader)
            (shows_decision home.bundle.cast sound.network.updates head (book_choice home.bundle.rules sound.network.book head (sound.network.stores head.leader)))

        is : w ≡ left_with (entered v home.history) (entry_of deed ∷ [])
        is = left_grown v u w home next (begin_in home head s) grown leaves ∙ ap (λ e. left_with (entered v home.history) (e ∷ [])) shown

-- the seat of the head's leader owns the begin of its scope
pub owns_begin : (v : View Entry Base) (home : HomeState) (head : ScopeHead) (s : Store) → v.base ≡ Some (home.bundle, home.limit) → CanCommitScope v head s
    → owner_in home.bundle.cast (begin_in home head s) ≡ number v
owns_begin v home head s base can = sym (can (home.bundle, home.limit) base).0

-- the feeder's seat owns each change
pub owns_change : (v : View Entry Base) (home : HomeState) (e : Entry) → v.base ≡ Some (home.bundle, home.limit) → IsFeeder v → next_entry home ≡ Some e → owner_in home.bundle.cast e ≡ number v
owns_change v home e base feeds is =
    ap (λ o. option_map_or (cast_place home.bundle.cast) o (length home.bundle.cast)) (next_nobodys home e is) ∙ sym (feeds (home.bundle, home.limit) base)
