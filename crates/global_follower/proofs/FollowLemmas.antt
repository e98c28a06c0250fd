-- One step of a play, from what the running term does.
use Rattle.std.proofs.Common.{◌≡◌, ℕ, suc, ◌+◌, Bool, true, false, ◌&&◌, Some, None, slice_get, nat_le, refl, sym, ap, ap₂, subst}
use Rattle.dioc_terms.specs.declared.names.Role.{Role}
use Rattle.dioc_terms.specs.declared.entries.Entry.{Entry}
use Rattle.dioc_terms.specs.declared.bundles.Timed.{Timed}
use Rattle.dioc_terms.specs.Attempts.{Attempt, Stuck, Does}
use Rattle.dioc_terms.specs.Plain.{PlainBundle, Setting}
use Rattle.dioc_terms.specs.Rules.{Book, apply, opening_book}
use Rattle.dioc_terms.specs.Stores.{Store}
use Rattle.dioc_terms.specs.Terms as term
use Rattle.dioc_terms.specs.Terms.{Term, constructs, indexed, indexed_from, stamped}
use Rattle.global_follower.proofs.PutLemmas.{put_effect}
use Rattle.global_follower.specs.KeptEffects.{is_put}
use Rattle.global_steps.specs.Follow.{Effect, Leaves, State, affected, book_choice, follow_change, follow_role, opening_store, play_start, plays, shows, updated, updates_after}
use Rattle.global_steps.specs.Running.{Running, started}

module _ (b : Setting) (S : State) (r : Role) (e : Entry) where
  -- how the running term plays the entry with these stores
  abbrev pub played_with : (Role → Store) → Attempt Effect Running
  played_with stores =
      plays b.cast stores (λ head. book_choice b.rules S.book head (stores head.leader)) S.updates
      S.running e

  pub role_stray : (stores : Role → Store) → stores ≡ S.stores → Stuck ≡ played_with stores
      → follow_role b S r e ≡ None
  role_stray stores same is =
      let stuck : Stuck ≡ played_with S.stores =
      subst (λ (s : Role → Store). Stuck ≡ played_with s) same is in
      rw (← stuck) refl

  pub role_played : (stores new : Role → Store) (effect : Effect) (G : Running)
      (updates entries : ℕ) → stores ≡ S.stores → Does effect G ≡ played_with stores
      → new ≡ updated r (affected effect (stores r)) stores → updates ≡ updates_after e S.updates
      → entries ≡ suc S.entries
      → follow_role b S r e
      ≡ Some (record {
        running = G;
        stores = new;
        book = S.book;
        updates = updates;
        changes = S.changes;
        entries = entries;
      })
  role_played stores new effect G updates entries same is becomes more one_more =
      let does : Does effect G ≡ played_with S.stores =
      subst (λ (s : Role → Store). Does effect G ≡ played_with s) same is in
      rw (← does, becomes, more, one_more, same) refl

  -- a put leaves the store of its role as it is
  pub put_played : (stores : Role → Store) (effect : Effect) (G : Running)
      → Does effect G ≡ played_with stores → is_put e ≡ true → effect ≡ Leaves
  put_played stores effect G does put =
      put_effect b.cast stores (λ head. book_choice b.rules S.book head (stores head.leader))
      S.updates e S.running G effect does put

module _ (b : Setting) (S : State) (e : Entry) (timed : Timed) where
  abbrev pub may_be_made : Bool
  may_be_made = shows b.rules e timed.change && nat_le timed.after S.entries

  pub change_stray : slice_get b.script S.changes ≡ Some timed → may_be_made ≡ false
      → follow_change b S e ≡ None
  change_stray at not_so = rw (at, not_so) refl

  pub change_made : (book : Book) (changes entries : ℕ)
      → slice_get b.script S.changes ≡ Some timed → may_be_made ≡ true
      → book ≡ apply b.rules S.book timed.change → changes ≡ suc S.changes
      → entries ≡ suc S.entries
      → follow_change b S e
      ≡ Some (record {
        running = S.running;
        stores = S.stores;
        book = book;
        updates = S.updates;
        changes = changes;
        entries = entries;
      })
  change_made book changes entries at is_so applied one_change one_entry =
      rw (at, is_so, applied, one_change, one_entry) refl

-- marks of the program's own text change nothing
marked_before : (n : ℕ) (I : Term) → stamped (indexed_from n I) 0 0 ≡ indexed_from n I
marked_before n term.Skip = refl
marked_before n (term.Com i o a e b x) = refl
marked_before n (term.Set i x r e) = refl
marked_before n (term.Input i x r) = refl
marked_before n (term.Seq I K) =
    ap₂ term.Seq (marked_before n I) (marked_before (n + constructs I) K)
marked_before n (term.Par I K) =
    ap₂ term.Par (marked_before n I) (marked_before (n + constructs I) K)
marked_before n (term.If i r g I K) =
    ap₂ (term.If (record { epoch = 0; place = n }) r g) (marked_before (suc n) I)
    (marked_before (suc n + constructs I) K)
marked_before n (term.While i r g I) =
    ap (term.While (record { epoch = 0; place = n }) r g) (marked_before (suc n) I)
marked_before n (term.Scope i r I extra props level) =
    ap (λ (J : Term). term.Scope (record { epoch = 0; place = n }) r J extra props 0)
    (marked_before (suc n) I)

pub own_text : (I : Term) → I ≡ indexed I → stamped I 0 0 ≡ I
own_text I marked =
    let own : stamped (indexed I) 0 0 ≡ indexed I = marked_before 0 I in
    subst (λ (K : Term). stamped K 0 0 ≡ K) (sym marked) own

-- the start of a play, by its parts
pub started_play : (b : PlainBundle) (I : Term) (stores : Role → Store) (book : Book)
    → I ≡ b.choreo → stores ≡ opening_store b → book ≡ opening_book b.rules b.opening b.env
    → ◌≡◌ {A = State} (record {
      running = started I;
      stores = stores;
      book = book;
      updates = 0;
      changes = 0;
      entries = 0;
    })
    (play_start b)
started_play b I stores book one two three = rw (one, two, three) refl
