-- A question about the part that does an act is answered by that part.
use Rattle.std.proofs.Common.{◌≡◌, List, [], ◌∷◌, true, false, Option, refl, ap, ◌∙◌, sym}
use Rattle.std.proofs.lemmas.Bool.{cond-true, cond-false}
use Rattle.dioc_terms.specs.declared.names.Role.{Role}
use Rattle.dioc_terms.specs.declared.entries.Act.{Act}
use Rattle.dioc_terms.specs.Processes.{Process, Seq}
use Rattle.process_steps.specs.Steps.{is_offered, offers}
use Rattle.role_statuses.specs.Asking.{AsksActing}
use Rattle.role_statuses.specs.Paths.{Hole, InFirst, InSecond, InLeft, InRight, InLeadBranch, InFollowBranch, InLeadTurn, InFollowTurn, InLeadScope, InFollowScope, IsActing, IsQuiet, IsStarting, left_of, static_of, status_of, top_static, top_status}
use Rattle.role_statuses.specs.Statuses.{Status, Untouched, is_over, leaves, read}
use Rattle.role_statuses.proofs.PathLemmas.{goes_on, offered-hole, offered-start}
use Rattle.role_statuses.proofs.ReadLemmas.{leaves-reads}

module _ (me : Role) (a : Act) (F : Process → Option Process) (asks : AsksActing me a F) where
  -- a sequence whose first part runs
  asks_next : (P Q : Process) (x : Status) → is_over me x P ≡ false → F (Seq (read me x P) Q) ≡ F (read me x P)
  asks_next P Q x h = asks.of_seq (read me x P) Q ∙ cond-false _ _ _ (goes_on me P x h)

  asks-hole : (h : Hole) (P : Process) (x : Status) → is_over me x P ≡ false → is_offered a (left_of me h) ≡ false → is_offered a (leaves me x P) ≡ true
      → F (read me (status_of h P x) (static_of h P)) ≡ F (read me x P)
  asks-hole (InFirst Q) P x h gone offered = asks_next P Q x h
  asks-hole (InSecond R) P x h gone offered = refl
  asks-hole (InLeft y Q) P x h gone offered = asks.of_par (read me x P) (read me y Q) ∙ cond-true _ _ _ (ap (is_offered a) (sym (leaves-reads me x P)) ∙ offered)
  asks-hole (InRight y R) P x h gone offered = asks.of_par (read me y R) (read me x P) ∙ cond-false _ _ _ (ap (is_offered a) (sym (leaves-reads me y R)) ∙ gone)
  asks-hole (InLeadBranch true i g others Q) P x h gone offered = refl
  asks-hole (InLeadBranch false i g others Q) P x h gone offered = refl
  asks-hole (InFollowBranch true i leader Q) P x h gone offered = refl
  asks-hole (InFollowBranch false i leader Q) P x h gone offered = refl
  asks-hole (InLeadTurn i g others) P x h gone offered = asks_next P _ x h
  asks-hole (InFollowTurn i leader) P x h gone offered = asks_next P _ x h
  asks-hole (InLeadScope head others) P x h gone offered = asks_next P _ x h
  asks-hole (InFollowScope i leader) P x h gone offered = asks_next P _ x h

  -- of a part that runs
  pub asks-path : (hs : List Hole) (P : Process) (x : Status) → is_offered a (leaves me x P) ≡ true → IsActing me a hs P x
      → F (read me (top_status hs P x) (top_static hs P)) ≡ F (read me x P)
  asks-path [] P x offered acts = refl
  asks-path (h ∷ hs) P x offered acts =
      asks-path hs (static_of h P) (status_of h P x) (offered-hole me a h P x acts.0 offered) acts.2
      ∙ asks-hole h P x acts.0 acts.1 offered

  start_asks : (h : Hole) (P : Process) → IsQuiet a h P → is_offered a (left_of me h) ≡ false → is_offered a (offers me P) ≡ true
      → F (static_of h P) ≡ F P
  start_asks (InFirst Q) P quiet gone offered = asks.of_seq P Q ∙ cond-false _ _ _ quiet
  start_asks (InSecond R) P quiet gone offered = asks.of_seq R P ∙ cond-true _ _ _ quiet
  start_asks (InLeft Untouched Q) P quiet gone offered = asks.of_par P Q ∙ cond-true _ _ _ offered
  start_asks (InRight Untouched R) P quiet gone offered = asks.of_par R P ∙ cond-false _ _ _ gone
  start_asks h P quiet gone offered = absurd quiet

  -- and of one that acts first
  pub asks-start : (qs : List Hole) (P : Process) → is_offered a (offers me P) ≡ true → IsStarting me a qs P
      → F (top_static qs P) ≡ F P
  asks-start [] P offered starts = refl
  asks-start (h ∷ qs) P offered starts =
      asks-start qs (static_of h P) (offered-start me a h P starts.0 offered) starts.2
      ∙ start_asks h P starts.0 starts.1 offered
