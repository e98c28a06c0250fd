-- What a home is started with stands for the network before its first step.
use Rattle.std.proofs.Common.{◌≡◌, ◌≤◌, ℕ, List, [], ◌∷◌, length, map, Bool, true, false, Option, Some, None, slice_get, refl, sym, ap, ◌∙◌, subst, arith}
use Rattle.std.specs.Prelude.{option_map}
use Rattle.std.specs.Map.{lookup}
use Rattle.dioc_terms.specs.Equality.{key_eq}
use Rattle.std.proofs.lemmas.List.{length-map}
use Rattle.std.proofs.lemmas.Option.{slice_get-map}
use Rattle.dioc_terms.specs.declared.bundles.Rule.{Rule}
use Rattle.dioc_terms.specs.declared.bundles.Timed.{Timed}
use Rattle.dioc_terms.specs.declared.entries.Entry.{Entry}
use Rattle.dioc_terms.specs.declared.names.Role.{Role}
use Rattle.dioc_terms.specs.Plain.{PlainBundle, plain_rule}
use Rattle.dioc_terms.specs.Rules.{opening_book}
use Rattle.marked_laws.specs.Laws.{IsSound}
use Rattle.network_steps.specs.Network.{network_start}
use Rattle.role_mailbox.specs.declared.mail.Mail.{Mail}
use Rattle.role_mailbox.specs.Pending.{messages}
use Rattle.net_core.proofs.StartLemmas.{stands_started}
use Rattle.net_core.specs.Standing.{ScriptedChange, Parts, HoldsRun, body_of, due_of, local_in}
use Rattle.rule_book.specs.declared.book.Book.{Book as KeptBook}
use Rattle.rule_book.specs.KeptBooks.{book_of, coming, IsBookOf}
use Rattle.stage.proofs.PromptRuns.{prompt_none}
use Rattle.stage.specs.Homes.{IsHome, IsSharedAfter, MarksHold, names_of}

no_mark : (o : Option Role) (q : Role) → o ≡ Some q → option_map (λ (r : Role). false) o ≡ Some true → ⊥
no_mark None q at h = cc
no_mark (Some r) q at h = cc

some_none : {A : Type 0} {x : A} → None ≡ Some x → ⊥
some_none h = cc

pub marks_started : (b : PlainBundle) (limit : ℕ) (finished : List Bool) → finished ≡ map (λ (q : Role). false) b.cast → MarksHold b limit [] finished None
marks_started b limit finished same = record {
  marks = ap length same ∙ length-map b.cast (λ (q : Role). false);
  finish = λ i q at mark. absurd (no_mark (slice_get b.cast i) q at (sym (slice_get-map (λ (r : Role). false) b.cast i) ∙ ap (λ l. slice_get l i) (sym same) ∙ mark));
  stop = λ cut. absurd (some_none cut);
}

pub names_started : (rules : List Rule) → map (λ (rule : Rule). rule.name) rules ≡ names_of (map plain_rule rules)
names_started [] = refl
names_started (rule ∷ rest) = ap (λ (l : List (List ℕ)). rule.name ∷ l) (names_started rest)

pub shared_started : (b : PlainBundle) (limit : ℕ) (mail : Mail) (book : KeptBook) (script : List ScriptedChange) → IsSound b → limit ≤ 4294967295 → messages mail ≡ []
    → book_of book ≡ opening_book b.rules b.opening b.env → IsBookOf b.rules book → coming book ≡ map (λ (timed : Timed). timed.change) b.script
    → script ≡ map (due_of b.rules) b.script → IsSharedAfter b limit [] mail book script 0
shared_started b limit mail book script sound small none opened of next all =
    let parts : Parts = record { cast = b.cast; locals = map (local_in (network_start b)) b.cast; mail = mail; book = book; bodies = map body_of b.rules; coming = script; updates = 0; history = [] } in
    let stands : HoldsRun b limit parts = stands_started b limit parts sound refl refl none opened of next refl all refl refl in
    record {
      sound = sound;
      network = network_start b;
      runs = refl;
      within = omega arith;
      small = small;
      prompt = prompt_none b;
      pending = λ k. ap (λ l. lookup (key_eq k) l) none;
      opened = opened;
      of = of;
      next = stands.next;
      rest = all;
      changes = refl;
      visible = refl;
      updates = refl;
      few = omega arith;
    }

pub home_started : (of : PlainBundle) (limit : ℕ) (H : List Entry) (cast : List Role) (names : List (List ℕ)) (mail : Mail) (book : KeptBook) (script : List ScriptedChange) (finished : List Bool)
    → IsSound of → limit ≤ 4294967295 → H ≡ [] → cast ≡ of.cast → names ≡ names_of of.rules → messages mail ≡ []
    → book_of book ≡ opening_book of.rules of.opening of.env → IsBookOf of.rules book → coming book ≡ map (λ (timed : Timed). timed.change) of.script
    → script ≡ map (due_of of.rules) of.script → finished ≡ map (λ (q : Role). false) of.cast
    → IsHome of limit H cast names mail book script 0 finished None
home_started of limit H cast names mail book script finished sound small empty same_cast same_names none opened book_is next all unmarked =
    subst (λ h. IsHome of limit h cast names mail book script 0 finished None) (sym empty) (record {
      shared = shared_started of limit mail book script sound small none opened book_is next all;
      same_cast = same_cast;
      same_names = same_names;
      marks = marks_started of limit finished unmarked;
    })
