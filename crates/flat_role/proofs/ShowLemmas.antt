-- What is shown and kept of an act that needs nothing of the store.
use Rattle.std.proofs.Common.{◌≡◌, ◌∷◌, Bool, false, Option, None, Some, refl, sym, ap, ◌∙◌, subst}
use Rattle.std.specs.Prelude.{option_map}
use Rattle.dioc_terms.specs.declared.names.Role.{Role}
use Rattle.dioc_terms.specs.declared.entries.Act.{Act}
use Rattle.dioc_terms.specs.declared.entries.Entry.{Entry}
use Rattle.dioc_terms.specs.declared.values.Value.{Value}
use Rattle.dioc_terms.specs.Processes.{Load, More, Process, Send, Recv, Assign, Read, IfLead, IfFollow, WhileLead, WhileFollow, ScopeFollow, Tell, Gather}
use Rattle.dioc_terms.specs.Stores.{Store}
use Rattle.dioc_terms.specs.Values.{is_true}
use Rattle.dpoc_process.specs.Acting.{lead_head, lead_of}
use Rattle.dpoc_process.specs.Growth.{Nothing, entry_at, load_at, value_at, write_at}
use Rattle.dpoc_process.specs.Shows.{boxed_head, message_shown, put_message}
use Rattle.flat_role.specs.Leaves.{process_brought}
use Rattle.dpoc_process.proofs.StateLemmas.{noted-whole}
use Rattle.dpoc_process.specs.declared.runs.Shown.{Shown}
use Rattle.flat_role.specs.declared.leaves.Next.{Next}
use Rattle.flat_role.specs.declared.steps.Own.{Own}
use Rattle.flat_role.specs.ReadySteps.{IsIdle, IsKeptOwn, IsNextOf, IsShownBy}
use Rattle.flat_role.specs.Replacing.{IsRoomWhen}

-- this part writes nothing, picks nothing and has no room for another process
pub record IsPlain (me : Role) (s : Store) (fresh : Bool) (R : Process) : Type 0 where
  pub write : write_at (value_at s R) R ≡ Nothing
  pub pick : is_true (value_at s R) ≡ false
  pub room : IsRoomWhen fresh me R None

-- what a part sends is in its entry, but for a process
pub entry-shows : (me : Role) (v : Value) (R : Process) → put_message (entry_at me v R) (process_brought R) ≡ load_at v R
entry-shows me v (Send i o b e) = refl
entry-shows me v (Recv i o a x) = refl
entry-shows me v (Assign i x e) = refl
entry-shows me v (Read i x) = refl
entry-shows me v (IfLead i g others P Q) = refl
entry-shows me v (IfFollow i leader P Q) = refl
entry-shows me v (WhileLead i g others P) = refl
entry-shows me v (WhileFollow i leader P) = refl
entry-shows me v (ScopeFollow i leader P) = refl
entry-shows me v (Tell (More k l ms)) = ap Some (noted-whole l)
entry-shows me v (Gather (k ∷ ks)) = refl
entry-shows me v _ = refl

module _ (me : Role) (s : Store) (a : Act) (P : Process) (fresh : Bool) (n : Next) (is : IsNextOf me a P fresh n) where
  pub kept-idle : (held : Option Own) → IsPlain me s fresh is.part → IsIdle held → IsKeptOwn me s a P fresh held
  kept-idle held plain idle = record {
    own = idle.own;
    is = idle.is;
    made = record {
      part = is.part;
      acts = is.acts;
      made = record { write = idle.write ∙ sym plain.write; pick = idle.pick ∙ sym plain.pick };
      room = subst (IsRoomWhen fresh me is.part) (sym idle.room) plain.room;
    };
  }

  pub shown-so : (p : Shown) (e : Option Entry) (l : Option Load) → p.entry ≡ e → p.head ≡ None → message_shown p ≡ l
      → e ≡ entry_at me (value_at s is.part) is.part → None ≡ option_map lead_head (lead_of is.part) → l ≡ load_at (value_at s is.part) is.part
      → IsShownBy me s a P p
  shown-so p e l entry head message entry_is head_is load_is = record {
    part = is.part;
    acts = is.acts;
    shown = record { head = ap boxed_head head ∙ head_is; entry = entry ∙ entry_is; message = message ∙ load_is };
  }
