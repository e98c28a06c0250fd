-- What a status says of its process: whether it has ended, and what it offers.
use Rattle.std.proofs.Common.{◌≡◌, List, [], ◌∷◌, ◌++◌, Bool, true, false, ◌&&◌, if◌then◌else◌, refl, ap, ap₂, sym}
use Rattle.dioc_terms.specs.declared.names.Role.{Role}
use Rattle.dioc_terms.specs.declared.names.Index.{Index}
use Rattle.dioc_terms.specs.declared.entries.Act.TheVariants as act
use Rattle.dioc_terms.specs.declared.processes.Tag.TheVariants.{Turn, End}
use Rattle.dioc_terms.specs.Expressions.{Expression}
use Rattle.dioc_terms.specs.Processes.{Process, Seq, Par, IfLead, IfFollow, WhileLead, WhileFollow, ScopeLead, ScopeFollow, Tell, Gather}
use Rattle.process_steps.specs.Steps.{ended, offers, key}
use Rattle.role_statuses.specs.Statuses.{Status, Untouched, First, Second, Both, Telling, Branch, Body, Gathering, Ending, Left, Waiting, Became, lead_turn, lead_end, is_alone, read, is_over, leaves}

and_false : (x y : Bool) → y ≡ false → (x && y) ≡ false
and_false true y h = h
and_false false y h = refl

turn_goes : (me : Role) (others : List Role) (i : Index) (g : Expression) (P : Process) (all : List Role)
    → ended (lead_turn me others i (WhileLead i g all P)) ≡ false
turn_goes me [] i g P all = refl
turn_goes me (q ∷ qs) i g P all = refl

end_goes : (me : Role) (others : List Role) (i : Index) → ended (lead_end me others i) ≡ is_alone others
end_goes me [] i = refl
end_goes me (q ∷ qs) i = refl

pub over-reads : (me : Role) (x : Status) (P : Process) → is_over me x P ≡ ended (read me x P)
over-reads me Untouched P = refl
over-reads me (Became R) P = refl
over-reads me (First x) (Seq P Q) = ap (λ t. t && ended Q) (over-reads me x P)
over-reads me (Second x) (Seq P Q) = over-reads me x Q
over-reads me (Both x y) (Par P Q) = ap₂ (λ t u. t && u) (over-reads me x P) (over-reads me y Q)
over-reads me (Telling b k l ms) (IfLead i g others P Q) = refl
over-reads me (Branch b x) (IfLead i g others P Q) = over-reads me x (if b then P else Q)
over-reads me (Branch b x) (IfFollow i leader P Q) = over-reads me x (if b then P else Q)
over-reads me (Body x) (WhileLead i g others P) = sym (and_false _ _ (turn_goes me others i g P others))
over-reads me (Body x) (WhileFollow i leader P) = sym (and_false _ _ refl)
over-reads me (Body x) (ScopeLead head others P) =
    ap₂ (λ t u. t && u) (over-reads me x P) (sym (end_goes me others head.index))
over-reads me (Body x) (ScopeFollow i leader P) = sym (and_false _ _ refl)
over-reads me (Gathering k ks) (WhileLead i g others P) = refl
over-reads me Ending (WhileFollow i leader P) = refl
over-reads me (Left k l ms) (Tell ns) = refl
over-reads me (Waiting k ks) (Gather ls) = refl
over-reads me x P = refl

pub leaves-reads : (me : Role) (x : Status) (P : Process) → leaves me x P ≡ offers me (read me x P)
leaves-reads me Untouched P = refl
leaves-reads me (Became R) P = refl
leaves-reads me (First x) (Seq P Q) =
    ap₂ (λ t acts. if t then offers me Q else acts) (over-reads me x P) (leaves-reads me x P)
leaves-reads me (Second x) (Seq P Q) = leaves-reads me x Q
leaves-reads me (Both x y) (Par P Q) = ap₂ (λ xs ys. xs ++ ys) (leaves-reads me x P) (leaves-reads me y Q)
leaves-reads me (Branch b x) (IfLead i g others P Q) = leaves-reads me x (if b then P else Q)
leaves-reads me (Branch b x) (IfFollow i leader P Q) = leaves-reads me x (if b then P else Q)
leaves-reads me (Body x) (WhileLead i g others P) =
    ap₂ (λ t acts. if t then offers me (lead_turn me others i (WhileLead i g others P)) else acts) (over-reads me x P) (leaves-reads me x P)
leaves-reads me (Body x) (WhileFollow i leader P) =
    ap₂ (λ t acts. if t then act.Put (key me leader i Turn) ∷ [] else acts) (over-reads me x P) (leaves-reads me x P)
leaves-reads me (Body x) (ScopeLead head others P) =
    ap₂ (λ t acts. if t then offers me (lead_end me others head.index) else acts) (over-reads me x P) (leaves-reads me x P)
leaves-reads me (Body x) (ScopeFollow i leader P) =
    ap₂ (λ t acts. if t then act.Put (key me leader i End) ∷ [] else acts) (over-reads me x P) (leaves-reads me x P)
leaves-reads me (Telling b k l ms) (IfLead i g others P Q) = refl
leaves-reads me (Gathering k ks) (WhileLead i g others P) = refl
leaves-reads me Ending (WhileFollow i leader P) = refl
leaves-reads me (Left k l ms) (Tell ns) = refl
leaves-reads me (Waiting k ks) (Gather ls) = refl
leaves-reads me x P = refl
