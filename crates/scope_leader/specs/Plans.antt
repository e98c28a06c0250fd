-- What the leader of a scope makes of an update.
use Rattle.std.specs.Prelude.{◌≡◌, ℕ, suc, List, Bool, ◌&&◌, not, filter}
use Rattle.dioc_terms.specs.declared.names.Role.{Role}
use Rattle.dioc_terms.specs.declared.names.Index.{Index}
use Rattle.dioc_terms.specs.declared.values.Value.{Value}
use Rattle.dioc_terms.specs.declared.processes.ScopeHead.{ScopeHead}
use Rattle.dioc_terms.specs.declared.processes.Tag.TheVariants.{Begin}
use Rattle.dioc_terms.specs.Equality.{role_eq, member}
use Rattle.dioc_terms.specs.Processes.{Process, Letters, Part}
use Rattle.dioc_terms.specs.Terms.{Term, Scope, stamped, others, head_of}
use Rattle.process_steps.specs.Steps.{letters_to}
use Rattle.projection.specs.Projection.{projected}

-- the part of a role: what it does of the body, as the update of this number, one level higher than
-- the scope
abbrev pub part_of : List Role → ScopeHead → ℕ → Term → Role → Process
part_of cast head epoch body q = projected cast (stamped body epoch (suc head.level)) q

-- a role of the scope that another one leads
abbrev pub is_told : ScopeHead → Role → Bool
is_told head q = member q head.roles && not (role_eq q head.leader)

-- the roles of the scope without its leader, in the order of the cast
abbrev pub told_roles : List Role → ScopeHead → List Role
told_roles cast head = filter (is_told head) cast

-- the messages with the parts of the others
abbrev pub begin_messages : List Role → ScopeHead → ℕ → Term → Letters
begin_messages cast head epoch body =
    letters_to head.leader (told_roles cast head) head.index Begin
    (λ q. Part epoch (part_of cast head epoch body q))

-- the roles that are told are the others of the scope, all of them and in the same order
abbrev pub ToldAreTheOthers : Type 0
ToldAreTheOthers = (cast : List Role) (i : Index) (r : Role) (I : Term) (extra : List Role)
    (props : List (List ℕ × Value)) (level : ℕ)
    → told_roles cast (head_of cast i r I extra props level)
    ≡ others cast r (Scope i r I extra props level)
