-- A code of processes, by which a proof tells apart values that hold one. Each is stored as a value
-- of the program that stands for it, with its boxes nowhere in memory.
use Rattle.std.specs.Prelude.{◌≡◌, refl, Box}
use Rattle.std.specs.Coded.{Coded, code_by}
use Rattle.std.specs.Global.{Global}
use Rattle.dioc_terms.specs.contracts.processes.Proc as contracts
use Rattle.dioc_terms.specs.declared.expressions.Expr.{Expr}
use Rattle.dioc_terms.specs.declared.expressions.Expr as expr
use Rattle.dioc_terms.specs.declared.processes.Messages.{Messages}
use Rattle.dioc_terms.specs.declared.processes.Messages as messages
use Rattle.dioc_terms.specs.declared.processes.Payload.{Payload}
use Rattle.dioc_terms.specs.declared.processes.Payload as payload
use Rattle.dioc_terms.specs.declared.processes.Proc.{Proc}
use Rattle.dioc_terms.specs.declared.processes.Proc as proc
use Rattle.dioc_terms.specs.Expressions.{Expression, expression, Const, Var, Prop, Env, Not, Neg, Bin}
use Rattle.dioc_terms.specs.Processes.{Process, Letters, Load, process, letters, load, Skip, Send, Recv, Assign, Read, Seq, Par, IfLead, IfFollow, WhileLead, WhileFollow, ScopeLead, ScopeFollow, Tell, Gather, Nothing, More, Val, Flag, Keep, Part, Done}
use denote.RawPtr.{null_ptr}

-- a box that lies nowhere
abbrev nowhere : Box (Unit {0}) Global
nowhere = record { ptr = null_ptr; alloc = record { memory = record { seal = tt } }; value = tt }

-- a value of the program that stands for the expression
abbrev stored_expression : Expression → Expr
stored_expression (Const v) = expr.Const v
stored_expression (Var x) = expr.Var x
stored_expression (Prop x) = expr.Prop x
stored_expression (Env x) = expr.Env x
stored_expression (Not e) = expr.Not' nowhere (stored_expression e)
stored_expression (Neg e) = expr.Neg' nowhere (stored_expression e)
stored_expression (Bin op a b) =
    expr.Bin' op nowhere (stored_expression a) nowhere (stored_expression b)

pub expression_again : (e : Expression) → expression (stored_expression e) ≡ e
expression_again (Const v) = refl
expression_again (Var x) = refl
expression_again (Prop x) = refl
expression_again (Env x) = refl
expression_again (Not e) = λ i. Not (expression_again e i)
expression_again (Neg e) = λ i. Neg (expression_again e i)
expression_again (Bin op a b) = λ i. Bin op (expression_again a i) (expression_again b i)

abbrev mutual
  -- a value of the program that stands for the process
  stored_process : Process → Proc
  stored_process Skip = proc.Skip
  stored_process (Send i o b e) = proc.Send i o b (stored_expression e)
  stored_process (Recv i o a x) = proc.Recv i o a x
  stored_process (Assign i x e) = proc.Assign i x (stored_expression e)
  stored_process (Read i x) = proc.Read i x
  stored_process (Seq P Q) = proc.Seq' nowhere (stored_process P) nowhere (stored_process Q)
  stored_process (Par P Q) = proc.Par' nowhere (stored_process P) nowhere (stored_process Q)
  stored_process (IfLead i g others P Q) = proc.IfLead' i (stored_expression g) others nowhere
      (stored_process P) nowhere (stored_process Q)
  stored_process (IfFollow i r P Q) =
      proc.IfFollow' i r nowhere (stored_process P) nowhere (stored_process Q)
  stored_process (WhileLead i g others P) =
      proc.WhileLead' i (stored_expression g) others nowhere (stored_process P)
  stored_process (WhileFollow i r P) = proc.WhileFollow' i r nowhere (stored_process P)
  stored_process (ScopeLead head others P) =
      proc.ScopeLead' head others nowhere (stored_process P)
  stored_process (ScopeFollow i r P) = proc.ScopeFollow' i r nowhere (stored_process P)
  stored_process (Tell ms) = proc.Tell (stored_letters ms)
  stored_process (Gather ks) = proc.Gather ks

  stored_letters : Letters → Messages
  stored_letters Nothing = messages.Nothing
  stored_letters (More k l ms) =
      messages.More' k nowhere (stored_load l) nowhere (stored_letters ms)

  stored_load : Load → Payload
  stored_load (Val v) = payload.Val v
  stored_load (Flag b) = payload.Flag b
  stored_load Keep = payload.Keep
  stored_load (Part n P) = payload.Part n (stored_process P)
  stored_load Done = payload.Done

mutual
  pub process_again : (P : Process) → process (stored_process P) ≡ P
  process_again Skip = refl
  process_again (Send i o b e) = λ k. Send i o b (expression_again e k)
  process_again (Recv i o a x) = refl
  process_again (Assign i x e) = λ k. Assign i x (expression_again e k)
  process_again (Read i x) = refl
  process_again (Seq P Q) = λ k. Seq (process_again P k) (process_again Q k)
  process_again (Par P Q) = λ k. Par (process_again P k) (process_again Q k)
  process_again (IfLead i g others P Q) =
      λ k. IfLead i (expression_again g k) others (process_again P k) (process_again Q k)
  process_again (IfFollow i r P Q) = λ k. IfFollow i r (process_again P k) (process_again Q k)
  process_again (WhileLead i g others P) =
      λ k. WhileLead i (expression_again g k) others (process_again P k)
  process_again (WhileFollow i r P) = λ k. WhileFollow i r (process_again P k)
  process_again (ScopeLead head others P) = λ k. ScopeLead head others (process_again P k)
  process_again (ScopeFollow i r P) = λ k. ScopeFollow i r (process_again P k)
  process_again (Tell ms) = λ k. Tell (letters_again ms k)
  process_again (Gather ks) = refl

  pub letters_again : (ms : Letters) → letters (stored_letters ms) ≡ ms
  letters_again Nothing = refl
  letters_again (More k l ms) = λ j. More k (load_again l j) (letters_again ms j)

  pub load_again : (l : Load) → load (stored_load l) ≡ l
  load_again (Val v) = refl
  load_again (Flag b) = refl
  load_again Keep = refl
  load_again (Part n P) = λ k. Part n (process_again P k)
  load_again Done = refl

abbrev pub process_code : Coded Process
process_code = code_by Proc contracts.the_row.coded stored_process process process_again
