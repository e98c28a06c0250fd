-- Bundles and rules without where their terms lie in memory. Definitions and laws speak of these:
-- two readings of one text are equal as plain bundles, wherever their boxes lie.
use Rattle.std.specs.Prelude.{ℕ, ℤ, List, map}
use Rattle.dioc_terms.specs.declared.names.Role.{Role}
use Rattle.dioc_terms.specs.declared.values.Value.{Value}
use Rattle.dioc_terms.specs.declared.bundles.Rule.{Rule}
use Rattle.dioc_terms.specs.declared.bundles.Timed.{Timed}
use Rattle.dioc_terms.specs.declared.bundles.Trace.{Trace}
use Rattle.dioc_terms.specs.declared.bundles.Bundle.{Bundle}
use Rattle.dioc_terms.specs.Expressions.{Expression, expression}
use Rattle.dioc_terms.specs.Terms.{Term, term}

pub record PlainRule : Type 0 where
  pub name : List ℕ
  pub priority : ℤ
  pub cond : Expression
  pub body : Term

pub record PlainBundle : Type 0 where
  pub version : ℕ
  pub cast : List Role
  pub choreo : Term
  pub rules : List PlainRule
  -- how many of the rules are in the book from the start
  pub opening : ℕ
  pub env : List (List ℕ × Value)
  pub inputs : List (Role × List Value)
  pub script : List Timed
  pub trace : Trace

abbrev pub plain_rule : Rule → PlainRule
plain_rule rule = record {
  name = rule.name;
  priority = rule.priority;
  cond = expression rule.cond;
  body = term rule.body;
}

-- the bundle that a program's value stands for
abbrev pub plain : Bundle → PlainBundle
plain b = record {
  version = b.version;
  cast = b.cast;
  choreo = term b.choreo;
  rules = map plain_rule b.rules;
  opening = b.opening;
  env = b.env;
  inputs = b.inputs;
  script = b.script;
  trace = b.trace;
}

-- What every step of a run reads of its bundle. So neither the version nor the trace to be judged
-- can matter to a run.
pub record Setting : Type 0 where
  pub cast : List Role
  pub rules : List PlainRule
  pub script : List Timed

abbrev pub setting : PlainBundle → Setting
setting b = record { cast = b.cast; rules = b.rules; script = b.script }
