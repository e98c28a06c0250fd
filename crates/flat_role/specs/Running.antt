-- An update, as seen from the mark of its scope.
use Rattle.std.specs.Prelude.{ℕ, Bool, Option}
use Rattle.dioc_terms.specs.declared.entries.Act.{Act}
use Rattle.dioc_terms.specs.declared.names.Role.{Role}
use Rattle.dioc_terms.specs.Processes.{Process}

pub record Running : Type 0 where
  -- the role that runs it
  pub role : Role
  -- what it still has to do
  pub process : Process
  -- the act that it is ready for
  pub chosen : Option Act
  -- nothing was done yet at the place that does it
  pub fresh : Bool
  -- how many updates stand one inside the other in it
  pub depth : ℕ
  -- how many ops it runs over, with those of the updates in it
  pub len : ℕ
