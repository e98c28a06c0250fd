-- The monitor before the first entry.
use Rattle.std.proofs.Common.{refl, ap}
use Rattle.std.specs.Map.{lookup}
use Rattle.dioc_terms.specs.Equality.{key_eq}
use Rattle.dioc_terms.specs.Plain.{plain}
use Rattle.role_monitor.proofs.OneMore.{read_none}
use Rattle.role_monitor.proofs.monitor.Monitor.begin.Goals as goal

pub returns : goal.returns
returns c = read_none (plain c.args.bundle.now) c.args.role.now _ c.requires.sound refl refl
    (record {
      local = c.requires.local;
      mail = record { at = λ k. ap (lookup (key_eq k)) c.new-mail.ensures };
      book = c.requires.book;
      changes = refl;
      updates = c.new-updates.ensures.items;
      script = c.requires.script;
    })
    refl refl
