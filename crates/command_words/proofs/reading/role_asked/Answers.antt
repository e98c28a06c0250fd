use Rattle.std.proofs.Common.{◌≡◌, ◌∙◌, ap, sym, false}
use Rattle.std.specs.Prelude.{is_some}
use Rattle.dioc_terms.specs.Names.{is_reserved}
use Rattle.command_words.proofs.Readings.{reserved_word, role_reserved, role_named, is_not_refused}
use Rattle.command_words.proofs.reading.role_asked.Goals as goal

pub returns-then-is_some : goal.returns-then-is_some
returns-then-is_some c =
    let role = c.args.role.now in
    role_reserved role (sym (reserved_word role) ∙ sym (ap is_some c.find_word.ensures) ∙ sym c.is_some.ensures ∙ c.if-is_some.true)

pub returns-in-Ok : goal.returns-in-Ok
returns-in-Ok c =
    let role = c.args.role.now in
    let free : is_reserved role ≡ false = sym (reserved_word role) ∙ sym (ap is_some c.find_word.ensures) ∙ sym c.if-is_some.ensures in
    let named = is_not_refused role (λ e. let refused = c.in-Ok.ensures.not_a_name.1 e in cc) in
    role_named role c.in-Ok.name free named c.in-Ok.ensures.ok
