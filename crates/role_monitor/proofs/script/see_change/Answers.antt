-- The script's next change was seen, or nothing.
use Rattle.std.proofs.Common.{length, map, slice_get, refl, sym, ap, ◌∙◌}
use Rattle.std.proofs.lemmas.Option.{slice_get_read}
use Rattle.dioc_terms.specs.Plain.{plain, plain_rule, setting}
use Rattle.global_steps.specs.Follow.{shows}
use Rattle.role_monitor.proofs.Seen.{goes_on, seen_other}
use Rattle.rule_book.specs.KeptBooks.{book_of}
use Rattle.role_monitor.proofs.script.see_change.Goals as goal

pub returns-then-shows-clause-script : goal.returns-then-shows-clause-script
returns-then-shows-clause-script c =
    let b = plain c.args.bundle.now in
    goes_on b c.args.book.now c.apply.new.self c.args.changes.now c.requires (c.apply.ensures.of b.rules c.requires.of) c.apply.ensures.coming

pub returns-else-shows-clause-seen : goal.returns-else-shows-clause-seen
returns-else-shows-clause-seen c = λ s pending us.
    let b = setting (plain c.args.bundle.now) in
    let timed = c.in-Some.timed.now in
    let found = c.in-Some.ensures.lookup in
    let at = slice_get_read c.as_slice.result.now (length c.as_slice.result.now) c.args.changes.now timed refl found.3.0 found.1 in
    seen_other b c.args.entry.now s pending us c.args.changes.now timed (book_of c.args.book.now)
    (ap (λ l. slice_get l c.args.changes.now) (sym c.as_slice.ensures) ∙ at)
    (ap (λ rules. shows (map plain_rule rules) c.args.entry.now timed.change) (sym c.as_slice-2.ensures) ∙ sym c.shows.ensures ∙ c.if-shows.false)
