use Rattle.std.proofs.Common.{◌≢◌, sym, subst, arith, IfErr}
use Rattle.bundle_text.specs.declared.stops.Stop.TheVariants as stops
use Rattle.bundle_text.specs.Readers.{found_in}
use Rattle.bundle_text.specs.Stops.{place_in}
use Rattle.bundle_text.specs.Sessions.{EndsBeforeClose}
use Rattle.bundle_text.proofs.SectionSteps.{no_section_yet, section_further}
use Rattle.bundle_text.proofs.SessionSteps.{closed_taken, ended_before}
use Rattle.bundle_text.proofs.sessions.sections_up_to_close.Goals as goal

pub sections-init : goal.sections-init
sections-init c = (no_section_yet c.args.reader.now.version c.args.reader.now.text.now c.args.at (found_in c.new-parts.result) c.new-parts.ensures, omega arith, c.requires.within)

pub sections-preserved : goal.sections-preserved
sections-preserved c =
    let after = c.in-Ok.ensures.found.after in
    let before = c.sections.invariant.1 in (
      section_further c.args.reader.now.version c.args.reader.now.text.now c.args.at (found_in c.sections.parts) (found_in c.section_at.new.parts) c.sections.next c.in-Ok.behind c.sections.invariant.0 c.in-Ok.ensures.found,
      omega arith,
      c.in-Ok.ensures.found.within,
    )

pub sections-smaller : goal.sections-smaller
sections-smaller c = let after = c.in-Ok.ensures.found.after in let within = c.in-Ok.ensures.found.within in omega arith

pub returns-clause-found : goal.returns-clause-found
returns-clause-found c = closed_taken c.args.reader.now.version c.args.reader.now.text.now c.args.at (found_in c.sections.parts) c.sections.next c.sections.invariant.0 c.sections.invariant.1 (c.has.ensures.value.0 c.sections-test.false)

pub returns-in-Err-clause-stopped : goal.returns-in-Err-clause-stopped
returns-in-Err-clause-stopped c =
    subst (λ result. IfErr result (λ stop. stop ≢ stops.Memory → EndsBeforeClose c.args.reader.now.version c.args.reader.now.text.now c.args.at (place_in stop))) (sym c.lost-in-Err.ensures) (λ told.
    ended_before c.args.reader.now.version c.args.reader.now.text.now c.args.at (found_in c.sections.parts) c.sections.next _ c.sections.invariant.0 (λ is. let found = c.has.ensures.value.1 is in let missed = c.sections-test.true in cc) (c.in-Err.ensures.stopped told))
