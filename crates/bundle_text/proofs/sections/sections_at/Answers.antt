use Rattle.std.proofs.Common.{◌≢◌, sym, subst, arith, IfErr}
use Rattle.bundle_text.specs.declared.stops.Stop.TheVariants as stops
use Rattle.bundle_text.specs.Readers.{found_in}
use Rattle.bundle_text.specs.Stops.{place_in, EndsAmongSections}
use Rattle.bundle_text.proofs.SectionSteps.{no_section_yet, section_further, sections_taken, sections_ended}
use Rattle.bundle_text.proofs.sections.sections_at.Goals as goal

pub loop-next-init : goal.loop-next-init
loop-next-init c = no_section_yet c.args.reader.now.version c.args.reader.now.text.now c.args.at (found_in c.new-parts.result) c.new-parts.ensures

pub loop-next-preserved : goal.loop-next-preserved
loop-next-preserved c = section_further c.args.reader.now.version c.args.reader.now.text.now c.args.at (found_in c.loop-next.parts) (found_in c.section_at.new.parts) c.loop-next.next c.in-Ok.behind c.loop-next.invariant c.in-Ok.ensures.found

pub loop-next-smaller : goal.loop-next-smaller
loop-next-smaller c = let after = c.in-Ok.ensures.found.after in let within = c.in-Ok.ensures.found.within in omega arith

pub returns-clause-found : goal.returns-clause-found
returns-clause-found c = sections_taken c.args.reader.now.version c.args.reader.now.text.now c.args.at (found_in c.loop-next.parts) c.loop-next.next c.loop-next.invariant (omega arith)

pub returns-in-Err-clause-stopped : goal.returns-in-Err-clause-stopped
returns-in-Err-clause-stopped c =
    subst (λ result. IfErr result (λ stop. stop ≢ stops.Memory → EndsAmongSections c.args.reader.now.version c.args.reader.now.text.now c.args.at (place_in stop))) (sym c.lost.ensures) (λ told.
    sections_ended c.args.reader.now.version c.args.reader.now.text.now c.args.at (found_in c.loop-next.parts) c.loop-next.next _ c.loop-next.invariant (omega arith) (c.in-Err.ensures.stopped told))
