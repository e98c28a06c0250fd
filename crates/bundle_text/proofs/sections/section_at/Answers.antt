use Rattle.std.proofs.Common.{codes, refl}
use Rattle.bundle_text.specs.Readers.{found_in}
use Rattle.bundle_text.specs.Stops.{no_word, second_choreography, in_choreography, in_rules, in_environment, in_inputs, in_script}
use Rattle.bundle_text.proofs.Results.{ok_then, err_then}
use Rattle.bundle_text.proofs.Found.{aioc_begins, choreography_taken, unopened, opened_here, rules_taken, environment_taken, inputs_taken, script_taken, no_word_here}
use Rattle.bundle_text.proofs.SectionSteps.{filled, listed_some, listed_none}
use Rattle.bundle_text.proofs.sections.section_at.Goals as goal

pub returns-in-Ok-clause-found : goal.returns-in-Ok-clause-found
returns-in-Ok-clause-found c =
    choreography_taken c.args.reader.now.text.now c.args.at c.args.reader.now.version (found_in c.args.parts.now) _ c.in-Ok.choreo c.in-Ok.next (c.begins.ensures.0 c.if-begins.true) c.in-Ok.ensures.found
    (filled (found_in c.args.parts.now) _ c.args.parts.now.choreo c.in-Ok.choreo c.fill.ensures (let found = c.is_some.ensures in let test = c.if-is_some.false in cc) refl)

pub returns-then-is_some-clause-stopped : goal.returns-then-is_some-clause-stopped
returns-then-is_some-clause-stopped c = λ told.
    second_choreography refl (aioc_begins c.args.reader.now.text.now c.args.at c.args.reader.now.version (c.begins.ensures.0 c.if-begins.true)) (listed_some c.args.parts.now.choreo (let found = c.is_some.ensures in let test = c.if-is_some.true in cc))

pub returns-in-Err-clause-stopped : goal.returns-in-Err-clause-stopped
returns-in-Err-clause-stopped c = λ told.
    in_choreography (aioc_begins c.args.reader.now.text.now c.args.at c.args.reader.now.version (c.begins.ensures.0 c.if-begins.true)) (listed_none c.args.parts.now.choreo (let found = c.is_some.ensures in let test = c.if-is_some.false in cc))
    (c.in-Err.ensures.stopped told)

pub returns-then-not-has-clause-stopped : goal.returns-then-not-has-clause-stopped
returns-then-not-has-clause-stopped c = λ other.
    no_word refl (unopened c.args.reader.now.text.now c.args.at c.args.reader.now.version (λ is. let found = c.has.ensures.value.1 is in let missed = c.if-not-has.true in cc))

pub returns-then-named-clause-found : goal.returns-then-named-clause-found
returns-then-named-clause-found c =
    ok_then c.rules_at.result (λ next taken. rules_taken c.args.reader.now.text.now c.args.at c.args.reader.now.version (found_in c.args.parts.now) _ _ next (c.named.ensures.0 c.if-named.true) (c.has.ensures.value.0 c.if-not-has.false) taken refl)
    c.rules_at.ensures.found

pub returns-then-named-clause-stopped : goal.returns-then-named-clause-stopped
returns-then-named-clause-stopped c =
    err_then c.rules_at.result (λ stop ends told. in_rules (opened_here c.args.reader.now.text.now c.args.at c.args.reader.now.version (codes "rules") (c.named.ensures.0 c.if-named.true) (c.has.ensures.value.0 c.if-not-has.false)) (ends told))
    c.rules_at.ensures.stopped

pub returns-then-named-2-clause-found : goal.returns-then-named-2-clause-found
returns-then-named-2-clause-found c =
    ok_then c.environment_at.result (λ next taken. environment_taken c.args.reader.now.text.now c.args.at c.args.reader.now.version (found_in c.args.parts.now) _ _ next (c.named-else-named.ensures.0 c.if-named-2.true) (c.has.ensures.value.0 c.if-not-has.false) taken refl)
    c.environment_at.ensures.found

pub returns-then-named-2-clause-stopped : goal.returns-then-named-2-clause-stopped
returns-then-named-2-clause-stopped c =
    err_then c.environment_at.result (λ stop ends told. in_environment (opened_here c.args.reader.now.text.now c.args.at c.args.reader.now.version (codes "env") (c.named-else-named.ensures.0 c.if-named-2.true) (c.has.ensures.value.0 c.if-not-has.false)) (ends told))
    c.environment_at.ensures.stopped

pub returns-then-named-3-clause-found : goal.returns-then-named-3-clause-found
returns-then-named-3-clause-found c =
    ok_then c.inputs_at.result (λ next taken. inputs_taken c.args.reader.now.text.now c.args.at c.args.reader.now.version (found_in c.args.parts.now) _ _ next (c.named-else-named-2.ensures.0 c.if-named-3.true) (c.has.ensures.value.0 c.if-not-has.false) taken refl)
    c.inputs_at.ensures.found

pub returns-then-named-3-clause-stopped : goal.returns-then-named-3-clause-stopped
returns-then-named-3-clause-stopped c =
    err_then c.inputs_at.result (λ stop ends told. in_inputs (opened_here c.args.reader.now.text.now c.args.at c.args.reader.now.version (codes "inputs") (c.named-else-named-2.ensures.0 c.if-named-3.true) (c.has.ensures.value.0 c.if-not-has.false)) (ends told))
    c.inputs_at.ensures.stopped

pub returns-then-named-4-clause-found : goal.returns-then-named-4-clause-found
returns-then-named-4-clause-found c =
    ok_then c.script_at.result (λ next taken. script_taken c.args.reader.now.text.now c.args.at c.args.reader.now.version (found_in c.args.parts.now) _ _ next (c.named-else-named-3.ensures.0 c.if-named-4.true) (c.has.ensures.value.0 c.if-not-has.false) taken refl)
    c.script_at.ensures.found

pub returns-then-named-4-clause-stopped : goal.returns-then-named-4-clause-stopped
returns-then-named-4-clause-stopped c =
    err_then c.script_at.result (λ stop ends told. in_script (opened_here c.args.reader.now.text.now c.args.at c.args.reader.now.version (codes "script") (c.named-else-named-3.ensures.0 c.if-named-4.true) (c.has.ensures.value.0 c.if-not-has.false)) (ends told))
    c.script_at.ensures.stopped

pub trace_section_at-requires : goal.trace_section_at-requires
trace_section_at-requires c = record { few = c.requires.few; named = c.named-else-named-4.ensures.0 c.if-named-5.true; opens = c.has.ensures.value.0 c.if-not-has.false }

pub returns-then-named-5-clause-found : goal.returns-then-named-5-clause-found
returns-then-named-5-clause-found c = ok_then c.trace_section_at.result (λ next taken. taken c.args.reader.now.version) c.trace_section_at.ensures.found

pub returns-then-named-5-clause-stopped : goal.returns-then-named-5-clause-stopped
returns-then-named-5-clause-stopped c = err_then c.trace_section_at.result (λ stop none told. none told c.args.reader.now.version) c.trace_section_at.ensures.stopped

pub returns-else-named-5-clause-stopped : goal.returns-else-named-5-clause-stopped
returns-else-named-5-clause-stopped c = λ other.
    no_word refl (no_word_here c.args.reader.now.text.now c.args.at c.args.reader.now.version (λ is. let found = c.begins.ensures.1 is in let missed = c.if-begins.false in cc)
    (λ is. let found = c.named.ensures.1 is in let missed = c.if-named.false in cc)
    (λ is. let found = c.named-else-named.ensures.1 is in let missed = c.if-named-2.false in cc)
    (λ is. let found = c.named-else-named-2.ensures.1 is in let missed = c.if-named-3.false in cc)
    (λ is. let found = c.named-else-named-3.ensures.1 is in let missed = c.if-named-4.false in cc)
    (λ is. let found = c.named-else-named-4.ensures.1 is in let missed = c.if-named-5.false in cc))
