use Rattle.std.proofs.Common.{ap, sym, ◌∙◌, arith}
use Rattle.std.proofs.lemmas.List.{length-map}
use Rattle.std.proofs.lemmas.Result.{err_from_is_err_and}
use Rattle.dioc_terms.specs.Plain.{plain_rule}
use Rattle.bundle_text.specs.Grammar.{Joined}
use Rattle.bundle_text.specs.Readers.{found_in, plain_timed}
use Rattle.bundle_text.specs.Stops.{in_section, over}
use Rattle.bundle_text.proofs.Results.{err_then}
use Rattle.bundle_text.proofs.Wholes.{few_rules}
use Rattle.bundle_text.proofs.reader.bundle_at.Goals as goal

pub returns-in_err-parts-clause-stopped : goal.returns-in_err-parts-clause-stopped
returns-in_err-parts-clause-stopped c =
    let p = err_from_is_err_and c.from_residual.result c.from_residual.ensures.1 in
    rw (p.1, p.2)
    (λ told. record { version = c.version_at-version.result.0; at = c.version_at-version.result.1; begins = c.version_at-version.ensures; ends = in_section (c.in_err-parts.ensures.stopped told) })

pub bundle_of-requires : goal.bundle_of-requires
bundle_of-requires c =
    let few = few_rules c.args.text.now c.version_at-version.result.0 c.version_at-version.result.1 (found_in c.in_ok-parts.parts) c.in_ok-parts.ensures.found in
    omega (arith, length-map c.in_ok-parts.parts.rules.items plain_rule, length-map c.in_ok-parts.parts.script.items plain_timed)

pub returns-clause-stopped : goal.returns-clause-stopped
returns-clause-stopped c =
    let taken = c.in_ok-parts.ensures.found in
    err_then c.bundle_of.result
    (λ stop none told. record {
      version = c.version_at-version.result.0;
      at = c.version_at-version.result.1;
      begins = c.version_at-version.ensures;
      ends = over ((none told).1 ∙ c.len.ensures.value) taken.stand (sym (ap (λ (found : Joined). found.choreos) taken.joins) ∙ (none told).0);
    })
    c.bundle_of.ensures.stopped
