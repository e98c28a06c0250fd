-- What the home is started with stands for the network before its first step.
use Rattle.std.proofs.Common.{◌<◌, None, false, map, sym, ap, ap₂, ◌∙◌, subst}
use Rattle.std.specs.List.{AllByRecursion}
use Rattle.std.proofs.lemmas.List.{length-map}
use Rattle.dioc_terms.specs.declared.bundles.Bundle.{Bundle}
use Rattle.dioc_terms.specs.Bundles.{adds}
use Rattle.dioc_terms.specs.Plain.{plain, plain_rule}
use Rattle.net_core.proofs.StartLemmas.{adds_rules}
use Rattle.net_core.specs.KeptParts.{due_seen}
use Rattle.net_core.specs.Standing.{due_of}
use Rattle.stage.proofs.OpeningLemmas.{home_started, names_started}
use Rattle.stage.specs.Homes.{IsHome}
use Rattle.stage.proofs.home.Home.start.Goals as goal

pub keep_script-requires : goal.keep_script-requires
keep_script-requires c =
    let b = plain c.args.bundle.now in
    rw (c.as_slice-3.ensures, c.as_slice-4.ensures)
    (subst (λ n. AllByRecursion (λ m. m < n) (adds b.script)) (length-map c.args.bundle.now.rules plain_rule) (adds_rules b c.requires.sound.formed))

pub invariant_of-result : goal.invariant_of-result
invariant_of-result c =
    subst (λ (of : Bundle). IsHome (plain of) c.args.limit c.new-history.result.entries c.in_ok-cast.cast c.in_ok-names.names.items c.new-mail.result c.in_ok-book.book
    (map due_seen c.in_ok-coming.coming.items) 0 c.in_ok-finished.finished.items None) (sym c.of-of.ensures)
    (home_started (plain c.args.bundle.now) c.args.limit c.new-history.result.entries c.in_ok-cast.cast c.in_ok-names.names.items c.new-mail.result c.in_ok-book.book
    (map due_seen c.in_ok-coming.coming.items) c.in_ok-finished.finished.items c.requires.sound c.requires.small c.new-history.ensures c.in_ok-cast.ensures
    (c.in_ok-names.ensures ∙ ap (map (λ rule. rule.name)) c.as_slice-2.ensures ∙ names_started c.args.bundle.now.rules) c.new-mail.ensures
    c.in_ok-book.ensures.opening c.in_ok-book.ensures.of c.in_ok-book.ensures.coming
    (c.in_ok-coming.ensures ∙ ap₂ (λ rules script. map (due_of (map plain_rule rules)) script) c.as_slice-3.ensures c.as_slice-4.ensures)
    (c.in_ok-finished.ensures ∙ ap (map (λ q. false)) c.as_slice.ensures))

pub returns : goal.returns
returns c = λ j. record {
  bundle = plain (c.of-of.ensures j);
  limit = c.args.limit;
  history = c.new-history.ensures j;
  finished = (c.in_ok-finished.ensures ∙ ap (map (λ q. false)) c.as_slice.ensures) j;
  stopped = None;
}
