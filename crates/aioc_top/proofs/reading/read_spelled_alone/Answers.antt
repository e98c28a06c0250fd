-- Why the bytes of the source aren't had, or spell no bundle.
use Rattle.std.proofs.Common.{Err, ap, subst}
use Rattle.std.proofs.lemmas.Result.{err_from_is_err_and}
use Rattle.bundle_text.specs.Grammar.{SpellsNone}
use Rattle.bundle_text.specs.Stops.{EndsAtByte}
use Rattle.aioc_top.proofs.FaultLemmas.{no_bundle, reads_one, unread}
use Rattle.aioc_top.proofs.reading.read_spelled_alone.Goals as goal

pub returns-in_err-bytes-in_default : goal.returns-in_err-bytes-in_default
returns-in_err-bytes-in_default g c =
    let one = reads_one c.args.command.now c.in_default.not-Gen c.in_default.not-Sessions in
    let p = err_from_is_err_and c.from_residual.result c.from_residual.ensures.1 in
    record {
      read = rw p.1 tt;
      fault = rw (p.1, p.2) (unread c.args.command.now (g.S.Source.state c.args.source.now) (g.S.Source.state c.read_text.new.source) one.0 _ c.in_err-bytes-in_default.ensures.fault);
    }

pub returns-in_err-read_bundle-in_default : goal.returns-in_err-read_bundle-in_default
returns-in_err-read_bundle-in_default g c =
    let one = reads_one c.args.command.now c.in_default.not-Gen c.in_default.not-Sessions in
    let read = c.in_ok-bytes-in_default.ensures in
    let none = c.in_err-read_bundle-in_default.ensures in
    let same = c.deref.ensures.value in
    let p = err_from_is_err_and c.from_residual-in_err-read_bundle-in_default.result c.from_residual-in_err-read_bundle-in_default.ensures.1 in
    record {
      read = rw p.1 tt;
      fault = rw (p.1, p.2)
          (no_bundle c.args.command.now (g.S.Source.state c.args.source.now) (g.S.Source.state c.read_text.new.source) one.0 c.in_ok-bytes-in_default.bytes.items read.bytes read.end read.few
          read.within one.1 _ (λ other. subst (λ bytes. SpellsNone bytes) same (none.syntax other)) (λ byte is. subst (λ bytes. EndsAtByte bytes byte) same (none.byte byte (ap Err is))));
    }
