-- The role's mark stands where its process has ended.
use Rattle.std.proofs.Common.{true, ap, sym, subst, ◌∙◌}
use Rattle.std.specs.Prelude.{map, length, slice_set}
use Rattle.dioc_terms.specs.Plain.{plain}
use Rattle.net_core.specs.KeptParts.{due_seen}
use Rattle.stage.proofs.EndingLemmas.{home_finished, marks_fit, shows_finished}
use Rattle.stage.specs.Homes.{HasEnded, HomeState}
use Rattle.stage.specs.Marks.{with_finished}
use Rattle.stage.specs.Owners.{cast_place}
use Rattle.stage.proofs.home.Home.finish.Goals as goal

pub mark-requires : goal.mark-requires
mark-requires c =
    let i = c.self.inside in
    marks_fit (plain i.of.value) i.limit i.history.entries i.cast i.names.items i.mail i.book (map due_seen i.coming.items) i.updates i.finished.items i.stopped c.self.invariant
    ∙ ap length (sym c.as_slice.ensures)

pub invariant_of-self : goal.invariant_of-self
invariant_of-self c =
    let i = c.self.inside in
    let done = subst (λ (h : HomeState). HasEnded h.bundle h.history c.args.role.now) (sym c.self.view_is) c.requires in
    home_finished (plain i.of.value) i.limit i.history.entries i.cast i.names.items i.mail i.book (map due_seen i.coming.items) i.updates i.finished.items i.stopped c.self.invariant
    c.args.role.now done c.mark.new.finished.items (c.mark.ensures ∙ ap (λ l. slice_set i.finished.items (cast_place l c.args.role.now) true) c.as_slice.ensures)

pub returns : goal.returns
returns c =
    let i = c.self.inside in
    shows_finished (plain i.of.value) i.limit i.history.entries i.cast i.names.items i.mail i.book (map due_seen i.coming.items) i.updates i.finished.items i.stopped c.self.invariant
    c.args.role.now c.mark.new.finished.items (c.mark.ensures ∙ ap (λ l. slice_set i.finished.items (cast_place l c.args.role.now) true) c.as_slice.ensures)
    ∙ ap (λ (h : HomeState). with_finished h c.args.role.now) c.self.view_is
