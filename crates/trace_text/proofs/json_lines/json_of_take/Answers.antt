use Rattle.std.proofs.Common.{[], ◌∷◌, refl, sym, ap, subst}
use Rattle.dioc_terms.specs.declared.entries.Entry.TheVariants.{Take}
use Rattle.serde_json.specs.View.{view, members_view}
use Rattle.serde_json.specs.declared.value.Value.{Object}
use Rattle.serde_json.proofs.OnLiterals.{serde_json_on_literals}
use Rattle.trace_text.specs.Json.{json_line}
use Rattle.trace_text.specs.JsonValues.{IsJsonText}
use Rattle.trace_text.proofs.JsonTexts.{more, row, json_is}
use Rattle.trace_text.proofs.json_lines.json_of_take.Goals as goal

pub returns-in-None : goal.returns-in-None
unfolding serde_json_on_literals
returns-in-None c =
    let p1 = c.in_ok-put_name.ensures in
    let p2 = c.in_ok-put_index.ensures in
    let p3 = c.in_ok-put_word.ensures in
    let p4 = c.in_ok-put_tag.ensures in
    let p5 = c.in_ok-put_name-2.ensures in
    subst (λ var. IsJsonText (view (Object c.put_name-2.new.members)) (json_line (Take c.args.key.now var))) (sym c.in-None.is) (json_is c.put_name-2.new.members (row p1 refl ∷ row p2 refl ∷ row p3 refl ∷ row p4 refl ∷ row p5 refl ∷ []) (more p5 (more p4 (more p3 (more p2 (more p1 (ap members_view c.new-members.ensures.empty)))))))

pub returns-in_ok-put_name-in-Some : goal.returns-in_ok-put_name-in-Some
unfolding serde_json_on_literals
returns-in_ok-put_name-in-Some c =
    let p1 = c.in_ok-put_name.ensures in
    let p2 = c.in_ok-put_index.ensures in
    let p3 = c.in_ok-put_word.ensures in
    let p4 = c.in_ok-put_tag.ensures in
    let p5 = c.in_ok-put_name-2.ensures in
    let p6 = c.in_ok-put_name-in-Some.ensures in
    subst (λ var. IsJsonText (view (Object c.put_name-in-Some.new.members)) (json_line (Take c.args.key.now var))) (sym c.in-Some.is) (json_is c.put_name-in-Some.new.members (row p1 refl ∷ row p2 refl ∷ row p3 refl ∷ row p4 refl ∷ row p5 refl ∷ row p6 refl ∷ []) (more p6 (more p5 (more p4 (more p3 (more p2 (more p1 (ap members_view c.new-members.ensures.empty))))))))
