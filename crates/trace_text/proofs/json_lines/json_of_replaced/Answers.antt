use Rattle.std.proofs.Common.{[], ◌∷◌, codes, decimal, refl, ap, subst}
use Rattle.serde_json.specs.View.{members_view}
use Rattle.serde_json.proofs.OnLiterals.{serde_json_on_literals}
use Rattle.trace_text.specs.JsonValues.{Puts}
use Rattle.trace_text.proofs.JsonTexts.{more, row, json_is}
use Rattle.trace_text.proofs.json_lines.json_of_replaced.Goals as goal

pub returns : goal.returns
unfolding serde_json_on_literals
returns c =
    let p1 = subst (λ n. Puts c.new-members.result.entries c.put_number.new.members.entries (codes "epoch") (decimal n)) c.from.ensures c.in_ok-put_number.ensures in
    let p2 = c.in_ok-put_index.ensures in
    let p3 = c.in_ok-put_word.ensures in
    let p4 = c.in_ok-put_name.ensures in
    let p5 = c.in_ok-put_name-2.ensures in
    json_is c.put_name-2.new.members (row p1 refl ∷ row p2 refl ∷ row p3 refl ∷ row p4 refl ∷ row p5 refl ∷ []) (more p5 (more p4 (more p3 (more p2 (more p1 (ap members_view c.new-members.ensures.empty))))))
