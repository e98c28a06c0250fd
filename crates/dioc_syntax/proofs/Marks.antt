-- What stands in a text has the indices that the text gives it.
use Rattle.std.proofs.Common.{◌≡◌, ℕ, List, refl}
use Rattle.dioc_terms.specs.Terms.{Term, Seq, Par, If, While, Scope, index_at, indexed_from}
use Rattle.aioc_tokens.specs.Lexemes.{Lexeme}
use Rattle.dioc_syntax.specs.Choreographies.{role, Form, Stands, one_part, beside, one_step, last_step, in_turn, nothing, interaction, input, assignment, choice, loop, scope, group, block, no_else, otherwise}

pub stands_marked : {version : ℕ} {form : Form} {room earlier : ℕ} {from to : List Lexeme} {whole : Term} → Stands version form room earlier from whole to → whole ≡ indexed_from earlier whole
stands_marked (one_part r) = stands_marked r
stands_marked (beside r ends s) = λ i. Par (stands_marked r i) (stands_marked s i)
stands_marked (one_step r) = stands_marked r
stands_marked (last_step r ends) = stands_marked r
stands_marked (in_turn r ends s) = λ i. Seq (stands_marked r i) (stands_marked s i)
stands_marked (nothing begins) = refl
stands_marked (interaction rooms begins is ends) = refl
stands_marked (input rooms begins) = refl
stands_marked (assignment begins is) = refl
stands_marked {earlier = earlier} (choice {leader = leader} {guard = guard} begins is head r s) = λ i. If (index_at earlier) (role leader) guard (stands_marked r i) (stands_marked s i)
stands_marked {earlier = earlier} (loop {leader = leader} {guard = guard} begins is head r) = λ i. While (index_at earlier) (role leader) guard (stands_marked r i)
stands_marked {earlier = earlier} (scope {leader = leader} {extra = extra} {props = props} begins r named given) = λ i. Scope (index_at earlier) (role leader) (stands_marked r i) extra props 0
stands_marked (group rooms begins r ends) = stands_marked r
stands_marked (block rooms begins r ends) = stands_marked r
stands_marked no_else = refl
stands_marked (otherwise begins r) = stands_marked r
