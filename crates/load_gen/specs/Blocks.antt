-- The blocks of a made choreography: one for each kind that is drawn.
use Rattle.std.specs.Prelude.{ℕ, suc, List, [], ◌∷◌, codes, pos}
use Rattle.dioc_terms.specs.declared.expressions.Oper.TheVariants.{Add, Lt}
use Rattle.dioc_terms.specs.declared.values.Value.TheVariants.{Int}
use Rattle.dioc_terms.specs.Expressions.{Var, Bin}
use Rattle.dioc_terms.specs.Terms.{Term, Seq, If, While, Scope, index_at}
use Rattle.load_gen.specs.declared.draws.Kind.{Kind}
use Rattle.load_gen.specs.declared.draws.Kind.TheVariants as kind
use Rattle.load_gen.specs.Pieces.{numbered_name, role_numbered, next, number_literal, token, token_plus, is_even_token, sending, setting_variable}

-- the message of block b, and the counter of its loop
abbrev pub message_name : ℕ → List ℕ
message_name b = numbered_name (codes "m") b

abbrev pub counter : ℕ → List ℕ
counter b = numbered_name (codes "c") b

-- block b, where role number c has the token
abbrev pub block : Kind → ℕ → ℕ → Term
block kind.Message b c = sending (message_name b) c (token_plus 1)
block kind.Choice b c =
    If (index_at 0) (role_numbered c) is_even_token (sending (message_name b) c (token_plus 1))
    (sending (message_name b) c (token_plus 2))
block kind.Loop b c =
    Seq (setting_variable (counter b) c (number_literal 0))
    (While (index_at 0) (role_numbered c) (Bin Lt (Var (counter b)) (number_literal 2))
    (Seq (sending (message_name b) c (Var token))
    (setting_variable (counter b) c (Bin Add (Var (counter b)) (number_literal 1)))))
block kind.Scope b c =
    Scope (index_at 0) (role_numbered c) (sending (message_name b) c (Var token)) []
    ((codes "k", Int (pos c)) ∷ []) 0

-- who has the token after it: after a loop the same role, else the next one
abbrev pub role_after : Kind → ℕ → ℕ
role_after kind.Loop c = c
role_after _ c = next c

-- the blocks of these kinds, from block b on
abbrev pub blocks : List Kind → ℕ → ℕ → List Term
blocks [] b c = []
blocks (kind ∷ kinds) b c = block kind b c ∷ blocks kinds (suc b) (role_after kind c)

-- who has the token after these
abbrev pub roles_after : List Kind → ℕ → ℕ
roles_after [] c = c
roles_after (kind ∷ kinds) c = roles_after kinds (role_after kind c)
