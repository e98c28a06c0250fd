use Rattle.std.proofs.Common.{◌≡◌, ℕ, List, sym, refl, rules, subst}
use Rattle.std.specs.Option.{option_map}
use Rattle.dioc_terms.specs.declared.expressions.Expr as expr
use Rattle.dioc_terms.specs.Expressions.{Prop, Env}
use Rattle.aioc_tokens.specs.declared.words.Word.TheVariants as word
use Rattle.aioc_tokens.proofs.Places.{reserved_at}
use Rattle.expr_syntax.specs.Readers.{LeafAt}
use Rattle.expr_syntax.specs.declared.levels.ExprKind.TheVariants.{Condition}
use Rattle.expr_syntax.proofs.LeafFacts.{member_leaf, word_default}
use Rattle.expr_syntax.proofs.leaves.word_leaf_at.Goals as goal

pub returns-in_ok-property-in-N : goal.returns-in_ok-property-in-N
returns-in_ok-property-in-N c =
    let text = c.args.reader.now.text.now in
    let found = c.in_ok-property-in-N in
    let made : c.map.result ≡ option_map (λ (read : List ℕ × ℕ). (expr.Prop read.0, read.1)) found.property = search rules in
    subst (LeafAt Condition text c.args.at) (sym made)
    (member_leaf text c.args.at word.N Prop expr.Prop found.property (reserved_at text c.args.at c.args.word word.N (sym c.requires.sort) c.in-N.is) refl (λ name. refl) found.ensures)

pub returns-in_ok-key-in-E : goal.returns-in_ok-key-in-E
returns-in_ok-key-in-E c =
    let text = c.args.reader.now.text.now in
    let found = c.in_ok-key-in-E in
    let made : c.map-in-E.result ≡ option_map (λ (read : List ℕ × ℕ). (expr.Env read.0, read.1)) found.key = search rules in
    subst (LeafAt Condition text c.args.at) (sym made)
    (member_leaf text c.args.at word.E Env expr.Env found.key (reserved_at text c.args.at c.args.word word.E (sym c.requires.sort) c.in-E.is) refl (λ name. refl) found.ensures)

pub returns-in_default : goal.returns-in_default
returns-in_default c =
    let text = c.args.reader.now.text.now in
    word_default text c.args.at c.args.word c.constant_leaf_at.result (reserved_at text c.args.at c.args.word c.args.word (sym c.requires.sort) refl) c.in_default.not-N c.in_default.not-E c.constant_leaf_at.ensures
