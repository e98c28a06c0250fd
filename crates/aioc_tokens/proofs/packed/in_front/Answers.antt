use Rattle.std.proofs.lemmas.Bool.{both_ways}
use Rattle.aioc_tokens.specs.Tokens.{comment}
use Rattle.aioc_tokens.proofs.Blanks.{space_blank}
use Rattle.aioc_tokens.proofs.Symbols.{lone_token}
use Rattle.aioc_tokens.proofs.packed.in_front.Goals as goal

pub name_in_front-requires : goal.name_in_front-requires
name_in_front-requires c = c.in-Name.ensures

pub returns-in-Space : goal.returns-in-Space
returns-in-Space c = space_blank c.args.text.now c.requires c.in-Space.ensures

pub number_in_front-requires : goal.number_in_front-requires
number_in_front-requires c = c.in-Number.ensures

pub returns-in-Lone : goal.returns-in-Lone
returns-in-Lone c = lone_token c.args.text.now c.requires c.in-Lone.sort c.in-Lone.ensures

pub returns-in-Rest : goal.returns-in-Rest
returns-in-Rest c = comment (c.begins_comment.ensures.0 c.if-begins_comment.true) c.line_length.ensures

pub symbol_in_front-requires-clause-no_comment : goal.symbol_in_front-requires-clause-no_comment
symbol_in_front-requires-clause-no_comment c = λ begins. both_ways _ c.if-begins_comment.false (c.begins_comment.ensures.1 begins)

pub symbol_in_front-requires-clause-no_letter : goal.symbol_in_front-requires-clause-no_letter
symbol_in_front-requires-clause-no_letter c = c.in-Rest-2.ensures.no_letter

pub symbol_in_front-requires-clause-no_digit : goal.symbol_in_front-requires-clause-no_digit
symbol_in_front-requires-clause-no_digit c = c.in-Rest-2.ensures.no_digit

pub symbol_in_front-requires-clause-no_space : goal.symbol_in_front-requires-clause-no_space
symbol_in_front-requires-clause-no_space c = c.in-Rest-2.ensures.no_space
