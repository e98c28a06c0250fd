use Rattle.std.proofs.Common.{◌↔◌, ◌+◌, drop}
use Rattle.aioc_tokens.specs.Lexemes.{Begins}
use Rattle.aioc_tokens.proofs.view.Lexed.begins.Given as goal

abbrev pub invariant-loop-place : goal.invariant-loop-place
invariant-loop-place l = Begins (drop l.place l.sorts) (drop (l.at + l.place) l.self) ↔ Begins l.sorts (drop l.at l.self)
