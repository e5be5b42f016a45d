use Rattle.std.proofs.Common.{◌-◌, ◌≤◌, length, chars}
use denote.Text.{Utf8}
use denote.Shadow.{shadow}
use Rattle.bal_lexer.proofs.Readings.{HasLexed}
use Rattle.bal_lexer.proofs.lex.Given as goal

abbrev pub invariant-loop-rest : goal.invariant-loop-rest
invariant-loop-rest l =
    record { text : shadow (Utf8 l.rest); within : length l.rest ≤ length l.text; lexed : HasLexed (chars l.text) l.tokens.items (length l.text - length l.rest) (chars l.rest) }

abbrev pub decreases-loop-rest : goal.decreases-loop-rest
decreases-loop-rest l = length l.rest
