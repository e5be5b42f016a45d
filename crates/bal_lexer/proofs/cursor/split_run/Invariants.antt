use Rattle.std.proofs.Common.{length}
use denote.Text.{Utf8}
use denote.Shadow.{shadow}
use Rattle.bal_lexer.specs.Runs.{class_test}
use Rattle.bal_lexer.proofs.Runs.{HasPassed}
use Rattle.bal_lexer.proofs.cursor.split_run.Given as goal

abbrev pub invariant-loop-c : goal.invariant-loop-c
invariant-loop-c l = shadow (Utf8 l.rest) × HasPassed (class_test l.class) l.s l.rest

abbrev pub decreases-loop-c : goal.decreases-loop-c
decreases-loop-c l = length l.rest
