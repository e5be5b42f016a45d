use Rattle.std.proofs.Common.{None, length, take}
use Rattle.type_diagrams.specs.Tables.{condition}
use Rattle.type_diagrams.specs.Whole.{Extends}
use Rattle.empty_arrow.specs.Giving.{IsOnOne, TellsResults}
use Rattle.subtype_decider.specs.Working.{IsAtRest}
use Rattle.subtype_decider.proofs.questions.Questions.paths_give.Given as goal

abbrev pub invariant-loop-path : goal.invariant-loop-path
invariant-loop-path l =
    IsAtRest l.env l.self × Extends (length l.env) l.fn.self.diagrams l.self.diagrams
    × TellsResults l.env (IsOnOne l.env (take l.path-index l.paths)) (condition l.fn.self.diagrams l.arguments) l.fn.results.items l.results.items None
