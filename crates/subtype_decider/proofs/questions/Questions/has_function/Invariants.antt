use Rattle.std.proofs.Common.{length}
use Rattle.type_diagrams.specs.Whole.{Extends}
use Rattle.subtype_decider.specs.Working.{IsAtRest, unknown_left}
use Rattle.subtype_decider.proofs.questions.Questions.has_function.Given as goal

abbrev pub invariant-loop-turn : goal.invariant-loop-turn
invariant-loop-turn l = IsAtRest l.env l.self × Extends (length l.env) l.fn.self.diagrams l.self.diagrams

abbrev pub decreases-loop-turn : goal.decreases-loop-turn
decreases-loop-turn l = unknown_left l.self
