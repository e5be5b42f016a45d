use Rattle.std.proofs.Common.{All, Contains, length, take}
use Rattle.type_diagrams.specs.Whole.{Extends}
use Rattle.subtype_decider.specs.Projections.{IsQuestionOf}
use Rattle.subtype_decider.specs.Working.{IsAtRest}
use Rattle.subtype_decider.proofs.Projected.{StandsOnAny}
use Rattle.subtype_decider.proofs.questions.Questions.project.Given as goal

abbrev pub invariant-loop-path : goal.invariant-loop-path
invariant-loop-path g l = record {
  rest : IsAtRest l.env l.self;
  extends : Extends (length l.env) l.fn.self.diagrams l.self.diagrams;
  kept : All (Contains l.self.table) l.fn.self.table;
  parts : IsQuestionOf l.env l.self.diagrams (StandsOnAny l.env l.keys (take l.path-index l.path-items)) l.parts;
}
