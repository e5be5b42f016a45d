use Rattle.std.proofs.Common.{All, Contains, length, ◌-◌, ◌^◌}
use Rattle.type_diagrams.specs.Whole.{Extends}
use Rattle.subtype_decider.specs.Working.{IsAtRest}
use Rattle.subtype_decider.proofs.questions.Questions.project_path.Given as goal

abbrev pub invariant-loop-parts : goal.invariant-loop-parts
invariant-loop-parts g l = record {
  rest : IsAtRest l.env l.self;
  extends : Extends (length l.env) l.fn.self.diagrams l.self.diagrams;
  kept : All (Contains l.self.table) l.fn.self.table;
}

abbrev pub decreases-loop-parts : goal.decreases-loop-parts
decreases-loop-parts g l = 2 ^ 63 - length l.self.table
