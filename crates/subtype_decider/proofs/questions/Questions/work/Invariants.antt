use Rattle.std.proofs.Common.{◌≡◌, length, take}
use Rattle.type_diagrams.specs.Whole.{Extends}
use Rattle.subtype_decider.specs.Entries.{Knows}
use Rattle.subtype_decider.specs.Working.{IsWorking, left}
use Rattle.subtype_decider.proofs.questions.Questions.work.Given as goal

abbrev pub invariant-loop-self : goal.invariant-loop-self
invariant-loop-self g l = record {
  extends : Extends (length l.call.env.now) l.initial.self.diagrams l.self.diagrams;
  began : take l.call.start l.self.table ≡ take l.call.start l.initial.self.table;
  working : IsWorking l.call.env.now l.call.first l.call.start l.self;
  knows : Knows l.self.table l.call.first;
}

abbrev pub decreases-loop-self : goal.decreases-loop-self
decreases-loop-self g l = left l.call.start l.self
