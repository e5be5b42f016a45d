use Rattle.std.proofs.Common.{◌≡◌, ◌≤◌, length, take}
use Rattle.type_diagrams.specs.Whole.{Extends}
use Rattle.subtype_decider.specs.Entries.{KnowsAll}
use Rattle.subtype_decider.specs.Working.{IsWorking, left}
use Rattle.subtype_decider.proofs.questions.Questions.next_change.Given as goal

abbrev pub invariant-loop-self : goal.invariant-loop-self
invariant-loop-self g l = record {
  extends : Extends (length l.call.env.now) l.initial.self.diagrams l.self.diagrams;
  began : take l.call.start l.self.table ≡ take l.call.start l.initial.self.table;
  working : IsWorking l.call.env.now l.call.first l.call.start l.self;
  knows : KnowsAll l.initial.self.table l.self.table;
  left : left l.call.start l.self ≤ left l.call.start l.initial.self;
}

abbrev pub decreases-loop-self : goal.decreases-loop-self
decreases-loop-self g l = length l.self.pending.items
