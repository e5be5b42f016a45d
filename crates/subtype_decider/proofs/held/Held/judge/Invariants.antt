use Rattle.std.proofs.Common.{◌≡◌, ◌-◌, length}
use Rattle.type_diagrams.specs.Whole.{Extends}
use Rattle.subtype_decider.specs.Working.{CanJudge}
use Rattle.subtype_decider.proofs.held.Held.judge.Given as goal

abbrev pub invariant-loop-self : goal.invariant-loop-self
invariant-loop-self g l = record {
  extends : Extends (length l.call.env.now) l.initial.diagrams l.diagrams;
  same : l.self ≡ record l.initial.self { next = l.self.next };
  can : CanJudge l.call.env.now l.diagrams l.table l.self;
}

abbrev pub decreases-loop-self : goal.decreases-loop-self
decreases-loop-self g l = length l.self.ways.items - l.self.next
