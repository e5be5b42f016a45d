use Rattle.std.proofs.Common.{◌∷◌, take}
use Rattle.empty_arrow.specs.Giving.{IsMeeting}
use Rattle.subtype_decider.proofs.results.all_outcomes.Given as goal

abbrev pub invariant-loop-arrow : goal.invariant-loop-arrow
invariant-loop-arrow l = IsMeeting l.defs (l.first ∷ take l.arrow-index l.others) l.outcomes
