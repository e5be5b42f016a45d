use Rattle.std.proofs.Common.{◌≡◌, take}
use Rattle.bal_report.specs.EventText.{definition_around, workers_in}
use Rattle.bal_report.proofs.events.workers_around.Given as goal

abbrev pub invariant-loop-def : goal.invariant-loop-def
invariant-loop-def l = l.around ≡ workers_in (definition_around (take l.def-index l.tree.defs.items) l.at)
