use Rattle.std.proofs.Common.{take}
use Rattle.descriptors.specs.Steps.{AreNames}
use Rattle.type_model.specs.Calls.{KeepsTypes}
use Rattle.needs_of_functions.specs.Results.{AddsResults}
use Rattle.needs_of_functions.proofs.results.add_results.Given as goal

abbrev pub invariant-loop-worker : goal.invariant-loop-worker
invariant-loop-worker g l =
    AddsResults l.names l.scope (take l.worker-index l.workers) (g.T.Types.atoms l.initial.types) l.initial.results.items l.results.items (g.T.Types.atoms l.types)
    × KeepsTypes (g.T.Types.atoms l.initial.types) (g.T.Types.atoms l.types) × AreNames (g.T.Types.atoms l.types) l.names
