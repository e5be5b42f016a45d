use Rattle.std.proofs.Common.{take, ◌≡◌}
use Rattle.stmt_needs.specs.PackageTable.{assigned_in_workers}
use Rattle.stmt_needs.specs.StmtTable.{is_among}
use Rattle.assigned_names.proofs.assigned.in_workers.Given as goal

abbrev pub invariant-loop-w : goal.invariant-loop-w
invariant-loop-w l = l.found ≡ is_among l.name (assigned_in_workers (take l.w-index l.workers))
