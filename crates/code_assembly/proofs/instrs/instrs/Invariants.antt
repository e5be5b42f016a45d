use Rattle.std.proofs.Common.{map, take}
use Rattle.lower_expr.specs.Drafts.{step_of}
use Rattle.code_assembly.specs.Known.{stock_of}
use Rattle.code_assembly.specs.Standing.{AllCome, Grows}
use Rattle.code_assembly.proofs.instrs.instrs.Given as goal

abbrev pub invariant-loop-step : goal.invariant-loop-step
invariant-loop-step l =
    Grows (stock_of l.fn.tables) (stock_of l.tables) × AllCome (stock_of l.tables) l.labels (map step_of (take l.step-index l.steps)) l.instrs.items
