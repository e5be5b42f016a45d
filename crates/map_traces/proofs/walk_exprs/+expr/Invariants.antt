use Rattle.std.proofs.Common.{◌≡◌, take}
use Rattle.map_traces.specs.Events.{known_of, tracing_of}
use Rattle.map_traces.specs.Trees.{exprs_traced}
use Rattle.map_traces.proofs.walk_exprs.+expr.Given as goal

abbrev pub invariant-exprs-loop-e : goal.invariant-exprs-loop-e
invariant-exprs-loop-e l = tracing_of l.trace ≡ exprs_traced (known_of l.around) (take l.e-index l.es) (tracing_of l.fn.trace)
