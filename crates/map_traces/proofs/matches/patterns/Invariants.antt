use Rattle.std.proofs.Common.{◌≡◌, take}
use Rattle.map_traces.specs.Events.{known_of, tracing_of}
use Rattle.map_traces.specs.Trees.{patterns_traced}
use Rattle.map_traces.proofs.matches.patterns.Given as goal

abbrev pub invariant-loop-p : goal.invariant-loop-p
invariant-loop-p l = tracing_of l.trace ≡ patterns_traced (known_of l.around) l.own (take l.p-index l.ps) (tracing_of l.fn.trace)
