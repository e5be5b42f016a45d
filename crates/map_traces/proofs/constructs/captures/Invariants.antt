use Rattle.std.proofs.Common.{◌≡◌, take}
use Rattle.map_traces.specs.Constructs.{captures_loaded}
use Rattle.map_traces.specs.Events.{known_of, tracing_of}
use Rattle.map_traces.proofs.constructs.captures.Given as goal

abbrev pub invariant-loop-c : goal.invariant-loop-c
invariant-loop-c l = tracing_of l.trace ≡ captures_loaded (known_of l.around) (take l.c-index l.captured) (tracing_of l.fn.trace)
