use Rattle.std.proofs.Common.{◌≡◌, take}
use Rattle.map_traces.specs.Events.{known_of, tracing_of}
use Rattle.map_traces.specs.Trees.{initials_traced}
use Rattle.map_traces.proofs.walk_units.initials.Given as goal

abbrev pub invariant-loop-i : goal.invariant-loop-i
invariant-loop-i l = tracing_of l.trace ≡ initials_traced (known_of l.around) (take l.i-index l.is) (tracing_of l.fn.trace)
