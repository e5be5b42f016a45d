use Rattle.std.proofs.Common.{◌≡◌, None, map, replicate}
use Rattle.std.specs.Prelude.{option_map}
use Rattle.plain_run.specs.Held.{end_of}
use Rattle.plain_calls.proofs.workers.no_ends.Given as goal

abbrev pub invariant-loop : goal.invariant-loop
invariant-loop l = map (option_map end_of) l.ends.items ≡ replicate l.counter None
