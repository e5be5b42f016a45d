use Rattle.std.proofs.Common.{◌≡◌, map, replicate}
use Rattle.op_model.specs.Strands.{no_channel}
use Rattle.plain_run.specs.Held.{channel_of}
use Rattle.plain_calls.proofs.workers.no_rows.Given as goal

abbrev pub invariant-loop : goal.invariant-loop
invariant-loop l = map (λ xs. map channel_of xs.items) l.rows.items ≡ replicate l.counter (replicate l.fn.width no_channel)
