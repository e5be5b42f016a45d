use Rattle.std.proofs.Common.{◌≡◌, map, replicate}
use Rattle.op_model.specs.Strands.{no_channel}
use Rattle.plain_run.specs.Held.{channel_of}
use Rattle.plain_calls.proofs.workers.no_channels.Given as goal

abbrev pub invariant-loop : goal.invariant-loop
invariant-loop l = map channel_of l.row.items ≡ replicate l.counter no_channel
