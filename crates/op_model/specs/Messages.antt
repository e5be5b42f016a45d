-- Messages between the workers of an activation (Ballerina's "Send action", "Receive action" and "Flush action").
use Rattle.std.specs.Prelude.{◌+◌, ◌++◌, ℕ, Bool, List, [], ◌∷◌, Option, Some, None, nat_le, if◌then◌else◌}
use Rattle.bal_base.specs.declared.fault.LimitKind.TheVariants.{Cells}
use Rattle.value_model.specs.declared.value.Value.{Value}
use Rattle.value_model.specs.declared.value.Value.TheVariants.{Nil}
use Rattle.value_model.specs.Heap.{cells}
use Rattle.op_model.specs.Limits.{most_cells}
use Rattle.op_model.specs.Copies.{copy_of, with_copies}
use Rattle.op_model.specs.Common.{Common, Channel, Role, End, Returned, Panicked, Message, Received}
use Rattle.op_model.specs.Strands.{channel_at, settled, with_channel, worker_end}
use Rattle.op_model.specs.Effects.{Effect, Gives, Fails, Waits, Beyond, with_world}

-- ---- sends

abbrev pub one_sent : Channel → Value → Channel
one_sent x v = record { sent = x.sent + 1; received = x.received; queue = x.queue ++ v ∷ [] }

-- a copy of the value is the last message to the peer; then this is given
abbrev pub sends : Common → Role → ℕ → Value → List Value → Effect
sends c r to v vs =
    let w = with_copies Bool.true c.world v in
    let x = one_sent (channel_at c r.activation r.worker to) (copy_of c.world v) in
    if nat_le (cells w.heap) most_cells
    then Gives vs (settled (with_channel (with_world c w) r.activation r.worker to x))
    else Beyond Cells

-- ---- receives

abbrev pub one_received : Channel → List Value → Channel
one_received x queue = record { sent = x.sent; received = x.received + 1; queue = queue }

abbrev pub with_received : Common → Role → ℕ → List Value → Common
with_received c r from queue = with_channel c r.activation from r.worker (one_received (channel_at c r.activation from r.worker) queue)

-- no message is there: the error of a sender that has ended, or its panic, takes its place
abbrev pub receives_end : Common → Role → ℕ → Option End → Effect
receives_end c r from (Some (Returned v)) = Gives (v ∷ []) (settled (with_received c r from []))
receives_end c r from (Some (Panicked e)) = Fails e (with_received c r from [])
receives_end c r from None = Waits (Message r.activation from r.worker)

-- the first message
abbrev pub receives_from : Common → Role → ℕ → List Value → Effect
receives_from c r from (v ∷ queue) = Gives (v ∷ []) (settled (with_received c r from queue))
receives_from c r from [] = receives_end c r from (worker_end c r.activation from)

abbrev pub receives : Common → Role → ℕ → Effect
receives c r from = receives_from c r from (channel_at c r.activation from r.worker).queue

-- ---- flushes

-- not all was received: the error of a peer that has ended, or its panic
abbrev pub flushes_end : Common → Role → ℕ → ℕ → Option End → Effect
flushes_end c r to sent (Some (Returned v)) = Gives (v ∷ []) c
flushes_end c r to sent (Some (Panicked e)) = Fails e c
flushes_end c r to sent None = Waits (Received r.activation r.worker to sent)

-- all that was sent to the peer so far is received
abbrev pub flushes : Common → Role → ℕ → Effect
flushes c r to =
    let x = channel_at c r.activation r.worker to in
    if nat_le x.sent x.received then Gives (Nil ∷ []) c else flushes_end c r to x.sent (worker_end c r.activation to)
