-- What changes in a list, and what passes through a channel.
use Rattle.std.specs.Prelude.{ℕ, List, [], ◌∷◌, Option, Some, None, drop, get_or, map, slice_set}
use Rattle.value_model.specs.declared.value.Value.{Value}
use Rattle.op_model.specs.Common as model
use Rattle.op_model.specs.Messages.{one_received, one_sent}
use Rattle.op_model.specs.Strands.{channel_at, no_channel, with_channel}
use Rattle.plain_run.specs.declared.held.Channel.{Channel}
use Rattle.plain_run.specs.Held.{channel_of}
use Rattle.plain_messages.specs.declared.passing.Passing.{Passing}
use Rattle.plain_messages.specs.declared.passing.Passing.TheVariants.{Sent, Received}

-- the member at the place is changed so, where it is there
abbrev pub changed : {A : Type 0} → (A → A) → A → List A → ℕ → List A
changed f d xs n = slice_set xs n (f (get_or xs n d))

abbrev pub first_of : List Value → Option Value
first_of [] = None
first_of (v ∷ vs) = Some v

abbrev pub row_of : List Channel → List model.Channel
row_of xs = map channel_of xs

-- one message more, or the first one was received
abbrev pub passed : Passing → model.Channel → model.Channel
passed (Sent v) x = one_sent x v
passed Received x = one_received x (drop 1 x.queue)

abbrev pub passed_to : Passing → ℕ → List model.Channel → List model.Channel
passed_to p to row = changed (passed p) no_channel row to

abbrev pub passed_from : Passing → ℕ → ℕ → List (List model.Channel) → List (List model.Channel)
passed_from p from to rows = changed (passed_to p to) [] rows from

abbrev pub passed_in : Passing → ℕ → ℕ → model.Activation → model.Activation
passed_in p from to x = record { unit = x.unit; strands = x.strands; ends = x.ends; channels = passed_from p from to x.channels }

abbrev pub passed_on : Passing → ℕ → ℕ → ℕ → model.Common → model.Common
passed_on p a from to c = with_channel c a from to (passed p (channel_at c a from to))
