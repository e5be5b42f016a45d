-- Numbers of messages, as they are kept while commands are passed.
use Rattle.std.specs.Prelude.{ℕ, List, [], ◌∷◌, Option, Some, None, if◌then◌else◌}
use Rattle.stack_code.specs.Commands.{Command}
use Rattle.stack_code.specs.Places.{Tally}
use Rattle.map_model.specs.Whole.{tally_after}
use Rattle.code_maps.specs.declared.exchanged.Exchanged.{Exchanged}

abbrev pub tally_in : Exchanged → Option Tally
tally_in x = if x.counted then Some (record { sent = x.sent.items; received = x.received.items }) else None

-- behind these commands, in a function of so many workers
abbrev pub tally_along : ℕ → Option Tally → List Command → Option Tally
tally_along workers tally [] = tally
tally_along workers tally (c ∷ cs) = tally_along workers (tally_after workers c tally) cs
