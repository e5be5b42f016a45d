-- How numbers of messages change.
use Rattle.std.specs.Prelude.{ℕ, List, Option, Some, None, option_map}
use Rattle.operations.specs.Talk.{Talk, Sends, Receives, Flushes, StartsWorkers, AwaitsWorkers, NoTalk}
use Rattle.stack_code.specs.declared.code.StackMap.{StackMap}
use Rattle.stack_code.specs.declared.instr.Instr.{Instr}
use Rattle.stack_code.specs.declared.instr.Instr.TheVariants as instr
use Rattle.stack_code.specs.Flow.{no_messages, one_more}
use Rattle.stack_code.specs.Places.{Tally, tally_of}
use Rattle.place_numbers.specs.declared.changes.Change.{Change}
use Rattle.place_numbers.specs.declared.changes.Change.TheVariants.{Begun, More}
use Rattle.place_numbers.specs.declared.counts.Counts.{Counts}

-- the numbers, as they are read
abbrev pub tally_from : Counts → Tally
tally_from counts = record { sent = counts.sent.now; received = counts.received.now }

abbrev pub tally_in : Option StackMap → Option Tally
tally_in (Some m) = tally_of m
tally_in None = None

-- one more for the worker, if there is one
abbrev pub more_by : Option ℕ → List ℕ → List ℕ
more_by (Some w) ns = one_more ns w
more_by None ns = ns

abbrev pub more_of : Option ℕ → Option ℕ → Tally → Tally
more_of sent received t = record { sent = more_by sent t.sent; received = more_by received t.received }

-- in a function of so many workers
abbrev pub changed : ℕ → Change → Option Tally → Option Tally
changed workers (More sent received) tally = option_map (more_of sent received) tally
changed workers Begun tally = Some (no_messages workers)

abbrev pub change_by : Talk → Change
change_by (Sends w) = More (Some w) None
change_by (Receives w) = More None (Some w)
change_by (Flushes w) = More None None
change_by StartsWorkers = Begun
change_by (AwaitsWorkers ws) = More None None
change_by NoTalk = More None None

-- what a panic carries
abbrev pub thrown : Change → Change
thrown (More sent received) = More sent received
thrown Begun = More None None

-- by instructions
abbrev pub change_so : Instr → Change
change_so (instr.Send w) = More (Some w) None
change_so (instr.Post w) = More (Some w) None
change_so (instr.Receive w) = More None (Some w)
change_so instr.Workers = Begun
change_so _ = More None None
