-- What a test says of variables, by other handles of their types.
use Rattle.std.specs.Prelude.{Option, Result, Ok, Err, option_map}
use Rattle.bal_base.specs.declared.fault.Fault.{Fault}
use Rattle.bal_base.specs.declared.stop.Stop.{Stop}
use Rattle.checks.specs.Checks.{Check, Comes}
use Rattle.check_words.specs.Sharing.{SameOption, SameWays}
use Rattle.check_words.specs.State.{State, Ways}
use Rattle.check_work.specs.declared.work.Ways.{Ways as WaysHeld}
use Rattle.check_work.specs.Views.{ways_of}

-- The check gives ways that are the same but for handles, or stops as the call does; the state stays as it is.
unfoldable pub ComesToWays : Check State (Option Ways) → State → Result (Option WaysHeld) (Stop Fault) → Type 0
ComesToWays check s (Ok w) = (x : Option Ways) × Comes check s (Ok x) s × SameOption SameWays x (option_map ways_of w)
ComesToWays check s (Err stop) = Comes check s (Err stop) s
