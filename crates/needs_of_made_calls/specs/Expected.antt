-- What is expected of the next argument, as what is wanted.
use Rattle.std.specs.Prelude.{◌≡◌, ◌++◌, [], ◌∷◌, Option, Result, Ok, Err}
use Rattle.bal_base.specs.declared.fault.Fault.{Fault}
use Rattle.bal_base.specs.declared.stop.Stop.{Stop}
use Rattle.checks.specs.Checks.{Comes}
use Rattle.typed_tree.specs.SharedTypes.{Shared}
use Rattle.check_words.specs.State.{State}
use Rattle.check_words.specs.Words.{Atoms, Step}

abbrev pub wanted_end : Result (Option Shared) (Stop Fault) → Result (Unit {0}) (Stop Fault)
wanted_end (Ok w) = Ok tt
wanted_end (Err stop) = Err stop

abbrev pub with_want : State → Result (Option Shared) (Stop Fault) → State
with_want s (Ok w) = record s { wants = s.wants ++ w ∷ [] }
with_want s (Err stop) = s

-- in every state over the old atoms the check comes to this, which is wanted then, or to this stop
unfoldable pub WantsOver : Step → Atoms → Result (Option Shared) (Stop Fault) → Atoms → Type 0
WantsOver check old r new = (s : State) → s.atoms ≡ old → Comes check s (wanted_end r) (with_want (record s { atoms = new }) r)
