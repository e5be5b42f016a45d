-- Checks of a checker's state that look at its atoms alone, and change nothing else.
use Rattle.std.specs.Prelude.{◌≡◌, Result}
use Rattle.bal_base.specs.declared.fault.Fault.{Fault}
use Rattle.bal_base.specs.declared.stop.Stop.{Stop}
use Rattle.checks.specs.Checks.{Check, Comes}
use Rattle.check_words.specs.State.{State}
use Rattle.check_words.specs.Words.{Atoms}

-- In every state over the old atoms, what a call answers is what the check may come to, and behind it the state is the same over the
-- new atoms.
unfoldable pub ComesOver : {A : Type 0} → Check State A → Atoms → Result A (Stop Fault) → Atoms → Type 0
ComesOver check old r new = (s : State) → s.atoms ≡ old → Comes check s r (record s { atoms = new })
