-- What is answered for a pick.
use Rattle.std.specs.Prelude.{◌≡◌, ℕ, Some, None, slice_get}
use Rattle.machine_model.specs.Machine.{State}
use Rattle.machine_model.specs.Runs.{picked}
use Rattle.stack_code.specs.CodeMachine.{Standing}
use Rattle.code_steps.specs.declared.picks.Picked.{Picked}
use Rattle.code_steps.specs.declared.picks.Picked.TheVariants.{Runs, NoPlace, TooMany}

abbrev pub IsPicked : ℕ → State Standing → Picked → State Standing → Type 0
IsPicked place s Runs t = (n : ℕ) × (slice_get s.common.ready place ≡ Some n) × (t ≡ picked s place n)
IsPicked place s NoPlace t = slice_get s.common.ready place ≡ None
-- a `u64` counts the picks
IsPicked place s TooMany t = s.common.picks ≡ 18446744073709551615
