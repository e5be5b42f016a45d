-- What is told of the traps behind a place.
use Rattle.std.specs.Prelude.{◌≡◌, ℕ, List, [], ◌∷◌, Option, Some, None}
use Rattle.stack_code.specs.declared.instr.Instr.{Instr}
use Rattle.stack_code.specs.declared.instr.Instr.TheVariants.{Trap, Untrap}
use Rattle.code_numbers.specs.Traps.{IsChain}

-- all but the innermost one
abbrev pub outer : List ℕ → Option (List ℕ)
outer [] = None
outer (t ∷ ts) = Some ts

-- those behind an instruction at the place p
abbrev pub trap_step : ℕ → Instr → List ℕ → Option (List ℕ)
trap_step p (Trap landing) ts = Some (p ∷ ts)
trap_step p Untrap ts = outer ts
trap_step p i ts = Some ts

-- the traps, by the innermost one; or that there are fewer than are closed
abbrev pub TellsBehind : ℕ → List (Option ℕ) → Option (List ℕ) → Option (Option ℕ) → Type 0
TellsBehind first rows traps (Some next) = (us : List ℕ) × (traps ≡ Some us) × IsChain first rows next us
TellsBehind first rows traps None = traps ≡ None
