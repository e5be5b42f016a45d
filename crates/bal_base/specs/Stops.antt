-- What a call says of its own fault.
use Rattle.std.specs.Prelude.{Result, Ok, Err, ⊤}
use Rattle.bal_base.specs.declared.stop.Stop.{Stop}
use Rattle.bal_base.specs.declared.stop.Stop.TheVariants.{Memory, Fault}

-- P of the fault, if the call stopped with one: nothing is said of a result, nor of want of memory
abbrev pub IfFault : {T F : Type 0} → Result T (Stop F) → (F → Type 0) → Type 0
IfFault (Ok x) P = ⊤
IfFault (Err Memory) P = ⊤
IfFault (Err (Fault fault)) P = P fault
