-- Numbers of operands, as they are counted, and which instructions give a result or end the frame.
use Rattle.std.specs.Prelude.{ℕ, Bool, true, false, Option, Some, None, length}
use Rattle.stack_code.specs.declared.code.Unit.{Unit as CodeUnit}
use Rattle.stack_code.specs.declared.instr.Instr.{Instr}
use Rattle.stack_code.specs.declared.instr.Instr.TheVariants as instr

abbrev pub params_in : Option CodeUnit → ℕ
params_in (Some u) = length u.params
params_in None = 0

-- of an instruction that names no number of them
abbrev pub plain_count : Instr → ℕ
plain_count instr.SetItem = 3
plain_count instr.SetKey = 3
plain_count instr.Add = 2
plain_count instr.Sub = 2
plain_count instr.Mul = 2
plain_count instr.Div = 2
plain_count instr.Rem = 2
plain_count instr.Concat = 2
plain_count instr.Less = 2
plain_count instr.LessEqual = 2
plain_count instr.Equal = 2
plain_count instr.Same = 2
plain_count instr.GetItem = 2
plain_count instr.GetKey = 2
plain_count instr.GetChar = 2
plain_count instr.Pop = 1
plain_count (instr.Store s) = 1
plain_count (instr.StoreModule m) = 1
plain_count instr.Neg = 1
plain_count instr.Not = 1
plain_count (instr.Test t) = 1
plain_count (instr.Cast t) = 1
plain_count (instr.GetField c) = 1
plain_count (instr.GetOptional c) = 1
plain_count instr.Return = 1
plain_count instr.Panic = 1
plain_count (instr.Send w) = 1
plain_count (instr.Post w) = 1
plain_count instr.WaitFuture = 1
plain_count _ = 0

abbrev pub gives_so : Instr → Bool
gives_so instr.Pop = false
gives_so (instr.Store s) = false
gives_so (instr.StoreModule m) = false
gives_so instr.Tick = false
gives_so instr.Workers = false
gives_so (instr.Post w) = false
gives_so instr.SetItem = false
gives_so instr.SetKey = false
gives_so instr.Return = false
gives_so instr.Panic = false
gives_so _ = true

abbrev pub ends_so : Instr → Bool
ends_so instr.Return = true
ends_so instr.Panic = true
ends_so _ = false
