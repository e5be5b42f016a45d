-- The operations of instructions, group by group, each with those of the groups before it.
use Rattle.std.specs.Prelude.{Option, Some, None}
use Rattle.operations.specs.declared.operation.Operation.TheVariants as op
use Rattle.stack_code.specs.declared.code.Code.{Code}
use Rattle.stack_code.specs.declared.instr.Instr.{Instr}
use Rattle.stack_code.specs.declared.instr.Instr.TheVariants as instr
use Rattle.stack_code.specs.Commands.{Command, Do, of_constant, of_field, of_type, of_unit}

-- of ints, strings, booleans and any values
abbrev pub simple_command : Instr → Option Command
simple_command instr.Add = Some (Do op.Add)
simple_command instr.Sub = Some (Do op.Subtract)
simple_command instr.Mul = Some (Do op.Multiply)
simple_command instr.Div = Some (Do op.Divide)
simple_command instr.Rem = Some (Do op.Remainder)
simple_command instr.Neg = Some (Do op.Negate)
simple_command instr.Concat = Some (Do op.Concat)
simple_command instr.Less = Some (Do op.Less)
simple_command instr.LessEqual = Some (Do op.LessEqual)
simple_command instr.Not = Some (Do op.Not)
simple_command instr.Equal = Some (Do op.Equal)
simple_command instr.Same = Some (Do op.Same)
simple_command instr.GetChar = Some (Do op.GetChar)
simple_command _ = None

-- of members, messages and function values
abbrev pub plain_command : Instr → Option Command
plain_command instr.Pop = Some (Do op.Pop)
plain_command instr.Tick = Some (Do op.Tick)
plain_command instr.GetItem = Some (Do op.GetItem)
plain_command instr.GetKey = Some (Do op.GetKey)
plain_command instr.SetItem = Some (Do op.SetItem)
plain_command instr.SetKey = Some (Do op.SetKey)
plain_command (instr.CallValue count) = Some (Do (op.CallValue count))
plain_command instr.Panic = Some (Do op.Panic)
plain_command (instr.StartValue count) = Some (Do (op.StartValue count))
plain_command instr.Workers = Some (Do op.Workers)
plain_command (instr.Send w) = Some (Do (op.Send w))
plain_command (instr.Post w) = Some (Do (op.Post w))
plain_command (instr.Done w) = Some (Do (op.Done w))
plain_command (instr.Receive w) = Some (Do (op.Receive w))
plain_command (instr.Flush w) = Some (Do (op.Flush w))
plain_command i = simple_command i

-- of what is named: constants, slots, variables, types and units, and returns
abbrev pub named_command : Code → Instr → Option Command
named_command code (instr.Const c) = of_constant code c
named_command code (instr.Load s) = Some (Do (op.Load s))
named_command code (instr.Store s) = Some (Do (op.Store s))
named_command code (instr.LoadModule m) = Some (Do (op.LoadModule m))
named_command code (instr.StoreModule m) = Some (Do (op.StoreModule m))
named_command code (instr.Test t) = of_type code op.Test t
named_command code (instr.Cast t) = of_type code op.Cast t
named_command code (instr.Call u) = of_unit code (op.Call u) u
named_command code instr.Return = Some (Do op.Return)
named_command code i = plain_command i

-- of what is made, of fields, and waits for one
abbrev pub made_command : Code → Instr → Option Command
made_command code (instr.MakeList atom count immutable) = Some (Do (op.MakeList atom immutable count))
made_command code (instr.MakeMap atom count immutable) = Some (Do (op.MakeMapping atom immutable count))
made_command code (instr.MakeError count) = Some (Do (op.MakeError count))
made_command code (instr.MakeFunction unit count) = Some (Do (op.MakeFunction unit count))
made_command code (instr.GetField c) = of_field code op.GetField c
made_command code (instr.GetOptional c) = of_field code op.GetOptional c
made_command code (instr.StartCall u) = of_unit code (op.Start u) u
made_command code (instr.WaitWorker w) = Some (Do (op.WaitWorker w))
made_command code instr.WaitFuture = Some (Do op.WaitFuture)
made_command code i = named_command code i
