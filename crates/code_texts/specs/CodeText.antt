-- The text of a code: a line for each instruction, in order: its place, its name and its numbers, separated by spaces.
use Rattle.std.specs.Prelude.{◌++◌, ℕ, suc, Bool, true, false, List, [], ◌∷◌, Option, Some, None, codes, decimal, flat_map}
use Rattle.stack_code.specs.declared.code.Code.{Code}
use Rattle.stack_code.specs.declared.instr.Instr.{Instr}
use Rattle.stack_code.specs.declared.instr.Instr.TheVariants.{Const, Pop, Load, Store, LoadModule, StoreModule, Tick, Jump, JumpIfNot, Add, Sub, Mul, Div, Rem, Neg, Concat, Less, LessEqual, Not, Equal, Same, MakeList, MakeMap, MakeError, MakeFunction, GetItem, GetKey, GetChar, GetField, GetOptional, SetItem, SetKey, Test, Cast, Call, CallValue, Native, Return, Trap, Untrap, Panic, StartCall, StartValue, Workers, Send, Post, Done, Receive, Flush, WaitWorker, WaitFuture, WaitAny, WaitAll}

-- ---- names

abbrev pub name_of : Instr → List ℕ
name_of (Const c) = codes "Const"
name_of Pop = codes "Pop"
name_of (Load s) = codes "Load"
name_of (Store s) = codes "Store"
name_of (LoadModule m) = codes "LoadModule"
name_of (StoreModule m) = codes "StoreModule"
name_of Tick = codes "Tick"
name_of (Jump p) = codes "Jump"
name_of (JumpIfNot p) = codes "JumpIfNot"
name_of Add = codes "Add"
name_of Sub = codes "Sub"
name_of Mul = codes "Mul"
name_of Div = codes "Div"
name_of Rem = codes "Rem"
name_of Neg = codes "Neg"
name_of Concat = codes "Concat"
name_of Less = codes "Less"
name_of LessEqual = codes "LessEqual"
name_of Not = codes "Not"
name_of Equal = codes "Equal"
name_of Same = codes "Same"
name_of (MakeList atom count immutable) = codes "MakeList"
name_of (MakeMap atom count immutable) = codes "MakeMap"
name_of (MakeError count) = codes "MakeError"
name_of (MakeFunction unit count) = codes "MakeFunction"
name_of GetItem = codes "GetItem"
name_of GetKey = codes "GetKey"
name_of GetChar = codes "GetChar"
name_of (GetField c) = codes "GetField"
name_of (GetOptional c) = codes "GetOptional"
name_of SetItem = codes "SetItem"
name_of SetKey = codes "SetKey"
name_of (Test t) = codes "Test"
name_of (Cast t) = codes "Cast"
name_of (Call u) = codes "Call"
name_of (CallValue count) = codes "CallValue"
name_of (Native op atom count) = codes "Native"
name_of Return = codes "Return"
name_of (Trap p) = codes "Trap"
name_of Untrap = codes "Untrap"
name_of Panic = codes "Panic"
name_of (StartCall u) = codes "StartCall"
name_of (StartValue count) = codes "StartValue"
name_of Workers = codes "Workers"
name_of (Send w) = codes "Send"
name_of (Post w) = codes "Post"
name_of (Done w) = codes "Done"
name_of (Receive w) = codes "Receive"
name_of (Flush w) = codes "Flush"
name_of (WaitWorker w) = codes "WaitWorker"
name_of WaitFuture = codes "WaitFuture"
name_of (WaitAny awaited) = codes "WaitAny"
name_of (WaitAll atom awaited) = codes "WaitAll"

-- ---- numbers

-- 1 for what is so, 0 for what isn't
abbrev pub truth_number : Bool → ℕ
truth_number true = 1
truth_number false = 0

-- The numbers of an instruction, in order. Among what a wait names, none stands for a future, which is an operand.
abbrev pub numbers_of : Instr → List (Option ℕ)
numbers_of (Const c) = Some c ∷ []
numbers_of Pop = []
numbers_of (Load s) = Some s ∷ []
numbers_of (Store s) = Some s ∷ []
numbers_of (LoadModule m) = Some m ∷ []
numbers_of (StoreModule m) = Some m ∷ []
numbers_of Tick = []
numbers_of (Jump p) = Some p ∷ []
numbers_of (JumpIfNot p) = Some p ∷ []
numbers_of Add = []
numbers_of Sub = []
numbers_of Mul = []
numbers_of Div = []
numbers_of Rem = []
numbers_of Neg = []
numbers_of Concat = []
numbers_of Less = []
numbers_of LessEqual = []
numbers_of Not = []
numbers_of Equal = []
numbers_of Same = []
numbers_of (MakeList atom count immutable) = Some atom ∷ Some count ∷ Some (truth_number immutable) ∷ []
numbers_of (MakeMap atom count immutable) = Some atom ∷ Some count ∷ Some (truth_number immutable) ∷ []
numbers_of (MakeError count) = Some count ∷ []
numbers_of (MakeFunction unit count) = Some unit ∷ Some count ∷ []
numbers_of GetItem = []
numbers_of GetKey = []
numbers_of GetChar = []
numbers_of (GetField c) = Some c ∷ []
numbers_of (GetOptional c) = Some c ∷ []
numbers_of SetItem = []
numbers_of SetKey = []
numbers_of (Test t) = Some t ∷ []
numbers_of (Cast t) = Some t ∷ []
numbers_of (Call u) = Some u ∷ []
numbers_of (CallValue count) = Some count ∷ []
numbers_of (Native op atom count) = Some op ∷ Some atom ∷ Some count ∷ []
numbers_of Return = []
numbers_of (Trap p) = Some p ∷ []
numbers_of Untrap = []
numbers_of Panic = []
numbers_of (StartCall u) = Some u ∷ []
numbers_of (StartValue count) = Some count ∷ []
numbers_of Workers = []
numbers_of (Send w) = Some w ∷ []
numbers_of (Post w) = Some w ∷ []
numbers_of (Done w) = Some w ∷ []
numbers_of (Receive w) = Some w ∷ []
numbers_of (Flush w) = Some w ∷ []
numbers_of (WaitWorker w) = Some w ∷ []
numbers_of WaitFuture = []
numbers_of (WaitAny awaited) = awaited
numbers_of (WaitAll atom awaited) = Some atom ∷ awaited

-- a number, or the sign for a future, behind a space
abbrev pub number_behind : Option ℕ → List ℕ
number_behind (Some n) = codes " " ++ decimal n
number_behind None = codes " -"

abbrev pub numbers_text : List (Option ℕ) → List ℕ
numbers_text numbers = flat_map number_behind numbers

-- ---- lines

-- `PLACE NAME NUMBERS`, as `2 MakeList 16 3 0`
abbrev pub line_of : ℕ → Instr → List ℕ
line_of place i = decimal place ++ codes " " ++ name_of i ++ numbers_text (numbers_of i) ++ codes "\n"

-- the lines of instructions that follow one another, the first of which is at this place
abbrev pub lines_from : ℕ → List Instr → List ℕ
lines_from place [] = []
lines_from place (i ∷ rest) = line_of place i ++ lines_from (suc place) rest

abbrev pub code_text : Code → List ℕ
code_text code = lines_from 0 code.instrs
