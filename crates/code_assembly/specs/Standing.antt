-- Which instruction stands for a command, in each code that has what the instruction names.
use Rattle.std.specs.Prelude.{◌≡◌, ℕ, List, Option, Some, length, option_map, slice_get}
use Rattle.std.specs.List.{AllZip}
use Rattle.type_model.specs.declared.basic.SemType.{SemType}
use Rattle.type_model.specs.SameType.{IsSameType}
use Rattle.operations.specs.declared.operation.Constant.{Constant}
use Rattle.operations.specs.declared.operation.Operation.{Operation}
use Rattle.stack_code.specs.declared.code.Code.{Code}
use Rattle.stack_code.specs.declared.instr.Instr.{Instr}
use Rattle.stack_code.specs.Commands.{Command, Do, GoTo, GoToIfNot, OpenTrap, CloseTrap, command_of}
use Rattle.lower_model.specs.Lowered.{IsSameOperation}
use Rattle.lower_model.specs.Making.{placed}

-- what instructions name by numbers
pub record Stock : Type 0 where
  pub constants : List Constant
  pub tested : List SemType
  -- how many parameters each unit has
  pub params : List ℕ

pub record HasStock (s : Stock) (code : Code) : Type 0 where
  pub constants : (n : ℕ) (c : Constant) → slice_get s.constants n ≡ Some c → slice_get code.constants n ≡ Some c
  pub tested : (n : ℕ) (t : SemType) → slice_get s.tested n ≡ Some t → slice_get code.tested n ≡ Some t
  pub params : (n k : ℕ) → slice_get s.params n ≡ Some k → option_map (λ u. length u.params) (slice_get code.units n) ≡ Some k

-- what has the second has the first, the same types are tested, and units have as many parameters
pub record Grows (s t : Stock) : Type 0 where
  pub has : (code : Code) → HasStock t code → HasStock s code
  pub tested : t.tested ≡ s.tested
  pub params : t.params ≡ s.params

-- a type that is the same but for where it lies has this number
pub record HasSame (s : Stock) (type : SemType) (n : ℕ) : Type 0 where
  pub kept : SemType
  pub there : slice_get s.tested n ≡ Some kept
  pub same : IsSameType type kept

-- ---- instructions

-- it does the operation in every code
pub record Everywhere (op : Operation) (i : Instr) : Type 0 where
  pub is : (code : Code) → command_of code i ≡ Some (Do op)

-- it does the operation, but for where a tested type lies, in each code that has these
pub record DoesSo (s : Stock) (op : Operation) (i : Instr) : Type 0 where
  pub is : (code : Code) → HasStock s code → (also : Operation) × (command_of code i ≡ Some (Do also)) × IsSameOperation op also

-- a command names labels, and the instruction their places
module _ (code : Code) (places : ℕ → ℕ) where
  abbrev pub IsInstr : Command → Instr → Type 0
  IsInstr (Do op) i = (also : Operation) × (command_of code i ≡ Some (Do also)) × IsSameOperation op also
  IsInstr (GoTo l) i = command_of code i ≡ Some (GoTo (places l))
  IsInstr (GoToIfNot l) i = command_of code i ≡ Some (GoToIfNot (places l))
  IsInstr (OpenTrap l) i = command_of code i ≡ Some (OpenTrap (places l))
  IsInstr CloseTrap i = command_of code i ≡ Some CloseTrap

abbrev pub places_of : List (Option ℕ) → ℕ → ℕ
places_of labels l = placed (slice_get labels l)

pub record Comes (s : Stock) (labels : List (Option ℕ)) (c : Command) (i : Instr) : Type 0 where
  pub is : (code : Code) → HasStock s code → IsInstr code (places_of labels) c i

-- instructions for commands, one by one
pub record AllCome (s : Stock) (labels : List (Option ℕ)) (cs : List Command) (is : List Instr) : Type 0 where
  pub are : (code : Code) → HasStock s code → AllZip (IsInstr code (places_of labels)) cs is
