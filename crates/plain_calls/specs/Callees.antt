-- The arguments with which a function value is called.
use Rattle.std.specs.Prelude.{◌++◌, Bool, List, Option, nat_le}
use Rattle.value_model.specs.declared.value.Value.{Value}
use Rattle.value_model.specs.Heap.{FunctionObject, cells}
use Rattle.value_model.specs.World.{World}
use Rattle.op_model.specs.CallRows.{arguments, checked, passed, starts, with_arguments, with_rest}
use Rattle.op_model.specs.Common.{Common, Role}
use Rattle.op_model.specs.Effects.{Effect, Enters}
use Rattle.op_model.specs.ProgramFacts.{UnitFacts}
use Rattle.op_model.specs.Limits.{most_cells}

-- whether the list of the rest parameter, if there is one, has room
abbrev pub rest_fits : UnitFacts → World → List Value → Bool
rest_fits u w args = nat_le (cells (with_rest u.rest u.params w args).heap) most_cells

abbrev pub with_list : UnitFacts → World → List Value → World
with_list u w args = with_rest u.rest u.params w args

abbrev pub all_passed : UnitFacts → World → List Value → List Value → List Value
all_passed u w args captured = passed u.rest u.params w args ++ captured

-- the call of the unit of a function value, and the strand that is started with it
abbrev pub value_called : Common → FunctionObject → UnitFacts → List Value → Effect
value_called c f u args = let d = with_arguments c u args in checked d (Enters f.unit (arguments c f u args) d)

abbrev pub value_started : Common → Option Role → FunctionObject → UnitFacts → List Value → Effect
value_started c role f u args = let d = with_arguments c u args in checked d (starts d role f.unit (arguments c f u args))
