-- What the tables of a code in the making have, and what was made of a draft.
use Rattle.std.specs.Prelude.{◌≡◌, true, List, map}
use Rattle.std.specs.List.{AllZip}
use Rattle.lower_model.specs.Making.{Making}
use Rattle.code_assembly.specs.declared.assembly.Made.{Made}
use Rattle.code_assembly.specs.declared.tables.Tables.{Tables}
use Rattle.code_assembly.specs.declared.units.LaidUnit.{LaidUnit}
use Rattle.code_assembly.specs.Standing.{AllCome, Stock}
use Rattle.code_assembly.specs.Unit.{IsUnitOf, params_in}

abbrev pub stock_of : Tables → Stock
stock_of t = record { constants = t.constants.items; tested = t.tested.items; params = t.params.items }

-- no statement leaves a loop where there is none, the instructions are those of the steps, one by one, and the units those that
-- were laid
pub record IsMadeOf (m : Making) (laid : List LaidUnit) (x : Made) : Type 0 where
  pub sound : m.sound ≡ true
  pub come : AllCome (stock_of x.tables) m.labels m.steps x.instrs.items
  pub params : x.tables.params.items ≡ map params_in laid
  pub units : AllZip IsUnitOf laid x.units.items
