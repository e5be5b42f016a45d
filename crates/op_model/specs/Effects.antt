-- What an operation comes to for a run.
use Rattle.std.specs.Prelude.{ℕ, List, Option}
use Rattle.bal_base.specs.declared.fault.LimitKind.{LimitKind}
use Rattle.bal_base.specs.declared.fault.LimitKind.TheVariants.{Cells}
use Rattle.value_model.specs.declared.value.Value.{Value}
use Rattle.value_model.specs.World.{World, Came, Gave, Threw, PassesCells}
use Rattle.op_model.specs.Common.{Common, Need, Role}

-- a strand that is made: it begins with a unit, as a named worker or as none
pub record Spawned : Type 0 where
  pub unit : ℕ
  pub args : List Value
  pub role : Option Role

pub data Effect : Type 0 where
  -- it gives nothing or one value, and all goes on
  Gives : List Value → Common → Effect
  -- it panics with this error; the strands that wake are not ready yet
  Fails : Value → Common → Effect
  -- it can't be done yet
  Waits : Need → Effect
  -- a unit is called with these arguments, and what it captured behind them
  Enters : ℕ → List Value → Common → Effect
  -- the frame ends with this value
  Leaves : Value → Effect
  -- strands were made, which begin so; the frame is this worker from now on, and this is given
  Spawns : List Spawned → Option Role → List Value → Common → Effect
  -- it needs a tick, and none is left
  NoTick : Effect
  -- it would pass a limit of the run
  Beyond : LimitKind → Effect

abbrev pub with_world : Common → World → Common
with_world c w = record c { world = w }

-- what an operation on the world comes to
abbrev pub lifted : Common → Came → Effect
lifted c (Gave vs w) = Gives vs (with_world c w)
lifted c (Threw e w) = Fails e (with_world c w)
lifted c PassesCells = Beyond Cells
