-- What an operation on values sees and changes, and what it comes to.
use Rattle.std.specs.Prelude.{ℕ, List}
use Rattle.value_model.specs.declared.value.Value.{Value}
use Rattle.value_model.specs.Heap.{Heap}

pub record World : Type 0 where
  pub heap : Heap
  -- the bytes that are still to be read
  pub input : List ℕ
  -- the bytes that were written
  pub output : List ℕ

pub data Came : Type 0 where
  -- it gives nothing or one value
  Gave : List Value → World → Came
  -- it panics with this error
  Threw : Value → World → Came
  -- it would take more cells than a heap may have
  PassesCells : Came
