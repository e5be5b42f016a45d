-- How a program ends.
use Rattle.std.specs.Prelude.{ℕ, List, codes}

pub data End : Type 0 where
  -- main returned nil
  Returned : End
  -- a panic with this message
  Panicked : List ℕ → End

-- the message of the panic at an int that is too large or too small
abbrev pub number_overflow : List ℕ
number_overflow = codes "{ballerina}NumberOverflow"
