-- What the objects in memory hold.
use Rattle.std.specs.Prelude.{ℕ, List}
use Rattle.bal_io.specs.Calls.{CallLog}

-- files, each with the code points of its name and its bytes
pub record HeldFolder : Type 0 where
  pub files : List (List ℕ × List ℕ)
  pub calls : CallLog

-- the bytes that are still to be read
pub record HeldInput : Type 0 where
  pub rest : List ℕ
  pub calls : CallLog

-- the bytes that were written, and how many bytes of its piece a call that fails takes at most
pub record HeldOutput : Type 0 where
  pub written : List ℕ
  pub taken : ℕ
  pub calls : CallLog
