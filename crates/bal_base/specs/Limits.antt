-- The greatest int, 2^63 - 1.
use Rattle.std.specs.Prelude.{ℕ}

abbrev pub greatest_int : ℕ
greatest_int = 9223372036854775807
