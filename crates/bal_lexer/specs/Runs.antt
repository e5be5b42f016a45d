-- Runs of characters of a class at the front of a text.
use Rattle.std.specs.Prelude.{ℕ, Bool, not, ◌==◌, if◌then◌else◌, List, [], ◌∷◌}
use Rattle.std.specs.Char.{is_ascii_digit, is_ascii_hexdigit}
use Rattle.unicode_ident.specs.Ident.{is_xid_continue}
use Rattle.bal_lexer.specs.declared.cursor.Class.{Class}
use Rattle.bal_lexer.specs.declared.cursor.Class.TheVariants.{Word, Digit, HexDigit, Line}

abbrev pub class_test : Class → ℕ → Bool
class_test Word = is_xid_continue
class_test Digit = is_ascii_digit
class_test HexDigit = is_ascii_hexdigit
class_test Line = λ c. not (c == 10)

-- the longest front of characters that pass
abbrev pub run : (ℕ → Bool) → List ℕ → List ℕ
run test [] = []
run test (c ∷ cs) = if test c then c ∷ run test cs else []

-- what follows it
abbrev pub after_run : (ℕ → Bool) → List ℕ → List ℕ
after_run test [] = []
after_run test (c ∷ cs) = if test c then after_run test cs else c ∷ cs
