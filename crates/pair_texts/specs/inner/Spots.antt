-- Places that are kept with their lines and columns.
use Rattle.std.specs.Prelude.{◌≡◌, ◌<◌, ◌≤◌, ℕ, List, IfSome, IsUtf8, chars, encode_utf8_all, length, take}
use Rattle.bal_base.specs.Place.{line_after, column_after}
use Rattle.bal_tree.specs.Files.{file_in}
use Rattle.bal_tree.specs.declared.package.Module.{Module}
use Rattle.pair_texts.specs.declared.places.Spot.{Spot}

-- in a text with these bytes whole characters stand in front of the place, which has this line and this column
pub record StandsIn (bytes : List ℕ) (s : Spot) : Type 0 where
  pub inside : s.at ≤ length bytes
  pub whole : IsUtf8 (take s.at bytes)
  pub small : s.at < 4294967295
  pub line : s.line ≡ line_after (chars (take s.at bytes))
  pub column : s.column ≡ column_after (chars (take s.at bytes))

-- the same in the file with its number, where that is there
abbrev pub Stands : List Module → Spot → Type 0
Stands modules s = IfSome (file_in s.file modules) (λ file. StandsIn (encode_utf8_all file.text) s)
