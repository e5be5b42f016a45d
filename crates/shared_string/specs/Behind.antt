-- What stands behind code points of a text.
use Rattle.std.specs.Prelude.{◌≡◌, ℕ, List, ◌++◌, IsUtf8, chars, drop}

-- the bytes of a text and of what is left behind so many of its code points
pub record IsBehind (text : List ℕ) (count : ℕ) (left : List ℕ) : Type 0 where
  pub front : List ℕ
  pub seam : text ≡ front ++ left
  pub text_left : IsUtf8 left
  pub points : chars left ≡ drop count (chars text)
