-- The index of entries.
use Rattle.std.specs.Prelude.{⊤, ◌≡◌, ◌++◌, ◌∷◌, [], ℕ, List, Option, Some, None, cond, length, position}
use Rattle.std.specs.HashMap.{HashMap, get}
use Rattle.std.specs.Option.{option_or}
use Rattle.bal_base.specs.declared.text.Text.{Text}
use Rattle.type_model.specs.Places.{is_same_text}
use Rattle.value_model.specs.declared.value.Value.{Value}

module _ {S : Type 0} where
  -- the place that is kept of a key
  abbrev pub place_kept : HashMap Text ℕ S → Text → Option ℕ
  place_kept places key = get is_same_text places key

  -- of each key the place is kept at which it stands first, and of no other
  abbrev pub ArePlaces : List (Text × Value) → HashMap Text ℕ S → Type 0
  ArePlaces es places = (key : Text) → place_kept places key ≡ position (λ e. is_same_text e.0 key) es

  -- the same where there is an index
  abbrev pub IsIndex : List (Text × Value) → Option (HashMap Text ℕ S) → Type 0
  IsIndex es (Some places) = ArePlaces es places
  IsIndex es None = ⊤

  -- the place is kept of this key beside the others, unless one was kept already
  abbrev pub IsNoted : HashMap Text ℕ S → Text → ℕ → HashMap Text ℕ S → Type 0
  IsNoted old key at new = (other : Text) → place_kept new other ≡ option_or (place_kept old other) (cond (is_same_text key other) (Some at) None)

  -- an index of so many entries has become one of them and of one more with this key behind them
  abbrev pub IsGrown : Option (HashMap Text ℕ S) → Text → ℕ → Option (HashMap Text ℕ S) → Type 0
  IsGrown old key at new = (es : List (Text × Value)) (v : Value) → length es ≡ at → IsIndex es old → IsIndex (es ++ (key, v) ∷ []) new
