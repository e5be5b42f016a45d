-- Entries that are set one after another.
use Rattle.std.specs.Prelude.{◌≡◌, ℕ, Bool, true, false, List, [], Option, Some, None, IsSomeAnd, option_map}
use Rattle.bal_base.specs.declared.text.Text.{Text}
use Rattle.value_model.specs.declared.value.Value.{Value}
use Rattle.value_model.specs.declared.value.Value.TheVariants.{Error}
use Rattle.value_model.specs.World.{Came, World}
use Rattle.op_model.specs.Operands.{AString, pairs_of}
use Rattle.op_model.specs.Rows.{gives, makes_error, next_error, within}
use Rattle.op_model.specs.Stores.{entries_from}
use Rattle.op_model.specs.StructureRows.{MakesError}

-- whether these are keys and values in turn, and the entries when they were set
abbrev pub AreAdded : List (Text × Value) → List Value → Bool → List (Text × Value) → Type 0
AreAdded old vs true new = option_map (λ ps. entries_from old ps) (pairs_of vs) ≡ Some new
AreAdded old vs false new = pairs_of vs ≡ None

-- an error with this cause is made and given
abbrev pub MakesCaused : World → Text → Option ℕ → List Value → Came → Type 0
MakesCaused w message cause vs came =
    IsSomeAnd (pairs_of vs) (λ ps. came ≡ within (gives (makes_error w message cause (entries_from [] ps)) (Error (next_error w))))

-- an error is made with a value as its message, which has to be a string
abbrev pub MakesNamed : World → Value → Value → List Value → Came → Type 0
MakesNamed w message cause vs came = AString message (λ t. MakesError w t cause vs came)
