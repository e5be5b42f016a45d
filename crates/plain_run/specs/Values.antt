-- How values are compared.
use Rattle.std.specs.Prelude.{◌≡◌, ◌<ℤ◌, ◌≤ℤ◌, ℤ, Bool, List, [], ◌∷◌, Option, Some, None}
use Rattle.bal_base.specs.declared.text.Text.{Text}
use Rattle.operations.specs.declared.operation.Operation.{Operation}
use Rattle.operations.specs.declared.operation.Operation.TheVariants as operation
use Rattle.value_model.specs.declared.value.Value.{Value}
use Rattle.value_model.specs.declared.value.Value.TheVariants.{Bool as Truth, Str}
use Rattle.value_model.specs.World.{World, Came}
use Rattle.op_model.specs.Rows.{gives}
use Rattle.op_model.specs.ValueRows.{Compare, IsBefore, IsNotBehind}
use Rattle.plain_run.specs.declared.values.Comparison.{Comparison}
use Rattle.plain_run.specs.declared.values.Comparison.TheVariants.{Less, LessEqual}

abbrev pub comparison_of : Comparison → Operation
comparison_of Less = operation.Less
comparison_of LessEqual = operation.LessEqual

-- what is asked of two ints, and of two strings
abbrev pub IntsCompare : Comparison → ℤ → ℤ → Type 0
IntsCompare Less x y = x <ℤ y
IntsCompare LessEqual x y = x ≤ℤ y

abbrev pub TextsCompare : Comparison → Text → Text → Type 0
TextsCompare Less s t = IsBefore s t
TextsCompare LessEqual s t = IsNotBehind s t

-- whether the first value compares so with the second; none where they are neither two ints nor two strings
abbrev pub AreCompared : Comparison → Value → Value → Option Bool → Type 0
AreCompared how a b (Some holds) = (w : World) → Compare (IntsCompare how) (TextsCompare how) a b w (gives w (Truth holds))
AreCompared how a b None = (w : World) (came : Came) → ¬ (Compare (IntsCompare how) (TextsCompare how) a b w came)

-- two strings, where the operands are such
abbrev pub AreTwoTexts : List Value → Option (Text × Text) → Type 0
AreTwoTexts vs (Some (s, t)) = vs ≡ Str s ∷ Str t ∷ []
AreTwoTexts vs None = (s t : Text) → ¬ (vs ≡ Str s ∷ Str t ∷ [])
