-- Parts that become one.
use Rattle.std.specs.Prelude.{◌≡◌, ◌++◌, ℕ, List, [], ◌∷◌}
use Rattle.bal_base.specs.declared.place.Place.{Place}
use Rattle.typed_tree.specs.declared.expr.TypedExpr.{TypedExpr}
use Rattle.typed_tree.specs.declared.form.StrictForm.{StrictForm}
use Rattle.typed_tree.specs.SharedTypes.{Shared}
use Rattle.typed_tree.specs.Views.{IsStrict}
use Rattle.check_words.specs.State.{AreLast, all_but}

-- so many of the last parts became the operands of one expression
pub record Gathered (form : StrictForm) (count : ℕ) (t : Shared) (at : Place) (old new : List TypedExpr) : Type 0 where
  pub parts : List TypedExpr
  pub e : TypedExpr
  pub last : AreLast old count parts
  pub strict : IsStrict form parts t at e
  pub after : new ≡ all_but count old ++ e ∷ []
