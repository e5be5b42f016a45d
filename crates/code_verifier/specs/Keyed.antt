-- The keys that a type of strings names, as a question may ask of them.
use Rattle.std.specs.Prelude.{◌≡◌, ◌↔◌, List, Option, Some, None}
use Rattle.bal_base.specs.declared.shape.Shape.{Shape, Str}
use Rattle.bal_base.specs.declared.text.Text.{Text}
use Rattle.type_model.specs.declared.answers.Answer.{Answer}
use Rattle.type_model.specs.declared.answers.Answer.TheVariants.{Yes, No}
use Rattle.type_model.specs.declared.answers.Keys.{Keys}
use Rattle.type_model.specs.declared.answers.Keys.TheVariants.{AnyField, Field}
use Rattle.type_model.specs.declared.atoms.AtomDef.{AtomDef}
use Rattle.type_model.specs.declared.basic.SemType.{SemType}
use Rattle.type_model.specs.Inclusion.{IsShapeOf}
use Rattle.type_model.specs.Parts.{StandsAt}
use Rattle.operations.specs.Rows.{StandsAtKey}

-- what stands at a key that the type names is what stands at these keys, in each type; or nothing does
abbrev pub AreKeysOf : List AtomDef → SemType → Option Keys → Type 0
AreKeysOf env k (Some keys) = (m : SemType) (x : Shape) → StandsAtKey env m k x ↔ StandsAt env m keys x
AreKeysOf env k None = (m : SemType) (x : Shape) → ¬ (StandsAtKey env m k x)

-- by the answer whether there is no other key
abbrev pub IsKeyBy : Text → Answer → Option Keys → Type 0
IsKeyBy name Yes keys = keys ≡ Some (Field name)
IsKeyBy name (No x) keys = keys ≡ Some AnyField

-- the string of this text is in the type
abbrev pub HasString : List AtomDef → SemType → Text → Type 0
HasString env k name = IsShapeOf env k (Str name)
