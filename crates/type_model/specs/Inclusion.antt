-- Types as the sets of their valid shapes.
use Rattle.std.specs.Prelude.{◌↔◌, List, Option, MatchOption}
use Rattle.bal_base.specs.declared.shape.Shape.{Shape}
use Rattle.bal_base.specs.Valid.{IsValid}
use Rattle.type_model.specs.declared.basic.SemType.{SemType}
use Rattle.type_model.specs.declared.atoms.AtomDef.{AtomDef}
use Rattle.type_model.specs.declared.answers.Answer.{Answer}
use Rattle.type_model.specs.declared.answers.Answer.TheVariants.{Yes, No}
use Rattle.type_model.specs.Membership.{In}

module _ (env : List AtomDef) where
  -- a valid shape in the type
  abbrev pub IsShapeOf : SemType → Shape → Type 0
  IsShapeOf t x = IsValid x × In env x t

  -- s is below t: every shape of s is in t
  abbrev pub Sub : SemType → SemType → Type 0
  Sub s t = (x : Shape) → IsValid x → In env x s → In env x t

  -- no shape is in the type
  abbrev pub IsEmpty : SemType → Type 0
  IsEmpty t = (x : Shape) → IsValid x → ¬ In env x t

  -- the shapes of t are exactly those of which P holds
  abbrev pub HasExactly : SemType → (Shape → Type 0) → Type 0
  HasExactly t P = (x : Shape) → IsValid x → (In env x t ↔ P x)

  -- two types with the same shapes
  abbrev pub HaveSameShapes : SemType → SemType → Type 0
  HaveSameShapes s t = HasExactly s (λ x. In env x t)

  -- what an answer says of the question whether s is below t
  abbrev pub AnswersSub : SemType → SemType → Answer → Type 0
  AnswersSub s t Yes = Sub s t
  AnswersSub s t (No x) = IsShapeOf s x × ¬ In env x t

  -- a shape of t, or none where there is none
  abbrev pub FindsShape : SemType → Option Shape → Type 0
  FindsShape t found = MatchOption found (IsEmpty t) (IsShapeOf t)
