-- Membership of the parts of a shape, by their lists.
use Rattle.std.specs.Prelude.{◌<◌, ℕ, List, length, get_or, Option, IsSomeAnd}
use Rattle.bal_base.specs.declared.text.Text.{Text}
use Rattle.bal_base.specs.declared.shape.Shape.{Shape}
use Rattle.bal_base.specs.declared.shape.Case.{Case}
use Rattle.type_model.specs.declared.basic.SemType.{SemType}
use Rattle.type_model.specs.declared.basic.Ty.{Ty}
use Rattle.type_model.specs.declared.atoms.FieldDef.{FieldDef}
use Rattle.type_model.specs.declared.atoms.AtomDef.{AtomDef}
use Rattle.type_model.specs.Places.{item_type, key_type}
use Rattle.type_model.specs.Membership.{In}
use Rattle.type_model.specs.Application.{arguments_of}

module _ (env : List AtomDef) where
  -- each item is in the type of its place
  abbrev pub ItemsIn : List Shape → List Ty → Option Ty → Type 0
  ItemsIn items fixed rest = (i : ℕ) (d : Shape) → i < length items → IsSomeAnd (item_type fixed rest i) (λ t. In env (get_or items i d) t.sem)

  -- the member is in the type of its key
  abbrev pub MemberIn : List FieldDef → Option Ty → Text × Shape → Type 0
  MemberIn fields rest m = IsSomeAnd (key_type fields rest m.0) (λ t. In env m.1 t.sem)

  -- where the arguments are in `args`, there is a result, and it is in `outcome`
  abbrev pub CaseMaps : SemType → SemType → Case → Type 0
  CaseMaps args outcome c = In env (arguments_of c) args → IsSomeAnd c.result (λ x. In env x outcome)
