-- What is told of a pair and the members of a mapping: of each field, and of all keys beside the fields; and to which questions
-- about types that leads.
use Rattle.std.specs.Prelude.{◌≡◌, ◌≢◌, ◌⊎◌, List, Option, Some, None, Any, All, Contains, IfSome}
use Rattle.bal_base.specs.declared.text.Text.{Text}
use Rattle.bal_base.specs.declared.shape.Shape.{Shape, Str}
use Rattle.type_model.specs.declared.answers.Answer.{Answer}
use Rattle.type_model.specs.declared.answers.Answer.TheVariants.{Yes, No}
use Rattle.type_model.specs.declared.atoms.AtomDef.{AtomDef}
use Rattle.type_model.specs.declared.atoms.AtomDef.TheVariants.{Mapping as MappingAtom}
use Rattle.type_model.specs.declared.atoms.FieldDef.{FieldDef}
use Rattle.type_model.specs.declared.basic.BasicSet.TheVariants.{Never}
use Rattle.type_model.specs.declared.basic.SemType.{SemType, Basic}
use Rattle.type_model.specs.declared.basic.Ty.{Ty}
use Rattle.type_model.specs.Calls.{Asked, Without}
use Rattle.type_model.specs.Defined.{IsDefined}
use Rattle.type_model.specs.Inclusion.{IsShapeOf}
use Rattle.type_model.specs.Membership.{In}
use Rattle.type_model.specs.Places.{HasDistinctFields}
use Rattle.operations.specs.Rows.{IsWithin}
use Rattle.code_verifier.specs.Asked.{IsOutside}
use Rattle.pair_questions.specs.declared.members.Members.{Members}
use Rattle.pair_questions.specs.declared.pair.Pair.{Pair}

-- the type of members beside the fields; that of no shape where there are none
abbrev pub other_type : Option Ty → SemType
other_type (Some t) = t.sem
other_type None = Basic Never

module _ (env : List AtomDef) where
  -- the fields have names of their own, and all types name atoms that are there
  abbrev pub AreMembers : Members → Type 0
  AreMembers members =
      HasDistinctFields (MappingAtom members.fields.now members.rest.now) × All (λ f. IsDefined env f.ty.sem) members.fields.now
      × IfSome members.rest.now (λ t. IsDefined env t.sem)

  -- a string of the type is no name of a field
  abbrev pub HasBeside : SemType → List FieldDef → Type 0
  HasBeside k fields = (key : Text) × IsShapeOf env k (Str key) × All (λ f. f.name ≢ key) fields

  -- ---- one field

  -- where the pair's key may be the field's name, its value is in the field's type
  abbrev pub FitsField : Pair → FieldDef → Type 0
  FitsField pair f = In env (Str f.name) pair.key.now → IsWithin env (λ x. In env x f.ty.sem) pair.value.now

  -- a value of the pair that isn't, though the key may be the name
  abbrev pub IsUnfitField : Pair → Shape → FieldDef → Type 0
  IsUnfitField pair x f = IsShapeOf env pair.key.now (Str f.name) × IsOutside env (λ y. In env y f.ty.sem) pair.value.now x

  abbrev pub TellsField : Pair → FieldDef → Answer → Type 0
  TellsField pair f Yes = FitsField pair f
  TellsField pair f (No x) = IsUnfitField pair x f

  abbrev pub AsksField : Pair → FieldDef → Asked → Type 0
  AsksField pair f asked = In env (Str f.name) pair.key.now × (asked ≡ Without pair.value.now f.ty.sem)

  -- ---- all fields

  abbrev pub TellsNamed : Members → Pair → Answer → Type 0
  TellsNamed members pair Yes = All (FitsField pair) members.fields.now
  TellsNamed members pair (No x) = Any (IsUnfitField pair x) members.fields.now

  abbrev pub AsksNamed : Members → Pair → Asked → Type 0
  AsksNamed members pair asked = (f : FieldDef) × Contains members.fields.now f × AsksField pair f asked

  -- ---- other keys

  abbrev pub FitsBeside : Members → Pair → Type 0
  FitsBeside members pair = HasBeside pair.key.now members.fields.now → IsWithin env (λ x. In env x (other_type members.rest.now)) pair.value.now

  abbrev pub TellsBeside : Members → Pair → Answer → Type 0
  TellsBeside members pair Yes = FitsBeside members pair
  TellsBeside members pair (No x) = HasBeside pair.key.now members.fields.now × IsOutside env (λ y. In env y (other_type members.rest.now)) pair.value.now x

  abbrev pub AsksBeside : Members → Pair → Asked → Type 0
  AsksBeside members pair asked = HasBeside pair.key.now members.fields.now × (asked ≡ Without pair.value.now (other_type members.rest.now))

  -- ---- the need

  abbrev pub AsksFit : Members → Pair → Asked → Type 0
  AsksFit members pair asked = AsksNamed members pair asked ⊎ AsksBeside members pair asked
