-- What the answer of a question says of a need.
use Rattle.std.specs.Prelude.{◌≡◌, ◌⊎◌, List, Option, None, IsSomeAnd}
use Rattle.std.specs.List.{AllZip}
use Rattle.bal_base.specs.declared.shape.Case.{Case}
use Rattle.bal_base.specs.declared.shape.Shape.{Shape, Str}
use Rattle.bal_base.specs.declared.text.Text.{Text}
use Rattle.bal_base.specs.Shapes.{shapes_list}
use Rattle.bal_base.specs.Valid.{IsValid}
use Rattle.type_model.specs.declared.answers.Answer.{Answer}
use Rattle.type_model.specs.declared.answers.Answer.TheVariants.{Yes, No}
use Rattle.type_model.specs.declared.atoms.AtomDef.{AtomDef}
use Rattle.type_model.specs.declared.atoms.FieldDef.{FieldDef}
use Rattle.type_model.specs.declared.basic.SemType.{SemType}
use Rattle.type_model.specs.declared.basic.Ty.{Ty}
use Rattle.type_model.specs.Application.{arguments_of}
use Rattle.type_model.specs.Inclusion.{IsShapeOf}
use Rattle.type_model.specs.Membership.{In}
use Rattle.type_model.specs.Parts.{StandsAt}
use Rattle.type_model.specs.Places.{key_type}
use Rattle.operations.specs.Kinds.{AnswersIn, HasMember, IsErrorOf, IsFutureOf, IsString}
use Rattle.operations.specs.Rows.{MayGive, StandsAtIndex, StandsAtKey, shape_of}
use Rattle.operations.specs.Structures.{IsDetailOf, IsMade}
use Rattle.code_needs.specs.Needs.{IsMet, IsOfKind, Need, Below, Within, Has, HasConstant, HasBoth, HasMade, PartIn, PartHas, ItemIn, ItemHas, MemberIn, MemberHas, HasField, Ordered, Applies, Gives, GivesFuture, FitsFields, Names, HasErrorsOf}

-- what is met, or else that it isn't and what a shape shows against it
abbrev pub Tells : Type 0 → (Shape → Type 0) → Answer → Type 0
Tells Met Against Yes = Met
Tells Met Against (No x) = Against x × (¬ Met)

module _ (env : List AtomDef) where
  -- a shape of the type that hasn't the property
  abbrev pub IsOutside : (Shape → Type 0) → SemType → Shape → Type 0
  IsOutside P s x = IsShapeOf env s x × (¬ (P x))

  -- a valid shape with the property that isn't in the type
  abbrev pub IsLeftOut : SemType → (Shape → Type 0) → Shape → Type 0
  IsLeftOut r P x = IsValid x × P x × (¬ (In env x r))

  -- a shape of one of the two that is no string
  abbrev pub IsNoString : SemType → SemType → Shape → Type 0
  IsNoString a b x = (IsShapeOf env a x ⊎ IsShapeOf env b x) × (¬ (IsString x))

  -- arguments of these types, as an unmarked list, at which some function of f fails
  abbrev pub FailsAt : SemType → List SemType → Shape → Type 0
  FailsAt f args x =
      (g : Shape) × (c : Case) × IsShapeOf env f g × AnswersIn g c
      × AllZip (λ y t. IsShapeOf env t y) (shapes_list c.args) args × (c.result ≡ None) × (x ≡ arguments_of c)

  -- a value of the pair that isn't in the type of some key of it, or of a key that has no type
  abbrev pub IsUnfit : List FieldDef → Option Ty → SemType × SemType → Shape → Type 0
  IsUnfit fields rest pair x =
      (key : Text) × IsShapeOf env pair.0 (Str key) × IsOutside (λ y. IsSomeAnd (key_type fields rest key) (λ t. In env y t.sem)) pair.1 x

  -- the shape shows that the need isn't met
  abbrev pub IsAgainst : Need → Shape → Type 0
  IsAgainst (Below s t) x = IsOutside (λ y. In env y t) s x
  IsAgainst (Within s kind) x = IsOutside (IsOfKind kind) s x
  IsAgainst (Has r kind) x = IsLeftOut r (IsOfKind kind) x
  IsAgainst (HasConstant r c) x = IsLeftOut r (λ y. y ≡ shape_of c) x
  IsAgainst (HasBoth r s t) x = IsLeftOut r (λ y. In env y s × In env y t) x
  IsAgainst (HasMade r atom immutable) x = IsLeftOut r (IsMade env atom immutable) x
  IsAgainst (PartIn s keys r) x = IsLeftOut r (StandsAt env s keys) x
  IsAgainst (PartHas s keys v) x = IsOutside (StandsAt env s keys) v x
  IsAgainst (ItemIn l i r) x = IsLeftOut r (StandsAtIndex env l i) x
  IsAgainst (ItemHas l i v) x = IsOutside (StandsAtIndex env l i) v x
  IsAgainst (MemberIn m k r) x = IsLeftOut r (StandsAtKey env m k) x
  IsAgainst (MemberHas m k v) x = IsOutside (StandsAtKey env m k) v x
  IsAgainst (HasField m name) x = IsOutside (HasMember name) m x
  IsAgainst (Ordered a b) x = IsNoString a b x
  IsAgainst (Applies f args) x = FailsAt f args x
  IsAgainst (Gives f args r) x = IsLeftOut r (MayGive env f args) x
  IsAgainst (GivesFuture f args r) x = IsLeftOut r (IsFutureOf (MayGive env f args)) x
  IsAgainst (FitsFields fields rest pair) x = IsUnfit fields rest pair x
  -- the key that no pair has alone
  IsAgainst (Names pairs name) x = x ≡ Str name
  IsAgainst (HasErrorsOf r pairs) x = IsLeftOut r (IsErrorOf (IsDetailOf env pairs)) x

  -- the need is met, or it isn't, and a shape shows that
  abbrev pub Answers : Need → Answer → Type 0
  Answers need answer = Tells (IsMet env need) (IsAgainst need) answer
