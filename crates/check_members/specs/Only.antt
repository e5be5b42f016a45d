-- Whether a type has just one shape, an int or a string.
use Rattle.std.specs.Prelude.{◌≡◌, ℤ, List, Bool, true, false, Option, Some, None, negsuc, pos, ⊤}
use Rattle.bal_base.specs.declared.place.Place.{Place}
use Rattle.bal_base.specs.declared.shape.Shape.{Shape, Nil, Bool as BoolShape, Int, Str, List', Mapping', Error', Function, Future'}
use Rattle.bal_base.specs.declared.text.Text.{Text}
use Rattle.checks.specs.Checks.{Check, Gives, Refuses}
use Rattle.operations.specs.declared.operation.Constant.{Constant}
use Rattle.operations.specs.declared.operation.Constant.TheVariants as constant
use Rattle.operations.specs.Rows.{shape_of}
use Rattle.type_model.specs.declared.answers.Keys.{Keys}
use Rattle.type_model.specs.declared.answers.Keys.TheVariants.{Index, AnyIndex, Field, AnyField}
use Rattle.type_model.specs.declared.answers.TypeLimit.{TypeLimit}
use Rattle.type_model.specs.declared.atoms.AtomDef.{AtomDef}
use Rattle.type_model.specs.declared.basic.SemType.{SemType}
use Rattle.type_model.specs.Calls.{Asked}
use Rattle.type_model.specs.Inclusion.{IsShapeOf}
use Rattle.check_words.specs.declared.access.Access.{Access}
use Rattle.check_words.specs.declared.access.Access.TheVariants.{Char, Item, Key}
use Rattle.check_words.specs.Members.{IsOnly, NamesBeyond}

-- ---- candidates

-- the int or string that was found
abbrev pub candidate_of : Option Shape → Option Constant
candidate_of None = None
candidate_of (Some Nil) = None
candidate_of (Some (BoolShape b)) = None
candidate_of (Some (Int i)) = Some (constant.Int i)
candidate_of (Some (Str t)) = Some (constant.Str t)
candidate_of (Some (List' mark _ items)) = None
candidate_of (Some (Mapping' mark _ fields)) = None
candidate_of (Some (Error' _ detail)) = None
candidate_of (Some (Function isolated graph)) = None
candidate_of (Some (Future' _ results)) = None

abbrev pub IsIntOrText : Constant → Type 0
IsIntOrText constant.Nil = ⊥
IsIntOrText (constant.Bool b) = ⊥
IsIntOrText (constant.Int i) = ⊤
IsIntOrText (constant.Str t) = ⊤

-- no int and no string is the only shape of the type
pub record HasNoOnly (env : List AtomDef) (t : SemType) : Type 0 where
  pub int : (i : ℤ) → ¬ IsOnly env t (Int i)
  pub text : (key : Text) → ¬ IsOnly env t (Str key)

-- this one, or none, may be the only shape of the type
abbrev pub IsCandidate : List AtomDef → SemType → Option Constant → Type 0
IsCandidate env t None = HasNoOnly env t
IsCandidate env t (Some c) = IsIntOrText c × IsShapeOf env t (shape_of c)

-- ---- what is settled

-- the int or string that is the only shape of the type, if there is one
abbrev pub IsSettled : List AtomDef → SemType → Option Constant → Type 0
IsSettled env t None = HasNoOnly env t
IsSettled env t (Some c) = IsIntOrText c × IsOnly env t (shape_of c)

abbrev pub if_so : Bool → Constant → Option Constant
if_so true c = Some c
if_so false c = None

module _ (passes : List AtomDef → Asked → TypeLimit → Type 0) where
  unfoldable pub only_shape : SemType → Place → Check (List AtomDef) (Option Constant)
  only_shape t at old (Gives c) new = IsSettled old t c × (new ≡ old)
  only_shape t at old (Refuses f) new = NamesBeyond passes t at old f × (new ≡ old)

-- the members that it names
abbrev pub items_at : Option Constant → Keys
items_at None = AnyIndex
items_at (Some constant.Nil) = AnyIndex
items_at (Some (constant.Bool b)) = AnyIndex
items_at (Some (constant.Int (pos n))) = Index n
items_at (Some (constant.Int (negsuc n))) = AnyIndex
items_at (Some (constant.Str t)) = AnyIndex

abbrev pub fields_at : Option Constant → Keys
fields_at None = AnyField
fields_at (Some constant.Nil) = AnyField
fields_at (Some (constant.Bool b)) = AnyField
fields_at (Some (constant.Int i)) = AnyField
fields_at (Some (constant.Str t)) = Field t

abbrev pub members_at : Access → Option Constant → Keys
members_at Char c = items_at c
members_at Item c = items_at c
members_at Key c = fields_at c
