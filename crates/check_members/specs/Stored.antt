-- From which type the constructor choices of a stored member come.
use Rattle.std.specs.Prelude.{◌≡◌, ◌++◌, ℕ, List, [], ◌∷◌, IfSome, Option, Some, None, option_to_list, slice_get}
use Rattle.type_model.specs.declared.answers.Keys.{Keys}
use Rattle.type_model.specs.declared.answers.Keys.TheVariants.{Index, AnyIndex, Field, AnyField, Results}
use Rattle.type_model.specs.declared.atoms.AtomDef.{AtomDef}
use Rattle.type_model.specs.declared.atoms.FieldDef.{FieldDef}
use Rattle.type_model.specs.declared.basic.Choice.{Choice}
use Rattle.type_model.specs.declared.basic.Ty.{Ty}
use Rattle.type_model.specs.Defined.{TyBelow}
use Rattle.type_model.specs.Places.{key_type}
use Rattle.check_words.specs.Members.{AreChoicesOf, AreOfAtom, AreShared, AreStored, HasChoices}

-- the choices of the type, or none where there is no type
abbrev pub ChoicesFrom : Option Ty → List Choice → List Choice → Type 0
ChoicesFrom (Some t) lists maps = HasChoices lists maps t
ChoicesFrom None lists maps = (lists ≡ []) × (maps ≡ [])

-- the choice, where there is just one
abbrev pub only_choice : List Choice → Option Choice
only_choice [] = None
only_choice (c ∷ []) = Some c
only_choice (c ∷ d ∷ more) = None

-- the type has the choices that all of these have
abbrev pub IsShared : List Ty → Option Ty → Type 0
IsShared types source = (lists maps : List Choice) → ChoicesFrom source lists maps → AreShared types lists maps

-- and those of the named member, or else of the others, or else of all that are named
abbrev pub IsSource : Option Ty → Option Ty → List Ty → Option Ty → Type 0
IsSource named rest types source =
    (lists maps : List Choice) → ChoicesFrom source lists maps → AreStored (option_to_list named) (option_to_list rest) types lists maps

-- and those that the atom says at these keys
abbrev pub IsSourceAt : AtomDef → Keys → Option Ty → Type 0
IsSourceAt def keys source = (lists maps : List Choice) → ChoicesFrom source lists maps → AreOfAtom (Some def) keys lists maps

-- the type that the atom names at these keys
abbrev pub named_item : List Ty → Keys → Option Ty
named_item fixed (Index n) = slice_get fixed n
named_item fixed AnyIndex = None
named_item fixed (Field name) = None
named_item fixed AnyField = None
named_item fixed Results = None

abbrev pub named_field : List FieldDef → Keys → Option Ty
named_field fields (Field name) = key_type fields None name
named_field fields (Index n) = None
named_field fields AnyIndex = None
named_field fields AnyField = None
named_field fields Results = None

-- the choices of what is stored in the container at these keys come from this type
abbrev pub IsSourceIn : List AtomDef → Ty → Keys → Option Ty → Type 0
IsSourceIn env container keys source =
    (lists maps : List Choice) → ChoicesFrom source lists maps → AreChoicesOf env (container.lists ++ container.maps) keys lists maps

-- the type, where there is one, names atoms that are there
abbrev pub IfBelow : ℕ → Option Ty → Type 0
IfBelow n source = IfSome source (TyBelow n)
