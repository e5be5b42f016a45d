-- Which strings a type has, and the texts that it names. In place of a text, `None` stands for one that isn't named.
use Rattle.std.specs.Prelude.{◌||◌, ◌&&◌, Bool, true, false, not, IsTrue, List, [], ◌++◌, Option, Some, None, option_to_list}
use Rattle.std.specs.List.{list_any}
use Rattle.bal_base.specs.declared.text.Text.{Text}
use Rattle.bal_base.specs.Valid.{IsText}
use Rattle.type_model.specs.declared.atoms.FieldDef.{FieldDef}
use Rattle.type_model.specs.declared.basic.BasicSet.{BasicSet}
use Rattle.type_model.specs.declared.basic.BasicSet.TheVariants.{Nil, Bool as BoolOne, IntRange, StringOne, StringAll, ListAll, MappingAll, ErrorAll, FunctionAll, FutureAll, Readonly, Never}
use Rattle.type_model.specs.declared.basic.SemType.{SemType, Basic, Atom, Or', And', Not'}
use Rattle.type_model.specs.Places.{is_same_text}

abbrev pub is_that : Text → Option Text → Bool
is_that own (Some text) = is_same_text own text
is_that own None = false

abbrev pub set_has : BasicSet → Option Text → Bool
set_has (StringOne own) text = is_that own text
set_has StringAll text = true
set_has Readonly text = true
set_has Nil text = false
set_has (BoolOne b) text = false
set_has (IntRange low high) text = false
set_has ListAll text = false
set_has MappingAll text = false
set_has ErrorAll text = false
set_has FunctionAll text = false
set_has FutureAll text = false
set_has Never text = false

-- no atom has strings
abbrev pub type_has : SemType → Option Text → Bool
type_has (Basic b) text = set_has b text
type_has (Atom n) text = false
type_has (Or' _ s _ t) text = type_has s text || type_has t text
type_has (And' _ s _ t) text = type_has s text && type_has t text
type_has (Not' _ t) text = not (type_has t text)

-- ---- the texts that are named

abbrev pub text_of_set : BasicSet → Option Text
text_of_set (StringOne own) = Some own
text_of_set StringAll = None
text_of_set Readonly = None
text_of_set Nil = None
text_of_set (BoolOne b) = None
text_of_set (IntRange low high) = None
text_of_set ListAll = None
text_of_set MappingAll = None
text_of_set ErrorAll = None
text_of_set FunctionAll = None
text_of_set FutureAll = None
text_of_set Never = None

abbrev pub texts_of : SemType → List Text
texts_of (Basic b) = option_to_list (text_of_set b)
texts_of (Atom n) = []
texts_of (Or' _ s _ t) = texts_of s ++ texts_of t
texts_of (And' _ s _ t) = texts_of s ++ texts_of t
texts_of (Not' _ t) = texts_of t

-- ---- beside fields

abbrev pub is_named : List FieldDef → Text → Bool
is_named fields name = list_any (λ f. is_same_text f.name name) fields

-- a string of the type that no field has as its name
abbrev pub is_beside : SemType → List FieldDef → Text → Bool
is_beside key fields text = type_has key (Some text) && not (is_named fields text)

abbrev pub IsTextBeside : SemType → List FieldDef → Text → Type 0
IsTextBeside key fields text = IsText text × IsTrue (is_beside key fields text)
