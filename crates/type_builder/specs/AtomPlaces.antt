-- Where the atoms that descriptors need are asked for, in the order in which they are numbered.
use Rattle.std.specs.Prelude.{◌≡◌, ◌≤◌, ◌-◌, ◌+◌, ◌++◌, List, [], ◌∷◌, length, fold, Option, None, Some, slice_get}
use Rattle.bal_base.specs.declared.fault.FaultCode.TheVariants.{AtomLimit}
use Rattle.bal_base.specs.declared.fault.Kept.TheVariants.{Nothing}
use Rattle.bal_base.specs.declared.limits.TheConstants.{MOST_ATOMS}
use Rattle.bal_base.specs.declared.place.Place.{Place}
use Rattle.bal_tree.specs.declared.def.Def.{Def}
use Rattle.bal_tree.specs.declared.def.Def.TheVariants.{«Type» as TypeOf, Const, Variable as VariableOf, Function as FunctionOf}
use Rattle.bal_tree.specs.declared.def.FunctionDef.{FunctionDef}
use Rattle.bal_tree.specs.declared.package.Module.{Module}
use Rattle.bal_tree.specs.declared.package.Package.{Package}
use Rattle.bal_tree.specs.declared.package.SourceFile.{SourceFile}
use Rattle.bal_tree.specs.declared.params.Param.{Param}
use Rattle.checks.specs.Checks.{Check, Gives, Refuses}
use Rattle.checks.specs.Questions.{IsFault}
use Rattle.descriptors.specs.Described.{Atoms}
use Rattle.descriptors.specs.Descriptors.{Descriptor, builtin, value, named, optional, union, intersection, array, repeated, tuple, map_of, closed_record, open_record, any_error, error_with, any_function, function_from, future_of, Descriptors, no_more, then_more, FieldDescriptors, no_field, then_field, MaybeDescriptor, absent, present, descriptor_of, descriptor_if}

abbrev mutual
  -- The places of the atoms of a descriptor, behind those before it: the atoms of its parts come before its own. A function needs
  -- one for its arguments, too.
  pub places : Descriptor → List Place → List Place
  places (builtin b) before = before
  places (value v) before = before
  places (named name) before = before
  places (optional of) before = places of before
  places (union left right) before = places right (places left before)
  places (intersection left right) before = places right (places left before)
  places (array member at) before = places member before ++ at ∷ []
  places (repeated member n at) before = places member before ++ at ∷ []
  places (tuple members rest at) before = places_if rest (all_places members before) ++ at ∷ []
  places (map_of member at) before = places member before ++ at ∷ []
  places (closed_record fields rest at) before = places_if rest (field_places fields before) ++ at ∷ []
  places (open_record fields at) before = field_places fields before ++ at ∷ []
  places any_error before = before
  places (error_with detail at) before = places detail before ++ at ∷ []
  places (any_function isolated) before = before
  places (function_from isolated params rest result at) before =
      (places_if result (places_if rest (all_places params before)) ++ at ∷ []) ++ at ∷ []
  places (future_of result at) before = places result before ++ at ∷ []

  pub all_places : Descriptors → List Place → List Place
  all_places no_more before = before
  all_places (then_more d ds) before = all_places ds (places d before)

  pub field_places : FieldDescriptors → List Place → List Place
  field_places no_field before = before
  field_places (then_field name may_lack d fs) before = field_places fs (places d before)

  pub places_if : MaybeDescriptor → List Place → List Place
  places_if absent before = before
  places_if (present d) before = places d before

-- ---- definitions

abbrev pub param_places : List Place → Param → List Place
param_places before p = places (descriptor_of p.ty.value) before

abbrev pub rest_places : Option Param → List Place → List Place
rest_places None before = before
rest_places (Some p) before = param_places before p

-- four more for a function as a value: its arguments, its own type, the lists of what takes the rest, and the futures
-- of its result
abbrev pub value_places : Place → List Place → List Place
value_places at before = (((before ++ at ∷ []) ++ at ∷ []) ++ at ∷ []) ++ at ∷ []

-- the parameters, the result, and the function as a value
abbrev pub function_places : FunctionDef → List Place → List Place
function_places d before = value_places d.at (places_if (descriptor_if d.result) (rest_places d.params.rest (fold param_places before d.params.params.items)))

abbrev pub def_places : List Place → Def → List Place
def_places before (TypeOf d) = places (descriptor_of d.ty.value) before
def_places before (Const d) = places_if (descriptor_if d.ty) before
def_places before (VariableOf d) = places (descriptor_of d.ty.value) before
def_places before (FunctionOf d) = function_places d before

abbrev pub file_places : List Place → SourceFile → List Place
file_places before f = fold def_places before f.tree.defs.items

abbrev pub module_places : List Place → Module → List Place
module_places before m = fold file_places before m.files

-- those of all definitions in text order
abbrev pub package_places : Package → List Place
package_places p = fold module_places [] p.modules

-- ---- the limit

-- There is room for an atom at each of these places behind those that are there, or else the first atom that finds none is refused.
unfoldable pub room_for : List Place → Check Atoms (Unit {0})
room_for asked old (Gives u) new = (length old + length asked ≤ MOST_ATOMS) × (new ≡ old)
room_for asked old (Refuses f) new =
    ((at : Place) × (slice_get asked (MOST_ATOMS - length old) ≡ Some at) × IsFault AtomLimit (Some at) Nothing f) × (new ≡ old)
