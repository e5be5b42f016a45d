-- What the names of types stand for, and which faults there are in what definitions say of names.
use Rattle.std.specs.Prelude.{◌==◌, ◌&&◌, ◌||◌, ℕ, Bool, true, false, List, [], ◌∷◌, map, Option, None, Some, Result, Ok, Err, slice_get, if◌then◌else◌}
use Rattle.std.specs.List.{flat_map, position_from}
use Rattle.std.specs.Option.{option_or}
use Rattle.bal_base.specs.declared.fault.Fault.{Fault}
use Rattle.bal_base.specs.declared.fault.FaultCode.{FaultCode}
use Rattle.bal_base.specs.declared.fault.FaultCode.TheVariants.{Duplicate, NotPublic, Unknown}
use Rattle.bal_base.specs.declared.fault.Kept.TheVariants.{Nothing}
use Rattle.bal_base.specs.declared.place.Place.{Place}
use Rattle.bal_base.specs.declared.text.Name.{Name}
use Rattle.type_model.specs.Places.{is_same_text}
use Rattle.name_resolution.specs.declared.mentions.Mention.{Mention}
use Rattle.name_resolution.specs.declared.mentions.Mention.TheVariants.{Use, Again, Own}
use Rattle.name_resolution.specs.declared.outlines.Kind.{Kind}
use Rattle.name_resolution.specs.declared.outlines.Kind.TheVariants.{TypeName, Constant, Variable, Function}
use Rattle.name_resolution.specs.declared.outlines.Outline.{Outline}

-- whether what is defined so stands for a type: types do, and constants for that of their value
abbrev pub is_type : Kind → Bool
is_type TypeName = true
is_type Constant = true
is_type Variable = false
is_type Function = false

abbrev pub defines : ℕ → Name → Outline → Bool
defines m name d = (m == d.«module») && is_same_text name d.name

abbrev pub fault_at : FaultCode → Place → Fault
fault_at code at = record { code = code; at = Some at; kept = Nothing }

-- Seen from a module: in its own one all names are seen, and in others those that are public.
abbrev pub if_seen : ℕ → ℕ → Option Outline → Result ℕ FaultCode
if_seen from n None = Err Unknown
if_seen from n (Some d) = if from == d.«module» || d.public then (if is_type d.kind then Ok n else Err Unknown) else Err NotPublic

abbrev pub if_wrong : Place → Result ℕ FaultCode → Option Fault
if_wrong at (Ok n) = None
if_wrong at (Err code) = Some (fault_at code at)

abbrev pub unless_first : ℕ → Place → Option ℕ → Option Fault
unless_first n at None = Some (fault_at Duplicate at)
unless_first n at (Some m) = if n == m then None else Some (fault_at Duplicate at)

abbrev pub if_stands : Result ℕ FaultCode → List ℕ
if_stands (Ok n) = n ∷ []
if_stands (Err code) = []

module _ (outlines : List Outline) where
  -- The number of the first definition of a name in a module. Types, constants, variables and functions share their names.
  abbrev pub first_defined : ℕ → Name → Option ℕ
  first_defined m name = position_from (defines m name) 0 outlines

  abbrev pub if_defined : ℕ → Option ℕ → Result ℕ FaultCode
  if_defined from None = Err Unknown
  if_defined from (Some n) = if_seen from n (slice_get outlines n)

  -- The number of the definition that the name of a type stands for, seen from a module, where it is sought in another or in the
  -- same one; or why it stands for none.
  abbrev pub resolved : ℕ → Option ℕ → Name → Result ℕ FaultCode
  resolved from None name = Err Unknown
  resolved from (Some home) name = if_defined from (first_defined home name)

  -- the fault in one mention of the definition with this number
  abbrev pub fault_of : ℕ → Outline → Mention → Option Fault
  fault_of n d (Use home name at inside) = if_wrong at (resolved d.«module» home name)
  fault_of n d (Again at) = Some (fault_at Duplicate at)
  fault_of n d (Own at) = unless_first n at (first_defined d.«module» d.name)

  -- the first of those faults in text order
  abbrev pub first_fault : ℕ → Outline → List Mention → Option Fault
  first_fault n d [] = None
  first_fault n d (m ∷ mentions) = option_or (fault_of n d m) (first_fault n d mentions)

  -- ---- parts

  -- the definition of which a descriptor that mentions this is put together
  abbrev pub part : ℕ → Mention → List ℕ
  part from (Use home name at true) = []
  part from (Use home name at false) = if_stands (resolved from home name)
  part from (Again at) = []
  part from (Own at) = []

  -- The definitions whose types are parts of the type that this one defines, not inside a list, a mapping, an error, a function
  -- or a future.
  abbrev pub parts_of_kind : Kind → Outline → List ℕ
  parts_of_kind TypeName d = flat_map (part d.«module») d.mentions
  parts_of_kind Constant d = []
  parts_of_kind Variable d = []
  parts_of_kind Function d = []

  abbrev pub parts_of : Outline → List ℕ
  parts_of d = parts_of_kind d.kind d

  -- the same of all definitions, by number
  abbrev pub parts : List (List ℕ)
  parts = map parts_of outlines
