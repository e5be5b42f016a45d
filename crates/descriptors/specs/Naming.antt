-- What a name stands for, as it is seen from a module and a file.
use Rattle.std.specs.Prelude.{◌==◌, ◌||◌, ℕ, Bool, List, [], ◌∷◌, Option, None, Some, Result, Ok, Err, slice_get, if◌then◌else◌}
use Rattle.std.specs.HashMap.{get_by}
use Rattle.std.specs.Option.{option_and_then, option_or}
use Rattle.bal_base.specs.declared.fault.FaultCode.{FaultCode}
use Rattle.bal_base.specs.declared.fault.FaultCode.TheVariants.{Unknown, NotPublic}
use Rattle.bal_base.specs.declared.text.Name.{Name}
use Rattle.bal_tree.specs.declared.name.Prefix.{Prefix}
use Rattle.bal_tree.specs.declared.name.Prefix.TheVariants.{Word as WordPrefix, Int as IntPrefix}
use Rattle.bal_tree.specs.declared.name.QualifiedName.{QualifiedName}
use Rattle.type_model.specs.declared.basic.Ty.{Ty}
use Rattle.type_model.specs.Places.{is_same_text}
use Rattle.descriptors.specs.declared.names.Names.{Names}
use Rattle.descriptors.specs.declared.names.ModuleNames.{ModuleNames}
use Rattle.descriptors.specs.declared.names.FileNames.{FileNames}
use Rattle.descriptors.specs.declared.names.Source.{Source}
use Rattle.descriptors.specs.declared.names.Source.TheVariants.{Library, Module}
use Rattle.descriptors.specs.declared.names.Entry.{Entry}
use Rattle.descriptors.specs.declared.names.Meaning.{Meaning}
use Rattle.descriptors.specs.declared.names.Meaning.TheVariants.{TypeName, Constant, Variable, Function}
use Rattle.descriptors.specs.declared.names.Scope.{Scope}

-- what a prefix stands for in a file
abbrev pub file_source : Name → FileNames → Option Source
file_source prefix file = get_by (is_same_text prefix) file.prefixes

-- and in the first file that has it
abbrev pub first_source : Name → List FileNames → Option Source
first_source prefix [] = None
first_source prefix (file ∷ files) = option_or (file_source prefix file) (first_source prefix files)

-- the prefix of a file, or without a file that of the module's first file that has it
abbrev pub source_in : Name → Option ℕ → ModuleNames → Option Source
source_in prefix None m = first_source prefix m.files.items
source_in prefix (Some file) m = option_and_then (file_source prefix) (slice_get m.files.items file)

abbrev pub module_of : Source → Option ℕ
module_of Library = None
module_of (Module m) = Some m

-- the type that stands under a name: a type's own, or that of a constant's value
abbrev pub as_type : Meaning → Result Ty FaultCode
as_type (TypeName t) = Ok t
as_type (Constant t) = Ok t
as_type (Variable number final t) = Err Unknown
as_type (Function signature) = Err Unknown

abbrev pub its_type : Result Meaning FaultCode → Result Ty FaultCode
its_type (Ok m) = as_type m
its_type (Err code) = Err code

-- what a module defines under this name
abbrev pub entry_in : Names → Name → ℕ → Option Entry
entry_in names name m = option_and_then (λ found. get_by (is_same_text name) found.entries) (slice_get names.modules.items m)

module _ (names : Names) (scope : Scope) where
  -- what a prefix stands for: the library or a module of the package
  abbrev pub source_named : Name → Option Source
  source_named prefix = option_and_then (source_in prefix scope.file) (slice_get names.modules.items scope.module)

  -- the module in which a name with this prefix is sought
  abbrev pub imported : Name → Option ℕ
  imported prefix = option_and_then module_of (source_named prefix)

  abbrev pub home_of : Option Prefix → Option ℕ
  home_of None = Some scope.module
  home_of (Some (IntPrefix at)) = None
  home_of (Some (WordPrefix prefix)) = imported prefix.name

  abbrev pub if_public : Bool → Entry → Result Meaning FaultCode
  if_public visible e = if visible then Ok e.meaning else Err NotPublic

  abbrev pub if_defined : ℕ → Option Entry → Result Meaning FaultCode
  if_defined home None = Err Unknown
  if_defined home (Some e) = if_public (home == scope.module || e.public) e

  abbrev pub if_imported : Name → Option ℕ → Result Meaning FaultCode
  if_imported name None = Err Unknown
  if_imported name (Some home) = if_defined home (entry_in names name home)

  -- What a name stands for, or why for nothing: a type, a constant, a variable or a function. In its own module all
  -- names are seen, and in others those that are public.
  abbrev pub meaning_named : QualifiedName → Result Meaning FaultCode
  meaning_named name = if_imported name.word.name (home_of name.prefix)

  -- the type that a name stands for in a descriptor, or why it stands for none
  abbrev pub type_named : QualifiedName → Result Ty FaultCode
  type_named name = its_type (meaning_named name)
