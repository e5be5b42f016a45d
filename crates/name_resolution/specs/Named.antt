-- What is so of each definition of a package whose names are without fault.
use Rattle.std.specs.Prelude.{◌≡◌, ◌==◌, ◌||◌, ℕ, Bool, true, false, List, All, IfSome, Option, Some, Ok, slice_get}
use Rattle.std.specs.List.{position_from}
use Rattle.std.specs.Option.{option_and_then}
use Rattle.bal_base.specs.declared.text.Name.{Name}
use Rattle.bal_tree.specs.declared.def.Def.{Def}
use Rattle.bal_tree.specs.declared.def.Def.TheVariants.{«Type» as TypeOf, Const, Variable as VariableOf, Function as FunctionOf}
use Rattle.bal_tree.specs.declared.def.FunctionDef.{FunctionDef}
use Rattle.bal_tree.specs.declared.name.QualifiedName.{QualifiedName}
use Rattle.bal_tree.specs.declared.package.Package.{Package}
use Rattle.bal_tree.specs.declared.params.Param.{Param}
use Rattle.descriptors.specs.declared.names.Source.{Source}
use Rattle.descriptors.specs.Descriptors.{descriptor_of, descriptor_if}
use Rattle.package_imports.specs.InPackage.{linked}
use Rattle.name_resolution.specs.Clear.{IsClear, IsClearIf}
use Rattle.graphs.specs.Cycles.{Follows}
use Rattle.name_resolution.specs.Definitions.{Placed, defines, is_public, name_of}
use Rattle.name_resolution.specs.Mentions.{home_of}
use Rattle.name_resolution.specs.Outlines.{import_source, outlines_of}
use Rattle.name_resolution.specs.Resolved.{first_defined, parts, resolved}

-- Holds: what is so of each name in a descriptor, where it stands inside a list, a mapping, an error, a function or a future, or outside
module _ (Holds : Bool → QualifiedName → Type 0) where
  abbrev pub IsClearParam : Param → Type 0
  IsClearParam q = IsClear Holds false (descriptor_of q.ty.value)

  -- the descriptors of a function: those of its parameters, of the one that takes the rest, and of its result
  pub record HasClearSignature (d : FunctionDef) : Type 0 where
    pub params : All IsClearParam d.params.params.items
    pub rest : IfSome d.params.rest IsClearParam
    pub result : IsClearIf Holds false (descriptor_if d.result)

-- it defines a type, or a constant with that of its value
abbrev pub gives_type : Def → Bool
gives_type (TypeOf d) = true
gives_type (Const d) = true
gives_type (VariableOf d) = false
gives_type (FunctionOf d) = false

-- Of these definitions the one with this number is what a name stands for where a type is named: the first of that name in the module
-- in which it is sought, it is seen from another one, and it gives a type.
pub record IsFor (ps : List Placed) (from : ℕ) (sought : Option ℕ) (name : Name) (k : ℕ) : Type 0 where
  pub home : ℕ
  pub home_is : sought ≡ Some home
  pub definition : Placed
  pub is : slice_get ps k ≡ Some definition
  pub first : position_from (defines home name) 0 ps ≡ Some k
  pub seen : (from == definition.«module» || is_public definition.def) ≡ true
  pub of : gives_type definition.def ≡ true

module _ (p : Package) where
  -- what a prefix stands for in the file in which a definition stands
  abbrev pub source_at : Placed → Name → Option Source
  source_at q prefix = option_and_then (λ m. option_and_then (λ f. import_source (linked p) f.tree.imports.items prefix) (slice_get m.files q.file)) (slice_get p.modules q.«module»)

  -- a name in a descriptor of a definition stands for the definition with this number
  abbrev pub Stands : Placed → QualifiedName → ℕ → Type 0
  Stands q name k = resolved (outlines_of p) q.«module» (home_of q.«module» (source_at q) name.prefix) name.word.name ≡ Ok k

  -- it stands for one
  abbrev pub IsKnown : Placed → Bool → QualifiedName → Type 0
  IsKnown q inside name = (k : ℕ) × Stands q name k

  -- it stands for one, which outside is a part of the type that the definition with this number defines
  abbrev pub IsKnownPart : ℕ → Placed → Bool → QualifiedName → Type 0
  IsKnownPart n q inside name = (k : ℕ) × Stands q name k × (inside ≡ false → Follows (parts (outlines_of p)) n k)

  -- the descriptors of a definition
  abbrev pub IsClearDef : ℕ → Placed → Def → Type 0
  IsClearDef n q (TypeOf d) = IsClear (IsKnownPart n q) false (descriptor_of d.ty.value)
  IsClearDef n q (Const d) = IsClearIf (IsKnown q) false (descriptor_if d.ty)
  IsClearDef n q (VariableOf d) = IsClear (IsKnown q) false (descriptor_of d.ty.value)
  IsClearDef n q (FunctionOf d) = HasClearSignature (IsKnown q) d

  -- The definition with this number: its names hold, no record gives a name to two fields, and it is the first of its name.
  pub record IsNamed (n : ℕ) (q : Placed) : Type 0 where
    pub clear : IsClearDef n q q.def
    pub first : first_defined (outlines_of p) q.«module» (name_of q.def) ≡ Some n
