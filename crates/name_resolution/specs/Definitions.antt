-- The definitions of a package in text order, each with where it stands: module by module, file by file, and from the front.
use Rattle.std.specs.Prelude.{◌++◌, ◌==◌, ◌&&◌, ℕ, suc, Bool, List, [], ◌∷◌, map, Some}
use Rattle.bal_base.specs.declared.text.Name.{Name}
use Rattle.bal_tree.specs.declared.def.Def.{Def}
use Rattle.bal_tree.specs.declared.def.Def.TheVariants.{«Type» as TypeOf, Const, Variable as VariableOf, Function as FunctionOf}
use Rattle.bal_tree.specs.declared.package.Module.{Module}
use Rattle.bal_tree.specs.declared.package.Package.{Package}
use Rattle.bal_tree.specs.declared.package.SourceFile.{SourceFile}
use Rattle.descriptors.specs.declared.names.Scope.{Scope}
use Rattle.descriptors.specs.Steps.{scope_of}
use Rattle.type_model.specs.Places.{is_same_text}

-- a definition, the module in which it stands, and the file of that module, both by number
pub record Placed : Type 0 where
  pub «module» : ℕ
  pub file : ℕ
  pub def : Def

abbrev pub placed : ℕ → ℕ → Def → Placed
placed m file d = record { «module» = m; file = file; def = d }

-- those of a module's files, from the one with this number on
abbrev pub in_files : ℕ → ℕ → List SourceFile → List Placed
in_files m file [] = []
in_files m file (f ∷ files) = map (placed m file) f.tree.defs.items ++ in_files m (suc file) files

abbrev pub in_modules : ℕ → List Module → List Placed
in_modules first [] = []
in_modules first (m ∷ modules) = in_files first 0 m.files ++ in_modules (suc first) modules

abbrev pub definitions_of : Package → List Placed
definitions_of p = in_modules 0 p.modules

-- ---- one definition

-- the scope in which its descriptors stand
abbrev pub scope_at : Placed → Scope
scope_at p = scope_of p.«module» (Some p.file)

abbrev pub name_of : Def → Name
name_of (TypeOf d) = d.name.name
name_of (Const d) = d.name.name
name_of (VariableOf d) = d.name.name
name_of (FunctionOf d) = d.name.name

abbrev pub is_public : Def → Bool
is_public (TypeOf d) = d.public
is_public (Const d) = d.public
is_public (VariableOf d) = d.public
is_public (FunctionOf d) = d.public

-- how many functions it defines
abbrev pub functions_in : Def → ℕ
functions_in (TypeOf d) = 0
functions_in (Const d) = 0
functions_in (VariableOf d) = 0
functions_in (FunctionOf d) = 1

-- how many variables it defines
abbrev pub variables_in : Def → ℕ
variables_in (TypeOf d) = 0
variables_in (Const d) = 0
variables_in (VariableOf d) = 1
variables_in (FunctionOf d) = 0

-- it defines the name in the module
abbrev pub defines : ℕ → Name → Placed → Bool
defines m name p = (m == p.«module») && is_same_text name (name_of p.def)
