-- What the definitions of a package say of names, in text order: module by module, file by file, and within a file from the front.
use Rattle.std.specs.Prelude.{◌++◌, ℕ, suc, true, false, List, [], ◌∷◌, map, fold, Option, None, Some, if◌then◌else◌}
use Rattle.std.specs.List.{flat_map}
use Rattle.std.specs.Option.{option_or}
use Rattle.bal_base.specs.declared.text.Name.{Name}
use Rattle.bal_tree.specs.declared.def.ConstDef.{ConstDef}
use Rattle.bal_tree.specs.declared.def.Def.{Def}
use Rattle.bal_tree.specs.declared.def.Def.TheVariants.{«Type» as TypeOf, Const, Variable as VariableOf, Function as FunctionOf}
use Rattle.bal_tree.specs.declared.def.FileTree.{FileTree}
use Rattle.bal_tree.specs.declared.def.FunctionDef.{FunctionDef}
use Rattle.bal_tree.specs.declared.def.Import.{Import}
use Rattle.bal_tree.specs.declared.def.TypeDef.{TypeDef}
use Rattle.bal_tree.specs.declared.def.VariableDef.{VariableDef}
use Rattle.bal_tree.specs.declared.package.Module.{Module as ModuleOf}
use Rattle.bal_tree.specs.declared.package.Package.{Package}
use Rattle.bal_tree.specs.declared.params.Param.{Param}
use Rattle.type_model.specs.Places.{is_same_text}
use Rattle.package_imports.specs.Imports.{prefix_of}
use Rattle.package_imports.specs.InPackage.{Linked, linked, target_named}
use Rattle.package_imports.specs.declared.targets.Target.{Target}
use Rattle.package_imports.specs.declared.targets.Target.TheVariants.{Library as LibraryTarget, Module as ModuleTarget}
use Rattle.name_resolution.specs.MainForm.{may_be_main}
use Rattle.name_resolution.specs.declared.mentions.Mention.{Mention}
use Rattle.name_resolution.specs.declared.mentions.Mention.TheVariants.{Own}
use Rattle.name_resolution.specs.declared.outlines.Kind.TheVariants.{TypeName, Constant, Variable, Function}
use Rattle.name_resolution.specs.declared.outlines.Outline.{Outline}
use Rattle.descriptors.specs.declared.names.Source.{Source}
use Rattle.descriptors.specs.declared.names.Source.TheVariants.{Library, Module}
use Rattle.descriptors.specs.Descriptors.{descriptor_of, descriptor_if}
use Rattle.name_resolution.specs.Mentions.{mentioned, mentioned_if}

-- ---- prefixes

-- what stands under a prefix where an import names this
abbrev pub source_of : Option Target → Option Source
source_of None = None
source_of (Some LibraryTarget) = Some Library
source_of (Some (ModuleTarget number)) = Some (Module number)

-- what an import gives a prefix
abbrev pub source_by : Linked → Import → Name → Option Source
source_by home i prefix = if is_same_text prefix (prefix_of i) then source_of (target_named home i) else None

-- What a prefix stands for, by the imports of a file: what the first of them names that has it, of those that name anything.
abbrev pub import_source : Linked → List Import → Name → Option Source
import_source home [] prefix = None
import_source home (i ∷ imports) prefix = option_or (source_by home i prefix) (import_source home imports prefix)

-- ---- definitions

-- as they are read in a module, and in a file whose prefixes stand for these sources
module _ («module» : ℕ) (source : Name → Option Source) where
  abbrev pub type_mentions : TypeDef → List Mention
  type_mentions d = mentioned «module» source false (descriptor_of d.ty.value) (Own d.name.at ∷ [])

  abbrev pub const_mentions : ConstDef → List Mention
  const_mentions d = mentioned_if «module» source false (descriptor_if d.ty) [] ++ Own d.name.at ∷ []

  abbrev pub variable_mentions : VariableDef → List Mention
  variable_mentions d = mentioned «module» source false (descriptor_of d.ty.value) [] ++ Own d.name.at ∷ []

  -- a parameter, behind what was mentioned before
  abbrev pub param_mentions : List Mention → Param → List Mention
  param_mentions before p = mentioned «module» source false (descriptor_of p.ty.value) before

  abbrev pub rest_mentions : Option Param → List Mention → List Mention
  rest_mentions None before = before
  rest_mentions (Some p) before = param_mentions before p

  abbrev pub function_mentions : FunctionDef → List Mention
  function_mentions d =
      mentioned_if «module» source false (descriptor_if d.result)
      (rest_mentions d.params.rest (fold param_mentions (Own d.name.at ∷ []) d.params.params.items))

  abbrev pub outline_of : Def → Outline
  outline_of (TypeOf d) =
      record { «module» = «module»; kind = TypeName; public = d.public; name = d.name.name; at = d.at; mentions = type_mentions d; may_be_main = true }
  outline_of (Const d) =
      record { «module» = «module»; kind = Constant; public = d.public; name = d.name.name; at = d.at; mentions = const_mentions d; may_be_main = true }
  outline_of (VariableOf d) =
      record { «module» = «module»; kind = Variable; public = d.public; name = d.name.name; at = d.at; mentions = variable_mentions d; may_be_main = true }
  outline_of (FunctionOf d) =
      record { «module» = «module»; kind = Function; public = d.public; name = d.name.name; at = d.at; mentions = function_mentions d; may_be_main = may_be_main d }

-- those of a file of the module with this number
abbrev pub file_outlines : Linked → ℕ → FileTree → List Outline
file_outlines home m file = map (outline_of m (import_source home file.imports.items)) file.defs.items

-- those of a module and of the modules behind it, from this number on
abbrev pub outlines_from : Linked → ℕ → List ModuleOf → List Outline
outlines_from home first [] = []
outlines_from home first (m ∷ modules) = flat_map (λ file. file_outlines home first file.tree) m.files ++ outlines_from home (suc first) modules

abbrev pub outlines_of : Package → List Outline
outlines_of p = outlines_from (linked p) 0 p.modules
