-- What the names of a package stand for.
use Rattle.std.specs.Prelude.{◌≡◌, ◌+◌, ◌++◌, ℕ, List, [], ◌∷◌, length, Option, None, Some, if◌then◌else◌}
use Rattle.std.specs.List.{AllZip}
use Rattle.bal_base.specs.declared.text.Name.{Name}
use Rattle.bal_tree.specs.declared.package.Module.{Module}
use Rattle.bal_tree.specs.declared.package.Package.{Package}
use Rattle.bal_tree.specs.declared.package.SourceFile.{SourceFile}
use Rattle.checks.specs.Checks.{Check, Gives, Refuses}
use Rattle.descriptors.specs.Described.{Atoms}
use Rattle.descriptors.specs.Naming.{entry_in, file_source}
use Rattle.descriptors.specs.declared.names.Entry.{Entry}
use Rattle.descriptors.specs.declared.names.FileNames.{FileNames}
use Rattle.descriptors.specs.declared.names.ModuleNames.{ModuleNames}
use Rattle.descriptors.specs.declared.names.Names.{Names}
use Rattle.descriptors.specs.declared.names.OwnTypes.{OwnTypes}
use Rattle.package_imports.specs.InPackage.{Linked, linked}
use Rattle.name_resolution.specs.Outlines.{import_source}
use Rattle.name_resolution.specs.Definitions.{Placed, defines, definitions_of}
use Rattle.type_builder.specs.Meanings.{entries, nothing_earlier}

-- the entry of the first definition of a name in a module
abbrev pub first_entry : ℕ → Name → List Placed → List Entry → Option Entry
first_entry m name [] es = None
first_entry m name (p ∷ ps) [] = None
first_entry m name (p ∷ ps) (e ∷ es) = if defines m name p then Some e else first_entry m name ps es

-- the prefixes of each file stand for what its imports name in this package
abbrev pub IsFile : Linked → SourceFile → FileNames → Type 0
IsFile home f names = (prefix : Name) → file_source prefix names ≡ import_source home f.tree.imports.items prefix

abbrev pub IsModule : Linked → Module → ModuleNames → Type 0
IsModule home m names = AllZip (IsFile home) m.files names.files.items

-- What the names of a package stand for where these atoms are behind those that were there: each definition means what it says over all
-- of them, and needs the atoms that follow those of the definitions before it.
pub record AreNamesOf (p : Package) (own : OwnTypes) (old group : Atoms) (names : Names) : Type 0 where
  pub own_are : names.own ≡ own
  pub files : AllZip (IsModule (linked p)) p.modules names.modules.items
  pub es : List Entry
  pub defined : entries (old ++ group) names nothing_earlier (definitions_of p) (length old) (Gives es) (length old + length group)
  pub named : (m : ℕ) (name : Name) → entry_in names name m ≡ first_entry m name (definitions_of p) es

unfoldable pub defines_all : Package → OwnTypes → Check Atoms Names
defines_all p own old (Gives names) new = (group : Atoms) × (new ≡ old ++ group) × AreNamesOf p own old group names
defines_all p own old (Refuses f) new = ⊥
