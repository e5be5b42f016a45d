-- What the imports of a package name that the files of a folder make.
use Rattle.std.specs.Prelude.{◌≡◌, option_map}
use Rattle.bal_tree.specs.declared.def.Import.{Import}
use Rattle.bal_tree.specs.declared.package.Package.{Package}
use Rattle.folder_files.specs.Files.{Files}
use Rattle.package_imports.specs.Imports.{target_of}
use Rattle.package_imports.specs.InPackage.{moved, target_in}
use Rattle.package_making.specs.Making.{rank}
use Rattle.module_loader.specs.Packages.{PackageOf, home_of}

-- an import names in the package the module that it names among the folders, under the number that this has in the package
abbrev pub NamesModules : Type 0
NamesModules =
    (files : Files) (p : Package) (h : PackageOf files p) (i : Import)
    → target_in p i ≡ option_map (moved (rank h.makes.order)) (target_of (home_of h.manifest h.makes.folders) i)
