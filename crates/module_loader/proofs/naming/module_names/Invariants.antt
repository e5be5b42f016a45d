use Rattle.std.proofs.Common.{◌≡◌, map, take}
use Rattle.module_loader.specs.Packages.{module_name}
use Rattle.module_loader.proofs.naming.module_names.Given as goal

abbrev pub invariant-loop-folder : goal.invariant-loop-folder
invariant-loop-folder l = l.names.items ≡ map (module_name l.manifest) (take l.folder-index l.folders)
