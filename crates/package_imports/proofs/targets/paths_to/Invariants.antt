use Rattle.std.proofs.Common.{◌≡◌, map, take}
use Rattle.package_imports.specs.Imports.{path_to}
use Rattle.package_imports.proofs.targets.paths_to.Given as goal

abbrev pub invariant-loop-folder : goal.invariant-loop-folder
invariant-loop-folder l = l.paths.items ≡ map (path_to l.name) (take l.folder-index l.folders)
