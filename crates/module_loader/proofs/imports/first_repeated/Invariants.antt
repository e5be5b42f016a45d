use Rattle.std.proofs.Common.{◌≡◌, None, take}
use Rattle.module_loader.specs.Packages.{first_place, repeat_in}
use Rattle.module_loader.proofs.imports.first_repeated.Given as goal

abbrev pub invariant-loop-file : goal.invariant-loop-file
invariant-loop-file l = first_place repeat_in (take l.file-index l.read) ≡ None
