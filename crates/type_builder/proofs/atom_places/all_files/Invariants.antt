use Rattle.std.proofs.Common.{◌≡◌, fold, take}
use Rattle.type_builder.specs.AtomPlaces.{file_places}
use Rattle.type_builder.proofs.atom_places.all_files.Given as goal

abbrev pub invariant-loop-f : goal.invariant-loop-f
invariant-loop-f l = l.out.items ≡ fold file_places l.initial.out.items (take l.f-index l.files)
