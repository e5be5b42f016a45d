use Rattle.std.proofs.Common.{◌≡◌, fold, take}
use Rattle.type_builder.specs.AtomPlaces.{module_places}
use Rattle.type_builder.proofs.atom_places.all_modules.Given as goal

abbrev pub invariant-loop-m : goal.invariant-loop-m
invariant-loop-m l = l.out.items ≡ fold module_places l.initial.out.items (take l.m-index l.modules)
