use Rattle.std.proofs.Common.{◌≡◌, fold, take}
use Rattle.type_builder.specs.AtomPlaces.{def_places}
use Rattle.type_builder.proofs.atom_places.all_defs.Given as goal

abbrev pub invariant-loop-d : goal.invariant-loop-d
invariant-loop-d l = l.out.items ≡ fold def_places l.initial.out.items (take l.d-index l.defs)
