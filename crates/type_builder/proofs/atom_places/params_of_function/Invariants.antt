use Rattle.std.proofs.Common.{◌≡◌, fold, take}
use Rattle.type_builder.specs.AtomPlaces.{param_places}
use Rattle.type_builder.proofs.atom_places.params_of_function.Given as goal

abbrev pub invariant-loop-p : goal.invariant-loop-p
invariant-loop-p l = l.out.items ≡ fold param_places l.initial.out.items (take l.p-index l.params)
