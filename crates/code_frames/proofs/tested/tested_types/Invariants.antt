use Rattle.std.proofs.Common.{map, take}
use Rattle.std.specs.List.{AllZip}
use Rattle.type_model.specs.SameType.{IsSameType}
use Rattle.typed_tree.specs.SharedTypes.{sem_of}
use Rattle.code_frames.proofs.tested.tested_types.Given as goal

abbrev pub invariant-loop-sem : goal.invariant-loop-sem
invariant-loop-sem l = AllZip IsSameType (take l.sem-index l.code.tested) (map sem_of l.types.items)
