use Rattle.std.proofs.Common.{◌≡◌, [], drop}
use Rattle.operations.specs.declared.operation.Operation.TheVariants.{Workers}
use Rattle.op_model.specs.Local.{captures}
use Rattle.code_frames.specs.Frames.{local_of}
use Rattle.code_frames.proofs.captures.capture.Given as goal

abbrev pub invariant-loop-slot : goal.invariant-loop-slot
invariant-loop-slot l = captures Workers (local_of l.local) l.captured [] ≡ captures Workers (local_of l.local) (drop l.slot-index l.captured) l.values.items
