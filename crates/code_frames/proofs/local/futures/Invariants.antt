use Rattle.std.proofs.Common.{◌≡◌, ◌≤◌, take}
use Rattle.op_model.specs.Local.{futures_in}
use Rattle.code_frames.proofs.local.futures.Given as goal

abbrev pub invariant-loop-name : goal.invariant-loop-name
invariant-loop-name l = (l.count ≡ futures_in (take l.name-index l.names)) × (l.count ≤ l.name-index)
