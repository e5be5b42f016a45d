use Rattle.std.proofs.Common.{◌≡◌, map, take}
use Rattle.isolation_check.specs.inner.Opened.{open_of}
use Rattle.isolation_check.specs.Walk.{path}
use Rattle.isolation_check.proofs.walk.names.Given as goal

abbrev pub invariant-loop-body : goal.invariant-loop-body
invariant-loop-body l = l.names.items ≡ path (map open_of (take l.body-index l.stack))
