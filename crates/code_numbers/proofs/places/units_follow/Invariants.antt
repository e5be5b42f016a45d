use Rattle.std.proofs.Common.{◌↔◌, drop, length}
use Rattle.stack_code.specs.Tables.{FollowFrom}
use Rattle.code_numbers.proofs.places.units_follow.Given as goal

abbrev pub invariant-loop-unit : goal.invariant-loop-unit
invariant-loop-unit l = FollowFrom l.code 0 l.code.units (length l.code.instrs) ↔ FollowFrom l.code l.next (drop l.unit-index l.code.units) (length l.code.instrs)
