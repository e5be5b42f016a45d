use Rattle.plain_run.specs.Came.{came_of}
use Rattle.plain_run.specs.Held.{world_of}
use Rattle.plain_library.proofs.Reading.{readln-comes}
use Rattle.plain_library.proofs.input.readln.Goals as goal

pub returns-clause-row : goal.returns-clause-row
returns-clause-row c = λ atom own.
    readln-comes own atom (world_of c.args.world.now) (came_of c.in_ok-came.came c.reads_after.new.world) c.args.operands.now c.if-operands-gt1.false c.in_ok-came.ensures.row
