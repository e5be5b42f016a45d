use Rattle.plain_run.proofs.Given.{if-ok}
use Rattle.plain_run.specs.Held.{world_of}
use Rattle.plain_structures.proofs.Making.{error-caused, error-uncaused}
use Rattle.plain_structures.proofs.constructors.makes_error.Goals as goal

pub returns-in-None-clause-row : goal.returns-in-None-clause-row
returns-in-None-clause-row c = error-uncaused (world_of c.args.world.now) c.args.message.now c.args.details.now c.args.cause.now c.in-None.ensures

pub returns-in-Some-clause-row : goal.returns-in-Some-clause-row
returns-in-Some-clause-row c =
    if-ok _ _ c.makes_caused.result (λ came h. error-caused (world_of c.args.world.now) c.args.message.now c.args.details.now c.args.cause.now c.in-Some.cause c.makes_caused.new.world came c.in-Some.ensures h) c.makes_caused.ensures.row
