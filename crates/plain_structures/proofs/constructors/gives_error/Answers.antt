use Rattle.std.proofs.Common.{subst}
use Rattle.plain_run.specs.Came.{IsErrorMade}
use Rattle.plain_run.specs.Held.{world_of}
use Rattle.plain_structures.proofs.Making.{error-given, error-passes}
use Rattle.plain_structures.proofs.constructors.gives_error.Goals as goal

pub returns-in-Some-clause-row : goal.returns-in-Some-clause-row
returns-in-Some-clause-row c =
    let w = world_of c.args.world.now in
    let v = world_of c.make_error.new.world in
    error-given w v c.args.message c.args.cause c.args.details c.in-Some.number (subst (IsErrorMade w c.args.message c.args.cause c.args.details v) c.in-Some.is c.in_ok-number.ensures)

pub returns-in-None-clause-row : goal.returns-in-None-clause-row
returns-in-None-clause-row c =
    let w = world_of c.args.world.now in
    let v = world_of c.make_error.new.world in
    error-passes w v c.args.message c.args.cause c.args.details (subst (IsErrorMade w c.args.message c.args.cause c.args.details v) c.in-None.is c.in_ok-number.ensures)

pub returns-in-None-clause-stays : goal.returns-in-None-clause-stays
returns-in-None-clause-stays c =
    (subst (IsErrorMade (world_of c.args.world.now) c.args.message c.args.cause c.args.details (world_of c.make_error.new.world)) c.in-None.is c.in_ok-number.ensures).0
