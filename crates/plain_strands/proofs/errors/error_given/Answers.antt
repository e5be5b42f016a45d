use Rattle.std.proofs.Common.{None, subst}
use Rattle.plain_run.specs.Came.{IsErrorMade}
use Rattle.plain_run.specs.Held.{world_of}
use Rattle.plain_strands.proofs.Erring.{error-gave, error-none}
use Rattle.plain_strands.proofs.errors.error_given.Goals as goal

pub returns-in-Some-clause-row : goal.returns-in-Some-clause-row
returns-in-Some-clause-row c =
    let w = world_of c.args.world.now in
    let v = world_of c.make_error.new.world in
    error-gave w v c.args.message c.new.result c.new.ensures c.in-Some.number (subst (IsErrorMade w c.args.message None c.new.result v) c.in-Some.is c.in_ok-number.ensures)

pub returns-in-None-clause-row : goal.returns-in-None-clause-row
returns-in-None-clause-row c =
    let w = world_of c.args.world.now in
    let v = world_of c.make_error.new.world in
    error-none w v c.args.message c.new.result c.new.ensures (subst (IsErrorMade w c.args.message None c.new.result v) c.in-None.is c.in_ok-number.ensures)

pub returns-in-None-clause-stays : goal.returns-in-None-clause-stays
returns-in-None-clause-stays c =
    (subst (IsErrorMade (world_of c.args.world.now) c.args.message None c.new.result (world_of c.make_error.new.world)) c.in-None.is c.in_ok-number.ensures).0
