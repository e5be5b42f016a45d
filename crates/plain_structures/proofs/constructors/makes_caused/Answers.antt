use Rattle.std.proofs.Common.{◌≡◌, Some, None, [], rules}
use Rattle.std.specs.Prelude.{option_map}
use Rattle.op_model.specs.Operands.{pairs_of}
use Rattle.op_model.specs.Stores.{entries_from}
use Rattle.plain_run.specs.Came.{came_of}
use Rattle.plain_run.specs.Held.{world_of}
use Rattle.plain_structures.proofs.Making.{caused-absent, caused-made}
use Rattle.plain_structures.proofs.constructors.makes_caused.Goals as goal

pub returns-in-None-clause-row : goal.returns-in-None-clause-row
returns-in-None-clause-row c =
    let none : None ≡ option_map (λ ps. entries_from [] ps) (pairs_of c.args.details.now) = search rules in
    caused-absent (world_of c.args.world.now) c.args.message.now c.args.details.now c.args.cause none

pub returns-in_ok-came-in-Some-clause-row : goal.returns-in_ok-came-in-Some-clause-row
returns-in_ok-came-in-Some-clause-row c =
    let some : Some c.in-Some.entries ≡ option_map (λ ps. entries_from [] ps) (pairs_of c.args.details.now) = search rules in
    caused-made (world_of c.args.world.now) c.args.message.now c.args.details.now c.args.cause c.in-Some.entries (came_of c.in_ok-came-in-Some.came c.gives_error.new.world) some (search rules)
