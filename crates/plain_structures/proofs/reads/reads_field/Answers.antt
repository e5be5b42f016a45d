use Rattle.std.proofs.Common.{refl}
use Rattle.op_model.specs.Rows.{gives}
use Rattle.plain_run.specs.Held.{world_of}
use Rattle.plain_structures.proofs.Finding.{field-row, no-field-row}
use Rattle.plain_structures.proofs.reads.reads_field.Goals as goal

pub returns-in-None : goal.returns-in-None
returns-in-None c = no-field-row (world_of c.args.world.now) c.args.n c.args.name.now c.in-None.ensures

pub returns-in-Some : goal.returns-in-Some
returns-in-Some c =
    let w = world_of c.args.world.now in
    field-row w c.args.n c.args.name.now c.in-Some.v (gives w c.in-Some.v) c.in-Some.ensures refl
