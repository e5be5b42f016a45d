use Rattle.std.proofs.Common.{◌≡◌, ◌∙◌, Some, None, [], ap, rules}
use Rattle.std.specs.Prelude.{option_map}
use Rattle.op_model.specs.Operands.{pairs_of}
use Rattle.op_model.specs.Rows.{gives_structure}
use Rattle.op_model.specs.Stores.{entries_from}
use Rattle.plain_run.specs.Came.{came_of}
use Rattle.plain_run.specs.Held.{world_of}
use Rattle.plain_structures.proofs.Making.{mapping-absent, mapping-made}
use Rattle.plain_structures.proofs.constructors.makes_mapping.Goals as goal

pub returns-in-None-clause-row : goal.returns-in-None-clause-row
returns-in-None-clause-row c =
    let none : None ≡ option_map (λ ps. entries_from [] ps) (pairs_of c.args.operands.now) = search rules in
    mapping-absent (world_of c.args.world.now) c.args.atom c.args.immutable c.args.operands.now none

pub returns-in_ok-came-in-Some-clause-row : goal.returns-in_ok-came-in-Some-clause-row
returns-in_ok-came-in-Some-clause-row c =
    let w = world_of c.args.world.now in
    let some : Some c.in-Some.entries ≡ option_map (λ ps. entries_from [] ps) (pairs_of c.args.operands.now) = search rules in
    mapping-made w c.args.atom c.args.immutable c.args.operands.now c.in-Some.entries (came_of c.in_ok-came-in-Some.came c.gives_structure.new.world) some
    (c.in_ok-came-in-Some.ensures.row ∙ ap (gives_structure w) c.new_structure-made.ensures)
