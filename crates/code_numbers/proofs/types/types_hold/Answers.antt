use Rattle.code_numbers.proofs.NamedTypes.{by-others}
use Rattle.code_numbers.proofs.types.types_hold.Goals as goal

pub returns-then-definitions_hold : goal.returns-then-definitions_hold
returns-then-definitions_hold c =
    by-others c.args.code.now c.as_slice-defs.result.now c.as_slice-defs.ensures c.definitions_hold.result c.others_name.result c.if-definitions_hold.true c.definitions_hold.ensures c.others_name.ensures
