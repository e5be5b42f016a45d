use Rattle.type_diagrams.specs.Tables.{condition}
use Rattle.empty_product.proofs.Nothing.{not-nothing}
use Rattle.empty_product.proofs.slots.standing.Goals as goal

pub returns-in-None : goal.returns-in-None
returns-in-None g c =
    (c.in-None.ensures, not-nothing (condition c.args.dia.now c.args.question) c.is_nothing.result c.is_nothing.ensures c.if-is_nothing.false)
