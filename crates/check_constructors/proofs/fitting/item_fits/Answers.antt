use Rattle.std.specs.Option.{option_copied}
use Rattle.type_model.specs.Places.{item_type}
use Rattle.expr_needs.specs.ExprTable.{read_expr}
use Rattle.check_constructors.proofs.FittingChoices.{item-by}
use Rattle.check_constructors.proofs.fitting.item_fits.Goals as goal

pub returns : goal.returns
returns c =
    item-by c.args.defs.now c.fits.result (option_copied c.literal.result) (read_expr c.args.item.now).literal (option_copied c.item_type.result)
    (item_type c.args.fixed.now c.args.rest.now c.args.place) c.literal.ensures c.item_type.ensures c.fits.ensures
