use Rattle.check_calls.specs.Picking.{row_if}
use Rattle.check_calls.proofs.PickedMethods.{all-methods}
use Rattle.check_calls.proofs.picking.pick.Goals as goal

pub returns-clause-comes : goal.returns-clause-comes
returns-clause-comes g c = λ e is.
    all-methods g.T.Types.passes c.args.at c.args.name.now e (g.T.Types.atoms c.args.types.now) (g.T.Types.atoms c.pick_among.new.types) (row_if c.pick_among.result)
    (c.pick_among.ensures.comes e is)
