use Rattle.check_words.proofs.Standing.{shared-below}
use Rattle.check_work.specs.Views.{unit_of}
use Rattle.needs_of_units.proofs.Beginning.{bare-below, within-is}
use Rattle.needs_of_units.proofs.anonymous.unit_within.Goals as goal

pub returns-clause-is : goal.returns-clause-is
returns-clause-is c = within-is (unit_of c.args.around.now) c.args.number c.in_ok-gives.gives _ c.in_ok-gives.ensures c.empty_unit.ensures

pub returns-clause-below : goal.returns-clause-below
returns-clause-below c = λ n h.
    bare-below n _ _ _ _ _ c.empty_unit.ensures (shared-below n c.args.around.now.result c.in_ok-gives.gives c.in_ok-gives.ensures h)
