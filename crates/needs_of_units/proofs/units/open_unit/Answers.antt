use Rattle.std.proofs.Common.{None, ap}
use Rattle.check_words.specs.State.{State}
use Rattle.check_work.specs.Views.{state_of, unit_of}
use Rattle.needs_of_units.proofs.Opening.{opened-comes, opened-stands}
use Rattle.needs_of_units.proofs.units.open_unit.Goals as goal

pub returns-clause-stands : goal.returns-clause-stands
returns-clause-stands c = λ env below h. opened-stands (state_of env c.args.work.now) h _ (unit_of c.args.unit) c.in_ok-put_in.ensures below

pub returns-clause-comes : goal.returns-clause-comes
returns-clause-comes c = λ env u same. let s : State = state_of env c.args.work.now in
    opened-comes s u (unit_of c.args.unit) same _ (ap (λ us. record s { units = us; ways = None }) c.in_ok-put_in.ensures)
