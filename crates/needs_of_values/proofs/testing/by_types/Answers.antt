use Rattle.check_work.specs.Views.{flow_of}
use Rattle.needs_of_values.proofs.Tested.{typed-copy}
use Rattle.needs_of_values.proofs.testing.by_types.Goals as goal

pub returns-clause-yes : goal.returns-clause-yes
returns-clause-yes c = typed-copy c.args.name.now c.args.yes (flow_of c.args.here.now) c.in_ok-flow.flow c.in_ok-yes.yes c.in_ok-flow.ensures c.in_ok-yes.ensures

pub returns-clause-no : goal.returns-clause-no
returns-clause-no c = typed-copy c.args.name.now c.args.no (flow_of c.args.here.now) c.in_ok-flow.flow c.in_ok-no.no c.in_ok-flow.ensures c.in_ok-no.ensures
