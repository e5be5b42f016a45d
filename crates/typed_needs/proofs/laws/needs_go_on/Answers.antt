use Rattle.typed_needs.proofs.laws.needs_go_on.Goals as goal
use Rattle.typed_needs.proofs.EachGoes.{needs-go-on}
use Rattle.typed_needs.proofs.OnTheWay.{places-are-kept, states-are-before}

pub returns-clause-on : goal.returns-clause-on
returns-clause-on g c = needs-go-on g.T.Types.passes

pub returns-clause-before : goal.returns-clause-before
returns-clause-before g c = states-are-before

pub returns-clause-placed : goal.returns-clause-placed
returns-clause-placed g c = places-are-kept
