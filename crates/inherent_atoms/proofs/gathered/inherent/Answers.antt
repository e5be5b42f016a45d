use Rattle.inherent_atoms.proofs.Filling.{inherent-are, inherent-distinct}
use Rattle.inherent_atoms.proofs.gathered.inherent.Goals as goal

pub returns-clause-inherent : goal.returns-clause-inherent
returns-clause-inherent c = inherent-are c.args.atoms.now _ _ _ _ c.in_ok-found.ensures.marked c.in_ok-found.ensures.atoms c.in_ok-all.ensures c.in_ok-fill.ensures

pub returns-clause-distinct : goal.returns-clause-distinct
returns-clause-distinct c = inherent-distinct c.args.atoms.now _ _ _ _ c.in_ok-found.ensures.marked c.in_ok-found.ensures.atoms c.in_ok-all.ensures c.in_ok-fill.ensures
