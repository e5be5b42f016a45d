use Rattle.needs.proofs.Members.{met-all, refused-all}
use Rattle.needs.proofs.laws.needs_are_met_in_turn.Goals as goal

pub returns-clause-met : goal.returns-clause-met
returns-clause-met g c = met-all g.N.Needs.meets

pub returns-clause-refused : goal.returns-clause-refused
returns-clause-refused g c = refused-all g.N.Needs.meets
