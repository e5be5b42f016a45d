use Rattle.lowered_waits.proofs.Lowered.{lowered-holds, lowered-never-rings}
use Rattle.lowered_waits.proofs.laws.lowered_code_never_rings.Goals as goal

pub returns-clause-rings : goal.returns-clause-rings
returns-clause-rings g c = lowered-never-rings g.T.Types.passes g.N.Meaning.answers

pub returns-clause-strands : goal.returns-clause-strands
returns-clause-strands g c = lowered-holds g.T.Types.passes g.N.Meaning.answers
