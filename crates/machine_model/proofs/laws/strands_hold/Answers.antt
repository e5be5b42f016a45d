use Rattle.machine_model.proofs.HoldOfStrands.{hold-of-strands}
use Rattle.machine_model.proofs.laws.strands_hold.Goals as goal

pub returns : goal.returns
returns g c = hold-of-strands g.N.Meaning.answers g.M.AnyMachine.machine
