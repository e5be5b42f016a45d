use Rattle.lowered_typing.proofs.Landed.{units-land-well}
use Rattle.lowered_typing.proofs.laws.landings.Goals as goal

pub returns : goal.returns
returns c = units-land-well
