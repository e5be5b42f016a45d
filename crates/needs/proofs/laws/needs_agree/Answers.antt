use Rattle.needs.proofs.Agreeing.{all-alike}
use Rattle.needs.proofs.laws.needs_agree.Goals as goal

pub returns : goal.returns
returns g c = all-alike g.N.Needs.twins g.N.Needs.meets
