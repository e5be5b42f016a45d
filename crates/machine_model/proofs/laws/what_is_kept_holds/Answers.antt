use Rattle.machine_model.proofs.Keeping.{kept-holds}
use Rattle.machine_model.proofs.laws.what_is_kept_holds.Goals as goal

pub returns : goal.returns
returns g c = kept-holds g.N.Meaning.answers g.K.Kept.machine g.K.Kept.invariant
