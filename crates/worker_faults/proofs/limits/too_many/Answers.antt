use Rattle.std.proofs.Common.{refl}
use Rattle.worker_faults.proofs.Stops.{limit-passed}
use Rattle.worker_faults.proofs.limits.too_many.Goals as goal

pub returns : goal.returns
returns c most env lt = limit-passed most c.args.count c.args.at env _ lt (record { has_code = refl; stands = refl; shows = refl })
