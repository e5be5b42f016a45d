use Rattle.std.proofs.Common.{ap}
use Rattle.witness.specs.Seen.{shape_of}
use Rattle.witness.proofs.Witness.error.Goals as goal

pub returns : goal.returns
returns c = (c.in_ok-detail.detail, c.in_ok-detail.ensures.ok, ap shape_of c.in_ok-new.ensures.ok)
