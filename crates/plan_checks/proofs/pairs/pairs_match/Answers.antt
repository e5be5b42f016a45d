use Rattle.worker_pairing.specs.Faults.{pairs_of}
use Rattle.worker_pairing.specs.Marks.{members_of}
use Rattle.plan_checks.proofs.Stripped.{none-strip}
use Rattle.plan_checks.proofs.pairs.pairs_match.Goals as goal

pub returns-in-None : goal.returns-in-None
returns-in-None c = none-strip (pairs_of (members_of c.args.f.now)) c.args.given.now c.in-None.ensures
