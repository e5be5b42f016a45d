use Rattle.plain_run.specs.Held.{end_of as end_held}
use Rattle.plain_run.proofs.Given.{on-ok}
use Rattle.plain_run.proofs.Listed.{ended-so}
use Rattle.plain_run.proofs.strands.end_strand.Goals as goal

pub returns : goal.returns
returns c = on-ok _ _ c.set_status.result (λ h. ended-so c.args.common.now c.set_status.new.self c.ended-place.result (end_held c.args.end) c.ended-place.ensures h) c.set_status.ensures
