use Rattle.std.proofs.Common.{subst}
use Rattle.plain_run.specs.Held.{common_of}
use Rattle.code_steps.specs.Rings.{LeadsFrom}
use Rattle.code_steps.proofs.outcome.stalled.Goals as goal

pub returns-in-Stops : goal.returns-in-Stops
returns-in-Stops c = λ e h. subst (LeadsFrom (common_of c.args.common.now)) c.in-Stops.is c.in_ok-follow.ensures h.0 h.1
