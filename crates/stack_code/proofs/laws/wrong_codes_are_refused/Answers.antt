use Rattle.stack_code.proofs.WorkedHolds.{landing-refused, return-refused, trapped-workers, wrong-crew}
use Rattle.stack_code.proofs.laws.wrong_codes_are_refused.Goals as goal

pub returns-clause-crew : goal.returns-clause-crew
returns-clause-crew c = wrong-crew

pub returns-clause-workers : goal.returns-clause-workers
returns-clause-workers c = trapped-workers

pub returns-clause-landing : goal.returns-clause-landing
returns-clause-landing c = landing-refused

pub returns-clause-result : goal.returns-clause-result
returns-clause-result c = return-refused
