use Rattle.folder_programs.proofs.Ending.{ran-so, run-can-report}
use Rattle.folder_programs.proofs.running.execute.Goals as goal

pub returns-clause-ended : goal.returns-clause-ended
returns-clause-ended g c = ran-so _ _ _ _ _ _ _ _ c.run_accepted-ended.result c.run_of.result c.run_accepted-ended.ensures.ended c.run_accepted-ended.ensures.faults c.run_of.ensures

pub returns-clause-text : goal.returns-clause-text
returns-clause-text g c = run-can-report _ _ c.run_accepted-ended.result c.run_of.result c.run_of.ensures
