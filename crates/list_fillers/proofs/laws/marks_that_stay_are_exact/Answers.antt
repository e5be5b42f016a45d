use Rattle.list_fillers.proofs.Rounds.{marks-stay-sound, still-marks-are-exact}
use Rattle.list_fillers.proofs.laws.marks_that_stay_are_exact.Goals as goal

pub returns-clause-sound : goal.returns-clause-sound
returns-clause-sound c = marks-stay-sound

pub returns-clause-exact : goal.returns-clause-exact
returns-clause-exact c = still-marks-are-exact
