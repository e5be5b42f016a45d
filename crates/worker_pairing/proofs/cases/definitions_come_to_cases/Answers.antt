use Rattle.std.proofs.Common.{refl}
use Rattle.worker_pairing.proofs.Numberings.{flushes-nothing, ring-has-none, waits-for-itself}
use Rattle.worker_pairing.proofs.cases.definitions_come_to_cases.Goals as goal

pub returns-clause-events_of_two : goal.returns-clause-events_of_two
returns-clause-events_of_two c = refl

pub returns-clause-pairs_of_two : goal.returns-clause-pairs_of_two
returns-clause-pairs_of_two c = refl

pub returns-clause-ranks_of_two : goal.returns-clause-ranks_of_two
returns-clause-ranks_of_two c = refl

pub returns-clause-leaves_the_second : goal.returns-clause-leaves_the_second
returns-clause-leaves_the_second c = refl

pub returns-clause-counts_of_few : goal.returns-clause-counts_of_few
returns-clause-counts_of_few c = refl

pub returns-clause-names_none : goal.returns-clause-names_none
returns-clause-names_none c = refl

pub returns-clause-marks_of_careful : goal.returns-clause-marks_of_careful
returns-clause-marks_of_careful c = (refl, refl, refl)

pub returns-clause-initial_is_exempt : goal.returns-clause-initial_is_exempt
returns-clause-initial_is_exempt c = (refl, refl)

pub returns-clause-ring_has_none : goal.returns-clause-ring_has_none
returns-clause-ring_has_none c = ring-has-none

pub returns-clause-flushes_nothing : goal.returns-clause-flushes_nothing
returns-clause-flushes_nothing c = flushes-nothing

pub returns-clause-waits_for_itself : goal.returns-clause-waits_for_itself
returns-clause-waits_for_itself c = waits-for-itself
