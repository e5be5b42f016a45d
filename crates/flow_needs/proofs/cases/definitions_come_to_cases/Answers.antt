use Rattle.flow_needs.proofs.Worked.{ended-ways-are-not-narrower, known-slots-are-not-free, nothing-is-reached, shared-slots-are-refused, variables-are-in-slots}
use Rattle.flow_needs.proofs.cases.definitions_come_to_cases.Goals as goal

pub returns-clause-variables_are_in_slots : goal.returns-clause-variables_are_in_slots
returns-clause-variables_are_in_slots c = variables-are-in-slots

pub returns-clause-nothing_is_reached : goal.returns-clause-nothing_is_reached
returns-clause-nothing_is_reached c = nothing-is-reached

pub returns-clause-shared_slots_are_refused : goal.returns-clause-shared_slots_are_refused
returns-clause-shared_slots_are_refused c = shared-slots-are-refused

pub returns-clause-known_slots_are_not_free : goal.returns-clause-known_slots_are_not_free
returns-clause-known_slots_are_not_free c = known-slots-are-not-free

pub returns-clause-ended_ways_are_not_narrower : goal.returns-clause-ended_ways_are_not_narrower
returns-clause-ended_ways_are_not_narrower c = ended-ways-are-not-narrower
