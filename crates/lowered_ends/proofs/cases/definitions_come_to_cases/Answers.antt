use Rattle.lowered_ends.proofs.Worked.{calls-start-nothing, default-is-not-awaited, ends-start-nothing, starts-are-seen, waits-are-for-named}
use Rattle.lowered_ends.proofs.cases.definitions_come_to_cases.Goals as goal

pub returns-clause-starts_are_seen : goal.returns-clause-starts_are_seen
returns-clause-starts_are_seen c = starts-are-seen

pub returns-clause-calls_start_nothing : goal.returns-clause-calls_start_nothing
returns-clause-calls_start_nothing c = calls-start-nothing

pub returns-clause-waits_are_for_named : goal.returns-clause-waits_are_for_named
returns-clause-waits_are_for_named c = waits-are-for-named

pub returns-clause-default_is_not_awaited : goal.returns-clause-default_is_not_awaited
returns-clause-default_is_not_awaited c = default-is-not-awaited

pub returns-clause-ends_start_nothing : goal.returns-clause-ends_start_nothing
returns-clause-ends_start_nothing c = ends-start-nothing
