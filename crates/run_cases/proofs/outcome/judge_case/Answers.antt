use Rattle.std.proofs.Common.{inl}
use Rattle.run_cases.proofs.outcome.judge_case.Goals as goal

pub returns-in-Ok : goal.returns-in-Ok
returns-in-Ok c = inl (c.in-Ok.came, c.in-Ok.ensures, c.compare.ensures)
