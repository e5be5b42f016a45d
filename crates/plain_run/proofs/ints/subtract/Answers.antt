use Rattle.std.proofs.Common.{rules, ◌-ℤ◌}
use Rattle.plain_run.proofs.Given.{if-ok}
use Rattle.plain_run.proofs.ints.subtract.Goals as goal

pub returns-clause-row : goal.returns-clause-row
returns-clause-row c = if-ok _ _ c.gives_int.result (λ came h. h (c.args.a -ℤ c.args.b) (search rules)) c.gives_int.ensures.row
