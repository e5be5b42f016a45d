use Rattle.checks.proofs.Twins.{adds-alike, applied-alike, below-alike, has_some-alike, is_below-alike, member-alike}
use Rattle.checks.proofs.agreement.questions_agree.Goals as goal

pub returns-clause-below : goal.returns-clause-below
returns-clause-below g c = below-alike g.T.Types.passes

pub returns-clause-is_below : goal.returns-clause-is_below
returns-clause-is_below g c = is_below-alike g.T.Types.passes

pub returns-clause-has_some : goal.returns-clause-has_some
returns-clause-has_some g c = has_some-alike g.T.Types.passes

pub returns-clause-member : goal.returns-clause-member
returns-clause-member g c = member-alike g.T.Types.passes

pub returns-clause-applied : goal.returns-clause-applied
returns-clause-applied g c = applied-alike g.T.Types.passes

pub returns-clause-adds : goal.returns-clause-adds
returns-clause-adds g c = adds-alike
