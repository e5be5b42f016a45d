use Rattle.std.proofs.Common.{refl, subst}
use Rattle.check_members.specs.Only.{IsCandidate}
use Rattle.check_members.proofs.OnlyShapes.{none-only}
use Rattle.check_members.proofs.only.settled.Goals as goal

pub returns-in-None-clause-comes : goal.returns-in-None-clause-comes
returns-in-None-clause-comes g c = none-only g.T.Types.passes c.args.t.now c.args.at (g.T.Types.atoms c.args.types.now) (g.T.Types.atoms c.args.types.now) refl
    (subst (IsCandidate (g.T.Types.atoms c.args.types.now) c.args.t.now) c.in-None.is c.requires.candidate)
