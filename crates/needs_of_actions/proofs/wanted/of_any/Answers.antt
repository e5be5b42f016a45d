use Rattle.std.proofs.Common.{arith}
use Rattle.needs_of_actions.proofs.Awaited.{several-of-all}
use Rattle.needs_of_actions.proofs.wanted.of_any.Goals as goal

pub returns-clause-is : goal.returns-clause-is
returns-clause-is g c = several-of-all (g.T.Types.atoms c.args.types.now) c.args.wants.now c.several.result (λ one. omega (arith, one)) c.several.ensures.is
