use Rattle.std.proofs.Common.{IfOk, subst}
use Rattle.bal_base.specs.Stops.{IfFault}
use Rattle.type_model.specs.declared.basic.BasicSet.{BasicSet}
use Rattle.type_model.specs.declared.basic.SemType.{Basic}
use Rattle.code_verifier.specs.inner.Pairs.{TellsBelow}
use Rattle.code_verifier.specs.LedTo.{AsksEach, SomePasses}
use Rattle.code_verifier.proofs.ordered.are_ints.Goals as goal

pub returns-clause-tells : goal.returns-clause-tells
returns-clause-tells g c =
    subst (λ (s : BasicSet). IfOk c.are_below.result (TellsBelow (g.T.Types.atoms c.args.types.now) c.args.a.now c.args.b.now (Basic s))) c.ints.ensures c.are_below.ensures.tells

pub returns-clause-limit : goal.returns-clause-limit
returns-clause-limit g c =
    subst (λ (s : BasicSet). IfFault c.are_below.result (SomePasses g.T.Types.passes (g.T.Types.atoms c.args.types.now) (AsksEach c.args.a.now c.args.b.now (Basic s)))) c.ints.ensures c.are_below.ensures.limit
