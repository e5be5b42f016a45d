use Rattle.std.proofs.Common.{subst}
use Rattle.type_model.specs.declared.basic.SemType.{Atom}
use Rattle.isolation_check.specs.inner.Judging.{Judged}
use Rattle.isolation_check.specs.Walk.{has_to_be}
use Rattle.isolation_check.proofs.judging.is_isolated.Goals as goal

pub returns-clause-judged : goal.returns-clause-judged
returns-clause-judged g c = λ names.
    subst (λ t. Judged (has_to_be g.T.Types.passes t.sem (Atom c.args.own.now.isolated) names c.args.at) names c.args.at (g.T.Types.atoms c.args.types.now) c.has_to_be.result) c.deref.ensures (c.has_to_be.ensures.judged names)
