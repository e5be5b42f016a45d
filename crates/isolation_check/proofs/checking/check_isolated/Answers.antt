use Rattle.std.proofs.Common.{rules, subst, sym, ◌≡◌}
use Rattle.std.specs.Prelude.{Err}
use Rattle.bal_base.specs.declared.stop.Stop.TheVariants.{Memory}
use Rattle.checks.specs.Checks.{Comes}
use Rattle.isolation_check.specs.Walk.{isolated}
use Rattle.isolation_check.proofs.OneWalk.{only-then}
use Rattle.isolation_check.proofs.Whole.{right-then, wrong-then}
use Rattle.isolation_check.proofs.checking.check_isolated.Goals as goal

pub returns-in_err-all-clause-comes : goal.returns-in_err-all-clause-comes
unfolding Comes
returns-in_err-all-clause-comes g c =
    let passed : c.from_residual.result ≡ Err Memory = search rules in
    subst (λ r. Comes (isolated g.T.Types.passes c.args.own.now c.args.«package».now) (g.T.Types.atoms c.args.types.now) r (g.T.Types.atoms c.args.types.now)) (sym passed) tt

pub returns-in_err-all-clause-only : goal.returns-in_err-all-clause-only
unfolding Comes
returns-in_err-all-clause-only g c =
    let passed : c.from_residual.result ≡ Err Memory = search rules in
    λ o other h. only-then g.T.Types.passes c.args.own.now c.args.«package».now (g.T.Types.atoms c.args.types.now) (g.T.Types.atoms c.args.types.now) other _ o (subst (λ r. Comes (isolated g.T.Types.passes c.args.own.now c.args.«package».now) (g.T.Types.atoms c.args.types.now) r (g.T.Types.atoms c.args.types.now)) (sym passed) tt) h

pub returns-clause-only : goal.returns-clause-only
returns-clause-only g c = λ o other h. only-then g.T.Types.passes c.args.own.now c.args.«package».now (g.T.Types.atoms c.args.types.now) _ other c.walked.result o c.walked.ensures.comes h

pub returns-clause-right : goal.returns-clause-right
returns-clause-right g c = right-then g.T.Types.passes c.args.own.now c.args.«package».now (g.T.Types.atoms c.args.types.now) _ c.walked.result c.walked.ensures.comes

pub returns-clause-wrong : goal.returns-clause-wrong
returns-clause-wrong g c = wrong-then g.T.Types.passes c.args.own.now c.args.«package».now (g.T.Types.atoms c.args.types.now) _ c.walked.result c.walked.ensures.comes
