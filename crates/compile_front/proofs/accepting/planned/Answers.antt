use Rattle.std.proofs.Common.{◌≡◌, Ok, Err, rules, subst, sym}
use Rattle.compile_front.proofs.FrontSteps.{planned-gives, planned-stops}
use Rattle.descriptors.specs.Steps.{AreNames}
use Rattle.compile_front.proofs.accepting.planned.Goals as goal

pub returns-in-Ok-clause-comes : goal.returns-in-Ok-clause-comes
returns-in-Ok-clause-comes g c =
    let came : c.plan_package.result ≡ Ok c.in-Ok.plans = search rules in
    planned-gives g.T.Types.passes c.args.names c.args.«package» _ _ c.plan_package.result c.plan_package.ensures.comes c.in-Ok.plans came

pub returns-in-Err-clause-comes : goal.returns-in-Err-clause-comes
returns-in-Err-clause-comes g c =
    let came : c.plan_package.result ≡ Err c.in-Err.stop = search rules in
    planned-stops g.T.Types.passes c.args.names c.args.«package» _ _ c.plan_package.result c.plan_package.ensures.comes c.in-Err.stop came

pub returns-in-Ok-clause-names : goal.returns-in-Ok-clause-names
returns-in-Ok-clause-names g c = subst (λ env. AreNames env c.args.names) (sym c.plan_package.ensures.atoms) c.requires.names
