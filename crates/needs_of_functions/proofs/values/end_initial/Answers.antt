use Rattle.std.proofs.Common.{OnOk}
use Rattle.check_work.specs.Views.{state_of, unit_of}
use Rattle.needs_of_functions.proofs.Storing.{initial-ends, made-too}
use Rattle.needs_of_functions.proofs.values.end_initial.Goals as goal

pub returns-clause-stands : goal.returns-clause-stands
returns-clause-stands c = λ env h.
    let h1 = c.in_ok-value.ensures.stands env h in
    let h2 = c.in_ok-ty.ensures.stands env h1 in
    c.end_value.ensures.stands env (c.in_ok-unit.ensures.below env h2) (c.in_ok-variable.ensures.stands env (c.in_ok-unit.ensures.stands env h2))

pub returns-clause-comes : goal.returns-clause-comes
returns-clause-comes c = λ env.
    made-too _ _ c.end_value.result
    (initial-ends c.args.names.now c.args.d.now c.args.kept (state_of env c.args.work.now) _ _ _ _ _ c.in_ok-value.value.value c.in_ok-ty.ty (unit_of c.in_ok-unit.unit)
    c.in_ok-variable.variable (c.in_ok-value.ensures.comes env) (c.in_ok-ty.ensures.comes env) (c.in_ok-unit.ensures.comes env) (c.in_ok-variable.ensures.adds env))
    (c.end_value.ensures.comes env)
