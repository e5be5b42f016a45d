use Rattle.check_work.specs.Views.{state_of}
use Rattle.needs_of_members.proofs.Answered.{on-any, on-made}
use Rattle.needs_of_members.proofs.Found.{stored-stands, stores-come}
use Rattle.needs_of_members.proofs.storing.store.Goals as goal

pub returns-in-Some-clause-stands : goal.returns-in-Some-clause-stands
returns-in-Some-clause-stands c = λ env h.
    on-any _ c.add_stmt.result (stored-stands (state_of env c.args.work.now) _ _ _ _ h c.drop_last.ensures c.in_ok-operands.ensures.kept)

pub returns-in-Some-clause-comes : goal.returns-in-Some-clause-comes
returns-in-Some-clause-comes c = λ env.
    on-made _ _ c.add_stmt.result
    (λ more. stores-come (state_of env c.args.work.now) _ _ _ _ c.in_ok-access.access c.in_ok-operands.operands.items c.in-Some.form c.perform_stmt.result c.args.at
    c.drop_last.ensures c.in_ok-access.ensures c.in_ok-operands.ensures.parts c.in_ok-operands.ensures.kept c.in-Some.ensures c.perform_stmt.ensures more)
    c.add_stmt.ensures
