use Rattle.check_work.specs.Views.{state_of}
use Rattle.needs_of_calls.proofs.Performing.{performed-stands, performs-come}
use Rattle.needs_of_calls.proofs.stmts.perform.Goals as goal

pub returns-clause-stands : goal.returns-clause-stands
returns-clause-stands c = λ env h. performed-stands (state_of env c.args.work.now) h c.args.count _ _ c.in_ok-parts.ensures.kept

pub returns-clause-comes : goal.returns-clause-comes
returns-clause-comes c = λ env. let added = c.in_ok-add_stmt.ensures in
    performs-come (state_of env c.args.work.now) c.args.form c.args.count c.args.at _ _ c.in_ok-parts.ensures.parts c.in_ok-parts.ensures.kept added.kept added.block added.is
    c.perform_stmt.result _ added.after c.perform_stmt.ensures
