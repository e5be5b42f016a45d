use Rattle.std.proofs.Common.{All, ap, length, subst, sym}
use Rattle.flow_narrowing.specs.Flows.{IfShared}
use Rattle.type_model.specs.Defined.{TyBelow}
use Rattle.check_words.proofs.Coming.{became-this}
use Rattle.check_words.proofs.Standing.{others-have, stands-wants}
use Rattle.check_work.specs.Views.{state_of}
use Rattle.needs_of_values.proofs.wants.drop_want.Goals as goal

pub returns-clause-stands : goal.returns-clause-stands
returns-clause-stands c = λ env h.
    stands-wants (state_of env c.args.work.now) h _
    (subst (All (IfShared (TyBelow (length env)))) (sym c.drop_last.ensures) (others-have (IfShared (TyBelow (length env))) 1 c.args.work.now.wants.items h.wants))

pub returns-clause-comes : goal.returns-clause-comes
returns-clause-comes c = λ env.
    became-this _ (state_of env c.args.work.now) _ (ap (λ ws. record (state_of env c.args.work.now) { wants = ws }) c.drop_last.ensures)
