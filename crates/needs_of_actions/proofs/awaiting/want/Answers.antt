use Rattle.std.proofs.Common.{All, Some, length, subst, sym}
use Rattle.flow_narrowing.specs.Flows.{IfShared}
use Rattle.type_model.specs.Defined.{TyBelow}
use Rattle.check_words.proofs.Flowing.{want-put}
use Rattle.check_words.proofs.Standing.{also-has, stands-wants}
use Rattle.check_work.specs.Views.{state_of}
use Rattle.needs_of_actions.proofs.awaiting.want.Goals as goal

pub returns-clause-stands : goal.returns-clause-stands
returns-clause-stands c = λ env below h.
    stands-wants (state_of env c.args.work.now) h _
    (subst (All (IfShared (TyBelow (length env)))) (sym c.in_ok-push.ensures.items) (also-has (IfShared (TyBelow (length env))) _ (Some c.args.t) h.wants below))

pub returns-clause-comes : goal.returns-clause-comes
returns-clause-comes c = λ env u same. want-put (state_of env c.args.work.now) (Some u) (Some c.args.t) _ same c.in_ok-push.ensures.items
