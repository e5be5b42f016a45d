use Rattle.std.proofs.Common.{length, subst}
use Rattle.flow_narrowing.specs.Flows.{IfShared}
use Rattle.type_model.specs.Defined.{TyBelow}
use Rattle.check_words.proofs.Coming.{given, next}
use Rattle.check_words.proofs.Standing.{last-has, same-below}
use Rattle.check_work.specs.Views.{state_of}
use Rattle.needs_of_actions.specs.LastWant.{IsWantedBy}
use Rattle.needs_of_actions.proofs.receiving.receive_wanted.Goals as goal

pub returns-in-Ok-clause-stands : goal.returns-in-Ok-clause-stands
returns-in-Ok-clause-stands c = λ env h.
    let found = subst (λ ws. IsWantedBy ws c.in-Ok.want) c.as_slice.ensures.value c.in-Ok.ensures in
    c.receive_if.ensures.stands env (same-below (length env) found.0 c.in-Ok.want found.2 (last-has (IfShared (TyBelow (length env))) _ found.0 found.1 h.wants)) h

pub returns-in-Ok-clause-comes : goal.returns-in-Ok-clause-comes
returns-in-Ok-clause-comes c = λ env.
    let found = subst (λ ws. IsWantedBy ws c.in-Ok.want) c.as_slice.ensures.value c.in-Ok.ensures in
    let s = state_of env c.args.work.now in
    next _ _ _ _ _ found.0 s (given _ s found.0 found.1) (c.receive_if.ensures.comes env found.0 found.2)
