use Rattle.std.proofs.Common.{Some}
use Rattle.checks.specs.Questions.{is_below}
use Rattle.checks.proofs.Steps.{goes_on, stops}
use Rattle.worker_pairing.specs.Faults.{error_type}
use Rattle.worker_messages.specs.inner.Asked.{judged}
use Rattle.worker_messages.proofs.returns.gives_error.Goals as goal

pub returns-in-Ok-clause-comes : goal.returns-in-Ok-clause-comes
returns-in-Ok-clause-comes g c =
    let old = g.T.Types.atoms c.args.types.now in
    let new = g.T.Types.atoms c.is_below.new.types in
    goes_on (is_below g.T.Types.passes c.args.returned.now error_type (Some c.args.at)) (λ b. judged c.args.at b) old new new c.in-Ok.is_error c.judged.result c.in-Ok.ensures.comes (c.judged.ensures new)

pub returns-in-Err-clause-comes : goal.returns-in-Err-clause-comes
returns-in-Err-clause-comes g c =
    stops (is_below g.T.Types.passes c.args.returned.now error_type (Some c.args.at)) (λ b. judged c.args.at b) (g.T.Types.atoms c.args.types.now) (g.T.Types.atoms c.is_below.new.types) c.in-Err.stop c.in-Err.ensures.comes
