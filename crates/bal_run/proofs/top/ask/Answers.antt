use Rattle.std.proofs.Common.{refl}
use Rattle.bal_run.proofs.QuestionEnds.{ends-without, ends-written, unanswered-can-report}
use Rattle.bal_run.proofs.top.ask.Goals as goal

pub returns-in-Ok-clause-ended : goal.returns-in-Ok-clause-ended
returns-in-Ok-clause-ended g c = λ i j.
    ends-written c.args.s.now c.args.t.now _ _ c.tell.result c.in-Ok.text c.as_str.result.now c.as_str.ensures.value c.in-Ok.ensures.answers c.in-Ok.ensures.faults c.tell.ensures.written

pub returns-in-Err-clause-ended : goal.returns-in-Err-clause-ended
returns-in-Err-clause-ended g c = λ i j.
    ends-without c.args.s.now c.args.t.now _ _ c.unanswered_status.result c.in-Err.stop c.in-Err.ensures.answers c.in-Err.ensures.faults c.unanswered_status.ensures refl refl

pub returns-in-Err-clause-text : goal.returns-in-Err-clause-text
returns-in-Err-clause-text g c = unanswered-can-report c.in-Err.stop c.unanswered_status.result c.unanswered_status.ensures
