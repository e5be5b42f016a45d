use Rattle.std.proofs.Common.{subst}
use Rattle.plain_run.proofs.Given.{if-ok}
use Rattle.code_steps.specs.inner.Lasts.{AsksLast}
use Rattle.code_steps.specs.States.{calls_of}
use Rattle.code_steps.proofs.LastSteps.{enough-of}
use Rattle.code_steps.proofs.stepping.does.Goals as goal

pub enters-requires : goal.enters-requires
enters-requires c = enough-of c.args.program.now c.args.op c.args.count (calls_of c.args.state.now.calls.items) c.requires

pub returns-in-Call : goal.returns-in-Call
returns-in-Call c =
    let calls = calls_of c.args.state.now.calls.items in
    if-ok _ _ c.enters.result (λ d h. h _ (subst (λ o. AsksLast c.args.program.now o c.args.count calls) c.in-Call.is c.requires)) c.enters.ensures

pub goes_back-requires : goal.goes_back-requires
goes_back-requires c =
    subst (λ o. AsksLast c.args.program.now o c.args.count (calls_of c.args.state.now.calls.items)) c.in-Return.is c.requires
