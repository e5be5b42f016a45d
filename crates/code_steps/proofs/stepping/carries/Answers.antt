use Rattle.std.proofs.Common.{subst, sym}
use Rattle.op_model.specs.Library.{LibraryAnswers}
use Rattle.machine_model.specs.Machine as machine
use Rattle.machine_model.specs.Machine.{TakesTop}
use Rattle.plain_run.specs.Held.{common_of}
use Rattle.plain_run.specs.declared.effect.Performed.TheVariants.{Done}
use Rattle.code_frames.specs.Programs.{machine_of}
use Rattle.code_steps.specs.inner.Lasts.{IsDoneFor}
use Rattle.code_steps.specs.States.{calls_of, others_of}
use Rattle.code_steps.proofs.LastSteps.{at, gives-done}
use Rattle.code_steps.proofs.stepping.carries.Goals as goal

pub returns-in_ok-gives_last-in-Gives : goal.returns-in_ok-gives_last-in-Gives
returns-in_ok-gives_last-in-Gives c = λ op old asks done stays running.
    let p = c.args.program.now in
    let n = c.args.count in
    let mid = c.args.state.now in
    let calls = calls_of mid.calls.items in
    let os = others_of mid in
    subst (λ new. TakesTop LibraryAnswers (machine_of p) (at (common_of old) calls os) calls (machine.Moved (at (common_of mid.common) new os))) (sym c.in_ok-gives_last-in-Gives.ensures)
    (gives-done p op n calls os old mid.common c.in-Gives.given asks (subst (λ e. IsDoneFor p op n calls old mid.common (Done e)) c.in-Gives.is done))
