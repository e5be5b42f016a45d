use Rattle.std.proofs.Common.{subst, sym}
use Rattle.bal_io.specs.Faults.{CountsFaults}
use Rattle.plain_run.proofs.Given.{if-ok}
use Rattle.plain_run.specs.Held.{common_of}
use Rattle.code_frames.specs.Programs.{machine_of}
use Rattle.code_steps.specs.declared.outcome.Outcome.{Outcome}
use Rattle.code_steps.specs.declared.halts.Halt.{Halt}
use Rattle.code_runs.specs.inner.Turns.{output_in}
use Rattle.code_runs.proofs.Beginning.{ends-so}
use Rattle.code_runs.proofs.Written.{cut-here, halted-written, handed-on, whatever-err}
use Rattle.code_runs.proofs.running.run_on.Goals as goal

pub returns-in-Err-clause-faults : goal.returns-in-Err-clause-faults
returns-in-Err-clause-faults g c =
    handed-on Halt Outcome (g.O.Sink.faults c.args.out.now) (g.O.Sink.faults c.follow.new.out) c.in-Err.stop c.in-Err.ensures.faults

pub returns-in-Err-clause-cut : goal.returns-in-Err-clause-cut
returns-in-Err-clause-cut g c = λ words input come empty. c.in-Err.ensures.cut words input c.args.ticks come empty

pub returns-in-Ok-clause-faults : goal.returns-in-Ok-clause-faults
returns-in-Ok-clause-faults g c =
    subst (λ n. CountsFaults n (g.O.Sink.faults c.follow.new.out) c.outcome.result) c.in-Ok.ensures.faults (c.outcome.ensures.faults (g.O.Sink.faults c.follow.new.out))

pub returns-in-Ok-clause-comes : goal.returns-in-Ok-clause-comes
returns-in-Ok-clause-comes g c =
    if-ok _ _ c.outcome.result
    (λ o h words input come empty.
    let M = machine_of c.args.made.now.program in
    ends-so M words input c.args.ticks c.args.seed c.in-Ok.how (common_of c.follow.new.run.state.common) o _ _ (c.in-Ok.ensures.halts words input c.args.ticks come empty) (c.in-Ok.ensures.written words input c.args.ticks come empty) h)
    c.outcome.ensures.comes

pub returns-in-Ok-clause-cut : goal.returns-in-Ok-clause-cut
returns-in-Ok-clause-cut g c =
    whatever-err _ c.outcome.result
    (λ words input come empty.
    let M = machine_of c.args.made.now.program in
    cut-here M words input c.args.ticks c.args.seed (output_in c.follow.new.run) _ _ (c.in-Ok.ensures.written words input c.args.ticks come empty)
    (halted-written M words input c.args.ticks c.args.seed c.in-Ok.how (common_of c.follow.new.run.state.common) (c.in-Ok.ensures.halts words input c.args.ticks come empty)))
