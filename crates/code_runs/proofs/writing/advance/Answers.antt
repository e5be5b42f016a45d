use Rattle.std.proofs.Common.{◌≡◌, None, Some, subst, sym}
use Rattle.plain_run.proofs.Given.{if-ok}
use Rattle.code_frames.specs.Programs.{machine_of}
use Rattle.code_runs.specs.inner.Turns.{IsTurned, output_in, turned_of}
use Rattle.code_runs.specs.declared.turns.Turned.TheVariants.{GoesOn, Halts}
use Rattle.code_runs.proofs.Written.{come-written, front-behind, nothing-behind, on-err}
use Rattle.code_runs.proofs.writing.advance.Goals as goal

pub returns-in-Err-clause-err : goal.returns-in-Err-clause-err
returns-in-Err-clause-err g c = λ words input ticks come is.
    let M = machine_of c.args.made.now.program in
    nothing-behind M words input ticks c.args.seed (output_in c.args.run.now) (g.O.Sink.written c.args.out.now) (come-written M words input ticks c.args.seed c.args.run.now come)

pub returns-in-Ok-Breaks-clause-err : goal.returns-in-Ok-Breaks-clause-err
returns-in-Ok-Breaks-clause-err g c = λ words input ticks come is.
    let M = machine_of c.args.made.now.program in
    nothing-behind M words input ticks c.args.seed (output_in c.args.run.now) (g.O.Sink.written c.args.out.now) (come-written M words input ticks c.args.seed c.args.run.now come)

pub returns-in-Ok-GoesOn-clause-on : goal.returns-in-Ok-GoesOn-clause-on
returns-in-Ok-GoesOn-clause-on g c =
    if-ok (λ h. h ≡ None) _ c.write_behind.result
    (λ h e words input ticks come.
    let M = machine_of c.args.made.now.program in
    subst (λ x. IsTurned M words input ticks c.args.seed (output_in c.args.run.now) c.turn.new.run (turned_of x)) (sym e) (subst (IsTurned M words input ticks c.args.seed (output_in c.args.run.now) c.turn.new.run) c.in-Ok-GoesOn.field-0-is (c.in-Ok-GoesOn.ensures words input ticks come)))
    c.write_behind.ensures.same

pub returns-in-Ok-GoesOn-clause-err : goal.returns-in-Ok-GoesOn-clause-err
returns-in-Ok-GoesOn-clause-err g c =
    on-err _ _ c.write_behind.result
    (λ front words input ticks come is.
    let M = machine_of c.args.made.now.program in
    front-behind M words input ticks c.args.seed (output_in c.args.run.now) c.turn.new.run None c.args.written _ _ is (subst (IsTurned M words input ticks c.args.seed (output_in c.args.run.now) c.turn.new.run) c.in-Ok-GoesOn.field-0-is (c.in-Ok-GoesOn.ensures words input ticks come)) front)
    c.write_behind.ensures.err

pub returns-in-Ok-Halts-clause-on : goal.returns-in-Ok-Halts-clause-on
returns-in-Ok-Halts-clause-on g c =
    if-ok (λ h. h ≡ Some c.in-Ok-Halts.how) _ c.write_behind-in-Ok-Halts.result
    (λ h e words input ticks come.
    let M = machine_of c.args.made.now.program in
    subst (λ x. IsTurned M words input ticks c.args.seed (output_in c.args.run.now) c.turn.new.run (turned_of x)) (sym e) (subst (IsTurned M words input ticks c.args.seed (output_in c.args.run.now) c.turn.new.run) c.in-Ok-Halts.field-0-is (c.in-Ok-Halts.ensures words input ticks come)))
    c.write_behind-in-Ok-Halts.ensures.same

pub returns-in-Ok-Halts-clause-err : goal.returns-in-Ok-Halts-clause-err
returns-in-Ok-Halts-clause-err g c =
    on-err _ _ c.write_behind-in-Ok-Halts.result
    (λ front words input ticks come is.
    let M = machine_of c.args.made.now.program in
    front-behind M words input ticks c.args.seed (output_in c.args.run.now) c.turn.new.run (Some c.in-Ok-Halts.how) c.args.written _ _ is (subst (IsTurned M words input ticks c.args.seed (output_in c.args.run.now) c.turn.new.run) c.in-Ok-Halts.field-0-is (c.in-Ok-Halts.ensures words input ticks come)) front)
    c.write_behind-in-Ok-Halts.ensures.err
