use Rattle.std.proofs.Common.{refl, subst, sym}
use Rattle.code_frames.specs.Programs.{machine_of}
use Rattle.code_runs.specs.inner.Turns.{IsTurned, output_in}
use Rattle.code_runs.specs.declared.turns.Run.{Run}
use Rattle.code_runs.proofs.Hurrying.{hurried-on, turned-behind}
use Rattle.code_runs.proofs.Turning.{stepped-on}
use Rattle.code_runs.proofs.turns.step_turn.Goals as goal

pub returns : goal.returns
returns c = λ words input ticks seed come.
    let p = c.args.made.now.program in
    let old = c.args.run.now in
    let mid : Run = record { state = c.hurry.new.state; running = old.running; turn = old.turn } in
    let new : Run = record { state = c.step.new.state; running = c.runs_on-run.result; turn = old.turn } in
    let h = c.in_ok-hurry.ensures in
    subst (IsTurned (machine_of p) words input ticks seed (output_in old) new) (sym c.said_by.ensures)
    (turned-behind (machine_of p) words input ticks seed old mid new _ h
    (stepped-on p words input ticks seed mid new c.in_ok-stepped.stepped c.requires.running c.runs_on-run.ensures refl c.in_ok-stepped.ensures
    (hurried-on p words input ticks seed old mid c.requires.running refl refl h come)))
