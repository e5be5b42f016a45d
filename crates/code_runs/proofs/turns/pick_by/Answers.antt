use Rattle.std.proofs.Common.{◌+◌, Bool, refl}
use Rattle.code_runs.specs.declared.turns.Run.{Run}
use Rattle.code_runs.proofs.Turning.{picked-on}
use Rattle.code_runs.proofs.turns.pick_by.Goals as goal

pub returns-in-Runs : goal.returns-in-Runs
returns-in-Runs c = λ p words input ticks seed running is come.
    let new : Run = record { state = c.pick.new.state; running = Bool.true; turn = c.args.run.now.turn + 1 } in
    picked-on p words input ticks seed c.args.place c.args.run.now new running refl refl is c.in-Runs.ensures come
