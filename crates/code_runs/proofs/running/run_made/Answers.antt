use Rattle.std.proofs.Common.{Some, ap, sym, ◌∙◌}
use Rattle.std.specs.Prelude.{option_map}
use Rattle.plain_run.proofs.Given.{if-ok}
use Rattle.code_frames.specs.Programs.{machine_of}
use Rattle.code_steps.specs.States.{state_of}
use Rattle.code_runs.proofs.Beginning.{starts-come, starts-empty}
use Rattle.code_runs.proofs.Written.{nothing-cut, on-err}
use Rattle.code_runs.proofs.running.run_made.Goals as goal

pub returns-in-Err-clause-cut : goal.returns-in-Err-clause-cut
returns-in-Err-clause-cut g c = nothing-cut (machine_of c.args.made.program) c.args.given.words.now c.args.given.input.now c.args.given.ticks c.args.given.seed (g.O.Sink.written c.args.out.now)

pub returns-clause-comes : goal.returns-clause-comes
returns-clause-comes g c =
    let given = c.args.given in
    if-ok _ _ c.run_on.result
    (λ o h.
    let p = machine_of c.args.made.program in
    let first = ap (option_map state_of) (sym c.in-Ok-Some.field-0-is) ∙ c.in-Ok-Some.ensures in
    h given.words.now given.input.now (starts-come p given.words.now given.input.now given.ticks given.seed c.in-Ok-Some.state first) (starts-empty p given.words.now given.input.now given.ticks given.seed c.in-Ok-Some.state first))
    c.run_on.ensures.comes

pub returns-clause-cut : goal.returns-clause-cut
returns-clause-cut g c =
    let given = c.args.given in
    on-err _ _ c.run_on.result
    (λ h.
    let p = machine_of c.args.made.program in
    let first = ap (option_map state_of) (sym c.in-Ok-Some.field-0-is) ∙ c.in-Ok-Some.ensures in
    h given.words.now given.input.now (starts-come p given.words.now given.input.now given.ticks given.seed c.in-Ok-Some.state first) (starts-empty p given.words.now given.input.now given.ticks given.seed c.in-Ok-Some.state first))
    c.run_on.ensures.cut
