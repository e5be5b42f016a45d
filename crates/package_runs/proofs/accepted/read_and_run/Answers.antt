use Rattle.std.proofs.Common.{subst, sym}
use Rattle.package_runs.specs.Ended.{IsGivenInput}
use Rattle.package_runs.proofs.Counting.{counts-behind}
use Rattle.package_runs.proofs.accepted.read_and_run.Goals as goal

pub returns-in-Ok-clause-faults : goal.returns-in-Ok-clause-faults
returns-in-Ok-clause-faults g c =
    let n = g.I.Source.faults c.args.input.now in
    let old = g.I.Source.rest c.args.input.now in
    let new = g.I.Source.rest c.program_input.new.input in
    counts-behind n (g.I.Source.faults c.program_input.new.input) old new (g.O.Sink.faults c.args.out.now) (g.O.Sink.written c.args.out.now) (g.O.Sink.faults c.run_on.new.out) (g.O.Sink.written c.run_on.new.out) c.run_on.result c.in-Ok.ensures.faults (c.run_on.ensures.faults n old new)

pub returns-in-Ok-clause-ended : goal.returns-in-Ok-clause-ended
returns-in-Ok-clause-ended g c =
    let old = g.I.Source.rest c.args.input.now in
    let new = g.I.Source.rest c.program_input.new.input in
    c.run_on.ensures.ended (g.I.Source.faults c.args.input.now) (g.I.Source.faults c.program_input.new.input) old new
    (subst (λ bytes. IsGivenInput c.args.«package».now old new bytes) (sym c.deref.ensures.value) c.in-Ok.ensures.given)
