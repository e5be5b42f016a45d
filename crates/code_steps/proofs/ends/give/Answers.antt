use Rattle.std.proofs.Common.{◌-◌, rules}
use Rattle.std.specs.Vec.{vec_len}
use Rattle.plain_run.proofs.Given.{on-ok}
use Rattle.code_steps.specs.States.{call_of}
use Rattle.code_steps.proofs.LastCalls.{last-is}
use Rattle.code_steps.proofs.LastSteps.{given-so}
use Rattle.code_steps.proofs.ends.give.Goals as goal

pub returns-in-Some-clause-calls : goal.returns-in-Some-clause-calls
returns-in-Some-clause-calls c =
    let cs = c.args.state.now.calls in
    let call = c.in-Some.call.now in
    let last = last-is cs.items (vec_len cs - 1) call (record { unit = call.unit; role = call.role; frame = c.resume.new.frame }) (search rules) (search rules) (search rules) in
    on-ok _ _ c.resume.result (λ h. given-so c.args.program.now c.args.v _ _ last.below (call_of call) _ last.was last.is h) c.resume.ensures
